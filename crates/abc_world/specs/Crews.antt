-- The sequencing nodes of a network, and what one of them does.
use Rattle.std.specs.Prelude.{◌≡◌, ℕ, List, [], length, Some, Option, slice_get, slice_index_or}
use Rattle.abc_value.specs.declared.grant.Grant.{Grant}
use Rattle.abc_packet.specs.declared.stamped.Stamped.{Stamped}
use Rattle.abc_packet.specs.declared.log.Deed.{Deed}
use Rattle.abc_packet.specs.Outlets.{Lists}
use Rattle.abc_shape.specs.declared.layout.Layout.{Layout}
use Rattle.abc_number.specs.Counter.{Counter}
use Rattle.abc_number.specs.Draws.{first_numbers}
use Rattle.abc_network.specs.Networks.{Swaps, drawn_in}
use Rattle.abc_network.specs.Nodes.{NodeMachine}
use Rattle.abc_logs.specs.MicroSteps.{Makes, stamped_with}
use Rattle.abc_history.specs.Nodes.{SeenNode, Drew}
use Rattle.abc_world.specs.Tables.{OnTables}

-- The list of packets of each link of a table.
abbrev pub lists_in : {L : Type 0} → List (List (Stamped L)) → Lists L
lists_in links l = slice_index_or links l []

-- It is the same node of the same network.
pub record SameNode {S L : Type 0} (old new : SeenNode S L) : Type 0 where
  pub number : new.number ≡ old.number
  pub plan : new.plan ≡ old.plan

-- What was drawn of the network's one counter.
abbrev pub DrewOf : Counter → Counter → Option Grant → Type 0
DrewOf old new drew =
    Drew (λ (c : Counter). c.limit) (λ (c : Counter). first_numbers c.count)
    (λ (c : Counter). c.closed) (λ (a b : Counter). b.limit ≡ a.limit) drew old new

-- They are the nodes of one network.
pub record AreNodes {S L : Type 0} (p : Layout) (nodes : List (SeenNode S L)) : Type 0 where
  pub many : length nodes ≡ p.nodes
  pub each : (k : ℕ) (n : SeenNode S L) → slice_get nodes k ≡ Some n → (n.plan ≡ p) × (n.number ≡ k)

-- Node k made a micro-step by its table with a deed of a kind, in which it took these packets. Its
-- actor changed and no other, and so did the links and the counter.
pub record NodeMade {S L : Type 0} (machine : Layout → NodeMachine L S) (k : ℕ)
    (Is : Deed L → Type 0) (taken : List (ℕ × Stamped L)) (nodes nodes' : List (SeenNode S L))
    (links links' : List (List (Stamped L))) (numbers numbers' : Counter) : Type 0 where
  pub old : SeenNode S L
  pub new : SeenNode S L
  pub before : Lists L
  pub now : Lists L
  pub made : Makes ((machine old.plan).does old.number) taken old.actor new.actor before now
  pub is : Is made.entry.deed
  pub same : SameNode old new
  pub at : Swaps k old new nodes nodes'
  pub tables : OnTables taken (stamped_with made.entry.clock made.sends) links links'
  pub draws : DrewOf numbers numbers' (drawn_in made.entry.deed)
