-- A network of any shape: what is said of it is said of the network by the tables of its shape.
use Rattle.std.specs.Prelude.{◌≡◌, ℕ, List}
use Rattle.abc_packet.specs.declared.log.Entry.{Entry}
use Rattle.abc_shape.specs.declared.shape.Shape.{Shape}
use Rattle.abc_shape.specs.declared.shape.Shape.TheVariants.{Cluster, Ring, Tree}
use Rattle.abc_shape.specs.declared.layout.Layout.{Layout}
use Rattle.abc_body.specs.Meanings.{Meaning}
use Rattle.abc_network.specs.Nodes.{NodeMachine, cluster_machine}
use Rattle.abc_network.specs.Stores.{Store, store_machine, blank_store}
use Rattle.abc_network.specs.Rings.{ring_kind}
use Rattle.abc_network.specs.Trees.{tree_kind}
use Rattle.abc_network.specs.Quiets.{IsQuiet}
use Rattle.abc_net.specs.declared.record.Record.{Record}
use Rattle.abc_net.specs.Records as Records
use Rattle.abc_schedule.specs.Schedules as Schedules
use Rattle.abc_world.specs.declared.event.EventKind.{EventKind}
use Rattle.abc_world.specs.declared.event.Moved.{Moved}
use Rattle.abc_world.specs.declared.world.World.{World}
use Rattle.abc_world.specs.declared.world.World.TheVariants.{OfCluster, OfRing, OfTree}
use Rattle.abc_world.specs.Fronts.{IsLeastFront}
use Rattle.abc_world.specs.Listing.{IsStillIn}
use Rattle.abc_world.specs.Runnings.{Running, SameNetwork, Answers, rules_of}
use Rattle.abc_world.specs.Starting.{RunsTo, LeavesLegal, started}

-- What may be said of a network by the tables of its nodes and the state in which they begin.
abbrev pub Says : Type 0 → Type 0 → Type 1
Says B L = (N : Type 0) → (Layout → NodeMachine L N) → N → Running B L N → Type 0

-- It is said of a world by its shape.
abbrev pub SaidOf : {B L : Type 0} → Says B L → World B L → Type 0
SaidOf P (OfCluster n) = P (Unit {0}) (λ p. cluster_machine p.agents p.nodes) tt n
SaidOf {B} {L} P (OfRing n) = P (Store L) (λ p. store_machine (ring_kind p)) blank_store n
SaidOf {B} {L} P (OfTree n) = P (Store L) (λ p. store_machine (tree_kind p)) blank_store n

-- What may be said of a network and a later state of it,
abbrev pub SaysOfBoth : Type 0 → Type 0 → Type 1
SaysOfBoth B L =
    (N : Type 0) → (Layout → NodeMachine L N) → N → Running B L N → Running B L N → Type 0

-- is said of two states of one world.
abbrev pub SaidOfBoth : {B L : Type 0} → SaysOfBoth B L → World B L → World B L → Type 0
SaidOfBoth P (OfCluster a) (OfCluster b) =
    P (Unit {0}) (λ p. cluster_machine p.agents p.nodes) tt a b
SaidOfBoth {B} {L} P (OfRing a) (OfRing b) =
    P (Store L) (λ p. store_machine (ring_kind p)) blank_store a b
SaidOfBoth {B} {L} P (OfTree a) (OfTree b) =
    P (Store L) (λ p. store_machine (tree_kind p)) blank_store a b
SaidOfBoth P _ _ = ⊥

-- It is of this shape.
abbrev pub IsOfShape : {B L : Type 0} → Shape → World B L → Type 0
IsOfShape shape (OfCluster n) = shape ≡ Cluster
IsOfShape shape (OfRing n) = shape ≡ Ring
IsOfShape shape (OfTree n) = shape ≡ Tree

-- ---- what the calls of a world say
-- A network of this plan at its start,
abbrev pub IsAtStart : {B L : Type 0} → Layout → ℕ → ℕ → List B → World B L → Type 0
IsAtStart p limit pick bodies w =
    SaidOf (λ N machine blank n. n ≡ started machine blank p limit pick bodies) w × IsOfShape p.shape w

-- the same network in another state,
abbrev pub SameWorld : {B L : Type 0} → World B L → World B L → Type 0
SameWorld old new = SaidOfBoth (λ N machine blank a b. SameNetwork a b) old new

-- what is answered for an event,
abbrev pub WorldAnswers : {B L : Type 0} → Meaning B L → ℕ → EventKind → World B L → Moved →
    World B L → Type 0
WorldAnswers m actor kind old r new =
    SaidOfBoth (λ N machine blank a b. Answers m machine blank actor kind a r b) old new

-- that a run leads from one state to the other,
abbrev pub WorldRunsTo : {B L : Type 0} → Meaning B L → World B L → World B L → Type 0
WorldRunsTo m old new = SaidOfBoth (λ N machine blank a b. RunsTo m machine blank a b) old new

-- that nothing can go on,
abbrev pub IsStillWorld : {B L : Type 0} → Meaning B L → World B L → Type 0
IsStillWorld m w = SaidOf (λ N machine blank n. IsStillIn m machine blank n) w

-- that it is quiet,
abbrev pub IsQuietWorld : {B L : Type 0} → Meaning B L → World B L → Type 0
IsQuietWorld m w =
    SaidOf (λ N machine blank n. IsQuiet m (rules_of machine blank n.plan n.limit n.pick) n.net) w

-- its least front,
abbrev pub IsLeastFrontIn : {B L : Type 0} → World B L → ℕ → Type 0
IsLeastFrontIn w front = SaidOf (λ N machine blank n. IsLeastFront n front) w

-- and what its record says, and that it is legal where the network is still and came from its start
-- with these bodies.
pub record IsRecordOf {B L N : Type 0} (n : Running B L N) (ran : Record L) : Type 0 where
  pub shape : ran.shape ≡ n.plan.shape
  pub agents : ran.agents ≡ n.plan.agents
  pub nodes : ran.nodes ≡ n.plan.nodes
  pub limit : ran.limit ≡ n.limit
  pub pick : ran.pick ≡ n.pick
  pub logs : Records.logs_of ran ≡ Schedules.logs_of n.net

abbrev pub IsWorldRecord : {B L : Type 0} → World B L → Record L → Type 0
IsWorldRecord w ran = SaidOf (λ N machine blank n. IsRecordOf n ran) w

abbrev pub WorldLeavesLegal : {B L : Type 0} → Meaning B L → World B L → List (List (Entry L)) →
    Type 0
WorldLeavesLegal m w logs = SaidOf (λ N machine blank n. LeavesLegal m machine blank n logs) w
