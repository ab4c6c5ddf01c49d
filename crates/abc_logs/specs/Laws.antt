-- The laws of paths, as they are stated for each table.
use Rattle.std.specs.Prelude.{ℕ, List, ◌++◌}
use Rattle.abc_packet.specs.declared.packets.Packet.{Packet}
use Rattle.abc_packet.specs.declared.stamped.Stamped.{Stamped}
use Rattle.abc_packet.specs.declared.log.Entry.{Entry}
use Rattle.abc_shape.specs.declared.layout.Layout.{Layout}
use Rattle.abc_body.specs.Meanings.{Meaning}
use Rattle.abc_network.specs.Agents.{AgentDoes}
use Rattle.abc_network.specs.Nodes.{ClusterDoes}
use Rattle.abc_network.specs.Stores.{Store, StoreDoes}
use Rattle.abc_network.specs.Rings.{ring_kind}
use Rattle.abc_network.specs.Trees.{tree_kind}
use Rattle.abc_network.specs.Networks.{Actor, Logs}
use Rattle.abc_logs.specs.MicroSteps.{Table, stamped_with}
use Rattle.abc_logs.specs.Paths.{IsPath}

-- A path, and then one micro-step by the table, is a path.
abbrev pub GoesOn : {S L : Type 0} → Table S L → Type 0
GoesOn {S} {L} does =
    (start : S) (sent : List (ℕ × Stamped L)) (old new : Actor S L) (e : Entry L)
    (sends : List (ℕ × Packet L)) →
    IsPath does start sent old → does old.state e.deed sends new.state → Logs old e new →
    IsPath does start (sent ++ stamped_with e.clock sends) new

-- So do the paths of an agent,
abbrev pub AgentPathsGoOn : {B L : Type 0} → Meaning B L → Type 0
AgentPathsGoOn m = (pick i : ℕ) (way : ℕ → ℕ) → GoesOn (AgentDoes m pick way i)

-- of a cluster's node,
abbrev pub ClusterPathsGoOn : Type 0 → Type 0
ClusterPathsGoOn L = (agents nodes k : ℕ) → GoesOn (ClusterDoes {L = L} agents nodes k)

-- of a ring's
abbrev pub RingPathsGoOn : Type 0 → Type 0
RingPathsGoOn L = (p : Layout) (k : ℕ) → GoesOn (StoreDoes {L = L} (ring_kind p) k)

-- and of a tree's.
abbrev pub TreePathsGoOn : Type 0 → Type 0
TreePathsGoOn L = (p : Layout) (k : ℕ) → GoesOn (StoreDoes {L = L} (tree_kind p) k)
