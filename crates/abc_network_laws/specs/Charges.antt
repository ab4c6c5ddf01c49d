-- Charges: numbers laid on packets, agents and nodes, and their sum over a network.
use Rattle.std.specs.Prelude.{ℕ, zero, suc, ◌+◌, ◌==◌, List, [], ◌∷◌, Option, Some}
use Rattle.std.specs.Prelude.{None, if◌then◌else◌}
use Rattle.abc_value.specs.declared.grant.Grant.{Grant}
use Rattle.abc_value.specs.declared.grant.Grant.TheVariants.{Number, Closed}
use Rattle.abc_packet.specs.declared.packets.Packet.{Packet}
use Rattle.abc_packet.specs.declared.stamped.Stamped.{Stamped}
use Rattle.abc_packet.specs.declared.log.Deed.{Deed}
use Rattle.abc_packet.specs.declared.log.Deed.TheVariants.{Asked, Arrived, Took, Turned, Passed}
use Rattle.abc_packet.specs.declared.log.Deed.TheVariants.{Stray}
use Rattle.abc_network.specs.Agents.{AgentState}
use Rattle.abc_network.specs.Networks.{Net, times}
use Rattle.abc_network_laws.specs.Kept.{total}

-- The sum over a list, each element with its place.
abbrev pub over : {X : Type 0} → (ℕ → X → ℕ) → List X → ℕ
over f [] = 0
over f (x ∷ xs) = f zero x + over (λ i. f (suc i)) xs

-- What is laid on a packet on a link, on an agent and on a node.
pub record Charge (B L N : Type 0) : Type 0 where
  pub on_link : ℕ → Packet L → ℕ
  pub on_agent : ℕ → AgentState B L → ℕ
  pub on_node : ℕ → N → ℕ

abbrev pub on_links : {L : Type 0} → (ℕ → Packet L → ℕ) → List (List (Stamped L)) → ℕ
on_links f links = over (λ l q. total (λ x. f l x.packet) q) links

-- The charge of a network.
abbrev pub charge : {B L N : Type 0} → Charge B L N → Net B L N → ℕ
charge c w =
    on_links c.on_link w.links + (over (λ i a. c.on_agent i a.state) w.agents
    + over (λ k a. c.on_node k a.state) w.nodes)

-- The packet that a deed takes, with its link.
abbrev pub taken_at : {L : Type 0} → Deed L → List (ℕ × Packet L)
taken_at Asked = []
taken_at (Arrived link stamped drew) = (link, stamped.packet) ∷ []
taken_at (Stray link stamped) = (link, stamped.packet) ∷ []
taken_at (Took n place) = []
taken_at (Turned n place content) = []
taken_at (Passed n) = []

-- The charge of packets, each with its link.
abbrev pub of_packets : {L : Type 0} → (ℕ → Packet L → ℕ) → List (ℕ × Packet L) → ℕ
of_packets f sends = total (λ s. f s.0 s.1) sends

-- 1 for none.
abbrev pub missing : ℕ → ℕ
missing t = if t == 0 then 1 else 0

-- How many numbers up to the limit are not drawn.
abbrev pub undrawn : ℕ → List ℕ → ℕ
undrawn zero drawn = 0
undrawn (suc k) drawn = missing (times (suc k) drawn) + undrawn k drawn

-- 1 where a number was drawn.
abbrev pub numbers_drawn : Option Grant → ℕ
numbers_drawn None = 0
numbers_drawn (Some Closed) = 0
numbers_drawn (Some (Number n)) = 1
