-- Which events a network has.
use Rattle.std.specs.Prelude.{◌≡◌, ℕ, ◌+◌, List, ◌∷◌, Option, Some, None, slice_get}
use Rattle.abc_value.specs.declared.grant.Grant.{Grant}
use Rattle.abc_value.specs.declared.grant.Grant.TheVariants.{Number, Closed}
use Rattle.abc_packet.specs.declared.stamped.Stamped.{Stamped}
use Rattle.abc_shape.specs.Plans.{IsLink, actor_of}
use Rattle.abc_body.specs.Meanings.{Meaning}
use Rattle.abc_network.specs.Agents.{AgentState}
use Rattle.abc_network.specs.Networks.{Net, Actor, Rules}
use Rattle.abc_agent.specs.Conditions.{CanAsk, CanTake, CanTurn}
use Rattle.abc_world.specs.declared.event.EventKind.{EventKind}
use Rattle.abc_world.specs.declared.event.EventKind.TheVariants.{Ask, Arrive, Take, Turn, Pass}

-- This actor can do so: as an agent ask, take or have its turn,
abbrev pub Enabled : {B L N : Type 0} → Meaning B L → Rules L N → EventKind → ℕ → Net B L N → Type 0
Enabled {B} {L} m r Ask i w =
    (a : Actor (AgentState B L) L) × (slice_get w.agents i ≡ Some a) × CanAsk m a.state
Enabled {B} {L} m r Take i w =
    (a : Actor (AgentState B L) L) × (slice_get w.agents i ≡ Some a) × CanTake a.state
Enabled {B} {L} m r Turn i w =
    (a : Actor (AgentState B L) L) × (slice_get w.agents i ≡ Some a) × CanTurn a.state
-- receive the first packet of a link that ends at it,
Enabled {B} {L} m r (Arrive link) i w =
    ((from : ℕ) × IsLink r.plan link from i)
    × ((x : Stamped L) × (q : List (Stamped L)) × (slice_get w.links link ≡ Some (x ∷ q)))
-- or as a node pass a message on.
Enabled {B} {L} {N} m r Pass i w =
    (k : ℕ) × (a : Actor N L) × (actor_of r.plan k ≡ i) × (slice_get w.nodes k ≡ Some a)
    × r.node.can_pass a.state

-- Where so many numbers were drawn, a draw gives the next one, and Closed just where they are all.
abbrev pub IsNextDraw : ℕ → ℕ → Option Grant → Type 0
IsNextDraw limit count None = Unit {0}
IsNextDraw limit count (Some (Number n)) = n ≡ count + 1
IsNextDraw limit count (Some Closed) = count ≡ limit
