-- A network that was started.
use Rattle.std.specs.Prelude.{Vec, vec_capacity, ◌+◌, ◌≡◌, ℕ, ◌≤◌, List, [], length, map, replicate}
use Rattle.abc_number.specs.declared.limits.TheConstants.{MOST_LIMIT}
use Rattle.abc_shape.specs.Plans.{IsLayout}
use Rattle.abc_shape.specs.declared.layout.Layout.{Layout}
use Rattle.abc_body.specs.Meanings.{Meaning}
use Rattle.abc_network.specs.Networks.{Rules, Event, Netrun, start_of}
use Rattle.abc_network.specs.Nodes.{NodeMachine}
use Rattle.abc_network_laws.specs.Bounding.{Bounded}
use Rattle.abc_network_laws.specs.Settling.{Settles}
use Rattle.abc_packet.specs.declared.log.Entry.{Entry}
use Rattle.abc_schedule.specs.Legal.{KeepsRecords, IsLegal, times_closed}
use Rattle.abc_schedule.specs.Schedules.{logs_of}
use Rattle.abc_history.specs.Nodes.{SeenNode}
use Rattle.abc_world.specs.Listing.{IsStillIn}
use Rattle.abc_world.specs.Runnings.{Running, rules_of, drawn_down, node_in}

-- What is so of every run of a network: it has a bound on its events, it settles, and it leaves
-- legal records.
pub record HasLaws {B L N : Type 0} (m : Meaning B L) (r : Rules L N) : Type 0 where
  pub bounded : Bounded m r
  pub settles : Settles m r
  pub keeps : KeepsRecords m r

-- These are all nodes of a plan, at the start.
abbrev pub AreBlank : {S L : Type 0} → S → Layout → List (SeenNode S L) → Type 0
AreBlank blank p nodes =
    map node_in nodes ≡ replicate p.nodes (record { state = blank; clock = 0; log = [] })

-- A network at its start.
abbrev pub started : {B L N : Type 0} → (Layout → NodeMachine L N) → N → Layout → ℕ → ℕ → List B →
    Running B L N
started machine blank p limit pick bodies = record {
  plan = p;
  limit = limit;
  pick = pick;
  net = start_of (rules_of machine blank p limit pick) bodies;
}

-- It came from another state of itself by a run.
abbrev pub RunsTo : {B L N : Type 0} → Meaning B L → (Layout → NodeMachine L N) → N →
    Running B L N → Running B L N → Type 0
RunsTo {B} {L} m machine blank old new =
    (es : List (Event L))
    × Netrun m (rules_of machine blank old.plan old.limit old.pick) old.net es new.net

-- Where it is still, and came from its start with these bodies, these logs are a legal record.
abbrev pub LeavesLegal : {B L N : Type 0} → Meaning B L → (Layout → NodeMachine L N) → N →
    Running B L N → List (List (Entry L)) → Type 0
LeavesLegal {B} {L} m machine blank n logs =
    (bodies : List B) → length bodies ≡ n.plan.agents →
    RunsTo m machine blank (started machine blank n.plan n.limit n.pick bodies) n →
    IsStillIn m machine blank n →
    IsLegal m (rules_of machine blank n.plan n.limit n.pick) bodies logs

-- A list of logs has none, and room for that of each actor.
abbrev pub HasRoom : {X A : Type 0} → Layout → Vec X A → Type 0
HasRoom p logs = (logs.items ≡ []) × (p.agents + p.nodes ≤ vec_capacity logs)

-- It came from its start by a run, in which the numbers were drawn one after the other, and Closed
-- only after all of them.
pub record IsStarted {B L N : Type 0} (m : Meaning B L) (machine : Layout → NodeMachine L N) (blank : N)
    (n : Running B L N) : Type 0 where
  pub layout : IsLayout n.plan
  pub limit : n.limit ≤ MOST_LIMIT
  pub laws : HasLaws m (rules_of machine blank n.plan n.limit n.pick)
  pub bodies : List B
  pub many : length bodies ≡ n.plan.agents
  pub events : List (Event L)
  pub run : Netrun m (rules_of machine blank n.plan n.limit n.pick)
      (start_of (rules_of machine blank n.plan n.limit n.pick) bodies) events n.net
  pub in_order : n.net.drawn ≡ drawn_down (length n.net.drawn)
  pub closed : 1 ≤ times_closed (logs_of n.net) → length n.net.drawn ≡ n.limit
