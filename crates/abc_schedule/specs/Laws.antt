-- The laws of one schedule, as they are stated for every body.
use Rattle.std.specs.Prelude.{◌≡◌, ℕ, ◌≤◌, List, length}
use Rattle.abc_packet.specs.Logs.{Rise}
use Rattle.abc_shape.specs.declared.shape.Shape.TheVariants.{Cluster, Ring, Tree}
use Rattle.abc_shape.specs.Plans.{IsLayout, layout_of}
use Rattle.abc_body.specs.Meanings.{Meaning}
use Rattle.abc_network.specs.Networks.{Net, Rules, Event, Netrun, start_of, times}
use Rattle.abc_network.specs.Shapes.{cluster_rules, ring_rules, tree_rules}
use Rattle.abc_network_laws.specs.Kept.{Each, total}
use Rattle.abc_logs.specs.Merges.{IsMerge, log_of, events_at}
use Rattle.abc_schedule.specs.Legal.{KeepsRecords}
use Rattle.abc_schedule.specs.Schedules.{IsJoined, logs_of, times_drawn}

-- One schedule: where the logs fit together, their merge is a run of the network from its start to
-- this very state. In that run the numbers are drawn in some order.
abbrev pub HasOneSchedule : {B L N : Type 0} → Meaning B L → Rules L N → Type 0
HasOneSchedule {B} {L} {N} m r =
    (bodies : List B) (w : Net B L N) (merged : List (ℕ × ℕ)) → IsJoined m r bodies w →
    IsMerge (logs_of w) merged →
    (drawn : List ℕ) × Netrun m r (start_of r bodies)
    (events_at r.plan.agents (logs_of w) merged) (record w { drawn = drawn })

-- And back: the logs of every run fit together, and have the draws that were made.
abbrev pub IsJoinedByRuns : {B L N : Type 0} → Meaning B L → Rules L N → Type 0
IsJoinedByRuns {B} {L} {N} m r =
    (bodies : List B) (es : List (Event L)) (w : Net B L N) → length bodies ≡ r.plan.agents →
    Netrun m r (start_of r bodies) es w →
    IsJoined m r bodies w × ((n : ℕ) → times n w.drawn ≡ times_drawn n (logs_of w))

-- Within each log the clocks rise, and that of an arrival is above its packet's.
abbrev pub ClocksRise : {B L N : Type 0} → Meaning B L → Rules L N → Type 0
ClocksRise {B} {L} {N} m r =
    (bodies : List B) (w : Net B L N) (actor : ℕ) → IsJoined m r bodies w →
    Rise 0 (log_of (logs_of w) actor)

-- No clock of the actors, and none of a packet on a link, is above a number.
pub record ClocksWithin {B L N : Type 0} (most : ℕ) (w : Net B L N) : Type 0 where
  pub agents : Each (λ a. a.clock ≤ most) w.agents
  pub nodes : Each (λ a. a.clock ≤ most) w.nodes
  pub links : Each (Each (λ p. p.clock ≤ most)) w.links

-- They are at most the count of all entries.
abbrev pub ClocksAreFew : {B L N : Type 0} → Meaning B L → Rules L N → Type 0
ClocksAreFew {B} {L} {N} m r =
    (bodies : List B) (w : Net B L N) → IsJoined m r bodies w →
    ClocksWithin (total (λ log. length log) (logs_of w)) w

-- All of it.
pub record HasSchedules {B L N : Type 0} (m : Meaning B L) (r : Rules L N) : Type 0 where
  pub one : HasOneSchedule m r
  pub back : IsJoinedByRuns m r
  pub clocks : ClocksRise m r
  pub few : ClocksAreFew m r

-- Of a cluster,
abbrev pub ClusterSchedules : {B L : Type 0} → Meaning B L → Type 0
ClusterSchedules m =
    (agents nodes limit pick : ℕ) → IsLayout (layout_of Cluster agents nodes) →
    HasSchedules m (cluster_rules agents nodes limit pick)

-- of a ring
abbrev pub RingSchedules : {B L : Type 0} → Meaning B L → Type 0
RingSchedules m =
    (agents nodes limit pick : ℕ) → IsLayout (layout_of Ring agents nodes) →
    HasSchedules m (ring_rules agents nodes limit pick)

-- and of a tree.
abbrev pub TreeSchedules : {B L : Type 0} → Meaning B L → Type 0
TreeSchedules m =
    (agents nodes limit pick : ℕ) → IsLayout (layout_of Tree agents nodes) →
    HasSchedules m (tree_rules agents nodes limit pick)

-- The laws of legal records, of each shape.
abbrev pub ClusterRecords : {B L : Type 0} → Meaning B L → Type 0
ClusterRecords m =
    (agents nodes limit pick : ℕ) → IsLayout (layout_of Cluster agents nodes) →
    KeepsRecords m (cluster_rules agents nodes limit pick)

-- Of a ring.
abbrev pub RingRecords : {B L : Type 0} → Meaning B L → Type 0
RingRecords m =
    (agents nodes limit pick : ℕ) → IsLayout (layout_of Ring agents nodes) →
    KeepsRecords m (ring_rules agents nodes limit pick)

-- Of a tree.
abbrev pub TreeRecords : {B L : Type 0} → Meaning B L → Type 0
TreeRecords m =
    (agents nodes limit pick : ℕ) → IsLayout (layout_of Tree agents nodes) →
    KeepsRecords m (tree_rules agents nodes limit pick)
