-- How far the clocks of a run go.
use Rattle.std.specs.Prelude.{◌≡◌, ℕ, ◌<◌, ◌≤◌, List, length}
use Rattle.abc_packet.specs.declared.limits.TheConstants.{MOST_CLOCK, MOST_NUMBER}
use Rattle.abc_body.specs.Meanings.{Meaning}
use Rattle.abc_shape.specs.Plans.{IsLayout}
use Rattle.abc_network.specs.Networks.{Net, Rules, Event, Netrun, start_of}
use Rattle.abc_network.specs.Shapes.{cluster_rules, ring_rules, tree_rules}
use Rattle.abc_network_laws.specs.Kept.{Each}

-- No clock is above k.
pub record ClocksWithin {B L N : Type 0} (k : ℕ) (w : Net B L N) : Type 0 where
  pub agents : Each (λ a. a.clock ≤ k) w.agents
  pub nodes : Each (λ a. a.clock ≤ k) w.nodes
  -- nor is that of a packet on a link
  pub links : Each (Each (λ x. x.clock ≤ k)) w.links

-- In every run of the network from its start no clock is above the number of events.
abbrev pub ClocksCount : {B L N : Type 0} → Meaning B L → Rules L N → Type 0
ClocksCount {B} {L} {N} m r =
    (bodies : List B) (es : List (Event L)) (w : Net B L N) → Netrun m r (start_of r bodies) es w →
    ClocksWithin (length es) w

-- So it is in each shape.
pub record ClocksCountEvents {B L : Type 0} (m : Meaning B L) : Type 0 where
  pub cluster : (agents nodes limit pick : ℕ) →
      ClocksCount m (cluster_rules agents nodes limit pick)
  pub ring : (agents nodes limit pick : ℕ) → ClocksCount m (ring_rules agents nodes limit pick)
  pub tree : (agents nodes limit pick : ℕ) → ClocksCount m (tree_rules agents nodes limit pick)

-- In every run from the start, with one body for each agent, each clock is below the greatest that
-- a packet can have, where the plan is within its limits and the numbers are.
abbrev pub ClocksStayLow : {B L N : Type 0} → Meaning B L → Rules L N → Type 0
ClocksStayLow {B} {L} {N} m r =
    IsLayout r.plan → r.limit < MOST_NUMBER →
    (bodies : List B) (es : List (Event L)) (w : Net B L N) → length bodies ≡ r.plan.agents →
    Netrun m r (start_of r bodies) es w → (k : ℕ) × (k < MOST_CLOCK) × ClocksWithin k w

pub record ClocksAreLow {B L : Type 0} (m : Meaning B L) : Type 0 where
  pub cluster : (agents nodes limit pick : ℕ) →
      ClocksStayLow m (cluster_rules agents nodes limit pick)
  pub ring : (agents nodes limit pick : ℕ) → ClocksStayLow m (ring_rules agents nodes limit pick)
  pub tree : (agents nodes limit pick : ℕ) → ClocksStayLow m (tree_rules agents nodes limit pick)
