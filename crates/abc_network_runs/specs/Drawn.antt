-- Which numbers a run draws.
use Rattle.std.specs.Prelude.{ℕ, ◌<◌, ◌≤◌, List}
use Rattle.abc_body.specs.Meanings.{Meaning}
use Rattle.abc_network.specs.Networks.{Net, Rules, Event, Netrun, start_of, times}
use Rattle.abc_network.specs.Shapes.{cluster_rules, ring_rules, tree_rules}
use Rattle.abc_network_laws.specs.Kept.{Each}

-- Each at most once, and none but those from 1 to the limit.
pub record AreDrawnOnce (limit : ℕ) (drawn : List ℕ) : Type 0 where
  pub once : (n : ℕ) → times n drawn ≤ 1
  pub within : Each (λ n. (0 < n) × (n ≤ limit)) drawn

-- So it is in every run of the network from its start.
abbrev pub DrawsOnce : {B L N : Type 0} → Meaning B L → Rules L N → Type 0
DrawsOnce {B} {L} {N} m r =
    (bodies : List B) (es : List (Event L)) (w : Net B L N) → Netrun m r (start_of r bodies) es w →
    AreDrawnOnce r.limit w.drawn

pub record NumbersAreDrawnOnce {B L : Type 0} (m : Meaning B L) : Type 0 where
  pub cluster : (agents nodes limit pick : ℕ) →
      DrawsOnce m (cluster_rules agents nodes limit pick)
  pub ring : (agents nodes limit pick : ℕ) → DrawsOnce m (ring_rules agents nodes limit pick)
  pub tree : (agents nodes limit pick : ℕ) → DrawsOnce m (tree_rules agents nodes limit pick)
