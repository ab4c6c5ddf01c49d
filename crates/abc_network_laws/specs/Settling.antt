-- In every run nothing is astray, and where nothing can go on the network is quiet.
use Rattle.std.specs.Prelude.{◌≡◌, ℕ, ◌+◌, ◌<◌, ◌≤◌, List, length, Some, slice_get}
use Rattle.abc_body.specs.Meanings.{Meaning}
use Rattle.abc_network.specs.Agents.{AgentState}
use Rattle.abc_network.specs.Networks.{Net, Actor, Rules, Event, Netrun, start_of, times}
use Rattle.abc_network.specs.Numbering.{turns_of}
use Rattle.abc_network.specs.Quiets.{IsStill, IsQuiet}
use Rattle.abc_network_laws.specs.Kept.{Each}
use Rattle.abc_network_laws.specs.Flows.{NotStray, deed_of}

-- The draws have no gap: below a number that was drawn each was.
abbrev pub NoGap : List ℕ → Type 0
NoGap drawn = (n : ℕ) → 0 < n → times (n + 1) drawn ≡ 1 → times n drawn ≡ 1

pub record Settled {B L N : Type 0} (m : Meaning B L) (r : Rules L N) (es : List (Event L))
    (w : Net B L N) : Type 0 where
  -- no entry of the run is a stray
  pub astray : Each (λ e. NotStray (deed_of e)) es
  -- where nothing is on a link and no micro-step is possible the network is quiet: all stores are
  -- empty,
  pub quiet : IsStill m r w → IsQuiet m r w
  -- all fronts are the count of the turns,
  pub fronts : IsStill m r w → (i : ℕ) (a : Actor (AgentState B L) L) →
      slice_get w.agents i ≡ Some a →
      a.state.front ≡ length (turns_of es)
  -- and, where the draws have no gap, every number that was drawn was turned
  pub turned : IsStill m r w → NoGap w.drawn → (n : ℕ) → times n w.drawn ≡ 1 →
      n ≤ length (turns_of es)

-- Every run of the network from its start, with one body for each agent, is so.
abbrev pub Settles : {B L N : Type 0} → Meaning B L → Rules L N → Type 0
Settles {B} {L} {N} m r =
    (bodies : List B) (es : List (Event L)) (w : Net B L N) → length bodies ≡ r.plan.agents →
    Netrun m r (start_of r bodies) es w → Settled m r es w
