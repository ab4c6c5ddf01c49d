-- Legal records: logs of a run that ended, with all that such a run brings.
use Rattle.std.specs.Prelude.{◌≡◌, ◌⊎◌, ℕ, ◌<◌, ◌≤◌, List, [], length, map, take, Option}
use Rattle.std.specs.Prelude.{Some, None, slice_get}
use Rattle.abc_value.specs.declared.grant.Grant.{Grant}
use Rattle.abc_value.specs.declared.grant.Grant.TheVariants.{Number, Closed}
use Rattle.abc_packet.specs.declared.choice.Choice.{Choice}
use Rattle.abc_packet.specs.declared.log.Entry.{Entry}
use Rattle.abc_body.specs.Meanings.{Meaning}
use Rattle.abc_body.specs.Multicasts.{Runs}
use Rattle.abc_network.specs.Agents.{AgentState}
use Rattle.abc_network.specs.Networks.{Net, Actor, Rules, Event, Netrun, start_of, times, drawn_in}
use Rattle.abc_network.specs.Quiets.{IsStill, IsQuiet}
use Rattle.abc_network_laws.specs.Flows.{NotStray}
use Rattle.abc_network_laws.specs.Kept.{Each, total}
use Rattle.abc_network_laws.specs.Settling.{NoGap}
use Rattle.abc_network_laws.specs.Simulation.{body_at}
use Rattle.abc_logs.specs.Choices.{AreChoices, AreNumbered}
use Rattle.abc_logs.specs.Merges.{IsMerge, events_at}
use Rattle.abc_schedule.specs.Schedules.{IsJoined, logs_of, times_drawn}

-- How often logs have a draw that was answered with Closed.
abbrev pub closings : Option Grant → ℕ
closings None = 0
closings (Some (Number n)) = 0
closings (Some Closed) = 1

-- By one entry.
abbrev pub closes : {L : Type 0} → Entry L → ℕ
closes e = closings (drawn_in e.deed)

-- By all logs.
abbrev pub times_closed : {L : Type 0} → List (List (Entry L)) → ℕ
times_closed logs = total (total closes) logs

-- The logs of a network's actors, agents first, are a legal record for these bodies.
pub record IsLegal {B L N : Type 0} (m : Meaning B L) (r : Rules L N) (bodies : List B)
    (logs : List (List (Entry L))) : Type 0 where
  -- they are one log for each actor, each a path, and each link is joined: nothing is left on it
  pub last : Net B L N
  pub are_logs : logs_of last ≡ logs
  pub joined : IsJoined m r bodies last
  pub empty : Each (λ q. q ≡ []) last.links
  -- the numbers drawn are 1 to `count`, each once, and the limit is reached where a draw was
  -- answered with Closed
  pub count : ℕ
  pub granted : (n : ℕ) → 1 ≤ n → n ≤ count → times_drawn n logs ≡ 1
  pub no_others : (n : ℕ) → (n < 1) ⊎ (count < n) → times_drawn n logs ≡ 0
  pub closed : 1 ≤ times_closed logs → count ≡ r.limit
  -- their merge, read as events, is a run that ends quiet
  pub merged : List (ℕ × ℕ)
  pub merge : IsMerge logs merged
  pub run : Netrun m r (start_of r bodies) (events_at r.plan.agents logs merged) last
  pub quiet : IsQuiet m r last
  -- nothing strayed
  pub no_stray : Each (Each (λ e. NotStray e.deed)) logs

-- In a legal record all fronts are the count of numbers.
abbrev pub HasOneFront : {B L N : Type 0} → Meaning B L → Rules L N → Type 0
HasOneFront {B} {L} m r =
    (bodies : List B) (logs : List (List (Entry L))) (l : IsLegal m r bodies logs) (i : ℕ)
    (a : Actor (AgentState B L) L) → slice_get l.last.agents i ≡ Some a → a.state.front ≡ l.count

-- Each number has one sender, and every agent took or turned all of them in order.
abbrev pub IsNumbered : {B L N : Type 0} → Meaning B L → Rules L N → Type 0
IsNumbered {B} {L} m r =
    (bodies : List B) (logs : List (List (Entry L))) (l : IsLegal m r bodies logs) →
    AreNumbered (take r.plan.agents logs) l.count

-- The choices that it tells are a run of the multicast from the bodies to those at the end.
abbrev pub TellsARun : {B L N : Type 0} → Meaning B L → Rules L N → Type 0
TellsARun {B} {L} m r =
    (bodies : List B) (logs : List (List (Entry L))) (l : IsLegal m r bodies logs)
    (choices : List Choice) → length choices ≡ l.count →
    AreChoices (take r.plan.agents logs) 1 choices →
    Runs m bodies choices (map body_at l.last.agents)

-- A run that ends still, whose draws have no gap and give Closed only where all numbers are drawn,
-- leaves a legal record.
abbrev pub StillIsLegal : {B L N : Type 0} → Meaning B L → Rules L N → Type 0
StillIsLegal {B} {L} {N} m r =
    (bodies : List B) (es : List (Event L)) (w : Net B L N) → length bodies ≡ r.plan.agents →
    Netrun m r (start_of r bodies) es w → IsStill m r w → NoGap w.drawn →
    (1 ≤ times_closed (logs_of w) → (n : ℕ) → 1 ≤ n → n ≤ r.limit → times n w.drawn ≡ 1) →
    IsLegal m r bodies (logs_of w)

-- All of it.
pub record KeepsRecords {B L N : Type 0} (m : Meaning B L) (r : Rules L N) : Type 0 where
  pub fronts : HasOneFront m r
  pub numbered : IsNumbered m r
  pub choices : TellsARun m r
  pub still : StillIsLegal m r
