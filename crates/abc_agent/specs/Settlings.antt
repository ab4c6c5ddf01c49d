-- What an agent does where it settles.
use Rattle.std.specs.Prelude.{◌≡◌, ℕ, ◌+◌, ◌≤◌, List, [], ◌++◌, All, length}
use Rattle.abc_packet.specs.declared.stamped.Stamped.{Stamped}
use Rattle.abc_packet.specs.declared.log.Entry.{Entry}
use Rattle.abc_packet.specs.Outlets.{Lists, Sends}
use Rattle.abc_body.specs.Meanings.{Meaning}
use Rattle.abc_network.specs.Agents.{Asking, Idle, Waiting, Granted, Shut}
use Rattle.abc_logs.specs.MicroSteps.{taken_by}
use Rattle.abc_logs.specs.Paths.{Path, clock_after}
use Rattle.abc_agent.specs.Members.{Member, table_of}

-- It goes on by some micro-steps, `most` at most, in which it takes no packet from a link. They are
-- logged, and the lists of links gain what they send.
pub record GoesOnBy {B L : Type 0} (m : Meaning B L) (most : ℕ) (old new : Member B L)
    (before after : Lists L) : Type 0 where
  pub entries : List (Entry L)
  pub sent : List (ℕ × Stamped L)
  pub path : Path (table_of m old) old.actor.state old.actor.clock entries sent new.actor.state
  pub log : new.actor.log ≡ old.actor.log ++ entries
  pub clock : new.actor.clock ≡ clock_after old.actor.clock entries
  pub no_arrival : All (λ e. taken_by e.deed ≡ []) entries
  pub few : length entries ≤ most
  pub lists : Sends before sent after

-- One, where the agent has a number.
abbrev pub turns_left : Asking → ℕ
turns_left Idle = 0
turns_left Waiting = 0
turns_left (Granted n) = 1
turns_left Shut = 0

-- The numbers that it can still take or turn as it is: those of the messages that wait, and its
-- own.
abbrev pub count_left : {B L : Type 0} → Member B L → ℕ
count_left a = length a.actor.state.stored + turns_left a.actor.state.asking

-- As many micro-steps as there are messages that wait, and a turn and a request.
abbrev pub most_micro_steps : {B L : Type 0} → Member B L → ℕ
most_micro_steps a = length a.actor.state.stored + 2
