-- A late output: a component may say something as it asks for a number, and no longer as its
-- number comes.
-- def Want = when (idle = true) ("take") @ (tt) . 0 + ? (tt) ($m) . [idle := false] 0;
-- comp ann { idle = true; show; run Want; }
-- comp bob { idle = true; show; run Want; }
use Rattle.std.specs.Prelude.{◌≡◌, ℕ, Bool, true, false, List, [], ◌∷◌, Option, Some, None, map}
use Rattle.std.specs.Prelude.{codes, replicate}
use Rattle.abc_value.specs.declared.value.Value.{Value}
use Rattle.abc_value.specs.declared.value.Value.TheVariants.{Scalar}
use Rattle.abc_value.specs.declared.scalar.Scalar.TheVariants.{Truth}
use Rattle.abc_value.specs.declared.grant.Grant.TheVariants.{Number}
use Rattle.abc_pred.specs.declared.names.Name.{Name}
use Rattle.abc_pred.specs.Maps.{Entries}
use Rattle.abc_pred.specs.Terms.{Literal, True}
use Rattle.abc_term.specs.Processes.{Nil, Output, Input, When, Choice, Call, Definitions}
use Rattle.abc_term.specs.Systems as systems
use Rattle.abc_term.specs.Examples.Writing.{name, text, say, is, set}
use Rattle.abc_moves.specs.declared.label.Label.{Label}
use Rattle.abc_packet.specs.declared.packets.Content.{Content}
use Rattle.abc_packet.specs.declared.packets.Content.TheVariants.{Said, Empty}
use Rattle.abc_packet.specs.declared.packets.Packet.TheVariants.{Request, Reply, Message}
use Rattle.abc_packet.specs.declared.log.Deed.TheVariants.{Asked, Arrived, Took, Turned}
use Rattle.abc_packet.specs.declared.log.Entry.{Entry}
use Rattle.abc_live_body.specs.Running.{RunningComponent}
use Rattle.abc_live_body.specs.AbcMeaning.{abc}
use Rattle.abc_live_body.specs.Systems.{choice_of}
use Rattle.abc_network.specs.Agents.{Idle, Waiting, Granted}
use Rattle.abc_network.specs.Networks.{Rules, Event, AgentDid, NodeDid, Netrun, start_of}
use Rattle.abc_network.specs.Numbering.{turns_of}
use Rattle.abc_network.specs.Quiets.{IsQuiet}
use Rattle.abc_network.specs.Shapes.{cluster_rules}
use Rattle.abc_network_runs.specs.Writing.{Components, body, saying, did, sent_at, agent, node}
use Rattle.abc_network_runs.specs.Writing.{turn_by, chosen, fronts_in, system_in}
use Rattle.abc_network_runs.specs.Writing.{environments_in, choices_in, IsNone}

abbrev pub want : Name
want = name 0

abbrev pub idle : Name
idle = name 1

abbrev pub m : Name
m = name 2

abbrev pub truth : Bool → Value
truth b = Scalar (Truth b)

abbrev pub defs : Definitions
defs = (
  want,
  Choice (When (is idle (truth true)) (Output (say (text (codes "take"))) True [] Nil))
      (Input True (m ∷ []) (set idle (Literal (truth false)) ∷ []) Nil),
)
    ∷ []

abbrev pub idle_is : Bool → Entries
idle_is b = (idle, truth b) ∷ []

-- Each begins so; this is what becomes of ann, who speaks, and of bob, who hears her; and this is
-- what she says.
abbrev pub wanting : RunningComponent
wanting = body defs (idle_is true) (Call want)

abbrev pub ann_after : RunningComponent
ann_after = body defs (idle_is true) Nil

abbrev pub bob_after : RunningComponent
bob_after = body defs (idle_is false) Nil

abbrev pub said_take : Label
said_take = saying (text (codes "take"))

-- A cluster with one node; numbers go up to 10, and turns begin at 0.
abbrev pub rules : Rules Label (Unit {0})
rules = cluster_rules 2 1 10 0

-- Both ask, and the node draws for each.
abbrev pub ann_asks : Entry Label
ann_asks = did 1 Asked

abbrev pub bob_asks : Entry Label
bob_asks = did 1 Asked

abbrev pub draws_one : Entry Label
draws_one = did 2 (Arrived 0 (sent_at 1 (Request 0)) (Some (Number 1)))

abbrev pub draws_two : Entry Label
draws_two = did 3 (Arrived 2 (sent_at 1 (Request 1)) (Some (Number 2)))

-- Ann has number 1, and speaks.
abbrev pub ann_has_one : Entry Label
ann_has_one = did 3 (Arrived 1 (sent_at 2 (Reply 0 (Number 1))) None)

abbrev pub ann_speaks : Entry Label
ann_speaks = did 4 (Turned 1 (Some 0) (Said said_take))

-- Bob has number 2. Ann's message comes to him, and he hears it.
abbrev pub bob_has_two : Entry Label
bob_has_two = did 4 (Arrived 3 (sent_at 3 (Reply 1 (Number 2))) None)

abbrev pub sends_one : Entry Label
sends_one = did 5 (Arrived 0 (sent_at 4 (Message 1 0 (Said said_take))) None)

abbrev pub bob_stores : Entry Label
bob_stores = did 6 (Arrived 3 (sent_at 5 (Message 1 0 (Said said_take))) None)

abbrev pub bob_hears : Entry Label
bob_hears = did 7 (Took 1 (Some 0))

-- So he has nothing to say at his number, and that is what ann hears of it.
abbrev pub bob_is_silent : Entry Label
bob_is_silent = did 8 (Turned 2 None Empty)

abbrev pub sends_two : Entry Label
sends_two = did 9 (Arrived 2 (sent_at 8 (Message 2 1 Empty)) None)

abbrev pub ann_stores : Entry Label
ann_stores = did 10 (Arrived 1 (sent_at 9 (Message 2 1 Empty)) None)

abbrev pub ann_takes : Entry Label
ann_takes = did 11 (Took 2 None)

-- All of it, in this order.
abbrev pub events : List (Event Label)
events =
    AgentDid 0 ann_asks ∷ AgentDid 1 bob_asks ∷ NodeDid 0 draws_one ∷ NodeDid 0 draws_two
    ∷ AgentDid 0 ann_has_one ∷ AgentDid 0 ann_speaks ∷ AgentDid 1 bob_has_two
    ∷ NodeDid 0 sends_one ∷ AgentDid 1 bob_stores ∷ AgentDid 1 bob_hears
    ∷ AgentDid 1 bob_is_silent ∷ NodeDid 0 sends_two ∷ AgentDid 0 ann_stores
    ∷ AgentDid 0 ann_takes ∷ []

-- The network before the first event,
abbrev pub at_first : Components
at_first = start_of rules (wanting ∷ wanting ∷ [])

-- as ann may turn number 1,
abbrev pub anns_turn : Components
anns_turn = record {
  agents = agent wanting 0 (Granted 1) [] 1 3 (ann_asks ∷ ann_has_one ∷ [])
      ∷ agent wanting 0 Waiting [] 1 1 (bob_asks ∷ []) ∷ [];
  nodes = node 3 (draws_one ∷ draws_two ∷ []) ∷ [];
  links = [] ∷ [] ∷ [] ∷ (sent_at 3 (Reply 1 (Number 2)) ∷ []) ∷ [];
  drawn = 2 ∷ 1 ∷ [];
}

-- as bob may turn number 2,
abbrev pub bobs_turn : Components
bobs_turn = record {
  agents = agent ann_after 1 Idle [] 2 4 (ann_asks ∷ ann_has_one ∷ ann_speaks ∷ [])
      ∷ agent bob_after 1 (Granted 2) [] 1 7
      (bob_asks ∷ bob_has_two ∷ bob_stores ∷ bob_hears ∷ [])
      ∷ [];
  nodes = node 5 (draws_one ∷ draws_two ∷ sends_one ∷ []) ∷ [];
  links = replicate 4 [];
  drawn = 2 ∷ 1 ∷ [];
}

-- and after the last.
abbrev pub at_last : Components
at_last = record {
  agents =
      agent ann_after 2 Idle [] 2 11
      (ann_asks ∷ ann_has_one ∷ ann_speaks ∷ ann_stores ∷ ann_takes ∷ [])
      ∷ agent bob_after 2 Idle [] 2 8
      (bob_asks ∷ bob_has_two ∷ bob_stores ∷ bob_hears ∷ bob_is_silent ∷ [])
      ∷ [];
  nodes = node 9 (draws_one ∷ draws_two ∷ sends_one ∷ sends_two ∷ []) ∷ [];
  links = replicate 4 [];
  drawn = 2 ∷ 1 ∷ [];
}

pub record LateOutput : Type 0 where
  -- the fourteen events are a run, and then all is quiet
  pub run : Netrun abc rules at_first events at_last
  pub quiet : IsQuiet abc rules at_last
  -- both are past number 2, and bob is no longer idle
  pub fronts : fronts_in at_last ≡ 2 ∷ 2 ∷ []
  pub environments : environments_in at_last ≡ idle_is true ∷ idle_is false ∷ []
  -- ann spoke at number 1, and bob said nothing at number 2
  pub turns : turns_of events ≡ turn_by 0 (Some 0) (Said said_take) ∷ turn_by 1 None Empty ∷ []
  -- as choices: bob heard ann at place 0, and the second step is empty
  pub choices : choices_in events at_last ≡ chosen 0 (Some 0) ((1, 0) ∷ []) ∷ chosen 1 None [] ∷ []
  -- these are a run of the calculus
  pub calculus :
      systems.Runs defs (system_in at_first) (map choice_of (choices_in events at_last))
      (system_in at_last)
  -- before the first event ann has no turn
  pub no_turn_yet : (clock n : ℕ) (place : Option ℕ) (content : Content Label) →
      IsNone rules at_first (AgentDid 0 (did clock (Turned n place content)))
  -- at her turn ann can't be silent, since she can speak
  pub not_silent : (clock n : ℕ) (place : Option ℕ) →
      IsNone rules anns_turn (AgentDid 0 (did clock (Turned n place Empty)))
  -- at his turn bob can't say what he could have said as he asked, nor anything else
  pub not_stale : (clock n : ℕ) (place : Option ℕ) (label : Label) →
      IsNone rules bobs_turn (AgentDid 1 (did clock (Turned n place (Said label))))
