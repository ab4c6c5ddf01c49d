-- An early number: number 2 comes to an agent before number 1, and waits there.
-- comp a { show; run (1) @ (tt) . 0; }
-- comp b { show; run (2) @ (tt) . 0; }
-- comp c { show; run ? (tt) ($v) . [p := $v] ? (tt) ($v) . [q := $v] 0; }
use Rattle.std.specs.Prelude.{◌≡◌, ℕ, List, [], ◌∷◌, ◌++◌, Option, Some, None, map, take, replicate}
use Rattle.abc_value.specs.declared.grant.Grant.TheVariants.{Number}
use Rattle.abc_pred.specs.declared.names.Name.{Name}
use Rattle.abc_pred.specs.Terms.{Var, True}
use Rattle.abc_term.specs.Processes.{Process, Nil, Output, Input}
use Rattle.abc_term.specs.Systems as systems
use Rattle.abc_term.specs.Examples.Writing.{name, number, say, set}
use Rattle.abc_moves.specs.declared.label.Label.{Label}
use Rattle.abc_packet.specs.declared.packets.Content.{Content}
use Rattle.abc_packet.specs.declared.packets.Content.TheVariants.{Said}
use Rattle.abc_packet.specs.declared.packets.Packet.TheVariants.{Request, Reply, Message}
use Rattle.abc_packet.specs.declared.log.Deed.TheVariants.{Asked, Arrived, Took, Turned}
use Rattle.abc_packet.specs.declared.log.Entry.{Entry}
use Rattle.abc_live_body.specs.Running.{RunningComponent}
use Rattle.abc_live_body.specs.AbcMeaning.{abc}
use Rattle.abc_live_body.specs.Systems.{choice_of}
use Rattle.abc_network.specs.Agents.{Idle, Waiting, Granted}
use Rattle.abc_network.specs.Networks.{Rules, Event, AgentDid, NodeDid, Netrun, start_of}
use Rattle.abc_network.specs.Numbering.{turns_of}
use Rattle.abc_network.specs.Quiets.{IsQuiet}
use Rattle.abc_network.specs.Shapes.{cluster_rules}
use Rattle.abc_network_runs.specs.Writing.{Components, body, saying, did, sent_at, agent, node}
use Rattle.abc_network_runs.specs.Writing.{turn_by, chosen, fronts_in, stored_in, system_in}
use Rattle.abc_network_runs.specs.Writing.{environments_in, choices_in, IsNone}

abbrev pub p : Name
p = name 0

abbrev pub q : Name
q = name 1

abbrev pub v : Name
v = name 2

-- The input of c that keeps what it hears in q, and the one before it, which keeps it in p.
abbrev pub second : Process
second = Input True (v ∷ []) (set q (Var v) ∷ []) Nil

abbrev pub first : Process
first = Input True (v ∷ []) (set p (Var v) ∷ []) second

-- The components at first,
abbrev pub a : RunningComponent
a = body [] [] (Output (say (number 1)) True [] Nil)

abbrev pub b : RunningComponent
b = body [] [] (Output (say (number 2)) True [] Nil)

abbrev pub c : RunningComponent
c = body [] [] first

-- a and b after they spoke, and c after number 1 and after number 2,
abbrev pub spoken : RunningComponent
spoken = body [] [] Nil

abbrev pub c_after_one : RunningComponent
c_after_one = body [] ((p, number 1) ∷ []) second

abbrev pub c_after_two : RunningComponent
c_after_two = body [] ((p, number 1) ∷ (q, number 2) ∷ []) Nil

-- and what a and b say.
abbrev pub said_one : Label
said_one = saying (number 1)

abbrev pub said_two : Label
said_two = saying (number 2)

-- A cluster with three nodes; numbers go up to 10, and turns begin at 0.
abbrev pub rules : Rules Label (Unit {0})
rules = cluster_rules 3 3 10 0

-- a asks at node 0 and b at node 1, and each has a number.
abbrev pub a_asks : Entry Label
a_asks = did 1 Asked

abbrev pub draws_one : Entry Label
draws_one = did 2 (Arrived 0 (sent_at 1 (Request 0)) (Some (Number 1)))

abbrev pub a_has_one : Entry Label
a_has_one = did 3 (Arrived 1 (sent_at 2 (Reply 0 (Number 1))) None)

abbrev pub b_asks : Entry Label
b_asks = did 1 Asked

abbrev pub draws_two : Entry Label
draws_two = did 2 (Arrived 8 (sent_at 1 (Request 1)) (Some (Number 2)))

abbrev pub b_has_two : Entry Label
b_has_two = did 3 (Arrived 9 (sent_at 2 (Reply 1 (Number 2))) None)

-- a speaks. Node 1 sends that to b and c, and b discards it.
abbrev pub a_speaks : Entry Label
a_speaks = did 4 (Turned 1 (Some 0) (Said said_one))

abbrev pub sends_one : Entry Label
sends_one = did 5 (Arrived 2 (sent_at 4 (Message 1 0 (Said said_one))) None)

abbrev pub b_stores_one : Entry Label
b_stores_one = did 6 (Arrived 9 (sent_at 5 (Message 1 0 (Said said_one))) None)

abbrev pub b_takes_one : Entry Label
b_takes_one = did 7 (Took 1 None)

-- b speaks at its number, and node 2 sends that to a and c.
abbrev pub b_speaks : Entry Label
b_speaks = did 8 (Turned 2 (Some 0) (Said said_two))

abbrev pub sends_two : Entry Label
sends_two = did 9 (Arrived 10 (sent_at 8 (Message 2 1 (Said said_two))) None)

-- It comes to c before number 1 does, and waits; c takes number 1 first.
abbrev pub c_stores_two : Entry Label
c_stores_two = did 10 (Arrived 17 (sent_at 9 (Message 2 1 (Said said_two))) None)

abbrev pub c_stores_one : Entry Label
c_stores_one = did 11 (Arrived 15 (sent_at 5 (Message 1 0 (Said said_one))) None)

abbrev pub c_takes_one : Entry Label
c_takes_one = did 12 (Took 1 (Some 0))

abbrev pub c_takes_two : Entry Label
c_takes_two = did 13 (Took 2 (Some 0))

-- a takes number 2.
abbrev pub a_stores_two : Entry Label
a_stores_two = did 10 (Arrived 5 (sent_at 9 (Message 2 1 (Said said_two))) None)

abbrev pub a_takes_two : Entry Label
a_takes_two = did 11 (Took 2 None)

-- All of it, in this order.
abbrev pub events : List (Event Label)
events =
    AgentDid 0 a_asks ∷ NodeDid 0 draws_one ∷ AgentDid 0 a_has_one ∷ AgentDid 1 b_asks
    ∷ NodeDid 1 draws_two ∷ AgentDid 1 b_has_two ∷ AgentDid 0 a_speaks ∷ NodeDid 1 sends_one
    ∷ AgentDid 1 b_stores_one ∷ AgentDid 1 b_takes_one ∷ AgentDid 1 b_speaks ∷ NodeDid 2 sends_two
    ∷ AgentDid 2 c_stores_two ∷ AgentDid 2 c_stores_one ∷ AgentDid 2 c_takes_one
    ∷ AgentDid 2 c_takes_two ∷ AgentDid 0 a_stores_two ∷ AgentDid 0 a_takes_two ∷ []

-- The network before the first event,
abbrev pub at_first : Components
at_first = start_of rules (a ∷ b ∷ c ∷ [])

-- after b asked,
abbrev pub b_asked : Components
b_asked = record {
  agents = agent a 0 (Granted 1) [] 1 3 (a_asks ∷ a_has_one ∷ [])
      ∷ agent b 0 Waiting [] 1 1 (b_asks ∷ []) ∷ agent c 0 Idle [] 0 0 [] ∷ [];
  nodes = node 2 (draws_one ∷ []) ∷ node 0 [] ∷ node 0 [] ∷ [];
  links = [] ∷ [] ∷ [] ∷ [] ∷ [] ∷ [] ∷ [] ∷ [] ∷ (sent_at 1 (Request 1) ∷ []) ∷ [] ∷ [] ∷ [] ∷ []
      ∷ [] ∷ [] ∷ [] ∷ [] ∷ [] ∷ [];
  drawn = 1 ∷ [];
}

-- as a and b have their numbers,
abbrev pub both_have : Components
both_have = record {
  agents = agent a 0 (Granted 1) [] 1 3 (a_asks ∷ a_has_one ∷ [])
      ∷ agent b 0 (Granted 2) [] 1 3 (b_asks ∷ b_has_two ∷ []) ∷ agent c 0 Idle [] 0 0 [] ∷ [];
  nodes = node 2 (draws_one ∷ []) ∷ node 2 (draws_two ∷ []) ∷ node 0 [] ∷ [];
  links = replicate 18 [];
  drawn = 2 ∷ 1 ∷ [];
}

-- as if, then, a message with the number that b has came to it, which is no state of any run,
abbrev pub own_comes : Components
own_comes = record both_have {
  links = replicate 9 [] ++ (sent_at 2 (Message 2 0 (Said said_one)) ∷ []) ∷ replicate 8 [];
}

-- after number 2 came to c,
abbrev pub two_stored : Components
two_stored = record {
  agents = agent spoken 1 Idle [] 2 4 (a_asks ∷ a_has_one ∷ a_speaks ∷ [])
      ∷ agent spoken 2 Idle [] 2 8
      (b_asks ∷ b_has_two ∷ b_stores_one ∷ b_takes_one ∷ b_speaks ∷ [])
      ∷ agent c 0 Idle ((2, Said said_two) ∷ []) 0 10 (c_stores_two ∷ []) ∷ [];
  nodes = node 2 (draws_one ∷ []) ∷ node 5 (draws_two ∷ sends_one ∷ []) ∷ node 9 (sends_two ∷ [])
      ∷ [];
  links = [] ∷ [] ∷ [] ∷ [] ∷ [] ∷ (sent_at 9 (Message 2 1 (Said said_two)) ∷ []) ∷ [] ∷ [] ∷ []
      ∷ [] ∷ [] ∷ [] ∷ [] ∷ [] ∷ [] ∷ (sent_at 5 (Message 1 0 (Said said_one)) ∷ []) ∷ [] ∷ []
      ∷ [];
  drawn = 2 ∷ 1 ∷ [];
}

-- and after the last.
abbrev pub at_last : Components
at_last = record {
  agents =
      agent spoken 2 Idle [] 2 11
      (a_asks ∷ a_has_one ∷ a_speaks ∷ a_stores_two ∷ a_takes_two ∷ [])
      ∷ agent spoken 2 Idle [] 2 8
      (b_asks ∷ b_has_two ∷ b_stores_one ∷ b_takes_one ∷ b_speaks ∷ [])
      ∷ agent c_after_two 2 Idle [] 0 13
      (c_stores_two ∷ c_stores_one ∷ c_takes_one ∷ c_takes_two ∷ [])
      ∷ [];
  nodes = node 2 (draws_one ∷ []) ∷ node 5 (draws_two ∷ sends_one ∷ []) ∷ node 9 (sends_two ∷ [])
      ∷ [];
  links = replicate 18 [];
  drawn = 2 ∷ 1 ∷ [];
}

pub record EarlyNumber : Type 0 where
  -- the eighteen events are a run, and then all is quiet
  pub run : Netrun abc rules at_first events at_last
  pub quiet : IsQuiet abc rules at_last
  -- after thirteen of them number 2 is stored at c, whose front is 0
  pub comes_early : Netrun abc rules at_first (take 13 events) two_stored
  pub early_fronts : fronts_in two_stored ≡ 1 ∷ 2 ∷ 0 ∷ []
  pub stored : stored_in two_stored ≡ [] ∷ [] ∷ ((2, Said said_two) ∷ []) ∷ []
  -- at the end all are past number 2, and c has heard both in the order of their numbers
  pub fronts : fronts_in at_last ≡ 2 ∷ 2 ∷ 2 ∷ []
  pub environments :
      environments_in at_last ≡ [] ∷ [] ∷ ((p, number 1) ∷ (q, number 2) ∷ []) ∷ []
  -- a spoke at number 1 and b at number 2
  pub turns : turns_of events
      ≡ turn_by 0 (Some 0) (Said said_one) ∷ turn_by 1 (Some 0) (Said said_two) ∷ []
  -- as choices: c heard each of them
  pub choices : choices_in events at_last
      ≡ chosen 0 (Some 0) ((2, 0) ∷ []) ∷ chosen 1 (Some 0) ((2, 0) ∷ []) ∷ []
  -- these are a run of the calculus
  pub calculus :
      systems.Runs [] (system_in at_first) (map choice_of (choices_in events at_last))
      (system_in at_last)
  -- number 1 is not drawn again for b
  pub not_twice : (clock : ℕ) →
      IsNone rules b_asked
      (NodeDid 1 (did clock (Arrived 8 (sent_at 1 (Request 1)) (Some (Number 1)))))
  -- b has number 2, and can't turn before it took number 1
  pub not_yet : (clock n : ℕ) (place : Option ℕ) (content : Content Label) →
      IsNone rules both_have (AgentDid 1 (did clock (Turned n place content)))
  -- nor would it store a message with its own number: that would be a stray
  pub not_own : (clock : ℕ) →
      IsNone rules own_comes
      (AgentDid 1 (did clock (Arrived 9 (sent_at 2 (Message 2 0 (Said said_one))) None)))
  -- c can't take number 2 as it comes
  pub not_as_it_comes : (clock : ℕ) (place : Option ℕ) →
      IsNone rules two_stored (AgentDid 2 (did clock (Took 2 place)))
