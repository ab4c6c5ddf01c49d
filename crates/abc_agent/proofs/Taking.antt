-- What an agent has done so far, while it takes and turns, and what it can't do at the end.
use Rattle.std.proofs.Common.{◌≡◌, ℕ, ◌+◌, ◌≤◌, List, refl, sym, ap, ◌∙◌, subst, arith}
use Rattle.std.specs.Prelude.{Bool, true, false, Option, Some, None, MatchBool}
use Rattle.std.specs.Bool.{OnFalse}
use Rattle.abc_packet.specs.declared.packets.Packet.{Packet}
use Rattle.abc_packet.specs.declared.log.Deed.{Deed}
use Rattle.abc_packet.specs.declared.log.Deed.TheVariants.{Asked, Arrived, Took, Turned, Passed, Stray}
use Rattle.abc_packet.specs.Outlets.{Lists, SameLists, SameLinks}
use Rattle.abc_body.specs.Meanings.{Meaning}
use Rattle.abc_wait.specs.Waits.{item_beside}
use Rattle.abc_network.specs.Agents.{AgentState, Asking, Idle, Waiting, Granted, Shut, AgentDoes}
use Rattle.abc_network.specs.Quiets.{AgentRests}
use Rattle.abc_agent.specs.Ways.{way_of}
use Rattle.abc_agent.specs.Members.{Member, SameMember, MadeAsk, MadeTake, MadeTurn, MadeTakeOrTurn, IsAsk, IsTake, IsTurn, IsTakeOrTurn}
use Rattle.abc_agent.specs.Conditions.{CanAsk, CanTake, CanTurn}
use Rattle.abc_agent.specs.Settlings.{GoesOnBy, count_left, turns_left, most_micro_steps}
use Rattle.abc_agent.proofs.GoingOn.{same_member_again, goes_on_by_none, goes_on_by_one, goes_on_by_more, clock_rises, count_falls}

-- Taking is taking or turning,
take-is : {L : Type 0} (d : Deed L) → IsTake d → IsTakeOrTurn d
take-is Asked h = absurd h
take-is (Arrived link stamped drew) h = absurd h
take-is (Took n place) h = tt
take-is (Turned n place content) h = absurd h
take-is (Passed n) h = absurd h
take-is (Stray link stamped) h = absurd h

-- and so is turning.
turn-is : {L : Type 0} (d : Deed L) → IsTurn d → IsTakeOrTurn d
turn-is Asked h = absurd h
turn-is (Arrived link stamped drew) h = absurd h
turn-is (Took n place) h = absurd h
turn-is (Turned n place content) h = tt
turn-is (Passed n) h = absurd h
turn-is (Stray link stamped) h = absurd h

-- An agent that took a number took or turned one,
pub took : {B L : Type 0} (m : Meaning B L) (old new : Member B L) (before after : Lists L) →
    MadeTake m old new before after → MadeTakeOrTurn m old new before after
took m old new before after h = (h.0, take-is h.0.entry.deed h.1)

-- and so did one that had its turn.
pub turned : {B L : Type 0} (m : Meaning B L) (old new : Member B L) (before after : Lists L) →
    MadeTurn m old new before after → MadeTakeOrTurn m old new before after
turned m old new before after h = (h.0, turn-is h.0.entry.deed h.1)

-- It took and turned some numbers, and those that are left are so many less.
pub record StillTakes {B L : Type 0} (m : Meaning B L) (start now : Member B L) (before after : Lists L) :
    Type 0 where
  pub member : SameMember start now
  pub made : ℕ
  pub left : made + count_left now ≡ count_left start
  pub clock : now.actor.clock ≡ start.actor.clock + made
  pub goes_on : GoesOnBy m made start now before after

-- At first it took none,
pub takes_at_first : {B L : Type 0} (m : Meaning B L) (a : Member B L) (before after : Lists L) →
    SameLists before after → StillTakes m a a before after
takes_at_first m a before after same = record {
  member = record { plan = refl; number = refl; pick = refl };
  made = 0;
  left = omega arith;
  clock = omega arith;
  goes_on = goes_on_by_none m 0 a before after same;
}

-- and then one more.
pub takes_one_more : {B L : Type 0} (m : Meaning B L) (start mid new : Member B L) (before now after : Lists L) →
    StillTakes m start mid before now → SameMember mid new → MadeTakeOrTurn m mid new now after →
    StillTakes m start new before after
takes_one_more m start mid new before now after was member step =
    let falls = count_falls m mid new now after step in
    let rises = clock_rises _ mid.actor new.actor now after step.0 in
    let left = was.left in
    let clock = was.clock in
    record {
      member = same_member_again start mid new was.member member;
      made = was.made + 1;
      left = omega arith;
      clock = omega arith;
      goes_on = goes_on_by_one m was.made start mid new before now after was.member was.goes_on step.0;
    }

-- Lists that stay are those lists.
pub goes_on_there : {B L : Type 0} (m : Meaning B L) (most : ℕ) (old new : Member B L) (before now after : Lists L) →
    GoesOnBy m most old new before now → SameLists now after → GoesOnBy m most old new before after
goes_on_there m most old new before now after was same = record {
  entries = was.entries;
  sent = was.sent;
  path = was.path;
  log = was.log;
  clock = was.clock;
  no_arrival = was.no_arrival;
  few = was.few;
  lists = λ link. same link ∙ was.lists link;
}

-- The same links, and again the same, are the same.
pub same_links_again : (a b c : ℕ → Type 0) → SameLinks a b → SameLinks b c → SameLinks a c
same_links_again a b c first second = λ link.
    (λ x. (second link).0 ((first link).0 x), λ z. (first link).1 ((second link).1 z))

-- All that it took and turned is at most what was left.
pub takes_within : {B L : Type 0} (m : Meaning B L) (start now : Member B L) (before between after : Lists L) →
    StillTakes m start now before between → SameLists between after →
    GoesOnBy m (count_left start) start now before after
takes_within m start now before between after was same =
    let left = was.left in
    goes_on_by_more m was.made (count_left start) start now before after (omega arith)
    (goes_on_there m was.made start now before between after was.goes_on same)

-- No more is left than the messages that wait and one turn.
pub few_turns : (asking : Asking) → turns_left asking ≤ 1
few_turns Idle = omega arith
few_turns Waiting = omega arith
few_turns (Granted n) = omega arith
few_turns Shut = omega arith

-- Where no item is there, none is.
none_of_no_some : {T : Type 0} (o : Option T) → ((x : T) → o ≡ Some x → ⊥) → o ≡ None
none_of_no_some None nowhere = refl
none_of_no_some (Some x) nowhere = absurd (nowhere x refl)

-- An agent that can do none of the three rests.
pub rests_where : {B L : Type 0} (m : Meaning B L) (s : AgentState B L) →
    (CanAsk m s → ⊥) → (CanTake s → ⊥) → (CanTurn s → ⊥) → AgentRests m s
rests_where m s no_ask no_take no_turn = record {
  no_ask = λ idle can. no_ask (idle, can);
  no_take = none_of_no_some (item_beside s.stored (s.front + 1)) (λ x is. no_take (x, is));
  no_turn = no_turn;
}

-- One that has just asked can't ask, and takes and turns as little as before.
asked_rests : {B L : Type 0} (m : Meaning B L) (pick : ℕ) (way : ℕ → ℕ) (i : ℕ) (s s' : AgentState B L) (d : Deed L)
    (out : List (ℕ × Packet L)) → IsAsk d → AgentDoes m pick way i s d out s' → (CanTake s → ⊥) → AgentRests m s'
asked_rests {B} {L} m pick way i s s' Asked out kind row no_take =
    let asking : s'.asking ≡ Waiting = ap (λ (t : AgentState B L). t.asking) row.after in
    let front : s'.front ≡ s.front = ap (λ (t : AgentState B L). t.front) row.after in
    let stored : s'.stored ≡ s.stored = ap (λ (t : AgentState B L). t.stored) row.after in
    let none = none_of_no_some (item_beside s.stored (s.front + 1)) (λ x is. no_take (x, is)) in
    record {
      no_ask = λ idle can. let no : Waiting ≡ Idle = sym asking ∙ idle in absurd (cc);
      no_take = rw (front, stored) none;
      no_turn = λ own. let no : Waiting ≡ Granted (s'.front + 1) = sym asking ∙ own in absurd (cc);
    }
asked_rests m pick way i s s' (Arrived link stamped drew) out kind row no_take = absurd kind
asked_rests m pick way i s s' (Took n place) out kind row no_take = absurd kind
asked_rests m pick way i s s' (Turned n place content) out kind row no_take = absurd kind
asked_rests m pick way i s s' (Passed n) out kind row no_take = absurd kind
asked_rests m pick way i s s' (Stray link stamped) out kind row no_take = absurd kind

pub rests_having_asked : {B L : Type 0} (m : Meaning B L) (old new : Member B L) (before after : Lists L) →
    MadeAsk m old new before after → (CanTake old.actor.state → ⊥) → AgentRests m new.actor.state
rests_having_asked m old new before after made no_take =
    asked_rests m old.pick (way_of old.plan old.number) old.number old.actor.state new.actor.state
    made.0.entry.deed made.0.sends made.1 made.0.row no_take

-- Where it has taken and turned all and then asked, if it could, it has settled.
pub settles_by : {B L : Type 0} (m : Meaning B L) (old mid new : Member B L) (before now after : Lists L) (r : Bool) →
    SameMember old mid → GoesOnBy m (count_left old) old mid before now →
    MatchBool r (MadeAsk m mid new now after) (CanAsk m mid.actor.state → ⊥) →
    OnFalse r ((new ≡ mid) × SameLists now after) → GoesOnBy m (most_micro_steps old) old new before after
settles_by m old mid new before now after true same was made stays =
    let few = few_turns old.actor.state.asking in
    goes_on_by_more m (count_left old + 1) (most_micro_steps old) old new before after (omega arith)
    (goes_on_by_one m (count_left old) old mid new before now after same was made.0)
settles_by m old mid new before now after false same was made stays =
    let few = few_turns old.actor.state.asking in
    subst (λ a. GoesOnBy m (most_micro_steps old) old a before after) (sym stays.0)
    (goes_on_by_more m (count_left old) (most_micro_steps old) old mid before after (omega arith)
    (goes_on_there m (count_left old) old mid before now after was stays.1))

-- Then it rests.
pub rests_then : {B L : Type 0} (m : Meaning B L) (mid new : Member B L) (now after : Lists L) (r : Bool) →
    MatchBool r (MadeAsk m mid new now after) (CanAsk m mid.actor.state → ⊥) →
    OnFalse r ((new ≡ mid) × SameLists now after) →
    (CanTake mid.actor.state → ⊥) → (CanTurn mid.actor.state → ⊥) → AgentRests m new.actor.state
rests_then m mid new now after true made stays no_take no_turn =
    rests_having_asked m mid new now after made no_take
rests_then {B} {L} m mid new now after false made stays no_take no_turn =
    subst (λ (a : Member B L). AgentRests m a.actor.state) (sym stays.0)
    (rests_where m mid.actor.state made no_take no_turn)
