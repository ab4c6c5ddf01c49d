-- An agent goes on by one more micro-step.
use Rattle.std.proofs.Common.{◌≡◌, ℕ, ◌+◌, ◌≤◌, max, List, [], ◌∷◌, ◌++◌, length, refl, sym, ap, ◌∙◌, subst, arith}
use Rattle.std.proofs.Common.{append-nil, append_assoc, length-append}
use Rattle.std.proofs.lemmas.List.Elements.{All-nil, All-push}
use Rattle.abc_packet.specs.declared.packets.Packet.{Packet}
use Rattle.abc_packet.specs.declared.log.Deed.{Deed}
use Rattle.abc_packet.specs.declared.log.Deed.TheVariants.{Asked, Arrived, Took, Turned, Passed, Stray}
use Rattle.abc_packet.specs.Outlets.{Lists, SameLists}
use Rattle.abc_packet.proofs.Sendings.{Sends-append}
use Rattle.abc_body.specs.Meanings.{Meaning}
use Rattle.abc_network.specs.Agents.{AgentState, AgentDoes}
use Rattle.abc_network.specs.Networks.{Actor, taken_clock}
use Rattle.abc_logs.specs.MicroSteps.{Table, Makes, taken_by, stamped_with}
use Rattle.abc_logs.proofs.GoingOn.{path-then-step, clock-of-last}
use Rattle.abc_agent.specs.Ways.{way_of}
use Rattle.abc_agent.specs.Members.{Member, SameMember, Made, MadeTakeOrTurn, IsTakeOrTurn, table_of}
use Rattle.abc_agent.specs.Settlings.{GoesOnBy, count_left, turns_left}

-- The same agent, and again the same, is the same.
pub same_member_again : {B L : Type 0} (a b c : Member B L) → SameMember a b → SameMember b c → SameMember a c
same_member_again a b c first second = record {
  plan = second.plan ∙ first.plan;
  number = second.number ∙ first.number;
  pick = second.pick ∙ first.pick;
}

-- The same agent has the same table.
row_again : {B L : Type 0} (m : Meaning B L) (old mid : Member B L) (s s' : AgentState B L) (d : Deed L)
    (out : List (ℕ × Packet L)) → SameMember old mid → table_of m mid s d out s' → table_of m old s d out s'
row_again m old mid s s' d out same row =
    subst (λ p. AgentDoes m p (way_of old.plan old.number) old.number s d out s') same.pick
    (subst (λ i. AgentDoes m mid.pick (way_of old.plan i) i s d out s') same.number
    (subst (λ p. AgentDoes m mid.pick (way_of p mid.number) mid.number s d out s') same.plan row))

-- No micro-step was made.
pub goes_on_by_none : {B L : Type 0} (m : Meaning B L) (most : ℕ) (a : Member B L) (before after : Lists L) →
    SameLists before after → GoesOnBy m most a a before after
goes_on_by_none m most a before after same = record {
  entries = [];
  sent = [];
  path = (refl, refl);
  log = sym (append-nil a.actor.log);
  clock = refl;
  no_arrival = All-nil (λ e. taken_by e.deed ≡ []);
  few = omega arith;
  lists = λ link. same link ∙ sym (append-nil (before link));
}

-- One more was made.
pub goes_on_by_one : {B L : Type 0} (m : Meaning B L) (most : ℕ) (old mid new : Member B L)
    (before now after : Lists L) → SameMember old mid → GoesOnBy m most old mid before now →
    Made m [] mid new now after → GoesOnBy m (most + 1) old new before after
goes_on_by_one m most old mid new before now after same was step =
    let e = step.entry in
    let more = stamped_with e.clock step.sends in
    record {
      entries = was.entries ++ e ∷ [];
      sent = was.sent ++ more;
      path = path-then-step (table_of m old) old.actor.state old.actor.clock was.entries was.sent
          mid.actor.state e step.sends new.actor.state was.path
          (row_again m old mid mid.actor.state new.actor.state e.deed step.sends same step.row)
          (step.logs.0 ∙ ap (λ c. max c (taken_clock e.deed) + 1) was.clock);
      log = step.logs.2
          ∙ (ap (λ l. l ++ e ∷ []) was.log ∙ append_assoc old.actor.log was.entries (e ∷ []));
      clock = step.logs.1 ∙ sym (clock-of-last old.actor.clock was.entries e);
      no_arrival = All-push (λ x. taken_by x.deed ≡ []) was.entries e was.no_arrival step.took;
      few = let l = length-append was.entries (e ∷ []) in let f = was.few in omega arith;
      lists = Sends-append before now after was.sent more was.lists step.lists;
    }

-- At most so many are at most more.
pub goes_on_by_more : {B L : Type 0} (m : Meaning B L) (few most : ℕ) (old new : Member B L)
    (before after : Lists L) → few ≤ most → GoesOnBy m few old new before after →
    GoesOnBy m most old new before after
goes_on_by_more m few most old new before after small was = record {
  entries = was.entries;
  sent = was.sent;
  path = was.path;
  log = was.log;
  clock = was.clock;
  no_arrival = was.no_arrival;
  few = let f = was.few in omega arith;
  lists = was.lists;
}

-- A deed that takes nothing has no packet's clock.
none_taken : {L : Type 0} (d : Deed L) → taken_by d ≡ [] → taken_clock d ≡ 0
none_taken Asked took = refl
none_taken (Arrived link stamped drew) took = absurd (cc)
none_taken (Took n place) took = refl
none_taken (Turned n place content) took = refl
none_taken (Passed n) took = refl
none_taken (Stray link stamped) took = absurd (cc)

-- Where a micro-step takes nothing, the clock rises by one.
pub clock_rises : {S L : Type 0} (does : Table S L) (old new : Actor S L) (before after : Lists L) →
    Makes does [] old new before after → new.clock ≡ old.clock + 1
clock_rises does old new before after step =
    let none = none_taken step.entry.deed step.took in
    let (rises, clocked, grown) = step.logs in
    omega arith

-- A number that is taken or turned is left no more.
one_less : {B L : Type 0} (m : Meaning B L) (pick : ℕ) (way : ℕ → ℕ) (i : ℕ) (s s' : AgentState B L)
    (d : Deed L) (out : List (ℕ × Packet L)) → IsTakeOrTurn d → AgentDoes m pick way i s d out s' →
    length s'.stored + turns_left s'.asking + 1 ≡ length s.stored + turns_left s.asking
one_less m pick way i s s' Asked out kind row = absurd kind
one_less m pick way i s s' (Arrived link stamped drew) out kind row = absurd kind
one_less {B} {L} m pick way i s s' (Took n place) out kind row =
    let count = row.loses.count in
    let asking = ap (λ (t : AgentState B L). turns_left t.asking) row.after in
    omega arith
one_less {B} {L} m pick way i s s' (Turned n place content) out kind row =
    let stored = ap (λ (t : AgentState B L). length t.stored) row.after in
    let asking = ap (λ (t : AgentState B L). turns_left t.asking) row.after in
    let own = ap turns_left row.granted in
    omega arith
one_less m pick way i s s' (Passed n) out kind row = absurd kind
one_less m pick way i s s' (Stray link stamped) out kind row = absurd kind

pub count_falls : {B L : Type 0} (m : Meaning B L) (old new : Member B L) (before after : Lists L) →
    MadeTakeOrTurn m old new before after → count_left new + 1 ≡ count_left old
count_falls m old new before after made =
    one_less m old.pick (way_of old.plan old.number) old.number old.actor.state new.actor.state
    made.0.entry.deed made.0.sends made.1 made.0.row
