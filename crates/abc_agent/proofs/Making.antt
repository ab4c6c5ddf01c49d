-- One micro-step, put together from what the state, the journal and the outlet did.
use Rattle.std.proofs.Common.{◌≡◌, ℕ, ◌+◌, max, List, [], ◌∷◌, ◌++◌, refl, sym, ap, ◌∙◌, subst, append-nil, arith}
use Rattle.std.specs.Prelude.{Bool, true, false, Option, MatchBool}
use Rattle.std.specs.Bool.{OnFalse}
use Rattle.abc_packet.specs.declared.packets.Content.{Content}
use Rattle.abc_packet.specs.declared.packets.Packet.{Packet}
use Rattle.abc_packet.specs.declared.stamped.Stamped.{Stamped}
use Rattle.abc_packet.specs.declared.log.Deed.{Deed}
use Rattle.abc_packet.specs.Outlets.{Lists, Sends, SameLists, sent_on}
use Rattle.abc_body.specs.Meanings.{Meaning}
use Rattle.abc_network.specs.Agents.{AgentState, AgentDoes, AgentTakes, Asks, Turns}
use Rattle.abc_network.specs.Networks.{taken_clock}
use Rattle.abc_logs.specs.MicroSteps.{Table, Makes, taken_by, stamped_with}
use Rattle.abc_agent.specs.Journals.{JournalState, SameEntries, Enters, arrival_of}

-- Nothing was sent where the lists stay.
pub sends_nothing : {L : Type 0} (before after : Lists L) → SameLists before after → Sends before [] after
sends_nothing before after same = λ link. same link ∙ sym (append-nil (before link))

-- One packet was sent, on its link and with its clock.
pub sends_one : {L : Type 0} (before between after : Lists L) (link way clock : ℕ) (stamped : Stamped L)
    (packet : Packet L) →
    SameLists before between → Sends between ((link, stamped) ∷ []) after →
    link ≡ way → stamped.clock ≡ clock → stamped.packet ≡ packet →
    Sends before (stamped_with clock ((way, packet) ∷ [])) after
sends_one {L} before between after link way clock stamped packet same sends to at is =
    let made : ℕ → Packet L → Stamped L = λ c p. record { clock = c; packet = p } in
    let whole = ap (λ c. made c stamped.packet) at ∙ ap (λ p. made clock p) is in
    λ k. subst (λ l. after k ≡ before k ++ sent_on k ((l, record { clock = clock; packet = packet }) ∷ [])) to
    (subst (λ x. after k ≡ before k ++ sent_on k ((link, x) ∷ [])) whole
    (sends k ∙ ap (λ q. q ++ sent_on k ((link, stamped) ∷ [])) (same k)))

-- The state goes by a row of the table, the deed is logged, and what the row says is sent.
abbrev pub makes_by : {S L : Type 0} (does : Table S L) (taken : List (ℕ × Stamped L)) (s s' : S)
    (old between new : JournalState L) (deed : Deed L) (sends : List (ℕ × Packet L))
    (before after : Lists L) →
    does s deed sends s' → SameEntries old between → Enters between deed new → taken_by deed ≡ taken →
    Sends before (stamped_with new.clock sends) after →
    Makes does taken (record { state = s; clock = old.clock; log = old.entries })
    (record { state = s'; clock = new.clock; log = new.entries }) before after
makes_by does taken s s' old between new deed sends before after row same enters took sent = record {
  entry = record { clock = new.clock; deed = deed };
  sends = sends;
  row = row;
  logs = (
    enters.clock ∙ ap (λ c. max c (taken_clock deed) + 1) same.clock,
    refl,
    enters.entries ∙ ap (λ l. l ++ record { clock = new.clock; deed = deed } ∷ []) same.entries,
  );
  took = took;
  lists = sent;
}

-- A request raises the count of packets by one,
pub packets-of_ask : {B L : Type 0} (m : Meaning B L) (way : ℕ → ℕ) (i : ℕ) (s s' : AgentState B L)
    (out : List (ℕ × Packet L)) → Asks m way i s out s' → s'.packets ≡ s.packets + 1
packets-of_ask {B} {L} m way i s s' out asks = ap (λ (t : AgentState B L). t.packets) asks.after

-- and so does a turn.
pub packets-of_turn : {B L : Type 0} (m : Meaning B L) (pick : ℕ) (way : ℕ → ℕ) (i : ℕ) (s s' : AgentState B L)
    (n : ℕ) (place : Option ℕ) (content : Content L) (out : List (ℕ × Packet L)) →
    Turns m pick way i s n place content out s' → s'.packets ≡ s.packets + 1
packets-of_turn {B} {L} m pick way i s s' n place content out turns =
    ap (λ (t : AgentState B L). t.packets) turns.after

-- A deed that takes nothing raises the clock by one.
pub clock-of_entry : {L : Type 0} (old between new : JournalState L) (deed : Deed L) → SameEntries old between →
    Enters between deed new → taken_clock deed ≡ 0 → new.clock ≡ old.clock + 1
clock-of_entry old between new deed same enters none =
    let clock = enters.clock in let as_before = same.clock in omega arith

-- What a packet that arrives does to the state is a row of the table.
pub row-of_arrival : {B L : Type 0} (m : Meaning B L) (pick : ℕ) (way : ℕ → ℕ) (i : ℕ) (s s' : AgentState B L)
    (link : ℕ) (stamped : Stamped L) (packet : Packet L) (fits : Bool) → packet ≡ stamped.packet →
    MatchBool fits (AgentTakes i s packet s') ((t : AgentState B L) → AgentTakes i s packet t → ⊥) →
    OnFalse fits (s' ≡ s) → AgentDoes m pick way i s (arrival_of fits link stamped) [] s'
row-of_arrival m pick way i s s' link stamped packet true is takes stays =
    (refl, refl, subst (λ p. AgentTakes i s p s') is takes)
row-of_arrival {B} {L} m pick way i s s' link stamped packet false is takes stays =
    (subst (λ p. (t : AgentState B L) → AgentTakes i s p t → ⊥) is takes, refl, stays)

-- An arrival takes its packet.
pub taken_by-of_arrival : {L : Type 0} (fits : Bool) (link : ℕ) (stamped : Stamped L) →
    taken_by (arrival_of fits link stamped) ≡ (link, stamped) ∷ []
taken_by-of_arrival true link stamped = refl
taken_by-of_arrival false link stamped = refl
