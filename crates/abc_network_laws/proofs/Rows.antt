-- What the rows of the agent's table keep.
use Rattle.std.proofs.Common.{◌≡◌, ℕ, ◌+◌, ◌≤◌, List, [], ◌∷◌, ◌++◌, length, ap, subst, arith, inl}
use Rattle.std.proofs.Common.{inr}
use Rattle.std.specs.Prelude.{Option}
use Rattle.abc_network.specs.Agents.{AgentDoes, AgentState, AgentTakes, Granted, IsGranted}
use Rattle.abc_network_laws.specs.Kept.{AgentKept, Says, Stores, holds, sends_number, total}
use Rattle.abc_packet.specs.declared.log.Deed.TheVariants.{Arrived, Asked, Passed, Stray, Took}
use Rattle.abc_packet.specs.declared.log.Deed.TheVariants.{Turned}
use Rattle.abc_value.specs.declared.grant.Grant.TheVariants.{Closed, Number}
use Rattle.abc_packet.specs.declared.packets.Content.{Content}
use Rattle.abc_packet.specs.declared.log.Deed.{Deed}
use Rattle.abc_value.specs.declared.grant.Grant.{Grant}
use Rattle.abc_network_laws.specs.Counts.{IfMessage, replies_number, taken_packets, turns_number}
use Rattle.abc_body.specs.Meanings.{Meaning}
use Rattle.abc_packet.specs.declared.packets.Packet.TheVariants.{Message, Reply, Request}
use Rattle.abc_packet.specs.declared.packets.Packet.{Packet}
use Rattle.abc_network.specs.Numbering.{Turn}
use Rattle.abc_network_laws.proofs.Lists.{get-more, get-last}
use Rattle.abc_network_laws.proofs.Columns.{lives-more}

module _ {B L : Type 0} (m : Meaning B L) (pick : ℕ) (way : ℕ → ℕ) (i : ℕ) where
  -- A reply gives its number to the agent.
  grants-live : (n : ℕ) (s s' : AgentState B L) (g : Grant) → IsGranted s g s' →
      holds n s'.asking ≤ holds n s.asking + replies_number {L = L} n (Reply i g)
  grants-live n s s' (Number k) h = let a : holds n s'.asking ≡ holds n (Granted k) =
      ap (λ v. holds n v.asking) h.2 in omega arith
  grants-live n s s' Closed h = let a : holds n s'.asking ≡ 0 = ap (λ v. holds n v.asking) h in
      omega arith

  -- What an agent takes brings no number but that of a reply.
  takes-live : (n : ℕ) (s s' : AgentState B L) (p : Packet L) → AgentTakes i s p s' →
      holds n s'.asking ≤ holds n s.asking + replies_number n p
  takes-live n s s' (Request agent) h = absurd h
  takes-live n s s' (Reply agent g) h = grants-live n s s' g h.2
  takes-live n s s' (Message k sender content) h = let a : holds n s'.asking ≡ holds n s.asking =
      ap (λ v. holds n v.asking) h.after in omega arith

  -- Each row keeps how many have a number, and a turn spends it.
  pub agent-live : (n : ℕ) (s s' : AgentState B L) (d : Deed L) (sends : List (ℕ × Packet L)) →
      AgentDoes m pick way i s d sends s' →
      turns_number n d + (holds n s'.asking + total (sends_number n) sends) ≤ holds n s.asking
      + total (replies_number n) (taken_packets d)
  agent-live n s s' Asked sends h =
      let a : holds n s'.asking ≡ 0 = ap (λ v. holds n v.asking) h.after in
      let b : total (sends_number n) sends ≡ 0 = ap (total (sends_number n)) h.sends in omega arith
  agent-live n s s' (Arrived link stamped drew) sends h =
      let a = takes-live n s s' stamped.packet h.2 in
      let b : total (sends_number n) sends ≡ 0 = ap (total (sends_number n)) h.1 in omega arith
  agent-live n s s' (Stray link stamped) sends h =
      let a : holds n s'.asking ≡ holds n s.asking = ap (λ v. holds n v.asking) h.2 in
      let b : total (sends_number n) sends ≡ 0 = ap (total (sends_number n)) h.1 in omega arith
  agent-live n s s' (Took k place) sends h =
      let a : holds n s'.asking ≡ holds n s.asking = ap (λ v. holds n v.asking) h.after in
      let b : total (sends_number n) sends ≡ 0 = ap (total (sends_number n)) h.sends in omega arith
  agent-live n s s' (Turned k place content) sends h =
      let a : holds n s'.asking ≡ 0 = ap (λ v. holds n v.asking) h.after in
      let c : holds n s.asking ≡ holds n (Granted k) = ap (holds n) h.granted in
      let b : total (sends_number n) sends ≡ 0 = ap (total (sends_number n)) h.sends in omega arith
  agent-live n s s' (Passed k) sends h = absurd h

-- What was turned was turned also after more turns,
pub says-more : {L : Type 0} (ts us : List (Turn L)) (n sender : ℕ) (content : Content L) →
    Says ts n sender content → Says (ts ++ us) n sender content
says-more ts us n sender content h = (h.0, h.1, h.2, get-more ts us h.0 h.1 h.3, h.4, h.5)

-- and a message that says it says it still,
pub if-says-more : {L : Type 0} (ts us : List (Turn L)) (p : Packet L) → IfMessage (Says ts) p →
    IfMessage (Says (ts ++ us)) p
if-says-more ts us (Request agent) h = tt
if-says-more ts us (Reply agent grant) h = tt
if-says-more ts us (Message n sender content) h = says-more ts us n sender content h

-- and a stored one too.
stores-more : {L : Type 0} (ts us : List (Turn L)) (front n : ℕ) (c : Content L) →
    Stores ts front n c → Stores (ts ++ us) front n c
stores-more ts us front n c h = (h.0, h.1, says-more ts us n h.0 c h.2)

-- A list with more is not shorter.
length-grows : {X : Type 0} (xs ys : List X) → length xs ≤ length (xs ++ ys)
length-grows [] ys = omega arith
length-grows (x ∷ xs) ys = let g = length-grows xs ys in omega arith

-- Another agent keeps, whatever is turned.
pub other-kept : {B L : Type 0} (m : Meaning B L) (bodies : List B) (ts : List (Turn L))
    (t : Turn L) (j : ℕ) (s : AgentState B L) (ps : List (Option ℕ)) → (t.sender ≡ j → ⊥) →
    AgentKept m bodies ts j s ps → AgentKept m bodies (ts ++ t ∷ []) j s ps
other-kept m bodies ts t j s ps other h = record {
  within = let g = length-grows ts (t ∷ []) in let w = h.within in omega arith;
  counted = h.counted;
  lives = λ b at. lives-more m j b s.body ts (t ∷ []) ps (h.lives b at);
  own = λ k u at mine. elim (get-last ts t k u at) [
    | inl p ↦ h.own k u p mine
    | inr q ↦ absurd (other (subst (λ v. v.sender ≡ j) q.1 mine))
  ];
  stored = λ n c at. stores-more ts (t ∷ []) s.front n c (h.stored n c at);
}
