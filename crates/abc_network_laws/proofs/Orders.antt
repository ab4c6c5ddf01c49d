-- Each agent takes the numbers 1, 2 and so on up to its front, in this order.
use Rattle.std.proofs.Common.{◌≡◌, ℕ, zero, suc, ◌+◌, List, [], ◌∷◌, ◌++◌, length, map, refl}
use Rattle.std.proofs.Common.{sym, ap, ◌∙◌, subst, arith, inl, inr}
use Rattle.std.specs.Prelude.{Some, slice_get}
use Rattle.abc_value.specs.declared.grant.Grant.{Grant}
use Rattle.abc_value.specs.declared.grant.Grant.TheVariants.{Closed, Number}
use Rattle.abc_packet.specs.declared.packets.Packet.{Packet}
use Rattle.abc_packet.specs.declared.packets.Packet.TheVariants.{Message, Reply, Request}
use Rattle.abc_packet.specs.declared.log.Deed.{Deed}
use Rattle.abc_packet.specs.declared.log.Deed.TheVariants.{Arrived, Asked, Passed, Stray, Took}
use Rattle.abc_packet.specs.declared.log.Deed.TheVariants.{Turned}
use Rattle.abc_packet.specs.declared.log.Entry.{Entry}
use Rattle.abc_body.specs.Meanings.{Meaning}
use Rattle.abc_network.specs.Agents.{AgentDoes, AgentState, AgentTakes, IsGranted}
use Rattle.abc_network.specs.Networks.{Actor, AgentDid, AgentStep, Event, Net, Netrun, NodeDid}
use Rattle.abc_network.specs.Networks.{Rules, start_of, starting}
use Rattle.abc_network.specs.Numbering.{taken_number, taken_numbers}
use Rattle.abc_network_laws.specs.Simulation.{Counts}
use Rattle.abc_network_laws.proofs.Lists.{swap-old, swap-get}
use Rattle.abc_network_laws.proofs.Steps.{append-nil, append-append}

-- One number more counts on.
counts-push : (k n : ℕ) (ns : List ℕ) → Counts k ns → n ≡ k + length ns + 1 →
    Counts k (ns ++ n ∷ [])
counts-push k n [] h e = (let z : n ≡ k + 1 = omega arith in z, tt)
counts-push k n (x ∷ xs) h e = (
  h.0,
  counts-push (k + 1) n xs h.1 (let z : n ≡ k + suc (length xs) + 1 = e in omega arith),
)

-- A list with one number more is one longer.
length-one : (ns : List ℕ) (n : ℕ) → length (ns ++ n ∷ []) ≡ length ns + 1
length-one [] n = refl
length-one (x ∷ xs) n = let e = length-one xs n in omega arith

-- The numbers of a log with one entry more.
taken-append : {L : Type 0} (es fs : List (Entry L)) →
    taken_numbers (es ++ fs) ≡ taken_numbers es ++ taken_numbers fs
taken-append [] fs = refl
taken-append (e ∷ es) fs = ap (λ v. taken_number e.deed ++ v) (taken-append es fs)
    ∙ sym (append-append (taken_number e.deed) (taken_numbers es) (taken_numbers fs))

-- A log with one entry more has the number of that entry more.
taken-push : {L : Type 0} (es : List (Entry L)) (e : Entry L) →
    taken_numbers (es ++ e ∷ []) ≡ taken_numbers es ++ taken_number e.deed
taken-push es e = taken-append es (e ∷ [])
    ∙ ap (λ v. taken_numbers es ++ v) (append-nil (taken_number e.deed))

-- The numbers of a log count from 1 on up to the front.
abbrev Ordered : List ℕ → ℕ → Type 0
Ordered ns front = Counts 0 ns × (length ns ≡ front)

-- Nothing is taken, and the front stays,
order-same : (ns : List ℕ) (front front' : ℕ) → front' ≡ front → Ordered ns front →
    Ordered (ns ++ []) front'
order-same ns front front' e h = (
  subst (Counts 0) (sym (append-nil ns)) h.0,
  ap length (append-nil ns) ∙ (h.1 ∙ sym e),
)

-- or the next number is taken.
order-next : (ns : List ℕ) (n front front' : ℕ) → n ≡ front + 1 → front' ≡ n → Ordered ns front →
    Ordered (ns ++ n ∷ []) front'
order-next ns n front front' e is h =
    let long = h.1 in let more = length-one ns n in
    (counts-push 0 n ns h.0 (omega arith), omega arith)

module _ {B L : Type 0} (m : Meaning B L) (pick : ℕ) (way : ℕ → ℕ) (i : ℕ) where
  -- No arrival moves the front.
  granted-front : (s s' : AgentState B L) (g : Grant) → IsGranted s g s' → s'.front ≡ s.front
  granted-front s s' (Number n) h = ap (λ v. v.front) h.2
  granted-front s s' Closed h = ap (λ v. v.front) h

  -- The same for each packet that an agent takes.
  takes-front : (s s' : AgentState B L) (p : Packet L) → AgentTakes i s p s' → s'.front ≡ s.front
  takes-front s s' (Request a) h = absurd h
  takes-front s s' (Reply a g) h = granted-front s s' g h.2
  takes-front s s' (Message n sender content) h = ap (λ v. v.front) h.after

  -- Each row keeps the order.
  deed-order : (ns : List ℕ) (s s' : AgentState B L) (d : Deed L) (sends : List (ℕ × Packet L)) →
      AgentDoes m pick way i s d sends s' → Ordered ns s.front →
      Ordered (ns ++ taken_number d) s'.front
  deed-order ns s s' Asked sends h o = order-same ns s.front s'.front (ap (λ v. v.front) h.after) o
  deed-order ns s s' (Arrived l x drew) sends h o =
      order-same ns s.front s'.front (takes-front s s' x.packet h.2) o
  deed-order ns s s' (Stray l x) sends h o =
      order-same ns s.front s'.front (ap (λ v. v.front) h.2) o
  deed-order ns s s' (Took n place) sends h o =
      order-next ns n s.front s'.front h.next (ap (λ v. v.front) h.after) o
  deed-order ns s s' (Turned n place content) sends h o =
      order-next ns n s.front s'.front h.next (ap (λ v. v.front) h.after) o
  deed-order ns s s' (Passed n) sends h o = absurd h

-- All agents are in order.
abbrev AllOrdered : {B L N : Type 0} → Net B L N → Type 0
AllOrdered {B} {L} w = (i : ℕ) (a : Actor (AgentState B L) L) → slice_get w.agents i ≡ Some a →
    Ordered (taken_numbers a.log) a.state.front

-- So they are at the start,
start-ordered : {B L : Type 0} (bodies : List B) (i : ℕ) (a : Actor (AgentState B L) L) →
    slice_get (map starting bodies) i ≡ Some a → Ordered (taken_numbers a.log) a.state.front
start-ordered [] i a h = absurd (cc)
start-ordered {B} {L} (b ∷ bs) zero a h =
    let e : starting {L = L} b ≡ a = cc in
    subst (λ (v : Actor (AgentState B L) L). Ordered (taken_numbers v.log) v.state.front) e
    (tt, refl)
start-ordered (b ∷ bs) (suc i) a h = start-ordered bs i a h

module _ {B L N : Type 0} (m : Meaning B L) (r : Rules L N) where
  -- after each step of an agent,
  agent-ordered : (w w' : Net B L N) (i : ℕ) (e : Entry L) → AgentStep m r w i e w' →
      AllOrdered w → AllOrdered w'
  agent-ordered w w' i e s o j a at = elim (swap-get i s.old s.new w.agents w'.agents s.at j a at) [
    | inl p ↦ (
        let was = o i s.old (swap-old i s.old s.new w.agents w'.agents s.at) in
        let now = deed-order m r.pick (r.way i) i
        (taken_numbers s.old.log) s.old.state s.new.state e.deed s.sends s.row was in
        let log : taken_numbers s.new.log ≡ taken_numbers s.old.log ++ taken_number e.deed =
        ap taken_numbers s.logs.2 ∙ taken-push s.old.log e in
        subst (λ (v : Actor (AgentState B L) L). Ordered (taken_numbers v.log) v.state.front)
        (sym p.1) (subst (λ v. Ordered v s.new.state.front) (sym log) now))
    | inr q ↦ o j a q.1
  ]

  -- and after each run.
  pub ordered-run : (es : List (Event L)) (w w' : Net B L N) → Netrun m r w es w' → AllOrdered w →
      AllOrdered w'
  ordered-run [] w w' run o = subst (λ (v : Net B L N). AllOrdered v) (sym run) o
  ordered-run (AgentDid i e ∷ es) w w' run o =
      ordered-run es run.0 w' run.2 (agent-ordered w run.0 i e run.1 o)
  ordered-run (NodeDid k e ∷ es) w w' run o =
      let s = run.1 in ordered-run es run.0 w' run.2
      (λ j a at. o j a (subst (λ v. slice_get v j ≡ Some a) s.rest at))

  -- So all agents are in order in every run from the start.
  pub in-order : (bodies : List B) (es : List (Event L)) (w' : Net B L N) →
      Netrun m r (start_of r bodies) es w' → AllOrdered w'
  in-order bodies es w' run = ordered-run es (start_of r bodies) w' run
      (λ i a at. start-ordered bodies i a at)
