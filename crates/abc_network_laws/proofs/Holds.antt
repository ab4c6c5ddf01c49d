-- Every step keeps where the copies are, and so does every run; nothing goes astray.
use Rattle.std.proofs.Common.{◌≡◌, ℕ, zero, suc, ◌+◌, ◌<◌, ◌≤◌, List, [], ◌∷◌, ◌++◌, length, refl}
use Rattle.std.proofs.Common.{sym, ap, ◌∙◌, subst, arith, inl, inr}
use Rattle.std.specs.Prelude.{Option, Some, None, slice_get, ◌⊎◌, ◌==◌, if◌then◌else◌}
use Rattle.std.proofs.lemmas.Bool.{cases_eq, cases_lt}
use Rattle.abc_network.specs.Networks.{Actor, AgentDid, AgentStep, Draws, EndsAtAgent, EndsAtNode}
use Rattle.abc_network.specs.Networks.{Event, FirstTaken, Net, Netrun, NodeDid, NodeStep, Rules}
use Rattle.abc_network.specs.Networks.{drawn_in, put_on, sent, times}
use Rattle.abc_network.specs.Agents.{AgentDoes, AgentState, AgentTakes, Asking, Granted, Idle, Shut}
use Rattle.abc_network.specs.Agents.{Waiting}
use Rattle.abc_network_laws.specs.Kept.{AgentKept, Each, Kept, Relays, holds, holds_number, live}
use Rattle.abc_network_laws.specs.Kept.{on_link, total}
use Rattle.abc_packet.specs.declared.log.Deed.TheVariants.{Arrived, Asked, Passed, Stray, Took}
use Rattle.abc_packet.specs.declared.log.Deed.TheVariants.{Turned}
use Rattle.abc_network_laws.specs.Flows.{Carries, EachOn, Flow, Goal, NotStray, Placed, ToAgent}
use Rattle.abc_network_laws.specs.Flows.{Ways, asks, asks_on, copies, deed_of, grants, not_waiting}
use Rattle.abc_network_laws.specs.Charges.{charge, of_packets, on_links, over, taken_at}
use Rattle.abc_value.specs.declared.grant.Grant.TheVariants.{Closed, Number}
use Rattle.abc_packet.specs.declared.log.Deed.{Deed}
use Rattle.abc_packet.specs.declared.log.Entry.{Entry}
use Rattle.abc_value.specs.declared.grant.Grant.{Grant}
use Rattle.abc_network_laws.specs.Counts.{IfTurned, draws_number, replies_number, taken_packets}
use Rattle.abc_network_laws.specs.Counts.{turns_number, with_turn}
use Rattle.abc_body.specs.Meanings.{Meaning}
use Rattle.abc_packet.specs.declared.packets.Packet.TheVariants.{Message, Reply, Request}
use Rattle.abc_packet.specs.declared.packets.Packet.{Packet}
use Rattle.abc_packet.specs.declared.stamped.Stamped.{Stamped}
use Rattle.abc_network.specs.Numbering.{Turn, places_of, turns_of}
use Rattle.abc_network_laws.proofs.Lists.{each-map, each-append, swap-old, swap-get, swap-length}
use Rattle.abc_network_laws.proofs.Lists.{get-within, length-push}
use Rattle.abc_network_laws.proofs.Steps.{draws-none, draws-times, live-agent, append-nil}
use Rattle.abc_network_laws.proofs.Keeps.{keeps-agent, keeps-node, ready-of, with-turns-in}
use Rattle.abc_network_laws.proofs.Accounts.{exact-agent, exact-node, length-put}
use Rattle.abc_network_laws.proofs.Astray.{swap-on, none-astray, none-astray-node}
use Rattle.abc_network_laws.proofs.Places.{agent-copies, born, bit-yes, bit-no}

-- Two sums that are the same, each part of which counts for agent a alone.
bits : (i a p q u v : ℕ) → p + q ≡ u + v → (i ≡ a) ⊎ (i ≡ a → ⊥) →
    (if i == a then p else 0) + (if i == a then q else 0)
    ≡ (if i == a then u else 0) + (if i == a then v else 0)
bits i a p q u v e (inl s) = let b = bit-yes i a p s in let c = bit-yes i a q s in
    let d = bit-yes i a u s in let g = bit-yes i a v s in omega arith
bits i a p q u v e (inr s) = let b = bit-no i a p s in let c = bit-no i a q s in
    let d = bit-no i a u s in let g = bit-no i a v s in omega arith

-- Nothing, whether it counts or not.
zero-bit : (i a : ℕ) → (let u : ℕ = if i == a then 0 else 0 in u) ≡ 0
zero-bit i a = elim (cases_eq i a) [ inl s ↦ bit-yes i a 0 s | inr s ↦ bit-no i a 0 s ]

module _ {B L : Type 0} (m : Meaning B L) (pick : ℕ) (way : ℕ → ℕ) (i : ℕ) where
  -- What counts for agent a at this agent.
  abbrev ask : ℕ → AgentState B L → ℕ
  ask a s = if i == a then not_waiting s.asking else 0

  -- It is known where it is known how the agent asks.
  ask-at : (a : ℕ) (s : AgentState B L) (v : Asking) → s.asking ≡ v →
      ask a s ≡ (if i == a then not_waiting v else 0)
  ask-at a s v e = ap (λ u. if i == a then not_waiting u else 0) e

  -- A request or a reply is taken where it counts, and nothing else changes it.
  takes-asks : (a l : ℕ) (s s' : AgentState B L) (p : Packet L) → AgentTakes i s p s' →
      ask a s' ≡ asks_on a l p + ask a s
  takes-asks a l s s' (Request agent) h = absurd h
  takes-asks a l s s' (Reply agent (Number k)) h =
      let b = ask-at a s' (Granted k) (ap (λ v. v.asking) h.2.2) in
      let c = ask-at a s Waiting h.1 in
      let e : asks_on {L = L} a l (Reply agent (Number k)) ≡ (if i == a then 1 else 0) =
      ap (λ v. if v == a then 1 else 0) h.0 in
      let z = zero-bit i a in omega arith
  takes-asks a l s s' (Reply agent Closed) h =
      let b = ask-at a s' Shut (ap (λ v. v.asking) h.2) in let c = ask-at a s Waiting h.1 in
      let e : asks_on {L = L} a l (Reply agent Closed) ≡ (if i == a then 1 else 0) =
      ap (λ v. if v == a then 1 else 0) h.0 in
      let z = zero-bit i a in omega arith
  takes-asks a l s s' (Message k sender content) h = let b =
      ask-at a s' s.asking (ap (λ v. v.asking) h.after) in omega arith

  -- Each row keeps the one request or reply of each agent.
  pub agent-asks : (a : ℕ) (s s' : AgentState B L) (d : Deed L) (sends : List (ℕ × Packet L)) →
      AgentDoes m pick way i s d sends s' → NotStray d →
      of_packets (asks_on a) sends + ask a s' ≡ of_packets (asks_on a) (taken_at d) + ask a s
  agent-asks a s s' Asked sends h ok =
      let e : of_packets (asks_on a) sends ≡ (if i == a then 1 else 0) + 0 =
      ap (of_packets (asks_on a)) h.sends in
      let b = ask-at a s' Waiting (ap (λ v. v.asking) h.after) in let c = ask-at a s Idle h.idle in
      let z = zero-bit i a in omega arith
  agent-asks a s s' (Arrived l x drew) sends h ok =
      let e : of_packets (asks_on a) sends ≡ 0 = ap (of_packets (asks_on a)) h.1 in
      let b = takes-asks a l s s' x.packet h.2 in omega arith
  agent-asks a s s' (Stray l x) sends h ok = absurd ok
  agent-asks a s s' (Took k place) sends h ok =
      let e : of_packets (asks_on a) sends ≡ 0 = ap (of_packets (asks_on a)) h.sends in
      let b = ask-at a s' s.asking (ap (λ v. v.asking) h.after) in omega arith
  agent-asks a s s' (Turned k place content) sends h ok =
      let e : of_packets (asks_on a) sends ≡ 0 = ap (of_packets (asks_on a)) h.sends in
      let b = ask-at a s' Idle (ap (λ v. v.asking) h.after) in
      let c = ask-at a s (Granted k) h.granted in omega arith
  agent-asks a s s' (Passed k) sends h ok = absurd h

  -- A number that comes is the one that the agent then has.
  takes-grants : (n l : ℕ) (s s' : AgentState B L) (p : Packet L) → AgentTakes i s p s' →
      holds n s'.asking ≡ replies_number n p + holds n s.asking
  takes-grants n l s s' (Request agent) h = absurd h
  takes-grants n l s s' (Reply agent (Number k)) h = let b = ap (λ v. holds n v.asking) h.2.2 in
      let c = ap (holds n) h.1 in omega arith
  takes-grants n l s s' (Reply agent Closed) h = let b = ap (λ v. holds n v.asking) h.2 in
      let c = ap (holds n) h.1 in omega arith
  takes-grants n l s s' (Message k sender content) h = let b =
      ap (λ v. holds n v.asking) h.after in omega arith

  -- Each row keeps who has a number, but a turn, which spends it.
  pub agent-grants : (n : ℕ) (s s' : AgentState B L) (d : Deed L) (sends : List (ℕ × Packet L)) →
      AgentDoes m pick way i s d sends s' → NotStray d →
      turns_number n d + (of_packets (λ l p. replies_number n p) sends + holds n s'.asking)
      ≡ of_packets (λ l p. replies_number n p) (taken_at d) + holds n s.asking
  agent-grants n s s' Asked sends h ok =
      let e : of_packets (λ l p. replies_number n p) sends ≡ 0 =
      ap (of_packets (λ l p. replies_number n p)) h.sends in
      let b = ap (λ v. holds n v.asking) h.after in let c = ap (holds n) h.idle in omega arith
  agent-grants n s s' (Arrived l x drew) sends h ok =
      let e : of_packets (λ l p. replies_number n p) sends ≡ 0 =
      ap (of_packets (λ l p. replies_number n p)) h.1 in
      let b = takes-grants n l s s' x.packet h.2 in omega arith
  agent-grants n s s' (Stray l x) sends h ok = absurd ok
  agent-grants n s s' (Took k place) sends h ok =
      let e : of_packets (λ l p. replies_number n p) sends ≡ 0 =
      ap (of_packets (λ l p. replies_number n p)) h.sends in
      let b = ap (λ v. holds n v.asking) h.after in omega arith
  agent-grants n s s' (Turned k place content) sends h ok =
      let e : of_packets (λ l p. replies_number n p) sends ≡ 0 =
      ap (of_packets (λ l p. replies_number n p)) h.sends in
      let b = ap (λ v. holds n v.asking) h.after in let c = ap (holds n) h.granted in omega arith
  agent-grants n s s' (Passed k) sends h ok = absurd h

-- What an agent sends is on a link that is there, and fits.
pub agent-fits : {B L N : Type 0} (m : Meaning B L) (r : Rules L N) (f : Flow L N)
    (ways : Ways f r) (i : ℕ) → i < f.agents →
    (s s' : AgentState B L) (d : Deed L) (sends : List (ℕ × Packet L)) →
    AgentDoes m r.pick (r.way i) i s d sends s' → Each (λ x. (x.0 < f.links) × f.fits x.0 x.1) sends
agent-fits m r f ways i among s s' Asked sends h =
    subst (Each (λ x. (x.0 < f.links) × f.fits x.0 x.1)) (sym h.sends)
    ((ways.there i s.packets among, ways.request i s.packets among), tt)
agent-fits m r f ways i among s s' (Arrived l x drew) sends h =
    subst (Each (λ x. (x.0 < f.links) × f.fits x.0 x.1)) (sym h.1) tt
agent-fits m r f ways i among s s' (Stray l x) sends h =
    subst (Each (λ x. (x.0 < f.links) × f.fits x.0 x.1)) (sym h.1) tt
agent-fits m r f ways i among s s' (Took k place) sends h =
    subst (Each (λ x. (x.0 < f.links) × f.fits x.0 x.1)) (sym h.sends) tt
agent-fits m r f ways i among s s' (Turned k place content) sends h =
    subst (Each (λ x. (x.0 < f.links) × f.fits x.0 x.1)) (sym h.sends) (
      (
        ways.there i s.packets among,
        ways.message i s.packets k content among (let e = h.next in
            omega arith),
      ),
      tt,
    )
agent-fits m r f ways i among s s' (Passed k) sends h = absurd h

-- What all packets on links have, all have with one more that has it.
on-put : {L : Type 0} (F : ℕ → Packet L →
    Type 0) (l : ℕ) (x : Stamped L) (qs : List (List (Stamped L))) → EachOn F qs → F l x.packet →
    EachOn F (put_on l x qs)
on-put F l x [] h p = tt
on-put F zero x (q ∷ qs) h p = (each-append (λ y. F zero y.packet) q (x ∷ []) h.0 (p, tt), h.1)
on-put F (suc l) x (q ∷ qs) h p = (h.0, on-put (λ k. F (suc k)) l x qs h.1 p)

-- The same for packets that are sent.
on-sent : {L : Type 0} (F : ℕ → Packet L →
    Type 0) (clock : ℕ) (sends : List (ℕ × Packet L)) (qs : List (List (Stamped L))) →
    EachOn F qs → Each (λ x. F x.0 x.1) sends → EachOn F (sent clock sends qs)
on-sent F clock [] qs h p = h
on-sent F clock (s ∷ ss) qs h p = on-sent F clock ss
    (put_on s.0 (record { clock = clock; packet = s.1 }) qs)
    (on-put F s.0 (record { clock = clock; packet = s.1 }) qs h p.0) p.1

-- There are as many links as before.
length-sent : {L : Type 0} (clock : ℕ) (sends : List (ℕ × Packet L))
    (qs : List (List (Stamped L))) → length (sent clock sends qs) ≡ length qs
length-sent clock [] qs = refl
length-sent clock (s ∷ ss) qs = length-sent clock ss
    (put_on s.0 (record { clock = clock; packet = s.1 }) qs)
    ∙ length-put s.0 (record { clock = clock; packet = s.1 }) qs

-- What is taken fits, and so does what is left.
pub on-taken : {L : Type 0} (F : ℕ → Packet L → Type 0) (here : ℕ →
    Type 0) (d : Deed L) (links left : List (List (Stamped L))) → FirstTaken here d links left →
    EachOn F links → Each (λ x. here x.0 × F x.0 x.1) (taken_at d) × EachOn F left
    × (length left ≡ length links)
on-taken F here Asked links left h k = (tt, subst (EachOn F) (sym h) k, ap length h)
on-taken F here (Arrived l x drew) links left h k = let g = swap-on F l x h.0 links left h.2 k in
    (((h.1, g.0), tt), g.1, swap-length l (x ∷ h.0) h.0 links left h.2)
on-taken F here (Stray l x) links left h k = let g = swap-on F l x h.0 links left h.2 k in
    (((h.1, g.0), tt), g.1, swap-length l (x ∷ h.0) h.0 links left h.2)
on-taken F here (Took n place) links left h k = (tt, subst (EachOn F) (sym h) k, ap length h)
on-taken F here (Turned n place content) links left h k =
    (tt, subst (EachOn F) (sym h) k, ap length h)
on-taken F here (Passed n) links left h k = (tt, subst (EachOn F) (sym h) k, ap length h)

-- The replies with a number on links, as a charge.
links-live : {L : Type 0} (n : ℕ) (links : List (List (Stamped L))) →
    total (total (on_link n)) links ≡ on_links (λ l p. replies_number n p) links
links-live n [] = refl
links-live n (q ∷ qs) = let e = links-live n qs in omega arith

-- The agents that have a number, as a charge.
agents-live : {B L : Type 0} (n : ℕ) (agents : List (Actor (AgentState B L) L)) →
    total (holds_number n) agents ≡ over (λ i a. holds n a.state.asking) agents
agents-live n [] = refl
agents-live n (a ∷ rest) = let e = agents-live n rest in omega arith

-- A sum of nothing is nothing.
over-none : {X : Type 0} (xs : List X) → over (λ i x. 0) xs ≡ 0
over-none [] = refl
over-none (x ∷ xs) = let e = over-none xs in omega arith

-- Replies and agents that have a number, as a charge.
pub live-is : {B L N : Type 0} (n : ℕ) (w : Net B L N) → live n w ≡ charge (grants n) w
live-is n w = let a = links-live n w.links in let b = agents-live n w.agents in
    let c = over-none w.nodes in omega arith

-- A number comes into being at its turn, and not before.
born-early : {B L : Type 0} (m : Meaning B L) (pick : ℕ) (way : ℕ →
    ℕ) (i : ℕ) (ts : List (Turn L)) (n reached : ℕ) (s s' : AgentState B L) (d : Deed L)
    (sends : List (ℕ × Packet L)) → AgentDoes m pick way i s d sends s' →
    IfTurned d (s.front ≡ length ts) →
    ((n ≤ length (with_turn ts i d)) × (length ts < n) × (born n reached d ≡ reached))
    ⊎ (((length (with_turn ts i d) < n) ⊎ (n ≤ length ts)) × (born n reached d ≡ 0)
    × (turns_number n d ≡ 0))
born-early m pick way i ts n reached s s' Asked sends h ready =
    elim (cases_lt (length ts) n) [
      | inl p ↦ inr (inl p, refl, refl)
      | inr p ↦ inr (inr p, refl, refl)
    ]
born-early m pick way i ts n reached s s' (Arrived l x drew) sends h ready =
    elim (cases_lt (length ts) n) [
      | inl p ↦ inr (inl p, refl, refl)
      | inr p ↦ inr (inr p, refl, refl)
    ]
born-early m pick way i ts n reached s s' (Stray l x) sends h ready =
    elim (cases_lt (length ts) n) [
      | inl p ↦ inr (inl p, refl, refl)
      | inr p ↦ inr (inr p, refl, refl)
    ]
born-early m pick way i ts n reached s s' (Took k place) sends h ready =
    elim (cases_lt (length ts) n) [
      | inl p ↦ inr (inl p, refl, refl)
      | inr p ↦ inr (inr p, refl, refl)
    ]
born-early m pick way i ts n reached s s' (Turned k place content) sends h ready =
    let long = length-push ts (record { sender = i; place = place; content = content }) in
    let next : k ≡ s.front + 1 = h.next in
    elim (cases_eq k n) [
      | inl e ↦ inl (omega arith, omega arith, bit-yes k n reached e)
      | inr e ↦ inr (
        elim (cases_lt (length ts) n) [
          | inl p ↦
              inl (elim (cases_lt (length ts + 1) n) [
                | inl q ↦ omega arith
                | inr q ↦ absurd (e (omega arith))
              ])
          | inr p ↦ inr p
        ],
        bit-no k n reached e,
        bit-no k n 1 e,
      )
    ]
born-early m pick way i ts n reached s s' (Passed k) sends h ready = absurd h

-- A deed takes no turn away.
with-longer : {L : Type 0} (ts : List (Turn L)) (i : ℕ) (d : Deed L) →
    length ts ≤ length (with_turn ts i d)
with-longer ts i Asked = omega arith
with-longer ts i (Arrived l x drew) = omega arith
with-longer ts i (Stray l x) = omega arith
with-longer ts i (Took n place) = omega arith
with-longer ts i (Turned n place content) = let e =
    length-push ts (record { sender = i; place = place; content = content }) in omega arith
with-longer ts i (Passed n) = omega arith

-- 0 is not drawn.
draws-positive : (limit : ℕ) (drawn drawn' : List ℕ) (g : Option Grant) →
    Draws limit drawn g drawn' → draws_number 0 g ≡ 0
draws-positive limit drawn drawn' None h = refl
draws-positive limit drawn drawn' (Some Closed) h = refl
draws-positive limit drawn drawn' (Some (Number k)) h =
    bit-no k 0 1 (λ e. let low = h.0 in absurd (omega arith))

-- The replies taken, as a charge.
taken-replies : {L : Type 0} (n : ℕ) (d : Deed L) →
    of_packets (λ l p. replies_number n p) (taken_at d) ≡ total (replies_number n) (taken_packets d)
taken-replies n Asked = refl
taken-replies n (Arrived l x drew) = refl
taken-replies n (Stray l x) = refl
taken-replies n (Took k place) = refl
taken-replies n (Turned k place content) = refl
taken-replies n (Passed k) = refl

module _ {B L N : Type 0} (m : Meaning B L) (r : Rules L N) (f : Flow L N) (ways : Ways f r)
    (carries : Carries f r) (relays : Relays r.node) (bodies : List B) where
  -- A step of an agent keeps where the copies are.
  pub placed-agent : (w w' : Net B L N) (i : ℕ) (e : Entry L) (ts : List (Turn L)) →
      AgentStep m r w i e w' → NotStray e.deed → Kept m r bodies ts w → Placed f ts w →
      Placed f (with_turn ts i e.deed) w'
  placed-agent w w' i e ts s ok k p =
      let at = swap-old i s.old s.new w.agents w'.agents s.at in
      let among : i < f.agents = (let g = get-within w.agents i s.old at in let c = p.agents in
      omega arith) in
      let old : AgentKept m bodies ts i s.old.state (places_of s.old.log) = k.agents i s.old at in
      let lives : ((n : ℕ) → turns_number n e.deed + live n w' ≤ live n w) =
      (λ n. live-agent m r w w' i e n s) in
      let ready = ready-of m r.pick (r.way i) i ts
      (λ n. live n w) s.old.state s.new.state e.deed s.sends s.row old.within (λ n. let g =
      lives n in omega arith) (λ n a b. (k.turned n a b).1) in
      let taken = on-taken f.fits (EndsAtAgent r.plan i) e.deed w.links s.left s.first p.fits in
      let out = agent-fits m r f ways i among s.old.state s.new.state e.deed s.sends s.row in
      let long : length s.left ≡ f.links = taken.2 ∙ p.links in
      let in_range : Each (λ x. x.0 < length s.left) s.sends =
      each-map (λ x. (x.0 < f.links) × f.fits x.0 x.1) (λ x. x.0 < length s.left)
      (λ x h. subst (λ v. x.0 < v) (sym long) h.0) s.sends out in
      let drawn : w'.drawn ≡ w.drawn =
      subst (λ v. Draws r.limit w.drawn v w'.drawn)
      (draws-none m r.pick (r.way i) i s.old.state s.new.state e.deed s.sends s.row) s.draws in
      let moved : ((n : ℕ) (goal : Goal) →
      charge (copies f n goal) w' ≡ charge (copies f n goal) w
      + born n (f.reached goal) e.deed) = (λ n goal.
      let a = exact-agent m r (copies f n goal) w w' i e s in_range in
      let b = agent-copies m r f ways i among n goal s.old.state s.new.state e.deed s.sends s.row ok taken.0 in
      omega arith) in
      let early = (λ (n : ℕ) (goal : Goal). born-early m r.pick (r.way i) i ts n
      (f.reached goal) s.old.state s.new.state e.deed s.sends s.row ready) in
      record {
        agents = swap-length i s.old s.new w.agents w'.agents s.at ∙ p.agents;
        links = ap length s.links ∙ (length-sent e.clock s.sends s.left ∙ long);
        positive = ap (times 0) drawn ∙ p.positive;
        sound = λ j a got. p.sound j a (subst (λ v. slice_get v j ≡ Some a) s.rest got);
        fits = subst (EachOn f.fits) (sym s.links)
            (on-sent f.fits e.clock s.sends s.left taken.1
            (each-map (λ x. (x.0 < f.links) × f.fits x.0 x.1) (λ x. f.fits x.0 x.1)
            (λ x h. h.1) s.sends out));
        asked = λ a low.
            let x = exact-agent m r (asks a) w w' i e s in_range in
            let y = agent-asks m r.pick
            (r.way i) i a s.old.state s.new.state e.deed s.sends s.row ok in
            let z = p.asked a low in omega arith;
        granted = λ n late.
            let x = exact-agent m r (grants n) w w' i e s in_range in
            let y = agent-grants m r.pick
            (r.way i) i n s.old.state s.new.state e.deed s.sends s.row ok in
            let u = live-is n w in let v = live-is n w' in let same = ap (times n) drawn in
            elim (early n (ToAgent 0)) [
              | inl q ↦ absurd (let q0 = q.0 in omega arith)
              | inr q ↦ (let q2 = q.2 in elim q.0 [
                | inl c ↦
                    (let z = p.granted n (let len : length ts ≤ length (with_turn ts i e.deed) =
                    with-longer ts i e.deed in omega arith) in omega arith)
                | inr c ↦ absurd (let len : length ts ≤ length (with_turn ts i e.deed) =
                    with-longer ts i e.deed in omega arith)
              ])
            ];
        under_way = λ n goal low high.
            let a = moved n goal in
            elim (early n goal) [
              | inl q ↦ (let q1 = q.1 in let q2 = q.2 in let z = p.unsent n goal q1 in omega arith)
              | inr q ↦ (let q1 = q.1 in elim q.0 [
                | inl c ↦ absurd (omega arith)
                | inr c ↦ (let z = p.under_way n goal low c in omega arith)
              ])
            ];
        unsent = λ n goal late.
            let a = moved n goal in
            let len : length ts ≤ length (with_turn ts i e.deed) = with-longer ts i e.deed in
            let z = p.unsent n goal (omega arith) in
            elim (early n goal) [
              | inl q ↦ absurd (let q0 = q.0 in omega arith)
              | inr q ↦ (let q1 = q.1 in omega arith)
            ];
      }

  -- So does a step of a node.
  pub placed-node : (w w' : Net B L N) (k : ℕ) (e : Entry L) (ts : List (Turn L)) →
      NodeStep m r w k e w' → NotStray e.deed → Placed f ts w → Placed f ts w'
  placed-node w w' k e ts s ok p =
      let at = swap-old k s.old s.new w.nodes w'.nodes s.at in
      let sound = p.sound k s.old at in
      let taken = on-taken f.fits (EndsAtNode r.plan k) e.deed w.links s.left s.first p.fits in
      let out = carries.fits k s.old.state e.deed s.sends s.new.state s.row ok sound taken.0 in
      let long : length s.left ≡ f.links = taken.2 ∙ p.links in
      let in_range : Each (λ x. x.0 < length s.left) s.sends =
      each-map (λ x. (x.0 < f.links) × f.fits x.0 x.1) (λ x. x.0 < length s.left)
      (λ x h. subst (λ v. x.0 < v) (sym long) h.0) s.sends out in
      let moved : ((n : ℕ) (goal : Goal) →
      charge (copies f n goal) w' ≡ charge (copies f n goal) w) = (λ n goal.
      let a = exact-node m r (copies f n goal) w w' k e s in_range in
      let b = carries.copies k s.old.state e.deed s.sends s.new.state s.row ok sound taken.0 n goal in
      omega arith) in
      record {
        agents = ap length s.rest ∙ p.agents;
        links = ap length s.links ∙ (length-sent e.clock s.sends s.left ∙ long);
        positive = let d = draws-times 0 r.limit w.drawn w'.drawn (drawn_in e.deed) s.draws in
            let z = p.positive in let y = draws-positive r.limit w.drawn w'.drawn
            (drawn_in e.deed) s.draws in omega arith;
        sound = λ j a got. elim (swap-get k s.old s.new w.nodes w'.nodes s.at j a got) [
          | inl q ↦ subst (λ v. f.sound v a.state) (sym q.0)
              (subst (λ v. f.sound k v.state) (sym q.1)
              (carries.sound k s.old.state e.deed s.sends s.new.state s.row ok sound taken.0))
          | inr q ↦ p.sound j a q.1
        ];
        fits = subst (EachOn f.fits) (sym s.links)
            (on-sent f.fits e.clock s.sends s.left taken.1
            (each-map (λ x. (x.0 < f.links) × f.fits x.0 x.1) (λ x. f.fits x.0 x.1)
            (λ x h. h.1) s.sends out));
        asked = λ a low.
            let x = exact-node m r (asks a) w w' k e s in_range in
            let y = carries.asks k s.old.state e.deed s.sends s.new.state s.row ok a in
            let z = p.asked a low in omega arith;
        granted = λ n late.
            let x = exact-node m r (grants n) w w' k e s in_range in
            let y = carries.replies k s.old.state e.deed s.sends s.new.state s.row ok n in
            let t = taken-replies n e.deed in
            let u = live-is n w in let v = live-is n w' in
            let d = draws-times n r.limit w.drawn w'.drawn (drawn_in e.deed) s.draws in
            let z = p.granted n late in omega arith;
        under_way = λ n goal low high. moved n goal ∙ p.under_way n goal low high;
        unsent = λ n goal late. moved n goal ∙ p.unsent n goal late;
      }

  -- A deed is a stray or not.
  stray-or-not : (d : Deed L) → (NotStray d) ⊎ ((l : ℕ) × (x : Stamped L) × (d ≡ Stray l x))
  stray-or-not Asked = inl tt
  stray-or-not (Arrived l x drew) = inl tt
  stray-or-not (Stray l x) = inr (l, x, refl)
  stray-or-not (Took n place) = inl tt
  stray-or-not (Turned n place content) = inl tt
  stray-or-not (Passed n) = inl tt

  -- No step of an agent is a stray.
  pub agent-not-stray : (w w' : Net B L N) (i clock : ℕ) (d : Deed L) (ts : List (Turn L)) →
      AgentStep m r w i (record { clock = clock; deed = d }) w' → Kept m r bodies ts w →
      Placed f ts w → NotStray d
  agent-not-stray w w' i clock d ts s k p = elim (stray-or-not d) [
    | inl ok ↦ ok
    | inr bad ↦ absurd (none-astray m r f ways bodies ts w k p w' i clock bad.0 bad.1
        (subst (λ v. AgentStep m r w i (record { clock = clock; deed = v }) w') bad.2 s))
  ]

  -- No step of a node is a stray.
  pub node-not-stray : (w w' : Net B L N) (i clock : ℕ) (d : Deed L) (ts : List (Turn L)) →
      NodeStep m r w i (record { clock = clock; deed = d }) w' → Kept m r bodies ts w →
      Placed f ts w → NotStray d
  node-not-stray w w' i clock d ts s k p = elim (stray-or-not d) [
    | inl ok ↦ ok
    | inr bad ↦ absurd (none-astray-node m r f ways bodies ts w k p carries w' i clock bad.0 bad.1
        (subst (λ v. NodeStep m r w i (record { clock = clock; deed = v }) w') bad.2 s))
  ]

  -- The induction over a run: all is kept, and no entry is a stray.
  pub placed-run : (es : List (Event L)) (w w' : Net B L N) (ts : List (Turn L)) →
      Netrun m r w es w' → Kept m r bodies ts w → Placed f ts w →
      Placed f (ts ++ turns_of es) w' × Each (λ e. NotStray (deed_of e)) es
  placed-run [] w w' ts run k p = (
    subst (λ v. Placed f v w') (sym (append-nil ts))
        (subst (λ v. Placed f ts v) (sym run) p),
    tt,
  )
  placed-run (AgentDid i e ∷ es) w w' ts run k p =
      let ok = agent-not-stray w run.0 i e.clock e.deed ts run.1 k p in
      let rest = placed-run es run.0 w' (with_turn ts i e.deed) run.2
      (keeps-agent m r bodies w run.0 i e ts run.1 k)
      (placed-agent w run.0 i e ts run.1 ok k p) in (
        subst (λ v. Placed f v w') (with-turns-in ts i e e.deed (turns_of es) refl) rest.0,
        (ok, rest.1),
      )
  placed-run (NodeDid j e ∷ es) w w' ts run k p =
      let ok = node-not-stray w run.0 j e.clock e.deed ts run.1 k p in
      let rest = placed-run es run.0 w' ts run.2
      (keeps-node m r bodies relays w run.0 j e ts run.1 k)
      (placed-node w run.0 j e ts run.1 ok p) in
      (rest.0, (ok, rest.1))
