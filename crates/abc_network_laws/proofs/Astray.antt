-- Nothing goes astray at an agent.
use Rattle.std.proofs.Common.{◌≡◌, ℕ, zero, suc, ◌+◌, ◌<◌, ◌≤◌, List, [], ◌∷◌, length, refl, sym}
use Rattle.std.proofs.Common.{ap, ◌∙◌, subst, arith, inl, inr}
use Rattle.std.specs.Prelude.{Option, Some, None, slice_get, is_some, ◌==◌, nat_lt, Bool, true}
use Rattle.std.specs.Prelude.{false, if◌then◌else◌}
use Rattle.std.proofs.lemmas.Bool.{eq-eqb, cases_lt, ltb-true}
use Rattle.abc_network.specs.Networks.{Actor, AgentStep, EndsAtAgent, EndsAtNode, Net, NodeStep}
use Rattle.abc_network.specs.Networks.{Rules, Swaps}
use Rattle.abc_network_laws.specs.Kept.{Each, Kept, Says, Stores, holds, holds_number, live, total}
use Rattle.abc_network.specs.Agents.{AgentState, AgentTakes, Asking, Granted, Idle, Shut, Waiting}
use Rattle.abc_network_laws.specs.Flows.{Carries, EachOn, Flow, Placed, ToAgent, ToNode, Ways}
use Rattle.abc_network_laws.specs.Flows.{agent_has, asks, asks_on, has_number, message_on}
use Rattle.abc_network_laws.specs.Flows.{not_waiting}
use Rattle.abc_network_laws.specs.Charges.{over}
use Rattle.abc_value.specs.declared.grant.Grant.TheVariants.{Closed, Number}
use Rattle.abc_packet.specs.declared.packets.Content.{Content}
use Rattle.abc_value.specs.declared.grant.Grant.{Grant}
use Rattle.abc_network_laws.specs.Counts.{IfMessage, replies_number}
use Rattle.abc_body.specs.Meanings.{Meaning}
use Rattle.abc_packet.specs.declared.packets.Packet.TheVariants.{Message, Reply, Request}
use Rattle.abc_packet.specs.declared.packets.Packet.{Packet}
use Rattle.abc_packet.specs.declared.stamped.Stamped.{Stamped}
use Rattle.abc_packet.specs.declared.log.Deed.TheVariants.{Stray}
use Rattle.abc_network.specs.Numbering.{Turn}
use Rattle.abc_wait.specs.Waits.{item_beside}
use Rattle.abc_network_laws.proofs.Lists.{get-within, swap-old}
use Rattle.abc_network_laws.proofs.Maps.{gains-front}
use Rattle.abc_network_laws.proofs.Steps.{taken-each, taken-total}
use Rattle.abc_network_laws.proofs.Accounts.{over-taken}

-- One part of a sum is at most the sum.
pub over-at : {X : Type 0} (f : ℕ → X → ℕ) (xs : List X) (i : ℕ) (x : X) →
    slice_get xs i ≡ Some x → f i x ≤ over f xs
over-at f [] i x h = absurd (cc)
over-at f (y ∷ xs) zero x h = let e : y ≡ x = cc in let g : f zero y ≡ f zero x = ap (f zero) e in
    omega arith
over-at f (y ∷ xs) (suc i) x h = let g = over-at (λ j. f (suc j)) xs i x h in omega arith

-- One element is at most the sum.
pub total-at : {X : Type 0} (f : X → ℕ) (xs : List X) (i : ℕ) (x : X) → slice_get xs i ≡ Some x →
    f x ≤ total f xs
total-at f [] i x h = absurd (cc)
total-at f (y ∷ xs) zero x h = let e : y ≡ x = cc in let g : f y ≡ f x = ap f e in omega arith
total-at f (y ∷ xs) (suc i) x h = let g = total-at f xs i x h in omega arith

-- The packet that is taken was one that may be on its link, and so are those that stay.
pub swap-on : {L : Type 0} (F : ℕ → Packet L →
    Type 0) (l : ℕ) (x : Stamped L) (q : List (Stamped L)) (links left : List (List (Stamped L))) →
    Swaps l (x ∷ q) q links left → EachOn F links → F l x.packet × EachOn F left
swap-on F l x q [] left s h = absurd s
swap-on F l x q (a ∷ rest) [] s h = absurd s
swap-on F zero x q (a ∷ rest) (b ∷ bs) s h =
    let had : Each (λ y. F zero y.packet) (x ∷ q) = subst (Each (λ y. F zero y.packet)) s.0 h.0 in (
      had.0,
      (
        subst (Each (λ y. F zero y.packet)) (sym s.1) had.1,
        subst (EachOn (λ k. F (suc k))) (sym s.2) h.1,
      ),
    )
swap-on F (suc l) x q (a ∷ rest) (b ∷ bs) s h =
    let r = swap-on (λ k. F (suc k)) l x q rest bs s.1 h.1 in
    (r.0, (subst (Each (λ y. F zero y.packet)) (sym s.0) h.0, r.1))

-- A number counts for itself: 1 where two numbers are the same.
same-one : (i : ℕ) → (let b = i == i in let v : ℕ = if b then 1 else 0 in v) ≡ 1
same-one i = rw (eq-eqb i i refl) refl

-- An agent that does not count as not waiting waits.
not-waiting-is : (a : Asking) → not_waiting a ≡ 0 → a ≡ Waiting
not-waiting-is Idle h = absurd (omega arith)
not-waiting-is Waiting h = refl
not-waiting-is (Granted n) h = absurd (omega arith)
not-waiting-is Shut h = absurd (omega arith)

-- What counts for an agent at its own place.
asked-at : {B L : Type 0} (i : ℕ) (s : AgentState B L) →
    (let b = i == i in let v : ℕ = if b then not_waiting s.asking else 0 in v)
    ≡ not_waiting s.asking
asked-at i s = rw (eq-eqb i i refl) refl

-- What an agent has, at its own place.
has-at : {B L : Type 0} (n i : ℕ) (s : AgentState B L) →
    agent_has n (ToAgent i) i s ≡ has_number n s
has-at n i s = rw (eq-eqb i i refl) refl

-- An agent that has a number counts for it.
holds-at : (n : ℕ) (a : Asking) → a ≡ Granted n → holds n a ≡ 1
holds-at n a h = ap (holds n) h ∙ same-one n

-- What does not count is not stored,
pub has-look : {X : Type 0} (o : Option X) (k : ℕ) → (if is_some o then 1 else 0) + k ≡ 0 → o ≡ None
has-look None k h = refl
has-look (Some c) k h = absurd (omega arith)

-- and is above the front.
has-front : (k front n : ℕ) (b : Bool) → nat_lt front n ≡ b → k + (if b then 0 else 1) ≡ 0 →
    front < n
has-front k front n true e h = ltb-true front n e
has-front k front n false e h = absurd (omega arith)

-- No number that was not turned is stored.
none-stored : {L : Type 0} (ts : List (Turn L)) (front n : ℕ) (stored : List (ℕ × Content L))
    (o : Option (Content L)) → item_beside stored n ≡ o →
    ((k : ℕ) (c : Content L) → item_beside stored k ≡ Some c → Stores ts front k c) →
    length ts < n → item_beside stored n ≡ None
none-stored ts front n stored None e h late = e
none-stored ts front n stored (Some c) e h late =
    let s = h n c e in
    let k = s.2.0 in let next = s.2.2 in let g = get-within ts s.2.0 s.2.1 s.2.3 in
    absurd (omega arith)

module _ {B L N : Type 0} (m : Meaning B L) (r : Rules L N) (f : Flow L N) (ways : Ways f r)
    (bodies : List B) (ts : List (Turn L)) (w : Net B L N) (kept : Kept m r bodies ts w)
    (placed : Placed f ts w) where
  -- A number that is live was not turned.
  pub live-late : (n : ℕ) → 1 ≤ live n w → length ts < n
  live-late zero h = let a = kept.live_drawn 0 in let b = placed.positive in absurd (omega arith)
  live-late (suc n) h = elim (cases_lt (length ts) (suc n)) [
    | inl p ↦ p
    | inr p ↦ (let z = (kept.turned (suc n) (omega arith) p).1 in absurd (omega arith))
  ]

  module _ (i : ℕ) (a : Actor (AgentState B L) L) (at : slice_get w.agents i ≡ Some a) (l : ℕ)
      (x : Stamped L) (q : List (Stamped L)) (left : List (List (Stamped L)))
      (here : EndsAtAgent r.plan i l) (first : Swaps l (x ∷ q) q w.links left) where
    -- The agent is one of the network.
    among : i < f.agents
    among = let g = get-within w.agents i a at in let c = placed.agents in omega arith

    -- A reply to an agent that waits has a row,
    grant-row : (p : Packet L) (g : Grant) → p ≡ Reply i g → x.packet ≡ p →
        a.state.asking ≡ Waiting → ((t : AgentState B L) → AgentTakes i a.state p t → ⊥) → ⊥
    grant-row p Closed e same waiting none =
        none (record a.state { asking = Shut })
        (subst (λ v. AgentTakes i a.state v (record a.state { asking = Shut })) (sym e)
        (refl, waiting, refl))
    grant-row p (Number n) e same waiting none =
        let t = taken-total (replies_number n) (EndsAtAgent r.plan i) (Stray l x) w.links left
        (q, here, first) in
        let one : replies_number n x.packet ≡ 1 = ap (replies_number n) (same ∙ e) ∙ same-one n in
        let late = live-late n (omega arith) in
        let k = kept.agents i a at in
        let within = k.within in
        let free = none-stored ts a.state.front n a.state.stored
        (item_beside a.state.stored n) refl k.stored late in
        none (record a.state { asking = Granted n })
        (subst (λ v. AgentTakes i a.state v (record a.state { asking = Granted n })) (sym e)
        (refl, waiting, (omega arith, free, refl)))

    -- and so has each packet that may come to an agent.
    row : (p : Packet L) → x.packet ≡ p → f.fits l p → IfMessage (Says ts) p →
        ((t : AgentState B L) → AgentTakes i a.state p t → ⊥) → ⊥
    row (Request agent) same fits says none = ways.no_request i l agent here fits
    row (Reply agent g) same fits says none =
        let own = ways.own_reply i l agent g here fits in
        let one : asks_on i l x.packet ≡ 1 =
        ap (asks_on i l) same ∙ (subst
        (λ v. (let b = v == i in let u : ℕ = if b then 1 else 0 in u) ≡ 1) (sym own)
        (same-one i)) in
        let total_is = placed.asked i among in
        let t = over-taken (asks_on i) (EndsAtAgent r.plan i) (Stray l x) w.links left
        (q, here, first) in
        let o = over-at (λ j b. (asks {B = B} {L = L} {N =
        N} i).on_agent j b.state) w.agents i a at in
        let e = asked-at i a.state in
        let waiting = not-waiting-is a.state.asking (omega arith) in
        grant-row (Reply agent g) g (ap (λ v. Reply v g) own) same waiting none
    row (Message n sender content) same fits says none =
        let next = says.2 in
        let inside = get-within ts says.0 says.1 says.3 in
        let total_is = placed.under_way n (ToAgent i) (omega arith) (omega arith) in
        let t = over-taken (message_on f.leads n (ToAgent i)) (EndsAtAgent r.plan i)
        (Stray l x) w.links left (q, here, first) in
        let leads : f.leads sender l (ToAgent i) ≡ 1 =
        ways.arrives i l n sender content here fits (ToAgent i) ∙ same-one i in
        let one : message_on f.leads n (ToAgent i) l x.packet ≡ 1 =
        ap (message_on f.leads n (ToAgent i) l) same ∙ (rw (eq-eqb n n refl) leads) in
        let o = over-at (λ j b. agent_has n (ToAgent i) j b.state) w.agents i a at in
        let e = has-at n i a.state in
        let once = ways.once (ToAgent i) in
        let zero_has : has_number n a.state ≡ 0 = omega arith in
        let free = has-look (item_beside a.state.stored n)
        (if nat_lt a.state.front n then 0 else 1) zero_has in
        let low =
        has-front (if is_some (item_beside a.state.stored n) then 1 else 0) a.state.front n
        (nat_lt a.state.front n) refl zero_has in
        let other : (a.state.asking ≡ Granted n → ⊥) = (λ g.
        let z = (kept.turned n (omega arith) (omega arith)).1 in
        let u = total-at (holds_number n) w.agents i a at in
        let v = holds-at n a.state.asking g in absurd (omega arith)) in
        none (record a.state { stored = (n, content) ∷ a.state.stored })
        (record {
          above = low;
          free = free;
          not_own = other;
          gains = gains-front n content a.state.stored;
          after = refl;
        })

  -- No arrival of an agent is astray.
  pub none-astray : (w' : Net B L N) (i clock l : ℕ) (x : Stamped L) →
      AgentStep m r w i (record { clock = clock; deed = Stray l x }) w' → ⊥
  none-astray w' i clock l x s =
      let at = swap-old i s.old s.new w.agents w'.agents s.at in
      let fits = swap-on f.fits l x s.first.0 w.links s.left s.first.2 placed.fits in
      let says = taken-each (IfMessage (Says ts)) (EndsAtAgent r.plan i)
      (Stray l x) w.links s.left s.first kept.links in
      row i s.old at l x s.first.0 s.left s.first.1 s.first.2 x.packet refl fits.0 says.0.0 s.row.0

  -- No arrival of a node is astray.
  pub none-astray-node : Carries f r → (w' : Net B L N) (k clock l : ℕ) (x : Stamped L) →
      NodeStep m r w k (record { clock = clock; deed = Stray l x }) w' → ⊥
  none-astray-node carries w' k clock l x s =
      let at = swap-old k s.old s.new w.nodes w'.nodes s.at in
      let fits = swap-on f.fits l x s.first.0 w.links s.left s.first.2 placed.fits in
      let says = taken-each (IfMessage (Says ts)) (EndsAtNode r.plan k)
      (Stray l x) w.links s.left s.first kept.links in
      carries.strays k l s.old.state x s.sends s.new.state s.row
      (placed.sound k s.old at) s.first.1 fits.0 (λ n low.
      let t = over-taken (message_on f.leads n (ToNode k)) (EndsAtNode r.plan k)
      (Stray l x) w.links s.left s.first in
      let o = over-at (λ j b. f.carries j b.state n (ToNode k)) w.nodes k s.old at in
      let once = ways.once (ToNode k) in
      elim (cases_lt (length ts) n) [
        | inl p ↦ (let z = placed.unsent n (ToNode k) p in omega arith)
        | inr p ↦ (let z = placed.under_way n (ToNode k) low p in omega arith)
      ])
