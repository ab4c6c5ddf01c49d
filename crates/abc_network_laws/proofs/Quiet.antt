-- Where nothing is on a link and nothing can go on, all fronts are equal and every granted number
-- was turned.
use Rattle.std.proofs.Common.{◌≡◌, ℕ, zero, suc, ◌+◌, ◌<◌, ◌≤◌, List, [], ◌∷◌, length, refl, sym}
use Rattle.std.proofs.Common.{ap, subst, arith, inl, inr}
use Rattle.std.specs.Prelude.{Some, None, slice_get, ◌⊎◌, ◌==◌, Bool, true, false, if◌then◌else◌}
use Rattle.std.proofs.lemmas.Bool.{eqb-true, ne_eqb, cases_eq, cases_lt, lt-ltb}
use Rattle.abc_network.specs.Networks.{Actor, Net, Rules, times}
use Rattle.abc_network_laws.specs.Kept.{Each, Kept, holds, holds_number, on_link, total}
use Rattle.abc_network.specs.Agents.{AgentState, Asking, Granted, Idle, Shut, Waiting}
use Rattle.abc_network_laws.specs.Charges.{on_links, over}
use Rattle.abc_network_laws.specs.Flows.{Ends, Flow, Goal, Placed, Still, ToAgent, ToNode}
use Rattle.abc_network_laws.specs.Flows.{agent_has, has_number, message_on}
use Rattle.abc_body.specs.Meanings.{Meaning}
use Rattle.abc_packet.specs.declared.packets.Packet.{Packet}
use Rattle.abc_packet.specs.declared.stamped.Stamped.{Stamped}
use Rattle.abc_network.specs.Numbering.{Turn}
use Rattle.abc_wait.specs.Waits.{item_beside}
use Rattle.abc_network_laws.proofs.Lists.{get-within}

-- Nothing is laid on empty links.
empty-over : {L : Type 0} (f : ℕ → Packet L → ℕ) (links : List (List (Stamped L))) →
    Each (λ q. q ≡ []) links → on_links f links ≡ 0
empty-over f [] h = refl
empty-over f (q ∷ qs) h = let a : total (λ x. f zero x.packet) q ≡ 0 =
    ap (total (λ x. f zero x.packet)) h.0 in let b = empty-over (λ l. f (suc l)) qs h.1 in
    omega arith

-- No number is on empty links.
empty-total : {L : Type 0} (n : ℕ) (links : List (List (Stamped L))) → Each (λ q. q ≡ []) links →
    total (total (on_link n)) links ≡ 0
empty-total n [] h = refl
empty-total n (q ∷ qs) h = let a : total (on_link n) q ≡ 0 = ap (total (on_link n)) h.0 in
    let b = empty-total n qs h.1 in omega arith

-- A sum that is not nothing has a part that is not.
over-part : {X : Type 0} (f : ℕ → X → ℕ) (x : X) (xs : List X) →
    (f zero x ≡ 0) ⊎ (f zero x ≡ 0 → ⊥) →
    (1 ≤ over (λ i. f (suc i)) xs → (i : ℕ) × (y : X) × (slice_get xs i ≡ Some y)
    × (1 ≤ f (suc i) y)) → 1 ≤ over f (x ∷ xs) →
    (i : ℕ) × (y : X) × (slice_get (x ∷ xs) i ≡ Some y) × (1 ≤ f i y)
over-part f x xs (inl none) rest h = let r = rest (omega arith) in (suc r.0, r.1, r.2, r.3)
over-part f x xs (inr some) rest h = (
  zero,
  x,
  refl,
  elim (cases_lt 0 (f zero x)) [
    | inl p ↦
        (let q : 0 < f zero x = p in omega arith)
    | inr p ↦ absurd (some (let q : f zero x ≤ 0 = p in omega arith))
  ],
)

-- A sum that is not nothing has a part that is not.
over-some : {X : Type 0} (f : ℕ → X → ℕ) (xs : List X) → 1 ≤ over f xs →
    (i : ℕ) × (y : X) × (slice_get xs i ≡ Some y) × (1 ≤ f i y)
over-some f [] h = absurd (omega arith)
over-some f (x ∷ xs) h = over-part f x xs (cases_eq (f zero x) 0) (over-some (λ i. f (suc i)) xs) h

-- A sum is one that forgets the places.
total-over : {X : Type 0} (f : X → ℕ) (xs : List X) → total f xs ≡ over (λ i. f) xs
total-over f [] = refl
total-over f (x ∷ xs) = let e = total-over f xs in omega arith

-- The same for a sum without places.
total-some : {X : Type 0} (f : X → ℕ) (xs : List X) → 1 ≤ total f xs →
    (i : ℕ) × (y : X) × (slice_get xs i ≡ Some y) × (1 ≤ f y)
total-some f xs h = over-some (λ i. f) xs (subst (λ v. 1 ≤ v) (total-over f xs) h)

-- Only an agent itself counts for it.
agent-is : {B L : Type 0} (n i j : ℕ) (s : AgentState B L) (b : Bool) → (i == j) ≡ b →
    1 ≤ (if b then has_number n s else 0) → (i ≡ j) × (1 ≤ has_number n s)
agent-is n i j s true e h = (eqb-true i j e, h)
agent-is n i j s false e h = absurd (omega arith)

-- Neither stored nor behind the front.
has-none : {B L : Type 0} (n : ℕ) (s : AgentState B L) → item_beside s.stored n ≡ None →
    s.front < n → has_number n s ≡ 0
has-none n s a b = let e = lt-ltb s.front n b in rw (a, e) refl

-- Who counts for a number has it.
holds-is : (n : ℕ) (a : Asking) → 1 ≤ holds n a → a ≡ Granted n
holds-is n Idle h = absurd (omega arith)
holds-is n Waiting h = absurd (omega arith)
holds-is n Shut h = absurd (omega arith)
holds-is n (Granted k) h = elim (cases_eq k n) [
  | inl e ↦ ap Granted e
  | inr e ↦ absurd (let z : (k == n) ≡ false = ne_eqb k n e in
      let g : 1 ≤ (let b = k == n in let v : ℕ = if b then 1 else 0 in v) = h in
      let y : (let b = k == n in let v : ℕ = if b then 1 else 0 in v) ≡ 0 = rw z refl in
      omega arith)
]

module _ {B L N : Type 0} (m : Meaning B L) (r : Rules L N) (f : Flow L N) (bodies : List B)
    (ts : List (Turn L)) (w : Net B L N) (kept : Kept m r bodies ts w) (placed : Placed f ts w)
    (still : Still m f w) (ends : Ends f r) where
  -- A copy for a goal is at an agent or at a node.
  where-it-is : (n : ℕ) (goal : Goal) → 0 < n → n ≤ length ts → f.reached goal ≡ 1 →
      over (λ i a. agent_has n goal i a.state) w.agents
      + over (λ k a. f.carries k a.state n goal) w.nodes ≡ 1
  where-it-is n goal low high want =
      let a = placed.under_way n goal low high in
      let b = empty-over (message_on f.leads n goal) w.links still.links in omega arith

  -- No agent has what is for a node.
  none-at-agents : (n k : ℕ) (agents : List (Actor (AgentState B L) L)) →
      over (λ i a. agent_has n (ToNode k) i a.state) agents ≡ 0
  none-at-agents n k [] = refl
  none-at-agents n k (a ∷ rest) = let e = none-at-agents n k rest in omega arith

  -- No node waits for a number that was turned: by induction on that number.
  pub node-past : (limit n k : ℕ) (a : Actor N L) → n ≤ limit → slice_get w.nodes k ≡ Some a →
      f.reached (ToNode k) ≡ 1 → f.next a.state ≡ n → n ≤ length ts → ⊥
  node-past zero n k a le at want here high = let g =
      ends.from_one k a.state (placed.sound k a at) in omega arith
  node-past (suc limit) n k a le at want here high =
      let low = ends.from_one k a.state (placed.sound k a at) in
      let all = where-it-is n (ToNode k) (omega arith) high want in
      let none = none-at-agents n k w.agents in
      let some = over-some (λ j b. f.carries j b.state n (ToNode k)) w.nodes (omega arith) in
      let j : ℕ = some.0 in
      let b : Actor N L = some.1 in
      elim (cases_eq j k) [
        | inl same ↦ (
            let sameactor : b ≡ a = (let g : slice_get w.nodes k ≡ Some b =
            subst (λ v. slice_get w.nodes v ≡ Some b) same some.2 in cc) in
            let zero_here = still.passes j b some.2 (ToNode k) in
            let next : f.next b.state ≡ n = subst (λ v. f.next v.state ≡ n) (sym sameactor) here in
            let z : f.carries j b.state n (ToNode k) ≡ 0 =
            subst (λ v. f.carries j b.state v (ToNode k) ≡ 0) next zero_here in
            let o = some.3 in absurd (omega arith))
        | inr other ↦ (
            let l = ends.low j b.state n (ToNode k) (placed.sound j b some.2) some.3
            (λ e. other (let e' : k ≡ j = cc in sym e')) in
            elim (cases_eq (f.next b.state) n) [
              | inl next ↦ (
                  let z : f.carries j b.state n (ToNode k) ≡ 0 =
                  subst (λ v. f.carries j b.state v (ToNode k) ≡ 0) next
                  (still.passes j b some.2 (ToNode k)) in
                  let o = some.3 in absurd (omega arith))
              | inr less ↦ (
                  let le' = l.0 in
                  let below : f.next b.state < n =
                  elim (cases_lt (f.next b.state) n) [
                    | inl p ↦ p
                    | inr p ↦ absurd (less (omega arith))
                  ] in
                  node-past limit (f.next b.state) j b (omega arith) some.2 l.1 refl (omega arith))
            ])
      ]

  -- So nothing is at a node for an agent.
  none-at-nodes : (n i : ℕ) → 0 < n → n ≤ length ts →
      1 ≤ over (λ k a. f.carries k a.state n (ToAgent i)) w.nodes → ⊥
  none-at-nodes n i low high h =
      let some = over-some (λ k a. f.carries k a.state n (ToAgent i)) w.nodes h in
      let l = ends.low some.0 some.1.state n (ToAgent i) (placed.sound some.0 some.1 some.2) some.3
      (λ e. absurd (cc)) in
      let le = l.0 in
      node-past (f.next some.1.state) (f.next some.1.state) some.0 some.1
      (omega arith) some.2 l.1 refl (omega arith)

  -- No front is behind.
  front-at : (i : ℕ) (a : Actor (AgentState B L) L) → slice_get w.agents i ≡ Some a →
      a.state.front < length ts → ⊥
  front-at i a at less =
      let n : ℕ = a.state.front + 1 in
      let all = where-it-is (a.state.front + 1) (ToAgent i) (omega arith) (omega arith)
      (ends.reaches_agents i (let g = get-within w.agents i a at in let c = placed.agents in
      omega arith)) in
      let none : over (λ k b. f.carries k b.state (a.state.front + 1) (ToAgent i)) w.nodes ≡ 0 =
      elim (cases_lt 0 (over (λ k b. f.carries k b.state (a.state.front + 1)
      (ToAgent i)) w.nodes)) [
        | inl p ↦ absurd (none-at-nodes (a.state.front + 1) i (omega arith) (omega arith)
            (let q : 0 < over (λ k b. f.carries k b.state (a.state.front + 1)
            (ToAgent i)) w.nodes = p in omega arith))
        | inr p ↦ (let q : over (λ k b. f.carries k b.state (a.state.front + 1)
            (ToAgent i)) w.nodes ≤ 0 = p in omega arith)
      ] in
      let some = over-some (λ j b. agent_has (a.state.front + 1) (ToAgent i) j b.state) w.agents
      (omega arith) in
      let is = agent-is (a.state.front + 1) some.0 i some.1.state (some.0 == i) refl some.3 in
      let same : some.1 ≡ a = (let g : slice_get w.agents i ≡ Some some.1 =
      subst (λ v. slice_get w.agents v ≡ Some some.1) is.0 some.2 in cc) in
      let has : 1 ≤ has_number (a.state.front + 1) a.state =
      subst (λ v. 1 ≤ has_number (a.state.front + 1) v.state) same is.1 in
      let hasnt = has-none (a.state.front + 1) a.state (still.takes i a at) (omega arith) in
      omega arith

  -- All fronts are the count of the numbers turned.
  pub all-fronts : (i : ℕ) (a : Actor (AgentState B L) L) → slice_get w.agents i ≡ Some a →
      a.state.front ≡ length ts
  all-fronts i a at =
      let le = (kept.agents i a at).within in
      elim (cases_lt a.state.front (length ts)) [
        | inl p ↦ absurd (front-at i a at p)
        | inr p ↦ omega arith
      ]

  -- The next number is not drawn.
  pub next-undrawn : times (length ts + 1) w.drawn ≡ 1 → ⊥
  next-undrawn one =
      let g = placed.granted (length ts + 1) (omega arith) in
      let z = empty-total (length ts + 1) w.links still.links in
      let some = total-some (holds_number (length ts + 1)) w.agents (omega arith) in
      let is = holds-is (length ts + 1) some.1.state.asking some.3 in
      let front = all-fronts some.0 some.1 some.2 in
      still.turns some.0 some.1 some.2
      (subst (λ v. some.1.state.asking ≡ Granted (v + 1)) (sym front) is)
