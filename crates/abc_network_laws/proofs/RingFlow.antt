-- The one fact on the ring's paths.
use Rattle.std.proofs.Common.{◌≡◌, ℕ, zero, suc, ◌+◌, ◌-◌, ◌*◌, ◌/◌, ◌%◌, ◌<◌, ◌≤◌, List, [], ◌∷◌}
use Rattle.std.proofs.Common.{◌++◌, refl, sym, ap, ◌∙◌, subst, arith, inl, inr}
use Rattle.std.specs.Prelude.{◌⊎◌, ◌==◌, nat_lt, Bool, true, false, if◌then◌else◌}
use Rattle.std.proofs.lemmas.Bool.{eq-eqb, ne_eqb, cases_eq, cases_lt, lt-ltb, le-ltb}
use Rattle.std.proofs.Math.Nat.{mod_self, mod-eq_of_lt}
use Rattle.abc_shape.specs.declared.shape.Shape.TheVariants.{Ring}
use Rattle.abc_shape.specs.Plans.{layout_of, successor}
use Rattle.abc_network.specs.Rings.{RingAccepts, homed_from, ring_outs}
use Rattle.abc_network_laws.specs.Kept.{total}
use Rattle.abc_network_laws.specs.Flows.{Goal, ToAgent, ToNode, at_agent}
use Rattle.abc_network_laws.specs.StoreFlows.{at_node, lead_all}
use Rattle.abc_network_laws.specs.RingFlows.{Link, Up, Down, Along, link_at, next_on, predecessor}
use Rattle.abc_network_laws.specs.RingFlows.{far, node_of, inside, ring_leads_on, ring_leads}
use Rattle.abc_network_laws.specs.RingFlows.{outs_on}
use Rattle.abc_network_laws.proofs.Lists.{total-append}
use Rattle.abc_network_laws.proofs.Places.{bit-yes, bit-no, early-bit, late-bit}

-- How far node k is from h, where it is not before it,
far-up : (n h k : ℕ) → h ≤ k → far n h k ≡ k - h
far-up n h k e = rw (le-ltb k h e) refl

-- and where it is, on the way round.
far-round : (n h k : ℕ) → k < h → far n h k ≡ k + n - h
far-round n h k e = rw (lt-ltb k h e) refl

-- So it is one of both.
far-is : (n h k : ℕ) → ((h ≤ k) × (far n h k ≡ k - h)) ⊎ ((k < h) × (far n h k ≡ k + n - h))
far-is n h k = elim (cases_lt k h) [
  | inl e ↦ inr (e, far-round n h k e)
  | inr e ↦ inl (e, far-up n h k e)
]

-- The node before, by cases.
pred-is : (n k : ℕ) → ((k ≡ 0) × (predecessor n k ≡ n - 1)) ⊎ ((0 < k) × (predecessor n k ≡ k - 1))
pred-is n k = elim (cases_eq k 0) [
  | inl e ↦ inl (e, let z : (k == 0) ≡ true = eq-eqb k 0 e in rw z refl)
  | inr e ↦ inr (
    (elim (cases_lt 0 k) [
      | inl q ↦ (let q' : 0 < k = q in q')
      | inr q ↦ absurd (e (let q' : k ≤ 0 = q in omega arith))
    ]),
    let z : (k == 0) ≡ false =
        ne_eqb k 0 e in rw z refl,
  )
]

-- The next node, by cases.
succ-is : (n k : ℕ) → ((k + 1 ≡ n) × (next_on n k ≡ 0)) ⊎ ((k + 1 ≡ n → ⊥) × (next_on n k ≡ k + 1))
succ-is n k = elim (cases_eq (k + 1) n) [
  | inl e ↦ inl (e, let z : (k + 1 == n) ≡ true = eq-eqb (k + 1) n e in rw z refl)
  | inr e ↦ inr (e, let z : (k + 1 == n) ≡ false = ne_eqb (k + 1) n e in rw z refl)
]

-- No node is further than all round.
far-below : (n h k : ℕ) → h < n → k < n → far n h k < n
far-below n h k a b = elim (far-is n h k) [
  | inl c ↦ (let c0 = c.0 in let c1 = c.1 in omega arith)
  | inr c ↦ (let c0 = c.0 in let c1 = c.1 in omega arith)
]

-- Two nodes that are as far are one.
far-same : (n h j k : ℕ) → h < n → j < n → k < n → far n h j ≡ far n h k → j ≡ k
far-same n h j k a b c e = elim (far-is n h j) [
  | inl p ↦ (let p0 = p.0 in let p1 = p.1 in
      elim (far-is n h k) [
        | inl q ↦ (let q0 = q.0 in let q1 = q.1 in omega arith)
        | inr q ↦ (let q0 = q.0 in let q1 = q.1 in omega arith)
      ])
  | inr p ↦ (let p0 = p.0 in let p1 = p.1 in
      elim (far-is n h k) [
        | inl q ↦ (let q0 = q.0 in let q1 = q.1 in omega arith)
        | inr q ↦ (let q0 = q.0 in let q1 = q.1 in omega arith)
      ])
]

-- A node is no way from itself.
far-none : (n h : ℕ) → far n h h ≡ 0
far-none n h = far-up n h h (omega arith) ∙ (omega arith)

-- The node before is one nearer.
far-pred : (n h k : ℕ) → h < n → k < n → (h ≡ k → ⊥) → far n h (predecessor n k) + 1 ≡ far n h k
far-pred n h k a b ne = elim (cases_lt k h) [
  | inl low ↦ (let y = far-round n h k low in elim (pred-is n k) [
    | inl p ↦ (let p0 = p.0 in let p1 = p.1 in
        let x = far-up n h (predecessor n k) (omega arith) in omega arith)
    | inr p ↦ (let p0 = p.0 in let p1 = p.1 in
        let x = far-round n h (predecessor n k) (omega arith) in omega arith)
  ])
  | inr high ↦ (let y = far-up n h k high in
      let ne' : h < k = (elim (cases_lt h k) [ inl q ↦ q | inr q ↦ absurd (ne (omega arith)) ]) in
      elim (pred-is n k) [
        | inl p ↦ absurd (let p0 = p.0 in omega arith)
        | inr p ↦ (let p0 = p.0 in let p1 = p.1 in
            let x = far-up n h (predecessor n k) (omega arith) in omega arith)
      ])
]

-- The successor of the last node before home is home.
far-last : (n h k : ℕ) → h < n → k < n → next_on n k ≡ h → far n h k + 1 ≡ n
far-last n h k a b e = elim (succ-is n k) [
  | inl p ↦ (let p0 = p.0 in let p1 = p.1 in let y = far-up n h k (omega arith) in omega arith)
  | inr p ↦ (let p1 = p.1 in let y = far-round n h k (omega arith) in omega arith)
]

-- The goals that the way on from k reaches are those behind k, whether or not it goes on.
abbrev on-from : ℕ → ℕ → ℕ → ℕ → ℕ → ℕ
on-from n h k g v = if next_on n k == h then 0 else
    (if nat_lt (far n h k) (far n h g) then v else 0)

-- The way on reaches what is further, whether or not it goes on.
on-from-is : (n h k g v : ℕ) → h < n → k < n → g < n →
    on-from n h k g v ≡ (if nat_lt (far n h k) (far n h g) then v else 0)
on-from-is n h k g v a b c = elim (cases_eq (next_on n k) h) [
  | inl e ↦ (let last = far-last n h k a b e in let g' = far-below n h g a c in
      let z = late-bit (far n h k) (far n h g) v (omega arith) in
      let y : (next_on n k == h) ≡ true = eq-eqb (next_on n k) h e in rw y (sym z))
  | inr e ↦ (let z : (next_on n k == h) ≡ false = ne_eqb (next_on n k) h e in rw z refl)
]

-- What is behind the predecessor: k itself, and what is behind k.
behind-pred : (n h k g v : ℕ) → h < n → k < n → g < n → (h ≡ k → ⊥) →
    (let b = nat_lt (far n h (predecessor n k)) (far n h g) in let u : ℕ = if b then v else 0 in u)
    ≡ (if k == g then v else 0) + (if nat_lt (far n h k) (far n h g) then v else 0)
behind-pred n h k g v a b c ne =
    let step = far-pred n h k a b ne in
    elim (cases_eq k g) [
      | inl e ↦ (
          let same : far n h k ≡ far n h g = ap (far n h) e in
          let x = early-bit (far n h (predecessor n k)) (far n h g) v (omega arith) in
          let y = bit-yes k g v e in let z = late-bit (far n h k) (far n h g) v (omega arith) in
          omega arith)
      | inr e ↦ (
          let apart : (far n h k ≡ far n h g → ⊥) = (λ s. e (far-same n h k g a b c s)) in
          let y = bit-no k g v e in
          elim (cases_lt (far n h k) (far n h g)) [
            | inl q ↦ (let x = early-bit (far n h (predecessor n k)) (far n h g) v (omega arith) in
                let z = early-bit (far n h k) (far n h g) v q in omega arith)
            | inr q ↦ (
                let less : far n h g < far n h k =
                (elim (cases_lt (far n h g) (far n h k)) [
                  | inl t ↦ t
                  | inr t ↦ absurd (apart (omega arith))
                ]) in
                let x = late-bit (far n h (predecessor n k)) (far n h g) v (omega arith) in
                let z = late-bit (far n h k) (far n h g) v q in omega arith)
          ])
    ]

-- What is behind home: all but home itself.
behind-home : (n h g v : ℕ) → h < n → g < n →
    v ≡ (if h == g then v else 0) + (if nat_lt (far n h h) (far n h g) then v else 0)
behind-home n h g v a c =
    let none = far-none n h in
    elim (cases_eq h g) [
      | inl e ↦ (let same : far n h h ≡ far n h g = ap (far n h) e in let y = bit-yes h g v e in
          let z = late-bit (far n h h) (far n h g) v (omega arith) in omega arith)
      | inr e ↦ (
          let y = bit-no h g v e in
          let some : 0 < far n h g = (elim (cases_lt 0 (far n h g)) [
            | inl t ↦
                (let t' : 0 < far n h g = t in t')
            | inr t ↦ absurd (e (far-same n h h g a a c (let t' : far n h g ≤ 0 = t in
                omega arith)))
          ]) in
          let z = early-bit (far n h h) (far n h g) v (omega arith) in omega arith)
    ]

-- The numbers of links, read back: the link to an agent.
pub down-at : (agents i : ℕ) → i < agents → link_at agents (2 * i + 1) ≡ Down i
down-at agents i low =
    let a : nat_lt (2 * i + 1) (2 * agents) ≡ true =
    lt-ltb (2 * i + 1) (2 * agents) (omega arith) in
    let b : ((2 * i + 1) % 2 == 0) ≡ false =
    ne_eqb ((2 * i + 1) % 2) 0 (λ e. absurd (omega arith)) in
    let c : (2 * i + 1) / 2 ≡ i = omega arith in
    rw (a, b, c) refl

-- The link from an agent.
pub up-at : (agents i : ℕ) → i < agents → link_at agents (2 * i) ≡ Up i
up-at agents i low =
    let a : nat_lt (2 * i) (2 * agents) ≡ true = lt-ltb (2 * i) (2 * agents) (omega arith) in
    let b : ((2 * i) % 2 == 0) ≡ true = eq-eqb ((2 * i) % 2) 0 (omega arith) in
    let c : (2 * i) / 2 ≡ i = omega arith in
    rw (a, b, c) refl

-- The link from a node to the next.
along-at : (agents k : ℕ) → link_at agents (2 * agents + k) ≡ Along k
along-at agents k =
    let a : nat_lt (2 * agents + k) (2 * agents) ≡ false =
    le-ltb (2 * agents + k) (2 * agents) (omega arith) in
    let c : 2 * agents + k - 2 * agents ≡ k = omega arith in
    rw (a, c) refl

-- The copies to the agents homed at k.
module _ (agents n k s : ℕ) (goal : Goal) where
  -- How many of these links lead to the goal.
  abbrev sum-of : List ℕ → ℕ
  sum-of ls = total (λ o. ring_leads agents n s o goal) ls

  -- A link to an agent leads to it alone.
  down-leads : (i : ℕ) → i < agents → ring_leads agents n s (2 * i + 1) goal ≡ at_agent i goal
  down-leads i low = ap (λ v. ring_leads_on agents n s v goal) (down-at agents i low)

  -- What one agent of the list adds to the copies that lead to a goal.
  homed-step : (i count : ℕ) (b c : Bool) → (i == s) ≡ b → (i % n == k) ≡ c → i < agents →
      sum-of (homed_from (layout_of Ring agents n) k s i (suc count))
      ≡ (if b then 0 else (if c then at_agent i goal else 0))
      + sum-of (homed_from (layout_of Ring agents n) k s (i + 1) count)
  homed-step i count true c e f low = rw e (omega arith)
  homed-step i count false true e f low = let d = down-leads i low in rw (e, f) (omega arith)
  homed-step i count false false e f low = rw (e, f) (omega arith)

-- A part that does not count,
pick-none : (i s k r v : ℕ) → ((i ≡ s → ⊥) → r ≡ k → v ≡ 0) →
    (let u : ℕ = if i == s then 0 else (if r == k then v else 0) in u) ≡ 0
pick-none i s k r v none = elim (cases_eq i s) [
  | inl e ↦ (let z : (i == s) ≡ true = eq-eqb i s e in rw z refl)
  | inr e ↦ elim (cases_eq r k) [
    | inl f ↦ (let z : (i == s) ≡ false = ne_eqb i s e in let y : (r == k) ≡ true = eq-eqb r k f in
        rw (z, y) (none e f))
    | inr f ↦ (let z : (i == s) ≡ false = ne_eqb i s e in
        let y : (r == k) ≡ false = ne_eqb r k f in rw (z, y) refl)
  ]
]

-- and one that does.
pick-one : (i s k r v : ℕ) → (i ≡ s → ⊥) → r ≡ k →
    (let u : ℕ = if i == s then 0 else (if r == k then v else 0) in u) ≡ v
pick-one i s k r v e f = let z : (i == s) ≡ false = ne_eqb i s e in
    let y : (r == k) ≡ true = eq-eqb r k f in rw (z, y) refl

-- None, where the goal is no agent homed at k but the sender.
homed-none : (agents n k s : ℕ) (goal : Goal) (i count : ℕ) → i + count ≡ agents →
    ((j : ℕ) → i ≤ j → j < agents → (j ≡ s → ⊥) → j % n ≡ k → at_agent j goal ≡ 0) →
    total (λ o. ring_leads agents n s o goal) (homed_from (layout_of Ring agents n) k s i count) ≡ 0
homed-none agents n k s goal i zero len none = refl
homed-none agents n k s goal i (suc count) len none =
    let step = homed-step agents n k s goal i count (i == s) (i % n == k) refl refl (omega arith) in
    let rest = homed-none agents n k s goal (i + 1) count (omega arith)
    (λ j low under ne at. none j (omega arith) under ne at) in
    let here = pick-none i s k (i % n) (at_agent i goal)
    (λ ne at. none i (omega arith) (omega arith) ne at) in omega arith

-- One, where it is such an agent.
homed-one : (agents n k s j : ℕ) (i count : ℕ) → i + count ≡ agents → (j ≡ s → ⊥) → j % n ≡ k →
    i ≤ j → j < agents → (i ≡ j) ⊎ (i ≡ j → ⊥) →
    total (λ o. ring_leads agents n s o (ToAgent j))
    (homed_from (layout_of Ring agents n) k s i count) ≡ 1
homed-one agents n k s j i zero len ne at low high same = absurd (omega arith)
homed-one agents n k s j i (suc count) len ne at low high (inl e) =
    let step = homed-step agents n k s (ToAgent j) i count (i == s) (i % n == k) refl refl
    (omega arith) in
    let rest = homed-none agents n k s (ToAgent j) (i + 1) count (omega arith)
    (λ q lower under nq atq. bit-no q j 1 (λ f. absurd (omega arith))) in
    let here = pick-one i s k (i % n) (at_agent i (ToAgent j)) (λ f. ne (sym e ∙ f))
    (subst (λ v. v % n ≡ k) (sym e) at) in
    let one = bit-yes i j 1 e in omega arith
homed-one agents n k s j i (suc count) len ne at low high (inr e) =
    let step = homed-step agents n k s (ToAgent j) i count (i == s) (i % n == k) refl refl
    (omega arith) in
    let here = pick-none i s k (i % n) (at_agent i (ToAgent j)) (λ ne' at'. bit-no i j 1 e) in
    let low' : i + 1 ≤ j = (elim (cases_lt i j) [
      | inl q ↦ omega arith
      | inr q ↦ absurd (e (omega arith))
    ]) in
    let rest = homed-one agents n k s j (i + 1) count (omega arith) ne at low' high
    (cases_eq (i + 1) j) in omega arith

-- The last link, where there is one.
tail-total : (f : ℕ → ℕ) (b : Bool) (x : ℕ) →
    total f (if b then [] else x ∷ []) ≡ (if b then 0 else f x)
tail-total f true x = refl
tail-total f false x = omega arith

-- Nothing, whether it counts or not.
zero-if : (b : Bool) → (let u : ℕ = if b then 0 else 0 in u) ≡ 0
zero-if true = refl
zero-if false = refl

-- The copies to homed agents are what the goals at k are, but the node itself and the sender.
homed-node : (agents n k s j : ℕ) → k < n →
    total (λ o. ring_leads agents n s o (ToNode j))
    (homed_from (layout_of Ring agents n) k s 0 agents) + at_node k (ToNode j)
    ≡ (if k == j then inside agents n (ToNode j) else 0)
homed-node agents n k s j low =
    let none = homed-none agents n k s (ToNode j) 0 agents (omega arith) (λ q a u b c. refl) in
    elim (cases_eq k j) [
      | inl e ↦ (let x = bit-yes k j 1 e in let y = bit-yes k j (inside agents n (ToNode j)) e in
          let z = early-bit j n 1 (subst (λ v. v < n) e low) in omega arith)
      | inr e ↦ (let x = bit-no k j 1 e in let y = bit-no k j (inside agents n (ToNode j)) e in
          omega arith)
    ]

-- The copies to agents are for those that are homed here.
homed-agent : (agents n k s j : ℕ) → (j ≡ s → ⊥) →
    total (λ o. ring_leads agents n s o (ToAgent j))
    (homed_from (layout_of Ring agents n) k s 0 agents)
    ≡ (if k == j % n then inside agents n (ToAgent j) else 0)
homed-agent agents n k s j ne = elim (cases_eq k (j % n)) [
  | inl e ↦ elim (cases_lt j agents) [
    | inl low ↦ (let one = homed-one agents n k s j 0 agents (omega arith) ne (sym e)
        (omega arith) low (cases_eq 0 j) in
        let y = bit-yes k (j % n) (inside agents n (ToAgent j)) e in
        let z = early-bit j agents 1 low in omega arith)
    | inr high ↦ (let none = homed-none agents n k s (ToAgent j) 0 agents (omega arith)
        (λ q a u b c. bit-no q j 1 (λ f. absurd (omega arith))) in
        let y = bit-yes k (j % n) (inside agents n (ToAgent j)) e in
        let v : inside agents n (ToAgent j) ≡ 0 = rw (le-ltb j agents high) refl in omega arith)
  ]
  | inr e ↦ (let none = homed-none agents n k s (ToAgent j) 0 agents (omega arith)
      (λ q a u b c. bit-no q j 1 (λ f. e (sym c ∙ ap (λ v. v % n) f))) in
      let y = bit-no k (j % n) (inside agents n (ToAgent j)) e in omega arith)
]

-- A message's copies go on to just what it led to.
tail-of : (agents n k s h : ℕ) (goal : Goal) → s % n ≡ h → h < n → k < n → node_of n goal < n →
    total (λ o. ring_leads agents n s o goal)
    (if next_on n k == s % n then [] else (2 * agents + k) ∷ [])
    ≡ (if nat_lt (far n h k) (far n h (node_of n goal)) then inside agents n goal else 0)
tail-of agents n k s h goal home a b c =
    let x = tail-total (λ o. ring_leads agents n s o goal) (next_on n k == s % n)
    (2 * agents + k) in
    let y : ring_leads agents n s (2 * agents + k) goal
    ≡ (if nat_lt (far n h k) (far n h (node_of n goal)) then inside agents n goal else 0) =
    ap (λ v. ring_leads_on agents n s v goal) (along-at agents k)
    ∙ ap (λ v. if nat_lt (far n v k)
    (far n v (node_of n goal)) then inside agents n goal else 0) home in
    let z = ap (λ (v : ℕ). let u : ℕ = if next_on n k == s % n then 0 else v in u) y in
    let w : on-from n (s % n) k (node_of n goal) (inside agents n goal)
    ≡ on-from n h k (node_of n goal) (inside agents n goal) =
    ap (λ v. on-from n v k (node_of n goal) (inside agents n goal)) home in
    let q = on-from-is n h k (node_of n goal) (inside agents n goal) a b c in
    x ∙ (z ∙ (ap (λ v. let u : ℕ = if next_on n k == v then 0 else
    (if nat_lt (far n h k) (far n h (node_of n goal)) then inside agents n goal else 0) in
    u) home ∙ q))

-- All copies together.
outs-total : (agents n k s l h : ℕ) (goal : Goal) → s % n ≡ h → h < n → k < n →
    node_of n goal < n → lead_all (ring_leads agents n) s goal (outs_on agents n k s l)
    ≡ total (λ o. ring_leads agents n s o goal) (homed_from (layout_of Ring agents n) k s 0 agents)
    + (if nat_lt (far n h k) (far n h (node_of n goal)) then inside agents n goal else 0)
outs-total agents n k s l h goal home a b c =
    total-append (λ o. ring_leads agents n s o goal)
    (homed_from (layout_of Ring agents n) k s 0 agents)
    (if next_on n k == s % n then [] else (2 * agents + k) ∷ [])
    ∙ ap (λ v. total (λ o. ring_leads agents n s o goal)
    (homed_from (layout_of Ring agents n) k s 0 agents) + v)
    (tail-of agents n k s h goal home a b c)

-- From the predecessor.
ring-along : (agents n k l s : ℕ) → k < n → s < agents → (s % n ≡ k → ⊥) → s % n < n →
    l ≡ 2 * agents + predecessor n k → (goal : Goal) → node_of n goal < n →
    ring_leads agents n s l goal ≡ at_node k goal
    + lead_all (ring_leads agents n) s goal (outs_on agents n k s l)
ring-along agents n k l s low under ne home at (ToNode j) g =
    let lead = ap (λ v. ring_leads agents n s v (ToNode j)) at
    ∙ ap (λ v. ring_leads_on agents n s v (ToNode j)) (along-at agents (predecessor n k)) in
    let pred = behind-pred n (s % n) k j (inside agents n (ToNode j)) home low g ne in
    let outs = outs-total agents n k s l (s % n) (ToNode j) refl home low g in
    let here = homed-node agents n k s j low in omega arith
ring-along agents n k l s low under ne home at (ToAgent j) g =
    let lead = ap (λ v. ring_leads agents n s v (ToAgent j)) at
    ∙ ap (λ v. ring_leads_on agents n s v (ToAgent j)) (along-at agents (predecessor n k)) in
    let pred = behind-pred n (s % n) k (j % n) (inside agents n (ToAgent j)) home low g ne in
    let outs = outs-total agents n k s l (s % n) (ToAgent j) refl home low g in
    elim (cases_eq j s) [
      | inl e ↦ (
          let none = homed-none agents n k s (ToAgent j) 0 agents (omega arith)
          (λ q a u b c. bit-no q j 1 (λ f. b (f ∙ e))) in
          let y = bit-no k (j % n) (inside agents n (ToAgent j))
          (λ f. ne (ap (λ v. v % n) (sym e) ∙ sym f)) in omega arith)
      | inr e ↦ (let here = homed-agent agents n k s j e in omega arith)
    ]

-- From the sender, at its home.
ring-home : (agents n k l s : ℕ) → k < n → s < agents → s % n ≡ k → l ≡ 2 * s → (goal : Goal) →
    node_of n goal < n → ring_leads agents n s l goal
    ≡ at_node k goal + lead_all (ring_leads agents n) s goal (outs_on agents n k s l)
ring-home agents n k l s low under home at (ToNode j) g =
    let lead = ap (λ v. ring_leads agents n s v (ToNode j)) at
    ∙ ap (λ v. ring_leads_on agents n s v (ToNode j)) (up-at agents s under) in
    let all = behind-home n k j (inside agents n (ToNode j)) low g in
    let outs = outs-total agents n k s l k (ToNode j) home low low g in
    let here = homed-node agents n k s j low in omega arith
ring-home agents n k l s low under home at (ToAgent j) g =
    let lead = ap (λ v. ring_leads agents n s v (ToAgent j)) at
    ∙ ap (λ v. ring_leads_on agents n s v (ToAgent j)) (up-at agents s under) in
    let all = behind-home n k (j % n) (inside agents n (ToAgent j)) low g in
    let outs = outs-total agents n k s l k (ToAgent j) home low low g in
    elim (cases_eq j s) [
      | inl e ↦ (
          let none = homed-none agents n k s (ToAgent j) 0 agents (omega arith)
          (λ q a u b c. bit-no q j 1 (λ f. b (f ∙ e))) in
          let own = bit-yes s j 1 (sym e) in
          let v : inside agents n (ToAgent j) ≡ 1 =
          early-bit j agents 1 (subst (λ v. v < agents) (sym e) under) in
          let y = bit-yes k (j % n) (inside agents n (ToAgent j)) (sym home
          ∙ ap (λ v. v % n) (sym e)) in omega arith)
      | inr e ↦ (let here = homed-agent agents n k s j e in
          let other = bit-no s j 1 (λ f. e (sym f)) in omega arith)
    ]

-- The next node is one further, and 0 after the last.
pub next-is : (agents n k : ℕ) → k < n → successor (layout_of Ring agents n) k ≡ next_on n k
next-is agents n k low = elim (succ-is n k) [
  | inl p ↦ ap (λ v. v % n) p.0 ∙ (mod_self n ∙ sym p.1)
  | inr p ↦ (let more : k + 1 < n = (elim (cases_lt (k + 1) n) [
    | inl q ↦ q
    | inr q ↦ absurd (p.0 (omega arith))
  ]) in mod-eq_of_lt more ∙ sym p.1)
]

-- The node before k is the one whose next is k.
pub before-is : (agents n j k : ℕ) → j < n → successor (layout_of Ring agents n) j ≡ k →
    j ≡ predecessor n k
before-is agents n j k low e =
    let s : next_on n j ≡ k = sym (next-is agents n j low) ∙ e in
    elim (succ-is n j) [
      | inl p ↦ (let p0 = p.0 in let p1 = p.1 in
          elim (pred-is n k) [
            | inl q ↦ (let q1 = q.1 in omega arith)
            | inr q ↦ (let q0 = q.0 in omega arith)
          ])
      | inr p ↦ (let p1 = p.1 in elim (pred-is n k) [
        | inl q ↦ (let q0 = q.0 in omega arith)
        | inr q ↦ (let q1 = q.1 in omega arith)
      ])
    ]

-- The links of Pass, with the next node by its definition or by cases.
outs-same : (agents n k s l : ℕ) → k < n →
    outs_on agents n k s l ≡ ring_outs (layout_of Ring agents n) k s l
outs-same agents n k s l low =
    ap (λ v. homed_from (layout_of Ring agents n) k s 0 agents
    ++ (if v == s % n then [] else (2 * agents + k) ∷ [])) (sym (next-is agents n k low))

-- The one fact on paths, for goals that are there.
flow-on : (agents n k l s : ℕ) → s % n < n → RingAccepts (layout_of Ring agents n) k l s →
    (goal : Goal) → node_of n goal < n →
    ring_leads agents n s l goal ≡ at_node k goal
    + lead_all (ring_leads agents n) s goal (outs_on agents n k s l)
flow-on agents n k l s home h goal g = elim h.comes [
  | inl c ↦ ring-home agents n k l s h.node h.known c.0 c.1 goal g
  | inr c ↦ ring-along agents n k l s h.node h.known c.0 home (c.1.3
      ∙ ap (λ v. 2 * agents + v) (before-is agents n c.1.0 k c.1.1 c.1.2)) goal g
]

-- Nothing leads to a node that is not there.
none-outside : (agents n s j : ℕ) (k : Link) → n ≤ j → ring_leads_on agents n s k (ToNode j) ≡ 0
none-outside agents n s j (Up i) far-off = let e : inside agents n (ToNode j) ≡ 0 =
    late-bit j n 1 far-off in omega arith
none-outside agents n s j (Down i) far-off = refl
none-outside agents n s j (Along k) far-off =
    let e : inside agents n (ToNode j) ≡ 0 = late-bit j n 1 far-off in
    rw e (zero-if (nat_lt (far n (s % n) k) (far n (s % n) j)))

-- No link leads to a node that is not there.
all-outside : (agents n s j : ℕ) (ls : List ℕ) → n ≤ j →
    lead_all (ring_leads agents n) s (ToNode j) ls ≡ 0
all-outside agents n s j [] far-off = refl
all-outside agents n s j (l ∷ ls) far-off = let a =
    none-outside agents n s j (link_at agents l) far-off in
    let b = all-outside agents n s j ls far-off in omega arith

-- The copies of a message go on to just what it led to.
pub ring-flow : (agents n k l s : ℕ) → RingAccepts (layout_of Ring agents n) k l s →
    (goal : Goal) → ring_leads agents n s l goal
    ≡ at_node k goal + lead_all (ring_leads agents n) s goal
    (ring_outs (layout_of Ring agents n) k s l)
ring-flow agents n k l s h (ToAgent j) =
    let some = h.node in
    let a : s % n < n = omega arith in let b : j % n < n = omega arith in
    flow-on agents n k l s a h (ToAgent j) b
    ∙ ap (λ v. at_node k (ToAgent j) + lead_all (ring_leads agents n) s (ToAgent j) v)
    (outs-same agents n k s l h.node)
ring-flow agents n k l s h (ToNode j) = elim (cases_lt j n) [
  | inl near ↦ (let some = h.node in let a : s % n < n = omega arith in
      flow-on agents n k l s a h (ToNode j) near
      ∙ ap (λ v. at_node k (ToNode j) + lead_all (ring_leads agents n) s (ToNode j) v)
      (outs-same agents n k s l h.node))
  | inr off ↦ (
      let low = h.node in
      let x = none-outside agents n s j (link_at agents l) off in
      let y = all-outside agents n s j (ring_outs (layout_of Ring agents n) k s l) off in
      let z = bit-no k j 1 (λ e. absurd (omega arith)) in omega arith)
]
