-- The one fact on the tree's paths.
use Rattle.std.proofs.Common.{◌≡◌, ℕ, zero, suc, ◌+◌, ◌-◌, ◌*◌, ◌/◌, ◌%◌, ◌<◌, ◌≤◌, List}
use Rattle.std.proofs.Common.{◌++◌, refl, sym, ap, ◌∙◌, subst, arith, inl, inr}
use Rattle.std.specs.Prelude.{◌⊎◌, ◌==◌, nat_lt, Bool, true, false, if◌then◌else◌}
use Rattle.std.proofs.lemmas.Bool.{eq-eqb, ne_eqb, cases_eq, cases_lt, lt-ltb}
use Rattle.std.proofs.lemmas.Bool.{le-ltb}
use Rattle.abc_shape.specs.declared.shape.Shape.TheVariants.{Tree}
use Rattle.abc_shape.specs.Plans.{layout_of, step_up}
use Rattle.abc_network.specs.Links.{to_home, from_home, to_parent, from_parent}
use Rattle.abc_network.specs.Trees.{agents_of, parent_of, child_of, tree_outs}
use Rattle.abc_network_laws.specs.Kept.{total}
use Rattle.abc_network_laws.specs.Flows.{Goal, ToAgent, ToNode, at_agent}
use Rattle.abc_network_laws.specs.StoreFlows.{at_node, lead_all}
use Rattle.abc_network_laws.specs.RingFlows.{inside}
use Rattle.abc_network_laws.specs.TreeFlows.{under, below, Up, Down, Rise, Fall, edge_at}
use Rattle.abc_network_laws.specs.TreeFlows.{tree_leads_on, tree_leads}
use Rattle.abc_network_laws.proofs.Lists.{total-append}
use Rattle.abc_network_laws.proofs.Places.{bit-yes, bit-no, early-bit, late-bit}
use Rattle.abc_network_laws.proofs.TreeUnder.{by-less, under-parts, under-root, under-once}
use Rattle.abc_network_laws.proofs.TreeLinks.{TreeEnd}

-- The numbers of links, read back: the link from an agent.
pub up-at : (agents i : ℕ) → i < agents → edge_at agents (2 * i) ≡ Up i
up-at agents i low =
    let a : nat_lt (2 * i) (2 * agents) ≡ true = lt-ltb (2 * i) (2 * agents) (omega arith) in
    let b : ((2 * i) % 2 == 0) ≡ true = eq-eqb ((2 * i) % 2) 0 (omega arith) in
    let c : (2 * i) / 2 ≡ i = omega arith in rw (a, b, c) refl

-- The link to an agent.
pub down-at : (agents i : ℕ) → i < agents → edge_at agents (2 * i + 1) ≡ Down i
down-at agents i low =
    let a : nat_lt (2 * i + 1) (2 * agents) ≡ true =
    lt-ltb (2 * i + 1) (2 * agents) (omega arith) in
    let b : ((2 * i + 1) % 2 == 0) ≡ false =
    ne_eqb ((2 * i + 1) % 2) 0 (λ e. absurd (omega arith)) in
    let c : (2 * i + 1) / 2 ≡ i = omega arith in rw (a, b, c) refl

-- The link to a parent.
pub rise-at : (agents c : ℕ) → 0 < c → edge_at agents (to_parent agents c) ≡ Rise c
rise-at agents c low =
    let a : nat_lt (2 * agents + 2 * (c - 1)) (2 * agents) ≡ false =
    le-ltb (2 * agents + 2 * (c - 1)) (2 * agents) (omega arith) in
    let b : ((2 * agents + 2 * (c - 1) - 2 * agents) % 2 == 0) ≡ true =
    eq-eqb ((2 * agents + 2 * (c - 1) - 2 * agents) % 2) 0 (omega arith) in
    let d : (2 * agents + 2 * (c - 1) - 2 * agents) / 2 + 1 ≡ c = omega arith in rw (a, b, d) refl

-- The link from a parent.
pub fall-at : (agents c : ℕ) → 0 < c → edge_at agents (from_parent agents c) ≡ Fall c
fall-at agents c low =
    let a : nat_lt (2 * agents + 2 * (c - 1) + 1) (2 * agents) ≡ false =
    le-ltb (2 * agents + 2 * (c - 1) + 1) (2 * agents) (omega arith) in
    let b : ((2 * agents + 2 * (c - 1) + 1 - 2 * agents) % 2 == 0) ≡ false =
    ne_eqb ((2 * agents + 2 * (c - 1) + 1 - 2 * agents) % 2) 0 (λ e. absurd (omega arith)) in
    let d : (2 * agents + 2 * (c - 1) + 1 - 2 * agents) / 2 + 1 ≡ c = omega arith in
    rw (a, b, d) refl

-- 1 where the goal is an agent that is homed at k.
abbrev homed : ℕ → ℕ → ℕ → Goal → ℕ
homed agents n k (ToAgent j) = if nat_lt j agents then (if j % n == k then 1 else 0) else 0
homed agents n k (ToNode j) = 0

module _ (agents n s : ℕ) (goal : Goal) where
  -- How many of these links lead to the goal.
  abbrev sum-of : List ℕ → ℕ
  sum-of ls = total (λ o. tree_leads agents n s o goal) ls

  -- A link to an agent leads to it alone.
  down-leads : (i : ℕ) → i < agents → tree_leads agents n s (from_home i) goal ≡ at_agent i goal
  down-leads i low = ap (λ v. tree_leads_on agents n v goal) (down-at agents i low)

  -- What one agent of the list adds to the copies that lead to a goal.
  agents-step : (k came i count : ℕ) (b c : Bool) → (i % n == k) ≡ b → (came == to_home i) ≡ c →
      i < agents → sum-of (agents_of (layout_of Tree agents n) k came i (suc count))
      ≡ (if b then (if c then 0 else at_agent i goal) else 0)
      + sum-of (agents_of (layout_of Tree agents n) k came (i + 1) count)
  agents-step k came i count true true e f low = rw (e, f) (omega arith)
  agents-step k came i count true false e f low = let d = down-leads i low in
      rw (e, f) (omega arith)
  agents-step k came i count false c e f low = rw e (omega arith)

  -- The part of a parent, and of a child.
  parent-kept : (k came : ℕ) → (k ≡ 0 → ⊥) → (came ≡ from_parent agents k → ⊥) →
      sum-of (parent_of (layout_of Tree agents n) k came)
      ≡ inside agents n goal - below agents n k goal
  parent-kept k came some away =
      let a : (k == 0) ≡ false = ne_eqb k 0 some in
      let b : (came == from_parent agents k) ≡ false = ne_eqb came (from_parent agents k) away in
      let c = ap (λ v. tree_leads_on agents n v goal) (rise-at agents k (omega arith)) in
      rw (a, b) (omega arith)

  -- None where the message came from the parent,
  parent-left : (k came : ℕ) → (k ≡ 0 → ⊥) → came ≡ from_parent agents k →
      sum-of (parent_of (layout_of Tree agents n) k came) ≡ 0
  parent-left k came some here =
      let a : (k == 0) ≡ false = ne_eqb k 0 some in
      let b : (came == from_parent agents k) ≡ true = eq-eqb came (from_parent agents k) here in
      rw (a, b) refl

  -- and none at the root.
  parent-root : (k came : ℕ) → k ≡ 0 → sum-of (parent_of (layout_of Tree agents n) k came) ≡ 0
  parent-root k came root = let a : (k == 0) ≡ true = eq-eqb k 0 root in rw a refl

  -- None to the child from which it came,
  child-left : (c came : ℕ) → c < n → came ≡ to_parent agents c →
      sum-of (child_of (layout_of Tree agents n) c came) ≡ 0
  child-left c came low here =
      let a : nat_lt c n ≡ true = lt-ltb c n low in
      let b : (came == to_parent agents c) ≡ true = eq-eqb came (to_parent agents c) here in
      rw (a, b) refl

  -- one to a child that is there,
  child-in : (c came : ℕ) → 0 < c → c < n → (came ≡ to_parent agents c → ⊥) →
      sum-of (child_of (layout_of Tree agents n) c came) ≡ below agents n c goal
  child-in c came some low away =
      let a : nat_lt c n ≡ true = lt-ltb c n low in
      let b : (came == to_parent agents c) ≡ false = ne_eqb came (to_parent agents c) away in
      let d = ap (λ v. tree_leads_on agents n v goal) (fall-at agents c some) in
      rw (a, b) (omega arith)

  -- and none to one that is not.
  child-out : (c came : ℕ) → n ≤ c → sum-of (child_of (layout_of Tree agents n) c came) ≡ 0
  child-out c came high = let a : nat_lt c n ≡ false = le-ltb c n high in rw a refl

  -- What all copies add is what those to agents, to the parent and to the children add.
  outs-sum : (k came : ℕ) → lead_all (tree_leads agents n) s goal
      (tree_outs (layout_of Tree agents n) k s came)
      ≡ sum-of (agents_of (layout_of Tree agents n) k came 0 agents)
      + (sum-of (parent_of (layout_of Tree agents n) k came)
      + (sum-of (child_of (layout_of Tree agents n) (2 * k + 1) came)
      + sum-of (child_of (layout_of Tree agents n) (2 * k + 2) came)))
  outs-sum k came =
      let p = layout_of Tree agents n in
      let a = total-append (λ o. tree_leads agents n s o goal)
      (agents_of (layout_of Tree agents n) k came 0 agents)
      (parent_of (layout_of Tree agents n) k came
      ++ (child_of (layout_of Tree agents n) (2 * k + 1) came
      ++ child_of (layout_of Tree agents n) (2 * k + 2) came)) in
      let b = total-append (λ o. tree_leads agents n s o goal)
      (parent_of (layout_of Tree agents n) k came)
      (child_of (layout_of Tree agents n) (2 * k + 1) came
      ++ child_of (layout_of Tree agents n) (2 * k + 2) came) in
      let c = total-append (λ o. tree_leads agents n s o goal)
      (child_of (layout_of Tree agents n) (2 * k + 1) came)
      (child_of (layout_of Tree agents n) (2 * k + 2) came) in omega arith

-- Nothing is below a node that is not there.
below-out : (agents n c : ℕ) (goal : Goal) → 0 < n → n ≤ c → below agents n c goal ≡ 0
below-out agents n c (ToAgent j) some high =
    let h : j % n < n = omega arith in
    let z = by-less (j % n) c (j % n) (omega arith) in
    elim (cases_lt j agents) [
      | inl e ↦ early-bit j agents (under c (j % n)) e ∙ z
      | inr e ↦ late-bit j agents (under c (j % n)) e
    ]
below-out agents n c (ToNode j) some high = elim (cases_lt j n) [
  | inl e ↦ early-bit j n (under c j) e ∙ by-less j c j (omega arith)
  | inr e ↦ late-bit j n (under c j) e
]

-- The copy to a child is for what is below it.
child-kept : (agents n s : ℕ) (goal : Goal) (c came : ℕ) → 0 < n → 0 < c →
    (came ≡ to_parent agents c → ⊥) →
    total (λ o. tree_leads agents n s o goal) (child_of (layout_of Tree agents n) c came)
    ≡ below agents n c goal
child-kept agents n s goal c came some low away = elim (cases_lt c n) [
  | inl e ↦ child-in agents n s goal c came low e away
  | inr e ↦ child-out agents n s goal c came e ∙ sym (below-out agents n c goal some e)
]

-- What is below the root is all.
below-root : (agents n : ℕ) (goal : Goal) → below agents n 0 goal ≡ inside agents n goal
below-root agents n (ToAgent j) = let u = under-root (j % n) in elim (cases_lt j agents) [
  | inl e ↦ (let a = early-bit j agents (under 0 (j % n)) e in let b = early-bit j agents 1 e in
      omega arith)
  | inr e ↦ (let a = late-bit j agents (under 0 (j % n)) e in let b = late-bit j agents 1 e in
      omega arith)
]
below-root agents n (ToNode j) = let u = under-root j in elim (cases_lt j n) [
  | inl e ↦ (let a = early-bit j n (under 0 j) e in let b = early-bit j n 1 e in omega arith)
  | inr e ↦ (let a = late-bit j n (under 0 j) e in let b = late-bit j n 1 e in omega arith)
]

-- What is below a node is among all.
pub below-inside : (agents n c : ℕ) (goal : Goal) → below agents n c goal ≤ inside agents n goal
below-inside agents n c (ToAgent j) = let u = under-once c (j % n) in elim (cases_lt j agents) [
  | inl e ↦ (let a = early-bit j agents (under c (j % n)) e in let b = early-bit j agents 1 e in
      omega arith)
  | inr e ↦ (let a = late-bit j agents (under c (j % n)) e in let b = late-bit j agents 1 e in
      omega arith)
]
below-inside agents n c (ToNode j) = let u = under-once c j in elim (cases_lt j n) [
  | inl e ↦ (let a = early-bit j n (under c j) e in let b = early-bit j n 1 e in omega arith)
  | inr e ↦ (let a = late-bit j n (under c j) e in let b = late-bit j n 1 e in omega arith)
]

-- A node counts for its own goal, whichever of both numbers is asked first.
node-bit : (k j : ℕ) → at_node k (ToNode j) ≡ (if j == k then 1 else 0)
node-bit k j = elim (cases_eq k j) [
  | inl e ↦ bit-yes k j 1 e ∙ sym (bit-yes j k 1 (sym e))
  | inr e ↦ bit-no k j 1 e ∙ sym (bit-no j k 1 (λ f. e (sym f)))
]

-- What is below k: k itself, the agents homed there, and what is below its children.
below-parts : (agents n k : ℕ) (goal : Goal) → k < n →
    below agents n k goal ≡ at_node k goal + homed agents n k goal
    + below agents n (2 * k + 1) goal + below agents n (2 * k + 2) goal
below-parts agents n k (ToAgent j) low =
    let u = under-parts k (j % n) in
    elim (cases_lt j agents) [
      | inl e ↦ (
          let a = early-bit j agents (under k (j % n)) e in
          let b = early-bit j agents (if j % n == k then 1 else 0) e in
          let c = early-bit j agents (under (2 * k + 1) (j % n)) e in
          let d = early-bit j agents (under (2 * k + 2) (j % n)) e in omega arith)
      | inr e ↦ (
          let a = late-bit j agents (under k (j % n)) e in
          let b = late-bit j agents (if j % n == k then 1 else 0) e in
          let c = late-bit j agents (under (2 * k + 1) (j % n)) e in
          let d = late-bit j agents (under (2 * k + 2) (j % n)) e in omega arith)
    ]
below-parts agents n k (ToNode j) low =
    let u = under-parts k j in
    let same = node-bit k j in
    elim (cases_lt j n) [
      | inl e ↦ (
          let a = early-bit j n (under k j) e in
          let c = early-bit j n (under (2 * k + 1) j) e in
          let d = early-bit j n (under (2 * k + 2) j) e in omega arith)
      | inr e ↦ (
          let z = bit-no k j 1 (λ f. absurd (omega arith)) in
          let a = late-bit j n (under k j) e in
          let c = late-bit j n (under (2 * k + 1) j) e in
          let d = late-bit j n (under (2 * k + 2) j) e in omega arith)
    ]

-- A part that does not count,
pick-none : (r k came h v : ℕ) → (r ≡ k → (came ≡ h → ⊥) → v ≡ 0) →
    (let u : ℕ = if r == k then (if came == h then 0 else v) else 0 in u) ≡ 0
pick-none r k came h v none = elim (cases_eq r k) [
  | inr e ↦ (let z : (r == k) ≡ false = ne_eqb r k e in rw z refl)
  | inl e ↦ elim (cases_eq came h) [
    | inl f ↦ (let z : (r == k) ≡ true = eq-eqb r k e in
        let y : (came == h) ≡ true = eq-eqb came h f in rw (z, y) refl)
    | inr f ↦ (let z : (r == k) ≡ true = eq-eqb r k e in
        let y : (came == h) ≡ false = ne_eqb came h f in rw (z, y) (none e f))
  ]
]

-- and one that does.
pick-one : (r k came h v : ℕ) → r ≡ k → (came ≡ h → ⊥) →
    (let u : ℕ = if r == k then (if came == h then 0 else v) else 0 in u) ≡ v
pick-one r k came h v e f = let z : (r == k) ≡ true = eq-eqb r k e in
    let y : (came == h) ≡ false = ne_eqb came h f in rw (z, y) refl

-- No copy for the goal, where it is none of the agents of the list,
agents-none : (agents n k came s : ℕ) (goal : Goal) (i count : ℕ) → i + count ≡ agents →
    ((j : ℕ) → i ≤ j → j < agents → j % n ≡ k → (came ≡ to_home j → ⊥) → at_agent j goal ≡ 0) →
    total (λ o. tree_leads agents n s o goal) (agents_of (layout_of Tree agents n) k came i count)
    ≡ 0
agents-none agents n k came s goal i zero len none = refl
agents-none agents n k came s goal i (suc count) len none =
    let step = agents-step agents n s goal k came i count (i % n == k)
    (came == to_home i) refl refl (omega arith) in
    let rest = agents-none agents n k came s goal (i + 1) count (omega arith)
    (λ j low high at away. none j (omega arith) high at away) in
    let here = pick-none (i % n) k came (to_home i) (at_agent i goal)
    (λ at away. none i (omega arith) (omega arith) at away) in omega arith

-- and one, where it is.
agents-one : (agents n k came s j : ℕ) (i count : ℕ) → i + count ≡ agents → j % n ≡ k →
    (came ≡ to_home j → ⊥) → i ≤ j → j < agents → (i ≡ j) ⊎ (i ≡ j → ⊥) →
    total (λ o. tree_leads agents n s o (ToAgent j))
    (agents_of (layout_of Tree agents n) k came i count) ≡ 1
agents-one agents n k came s j i zero len at away low high same = absurd (omega arith)
agents-one agents n k came s j i (suc count) len at away low high (inl e) =
    let step = agents-step agents n s (ToAgent j) k came i count (i % n == k)
    (came == to_home i) refl refl (omega arith) in
    let rest = agents-none agents n k came s (ToAgent j) (i + 1) count (omega arith)
    (λ q lower higher atq awayq. bit-no q j 1 (λ f. absurd (omega arith))) in
    let here = pick-one (i % n) k came (to_home i) (at_agent i (ToAgent j)) (ap (λ v. v % n) e
    ∙ at) (λ f. away (f ∙ ap (λ v. 2 * v) e)) in
    let one = bit-yes i j 1 e in omega arith
agents-one agents n k came s j i (suc count) len at away low high (inr e) =
    let step = agents-step agents n s (ToAgent j) k came i count (i % n == k)
    (came == to_home i) refl refl (omega arith) in
    let here = pick-none (i % n) k came (to_home i) (at_agent i (ToAgent j))
    (λ at' away'. bit-no i j 1 e) in
    let low' : i + 1 ≤ j = (elim (cases_lt i j) [
      | inl q ↦ omega arith
      | inr q ↦ absurd (e (omega arith))
    ]) in
    let rest = agents-one agents n k came s j (i + 1) count (omega arith) at away low' high
    (cases_eq (i + 1) j) in omega arith

-- The copies to agents are for those that are homed at k,
agents-all : (agents n k came s : ℕ) (goal : Goal) →
    ((j : ℕ) → j < agents → came ≡ to_home j → ⊥) →
    total (λ o. tree_leads agents n s o goal) (agents_of (layout_of Tree agents n) k came 0 agents)
    ≡ homed agents n k goal
agents-all agents n k came s (ToNode j) away =
    agents-none agents n k came s (ToNode j) 0 agents (omega arith) (λ q a b c d. refl)
agents-all agents n k came s (ToAgent j) away = elim (cases_lt j agents) [
  | inr high ↦ (let z = agents-none agents n k came s (ToAgent j) 0 agents (omega arith)
      (λ q a b c d. bit-no q j 1 (λ f. absurd (omega arith))) in
      let y = late-bit j agents (if j % n == k then 1 else 0) high in omega arith)
  | inl low ↦ (let y = early-bit j agents (if j % n == k then 1 else 0) low in
      elim (cases_eq (j % n) k) [
        | inl e ↦ (let z = agents-one agents n k came s j 0 agents (omega arith) e (away j low)
            (omega arith) low (cases_eq 0 j) in let x = bit-yes (j % n) k 1 e in omega arith)
        | inr e ↦ (let z = agents-none agents n k came s (ToAgent j) 0 agents (omega arith)
            (λ q a b c d. bit-no q j 1 (λ f. e (ap (λ v. v % n) (sym f) ∙ c))) in
            let x = bit-no (j % n) k 1 e in omega arith)
      ])
]

-- but none for the one from which it came.
agents-but : (agents n k came s i : ℕ) (goal : Goal) → i < agents → i % n ≡ k → came ≡ to_home i →
    total (λ o. tree_leads agents n s o goal) (agents_of (layout_of Tree agents n) k came 0 agents)
    + at_agent i goal ≡ homed agents n k goal
agents-but agents n k came s i (ToNode j) low at here = let z =
    agents-none agents n k came s (ToNode j) 0 agents (omega arith) (λ q a b c d. refl) in
    omega arith
agents-but agents n k came s i (ToAgent j) low at here = elim (cases_eq i j) [
  | inl same ↦ (
      let z = agents-none agents n k came s (ToAgent j) 0 agents (omega arith)
      (λ q a b c d. bit-no q j 1 (λ f. d (here ∙ ap (λ v. 2 * v) (same ∙ sym f)))) in
      let o = bit-yes i j 1 same in
      let y = early-bit j agents (if j % n == k then 1 else 0) (subst (λ v. v < agents) same low) in
      let x = bit-yes (j % n) k 1 (ap (λ v. v % n) (sym same) ∙ at) in omega arith)
  | inr other ↦ (
      let o = bit-no i j 1 other in
      elim (cases_lt j agents) [
        | inr high ↦ (let z = agents-none agents n k came s (ToAgent j) 0 agents (omega arith)
            (λ q a b c d. bit-no q j 1 (λ f. absurd (omega arith))) in
            let y = late-bit j agents (if j % n == k then 1 else 0) high in omega arith)
        | inl near ↦ (let y = early-bit j agents (if j % n == k then 1 else 0) near in
            elim (cases_eq (j % n) k) [
              | inl e ↦ (let z = agents-one agents n k came s j 0 agents (omega arith) e
                  (λ f. other (let g : 2 * i ≡ 2 * j = sym here ∙ f in omega arith)) (omega arith) near
                  (cases_eq 0 j) in let x = bit-yes (j % n) k 1 e in omega arith)
              | inr e ↦ (let z = agents-none agents n k came s (ToAgent j) 0 agents (omega arith)
                  (λ q a b c d. bit-no q j 1 (λ f. e (ap (λ v. v % n) (sym f) ∙ c))) in
                  let x = bit-no (j % n) k 1 e in omega arith)
            ])
      ])
]

-- A message's copies go on to just what it led to: from an agent,
flow-agent : (agents n k l s i : ℕ) (goal : Goal) → k < n → i < agents → i % n ≡ k →
    l ≡ to_home i → tree_leads agents n s l goal
    ≡ at_node k goal + lead_all (tree_leads agents n) s goal
    (tree_outs (layout_of Tree agents n) k s l)
flow-agent agents n k l s i goal low under at here =
    let lead = ap (λ v. tree_leads agents n s v goal) here
    ∙ ap (λ v. tree_leads_on agents n v goal) (up-at agents i under) in
    let outs = outs-sum agents n s goal k l in
    let mine = agents-but agents n k l s i goal under at here in
    let one = child-kept agents n s goal (2 * k + 1) l (omega arith) (omega arith)
    (λ e. absurd (omega arith)) in
    let two = child-kept agents n s goal (2 * k + 2) l (omega arith) (omega arith)
    (λ e. absurd (omega arith)) in
    let parts = below-parts agents n k goal low in
    let within = below-inside agents n k goal in
    elim (cases_eq k 0) [
      | inl root ↦ (let none = parent-root agents n s goal k l root in
          let all = below-root agents n goal in let same = ap (λ v. below agents n v goal) root in
          omega arith)
      | inr some ↦ (let up = parent-kept agents n s goal k l some (λ e. absurd (omega arith)) in
          omega arith)
    ]

-- from a child,
flow-child : (agents n k l s c : ℕ) (goal : Goal) → k < n → 0 < c → c < n → step_up c ≡ k →
    l ≡ to_parent agents c → tree_leads agents n s l goal
    ≡ at_node k goal + lead_all (tree_leads agents n) s goal
    (tree_outs (layout_of Tree agents n) k s l)
flow-child agents n k l s c goal low some under up here =
    let lead = ap (λ v. tree_leads agents n s v goal) here
    ∙ ap (λ v. tree_leads_on agents n v goal) (rise-at agents c some) in
    let outs = outs-sum agents n s goal k l in
    let homes = agents-all agents n k l s goal (λ j lj e. absurd (omega arith)) in
    let parts = below-parts agents n k goal low in
    let within = below-inside agents n k goal in
    let whole : lead_all (tree_leads agents n) s goal (tree_outs (layout_of Tree agents n) k s l)
    + at_node k goal + below agents n c goal ≡ inside agents n goal =
    elim (cases_eq c (2 * k + 1)) [
      | inl first ↦ (
          let one = child-left agents n s goal (2 * k + 1) l (omega arith) (here
          ∙ ap (λ v. to_parent agents v) first) in
          let two = child-kept agents n s goal (2 * k + 2) l (omega arith) (omega arith)
          (λ e. absurd (omega arith)) in
          let same = ap (λ v. below agents n v goal) first in
          elim (cases_eq k 0) [
            | inl root ↦ (let none = parent-root agents n s goal k l root in
                let all = below-root agents n goal in
                let z = ap (λ v. below agents n v goal) root in omega arith)
            | inr more ↦ (let par = parent-kept agents n s goal k l more
                (λ e. absurd (omega arith)) in omega arith)
          ])
      | inr second ↦ (
          let is : c ≡ 2 * k + 2 = omega arith in
          let two = child-left agents n s goal (2 * k + 2) l (omega arith) (here
          ∙ ap (λ v. to_parent agents v) is) in
          let one = child-kept agents n s goal (2 * k + 1) l (omega arith) (omega arith)
          (λ e. absurd (omega arith)) in
          let same = ap (λ v. below agents n v goal) is in
          elim (cases_eq k 0) [
            | inl root ↦ (let none = parent-root agents n s goal k l root in
                let all = below-root agents n goal in
                let z = ap (λ v. below agents n v goal) root in omega arith)
            | inr more ↦ (let par = parent-kept agents n s goal k l more
                (λ e. absurd (omega arith)) in omega arith)
          ])
    ] in omega arith

-- and from the parent.
flow-parent : (agents n k l s : ℕ) (goal : Goal) → 0 < k → k < n → l ≡ from_parent agents k →
    tree_leads agents n s l goal ≡ at_node k goal
    + lead_all (tree_leads agents n) s goal (tree_outs (layout_of Tree agents n) k s l)
flow-parent agents n k l s goal some low here =
    let lead = ap (λ v. tree_leads agents n s v goal) here
    ∙ ap (λ v. tree_leads_on agents n v goal) (fall-at agents k some) in
    let outs = outs-sum agents n s goal k l in
    let homes = agents-all agents n k l s goal (λ j lj e. absurd (omega arith)) in
    let par = parent-left agents n s goal k l (λ e. absurd (omega arith)) here in
    let one = child-kept agents n s goal (2 * k + 1) l (omega arith) (omega arith)
    (λ e. absurd (omega arith)) in
    let two = child-kept agents n s goal (2 * k + 2) l (omega arith) (omega arith)
    (λ e. absurd (omega arith)) in
    let parts = below-parts agents n k goal low in omega arith

-- The copies of a message go on to just what it led to.
pub tree-flow : (agents n k l s : ℕ) → k < n → TreeEnd agents n k l → (goal : Goal) →
    tree_leads agents n s l goal ≡ at_node k goal
    + lead_all (tree_leads agents n) s goal (tree_outs (layout_of Tree agents n) k s l)
tree-flow agents n k l s low (inl h) goal = flow-agent agents n k l s h.0 goal low h.1 h.2 h.3
tree-flow agents n k l s low (inr (inl h)) goal =
    flow-child agents n k l s h.0 goal low h.1 h.2 h.3 h.4
tree-flow agents n k l s low (inr (inr h)) goal = flow-parent agents n k l s goal h.0 h.1 h.2
