-- Routes: one from each node, on to the agent, and never back.
use Rattle.std.proofs.Common.{◌≡◌, ℕ, zero, suc, ◌-◌, ◌<◌, ◌≤◌, List, [], ◌∷◌, refl, sym, ap, ◌∙◌, subst, arith, inl, inr}
use Rattle.std.proofs.lemmas.Bool.{cases_eq}
use Rattle.std.proofs.lemmas.Nat.{mod_below}
use Rattle.abc_shape.specs.declared.shape.Shape.TheVariants.{Cluster, Tree}
use Rattle.abc_shape.specs.declared.layout.Layout.{Layout}
use Rattle.abc_shape.specs.Plans.{IsLayout, actor_of, home, step_up, IsLink, cluster_down, tree_up, tree_down}
use Rattle.abc_shape.specs.Routes.{IsUnder, IsChild, direct, down, up}
use Rattle.abc_shape.proofs.Ended.{down-number, down-at_home, not-cluster}
use Rattle.abc_shape.proofs.Steps.{under-root, under-le, under-child}
use Rattle.abc_shape_laws.specs.Ways.{FollowsRoutes, arrives, goes_on}
use Rattle.abc_shape_laws.specs.RouteLaws.{RoutesAreOne, RoutesArrive, RoutesGoOn}
use Rattle.abc_shape_laws.proofs.Links.{numbers-one, ends-one, same-ends, shape-is}
use Rattle.abc_shape_laws.proofs.Trees.{one-child, under-of-child, under-or-not}

-- In a tree, a node that is linked to the agent is its home.
is-home : (p : Layout) (n i k : ℕ) → i < p.agents → p.shape ≡ Tree → IsLink p n (actor_of p k) i → home p i ≡ k
is-home p n i k low t r = elim (down-number p n i k low r) [ inl x ↦ absurd (let two : Tree ≡ Cluster = sym t ∙ x.0 in cc) | inr x ↦ sym x.1 ]

not-home : (p : Layout) (n i k c : ℕ) → i < p.agents → p.shape ≡ Tree → IsLink p n (actor_of p k) i → IsChild k c → IsUnder c (home p i) → ⊥
not-home p n i k c low t r child u =
    let here = is-home p n i k low t r in
    let high = under-le c (home p i) u in
    let a = child.0 in let b = child.1 in omega arith

pub routes-one : RoutesAreOne
routes-one p k i l l' low (direct a) (direct b) = ends-one p l l' _ _ a b
routes-one p k i l l' low (direct a) (down c t child u b) = absurd (not-home p l i k c low t a child u)
routes-one p k i l l' low (direct a) (up t off b) = absurd (off (0, is-home p l i k low t a))
routes-one p k i l l' low (down c t child u a) (direct b) = absurd (not-home p l' i k c low t b child u)
routes-one p k i l l' low (down c t child u a) (down d t' child' u' b) =
    let same = one-child k (home p i) c d child child' u u' in
    ends-one p l l' _ _ (same-ends p l _ _ _ _ refl (ap (actor_of p) same) a) b
routes-one p k i l l' low (down c t child u a) (up t' off b) = absurd (off (under-of-child k c (home p i) child u))
routes-one p k i l l' low (up t off a) (direct b) = absurd (off (0, is-home p l' i k low t b))
routes-one p k i l l' low (up t off a) (down c t' child u b) = absurd (off (under-of-child k c (home p i) child u))
routes-one p k i l l' low (up t off a) (up t' off' b) = ends-one p l l' _ _ a b

-- Where two ends of a link are known, they are the same nodes.
same-node : (p : Layout) (n k m x : ℕ) → IsLink p n (actor_of p k) (actor_of p x) → IsLink p n (actor_of p k) (actor_of p m) → x ≡ m
same-node p n k m x a b = let e = (numbers-one p n _ _ _ _ a b).1 in omega arith

off-agent : (p : Layout) (n k m i : ℕ) → i < p.agents → IsLink p n (actor_of p k) i → IsLink p n (actor_of p k) (actor_of p m) → ⊥
off-agent p n k m i low a b = let e = (numbers-one p n _ _ _ _ a b).1 in omega arith

pub routes-go_on : RoutesGoOn
routes-go_on p k m i l l' low (direct a) x r y = off-agent p l k m i low a x
routes-go_on p k m i l l' low r x (direct b) y = off-agent p l' m k i low b y
routes-go_on p k m i l l' low (down c t child u a) x (down d t' child' u' b) y =
    let c' = same-node p l k m c a x in let d' = same-node p l' m k d b y in
    let a0 = child.0 in let a1 = child.1 in let b0 = child'.0 in let b1 = child'.1 in omega arith
routes-go_on p k m i l l' low (down c t child u a) x (up t' off b) y =
    off (subst (λ (z : ℕ). IsUnder z (home p i)) (same-node p l k m c a x) u)
routes-go_on p k m i l l' low (up t off a) x (down d t' child' u' b) y =
    off (subst (λ (z : ℕ). IsUnder z (home p i)) (same-node p l' m k d b y) u')
routes-go_on p k m i l l' low (up t off a) x (up t' off' b) y =
    let c' = same-node p l k m (step_up k) a x in let d' = same-node p l' m k (step_up m) b y in
    elim (cases_eq k 0) [
      | inl root ↦ off (subst (λ (z : ℕ). IsUnder z (home p i)) (sym root) (under-root (home p i)))
      | inr some ↦ omega arith
    ]

-- ---- The routes lead there

abbrev pub Leads : Layout → ℕ → ℕ → Type 0
Leads p i k = (links : List ℕ) × FollowsRoutes p i k links

by-link : (p : Layout) (i k n : ℕ) → IsLink p n (actor_of p k) i → Leads p i k
by-link p i k n r = (n ∷ [], arrives k n (direct r) r)

nearer : (fuel k c h : ℕ) → IsChild k c → IsUnder c h → h - k ≤ suc fuel → h - c ≤ fuel
nearer fuel k c h child u enough = let x = under-le c h u in let a = child.0 in let b = child.1 in omega arith

at-home : (p : Layout) (i k : ℕ) → p.shape ≡ Tree → i < p.agents → home p i ≡ k → Leads p i k
at-home p i k t low here = by-link p i k _ (down-at_home p i k (not-cluster p.shape (inr t)) low (λ x. sym here))

by-child : (p : Layout) (i k c : ℕ) → IsLayout p → p.shape ≡ Tree → IsChild k c → IsUnder c (home p i) → Leads p i c → Leads p i k
by-child p i k c l t child u more =
    let x = under-le c (home p i) u in
    let in_tree = mod_below i p.nodes (omega (arith, l.some_nodes)) in
    let r = tree_down c t child.0 (omega arith) (ap (actor_of p) (sym child.1)) refl refl in
    (_, goes_on k c _ more.0 (down c t child u r) r more.1)

-- Down, where the home is under the node,
leads-down : (fuel : ℕ) (p : Layout) (i k : ℕ) → IsLayout p → p.shape ≡ Tree → i < p.agents → home p i - k ≤ fuel → IsUnder k (home p i) →
    Leads p i k
leads-down zero p i k l t low enough (s, e) = elim (under-child s k (home p i) e) [
  | inl here ↦ at-home p i k t low here
  | inr (c, child, u) ↦ absurd (let x = under-le c (home p i) u in let a = child.0 in let b = child.1 in omega arith)
]
leads-down (suc fuel) p i k l t low enough (s, e) = elim (under-child s k (home p i) e) [
  | inl here ↦ at-home p i k t low here
  | inr (c, child, u) ↦ by-child p i k c l t child u (leads-down fuel p i c l t low (nearer fuel k c (home p i) child u enough) u)
]

by-parent : (p : Layout) (i k : ℕ) → p.shape ≡ Tree → k < p.nodes → 0 < k → (IsUnder k (home p i) → ⊥) → Leads p i (step_up k) → Leads p i k
by-parent p i k t there some off more =
    let r = tree_up k t some there refl refl refl in
    (_, goes_on k (step_up k) _ more.0 (up t off r) r more.1)

-- and else up.
leads : (fuel : ℕ) (p : Layout) (i k : ℕ) → IsLayout p → p.shape ≡ Tree → i < p.agents → k < p.nodes → k ≤ fuel → Leads p i k
leads fuel p i zero l t low there enough = leads-down (home p i) p i 0 l t low (omega arith) (under-root (home p i))
leads zero p i (suc k) l t low there enough = absurd (omega arith)
leads (suc fuel) p i (suc k) l t low there enough = elim (under-or-not (suc k) (home p i)) [
  | inl u ↦ leads-down (home p i) p i (suc k) l t low (omega arith) u
  | inr off ↦ by-parent p i (suc k) t there (omega arith) off (leads fuel p i (step_up (suc k)) l t low (omega arith) (omega arith))
]

pub routes-arrive : RoutesArrive
routes-arrive p k i l there low ring = elim (shape-is p.shape) [
  | inl c ↦ by-link p i k _ (cluster_down i k c low there refl refl refl)
  | inr (inl r) ↦ by-link p i k _ (down-at_home p i k (not-cluster p.shape (inl r)) low (λ x. ring r))
  | inr (inr t) ↦ leads k p i k l t low there (omega arith)
]
