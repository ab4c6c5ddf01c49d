-- Links and their numbers.
use Rattle.std.proofs.Common.{◌≡◌, ◌≢◌, ℕ, ◌+◌, ◌-◌, ◌*◌, ◌%◌, ◌<◌, ◌≤◌, refl, sym, ap, ◌∙◌, subst, arith, inl, inr}
use Rattle.std.specs.Prelude.{◌⊎◌}
use Rattle.std.proofs.lemmas.Bool.{cases_eq, cases_lt}
use Rattle.abc_shape.specs.declared.shape.Shape.{Shape}
use Rattle.abc_shape.specs.declared.shape.Shape.TheVariants.{Cluster, Ring, Tree}
use Rattle.abc_shape.specs.declared.layout.Layout.{Layout}
use Rattle.abc_shape.specs.declared.layout.LinkEnds.{LinkEnds}
use Rattle.abc_shape.specs.Plans.{IsLayout, home, successor, step_up, IsLink, cluster_up}
use Rattle.abc_shape.specs.Plans.{cluster_down, home_up, home_down, along, tree_up, tree_down, link_count}
use Rattle.abc_shape.proofs.Rows.{ends, row-is, row-below, count-ring, count-ring_of_one, count-tree}
use Rattle.abc_shape.proofs.Rows.{cluster_even, cluster_odd, home_even, home_odd, tree_even, tree_odd, at-number}
use Rattle.abc_shape.proofs.Ended.{up-number, down-number, ring-number, tree-number, not-cluster}
use Rattle.abc_shape_laws.specs.LinkLaws.{NumbersHaveOneLink, EndsHaveOneLink, NumbersAreBelow}

pub numbers-one : NumbersHaveOneLink
numbers-one p n f t f' t' a b =
    let e : ends f t ≡ ends f' t' = sym (row-is p n f t a) ∙ row-is p n f' t' b in
    (ap (λ (x : LinkEnds). x.from) e, ap (λ (x : LinkEnds). x.to) e)

-- The same link, at equal ends.
pub same-ends : (p : Layout) (n f t f' t' : ℕ) → f ≡ f' → t ≡ t' → IsLink p n f t → IsLink p n f' t'
same-ends p n f t f' t' a b r = subst (λ (x : ℕ). IsLink p n f' x) b (subst (λ (x : ℕ). IsLink p n x t) a r)

pub ends-one : EndsHaveOneLink
ends-one p n m f t (cluster_up i k s ai kn a b e) r =
    elim (up-number p m i k ai (same-ends p m f t _ _ a b r)) [ inl x ↦ e ∙ sym x.1 | inr x ↦ absurd (x.0 s) ]
ends-one p n m f t (cluster_down i k s ai kn a b e) r =
    elim (down-number p m i k ai (same-ends p m f t _ _ a b r)) [ inl x ↦ e ∙ sym x.1 | inr x ↦ absurd (x.0 s) ]
ends-one p n m f t (home_up i s ai a b e) r =
    elim (up-number p m i (home p i) ai (same-ends p m f t _ _ a b r)) [ inl x ↦ absurd (s x.0) | inr x ↦ e ∙ sym x.2 ]
ends-one p n m f t (home_down i s ai a b e) r =
    elim (down-number p m i (home p i) ai (same-ends p m f t _ _ a b r)) [ inl x ↦ absurd (s x.0) | inr x ↦ e ∙ sym x.2 ]
ends-one p n m f t (along k s o kn a b e) r = e ∙ sym (ring-number p m k (successor p k) s (same-ends p m f t _ _ a b r)).2
ends-one p n m f t (tree_up k s o kn a b e) r =
    elim (tree-number p m k (step_up k) s (same-ends p m f t _ _ a b r)) [ inl x ↦ e ∙ sym x.2 | inr x ↦ absurd (let y = x.0 in omega arith) ]
ends-one p n m f t (tree_down k s o kn a b e) r =
    elim (tree-number p m (step_up k) k s (same-ends p m f t _ _ a b r)) [ inl x ↦ absurd (let y = x.0 in omega arith) | inr x ↦ e ∙ sym x.2 ]

-- A property of a link's ends, from the ends that are known of it.
pub aligned : (p : Layout) (n f t f' t' : ℕ) (P : ℕ → ℕ → Type 0) → IsLink p n f t → IsLink p n f' t' → P f t → P f' t'
aligned p n f t f' t' P a b x =
    let e = numbers-one p n f t f' t' a b in subst (λ (y : ℕ). P f' y) e.1 (subst (λ (y : ℕ). P y t) e.0 x)

pub shape-is : (s : Shape) → (s ≡ Cluster) ⊎ ((s ≡ Ring) ⊎ (s ≡ Tree))
shape-is Cluster = inl refl
shape-is Ring = inr (inl refl)
shape-is Tree = inr (inr refl)

-- Each number below the count has a link.
abbrev pub HasLink : Layout → ℕ → Type 0
HasLink p n = (from : ℕ) × (to : ℕ) × IsLink p n from to

low-link : (p : Layout) (n : ℕ) → p.shape ≢ Cluster → n < 2 * p.agents → HasLink p n
low-link p n s h = elim (cases_eq (n % 2) 0) [ inl e ↦ (_, _, home_even p n s h e) | inr e ↦ (_, _, home_odd p n s h e) ]

cluster-link : (p : Layout) (n : ℕ) → IsLayout p → p.shape ≡ Cluster → n < link_count p → HasLink p n
cluster-link p n l s h = elim (cases_eq (n % 2) 0) [ inl e ↦ (_, _, cluster_even p n l s h e) | inr e ↦ (_, _, cluster_odd p n l s h e) ]

ring-link : (p : Layout) (n : ℕ) → IsLayout p → p.shape ≡ Ring → n < link_count p → 2 * p.agents ≤ n → HasLink p n
ring-link p n l s h high = elim (cases_eq p.nodes 1) [
  | inl e ↦ absurd (let c = count-ring_of_one p s e in omega arith)
  | inr e ↦ (
      let several : 1 < p.nodes = omega (arith, l.some_nodes) in
      let c = count-ring p s several in
      (_, _, along (n - 2 * p.agents) s several (omega arith) refl refl (omega arith)))
]

tree-link : (p : Layout) (n : ℕ) → p.shape ≡ Tree → n < link_count p → 2 * p.agents ≤ n → HasLink p n
tree-link p n s h high =
    let c = count-tree p s in
    let past : n - 2 * p.agents < 2 * (p.nodes - 1) = omega arith in
    let same : 2 * p.agents + (n - 2 * p.agents) ≡ n = omega arith in
    elim (cases_eq ((n - 2 * p.agents) % 2) 0) [
      | inl e ↦ (_, _, at-number p _ n _ _ same (tree_even p (n - 2 * p.agents) s past e))
      | inr e ↦ (_, _, at-number p _ n _ _ same (tree_odd p (n - 2 * p.agents) s past e))
    ]

has-link : (p : Layout) (n : ℕ) → IsLayout p → n < link_count p → HasLink p n
has-link p n l h = elim (shape-is p.shape) [
  | inl c ↦ cluster-link p n l c h
  | inr other ↦ elim (cases_lt n (2 * p.agents)) [
    | inl low ↦ low-link p n (not-cluster p.shape other) low
    | inr high ↦ elim other [ inl r ↦ ring-link p n l r h high | inr t ↦ tree-link p n t h high ]
  ]
]

pub numbers-below : NumbersAreBelow
numbers-below p n l = (has-link p n l, λ (f, t, r). row-below p n f t l r)
