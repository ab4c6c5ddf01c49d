-- In a tree a copy comes to each node, and to each agent but the sender.
use Rattle.std.proofs.Common.{◌≡◌, ◌≢◌, ℕ, zero, suc, ◌+◌, ◌-◌, ◌*◌, ◌<◌, ◌≤◌, List, [], refl, sym, ap, ◌∙◌, subst, arith, inl, inr}
use Rattle.std.specs.Prelude.{◌⊎◌}
use Rattle.std.proofs.lemmas.Nat.{mod_below}
use Rattle.abc_shape.specs.declared.shape.Shape.TheVariants.{Tree}
use Rattle.abc_shape.specs.declared.layout.Layout.{Layout}
use Rattle.abc_shape.specs.Plans.{actor_of, home, step_up, IsLink, home_down, tree_up, tree_down}
use Rattle.abc_shape.specs.Routes.{IsUnder, IsChild}
use Rattle.abc_shape.proofs.Steps.{under-root, under-le, under-child}
use Rattle.abc_shape_laws.specs.Copies.{to_neighbour, Comes, there, onward}
use Rattle.abc_shape_laws.specs.CopyLaws.{TreeCopies}
use Rattle.abc_shape_laws.proofs.Links.{same-ends}
use Rattle.abc_shape_laws.proofs.Trees.{child-greater, under-or-not}
use Rattle.abc_shape_laws.proofs.TreeFlow.{no-cluster, tree-once, tree-not_itself}

-- Where a copy comes from: the sender, or a node.
abbrev From : Layout → ℕ → ℕ → Type 0
From p s f = (f ≡ s) ⊎ (p.agents ≤ f)

-- From node m a copy comes to the goal, wherever it came from.
abbrev Last : Layout → ℕ → ℕ → ℕ → Type 0
Last p s m goal = (l f : ℕ) → IsLink p l f (actor_of p m) → From p s f → (more : List ℕ) × Comes p s l more goal

-- It didn't come from below where the goal is.
abbrev Away : Layout → ℕ → ℕ → ℕ → Type 0
Away p f k m = (c : ℕ) → IsChild k c → IsUnder c m → f ≡ actor_of p c → ⊥

at-node : (p : Layout) (s k m l f goal : ℕ) → m ≡ k → Last p s m goal → From p s f → IsLink p l f (actor_of p k) →
    (more : List ℕ) × Comes p s l more goal
at-node p s k m l f goal e last from x = last l f (same-ends p l _ _ _ _ refl (ap (actor_of p) (sym e)) x) from

to-child : (p : Layout) (s k c m l f goal : ℕ) → p.shape ≡ Tree → c < p.nodes → IsChild k c → IsUnder c m → Away p f k m →
    IsLink p l f (actor_of p k) →
    ((n : ℕ) → IsLink p n (actor_of p k) (actor_of p c) → (more : List ℕ) × Comes p s n more goal) → (more : List ℕ) × Comes p s l more goal
to-child p s k c m l f goal t low is_child u away x on =
    let y : IsLink p (2 * p.agents + 2 * (c - 1) + 1) (actor_of p k) (actor_of p c) = tree_down c t is_child.0 low (ap (actor_of p)
    (sym is_child.1)) refl refl in
    let more = on _ y in
    (_, onward l f k _ more.0 goal x (to_neighbour f (actor_of p c) t x y (λ e. away c is_child u (sym e))) more.1)

further-down : (p : Layout) (k c m : ℕ) → IsChild k c → Away p (actor_of p k) c m
further-down p k c m is_child d below u e = let a = child-greater k c is_child in let b = child-greater c d below in omega arith

lower : (fuel k c m : ℕ) → IsChild k c → IsUnder c m → m - k ≤ suc fuel → m - c ≤ fuel
lower fuel k c m is_child u enough = let a = child-greater k c is_child in let b = under-le c m u in omega arith

goes-down : (fuel : ℕ) (p : Layout) (s k m l f goal : ℕ) → p.shape ≡ Tree → m < p.nodes → m - k ≤ fuel → IsUnder k m → Last p s m goal →
    From p s f → Away p f k m →
    IsLink p l f (actor_of p k) → (more : List ℕ) × Comes p s l more goal
goes-down zero p s k m l f goal t low enough (n, e) last from away x = elim (under-child n k m e) [
  | inl here ↦ at-node p s k m l f goal here last from x
  | inr (c, is_child, u) ↦ absurd (let a = child-greater k c is_child in let b = under-le c m u in omega arith)
]
goes-down (suc fuel) p s k m l f goal t low enough (n, e) last from away x = elim (under-child n k m e) [
  | inl here ↦ at-node p s k m l f goal here last from x
  | inr (c, is_child, u) ↦
      to-child p s k c m l f goal t (let b = under-le c m u in omega arith) is_child u away x
      (λ n y. goes-down fuel p s c m n (actor_of p k) goal t low (lower fuel k c m is_child u enough) u last (inr (omega arith))
      (further-down p k c m is_child) y)
]

to-parent : (p : Layout) (s k l f goal : ℕ) → p.shape ≡ Tree → k < p.nodes → 0 < k → (f ≡ actor_of p (step_up k) → ⊥) →
    IsLink p l f (actor_of p k) →
    ((n : ℕ) → IsLink p n (actor_of p k) (actor_of p (step_up k)) → (more : List ℕ) × Comes p s n more goal) →
    (more : List ℕ) × Comes p s l more goal
to-parent p s k l f goal t low some away x on =
    let y : IsLink p (2 * p.agents + 2 * (k - 1)) (actor_of p k) (actor_of p (step_up k)) = tree_up k t some low refl refl refl in
    let more = on _ y in
    (_, onward l f k _ more.0 goal x (to_neighbour f (actor_of p (step_up k)) t x y (λ e. away (sym e))) more.1)

-- Not from below where the goal is, since the goal is not there.
not-from-there : (p : Layout) (k m : ℕ) → (IsUnder k m → ⊥) → Away p (actor_of p k) (step_up k) m
not-from-there p k m off c is_child u e = off (let same : c ≡ k = omega arith in subst (λ (x : ℕ). IsUnder x m) same u)

goes-up : (fuel : ℕ) (p : Layout) (s k m l f goal : ℕ) → p.shape ≡ Tree → k < p.nodes → m < p.nodes → k ≤ fuel → (IsUnder k m → ⊥) →
    Last p s m goal →
    (f ≡ actor_of p (step_up k) → ⊥) → IsLink p l f (actor_of p k) → (more : List ℕ) × Comes p s l more goal
goes-up fuel p s zero m l f goal t there_is low enough off last away x = absurd (off (under-root m))
goes-up zero p s (suc k) m l f goal t there_is low enough off last away x = absurd (omega arith)
goes-up (suc fuel) p s (suc k) m l f goal t there_is low enough off last away x =
    to-parent p s (suc k) l f goal t there_is (omega arith) away x (λ n y. elim (under-or-not (step_up (suc k)) m) [
      | inl u ↦ goes-down m p s (step_up (suc k)) m n (actor_of p (suc k)) goal t low (omega arith) u last (inr (omega arith)) (not-from-there p
          (suc k) m off) y
      | inr off' ↦ goes-up fuel p s (step_up (suc k)) m n (actor_of p (suc k)) goal t (omega arith) low (omega arith) off' last
          (λ e. absurd (omega arith)) y
    ])

comes-to : (p : Layout) (s k m l goal : ℕ) → p.shape ≡ Tree → s < p.agents → k < p.nodes → m < p.nodes → Last p s m goal →
    IsLink p l s (actor_of p k) → (more : List ℕ) × Comes p s l more goal
comes-to p s k m l goal t s_low k_low low last x = elim (under-or-not k m) [
  | inl u ↦ goes-down m p s k m l s goal t low (omega arith) u last (inl refl) (λ c is_child v e. absurd (omega arith)) x
  | inr off ↦ goes-up k p s k m l s goal t k_low low (omega arith) off last (λ e. absurd (omega arith)) x
]

other-agent : (p : Layout) (s i f : ℕ) → i < p.agents → i ≢ s → From p s f → i ≢ f
other-agent p s i f low ne (inl e) same = ne (same ∙ e)
other-agent p s i f low ne (inr high) same = omega arith

to-agent : (p : Layout) (s i : ℕ) → p.shape ≡ Tree → i < p.agents → i ≢ s → Last p s (home p i) i
to-agent p s i t low ne l f x from =
    let y : IsLink p (2 * i + 1) (actor_of p (home p i)) i = home_down i (no-cluster p t) low refl refl refl in (
      _,
      onward l f (home p i) (2 * i + 1) [] i x
          (to_neighbour f i t x y (other-agent p s i f low ne from)) (there (2 * i + 1) (actor_of p (home p i)) i y),
    )

pub tree-copies : TreeCopies
tree-copies p s link l t (low, (k, k_low, x)) = (
  record {
    others = λ i i_low ne. record {
      comes = comes-to p s k (home p i) link i t low k_low (mod_below i p.nodes (omega (arith, l.some_nodes))) (to-agent p s i t i_low ne) x;
      once = λ ms ns a b. tree-once p s k link ms ns i t low x a b;
    };
    not_itself = λ ms a. tree-not_itself p s k link ms t low x a;
  },
  λ m m_low. record {
    comes = comes-to p s k m link (actor_of p m) t low k_low m_low (λ n g y from. ([], there n g (actor_of p m) y)) x;
    once = λ ms ns a b. tree-once p s k link ms ns (actor_of p m) t low x a b;
  },
)
