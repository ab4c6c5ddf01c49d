-- The rows of the tables, from a number: each number below the count has its row, and its row alone.
use Rattle.std.proofs.Common.{◌≡◌, ◌≢◌, ℕ, ◌+◌, ◌-◌, ◌*◌, ◌/◌, ◌%◌, ◌<◌, ◌≤◌, refl, sym, ap, ◌∙◌, subst, arith}
use Rattle.std.specs.Prelude.{◌==◌, nat_lt, true, false, if◌then◌else◌}
use Rattle.std.proofs.lemmas.Bool.{eq-eqb, ne_eqb, lt-ltb, le-ltb}
use Rattle.std.proofs.Math.Nat.{mul-le-mul_right}
use Rattle.std.proofs.lemmas.Nat.{div_below, mod_below, div-mul-add, mod-mul-add, div-add-mod'}
use Rattle.abc_shape.specs.declared.shape.Shape.{Shape}
use Rattle.abc_shape.specs.declared.shape.Shape.TheVariants.{Cluster, Ring, Tree}
use Rattle.abc_shape.specs.declared.layout.Layout.{Layout}
use Rattle.abc_shape.specs.declared.layout.LinkEnds.{LinkEnds}
use Rattle.abc_shape.specs.Plans.{IsLayout, IsLink, cluster_up, cluster_down, home_up, home_down, along, tree_up, tree_down, links_in, link_count}

-- The count, by shape.
pub count-cluster : (p : Layout) → p.shape ≡ Cluster → link_count p ≡ 2 * (p.agents * p.nodes)
count-cluster p s = ap (λ s. links_in s p.agents p.nodes) s

pub count-tree : (p : Layout) → p.shape ≡ Tree → link_count p ≡ 2 * p.agents + 2 * (p.nodes - 1)
count-tree p s = ap (λ s. links_in s p.agents p.nodes) s

pub count-ring : (p : Layout) → p.shape ≡ Ring → 1 < p.nodes → link_count p ≡ 2 * p.agents + p.nodes
count-ring p s several =
    let one : (p.nodes == 1) ≡ false = ne_eqb p.nodes 1 (λ e. absurd (omega arith)) in
    ap (λ s. links_in s p.agents p.nodes) s ∙ rw one refl

pub count-ring_of_one : (p : Layout) → p.shape ≡ Ring → p.nodes ≡ 1 → link_count p ≡ 2 * p.agents
count-ring_of_one p s e =
    let one : (p.nodes == 1) ≡ true = eq-eqb p.nodes 1 e in
    ap (λ s. links_in s p.agents p.nodes) s ∙ rw one (omega arith)

-- A cluster's number has its agent and its node.
pub cluster_even : (p : Layout) (n : ℕ) → IsLayout p → p.shape ≡ Cluster → n < link_count p → n % 2 ≡ 0 → IsLink p n (n / 2 / p.nodes) (p.agents + n / 2 % p.nodes)
cluster_even p n l s h even =
    let c = count-cluster p s in
    let some : 0 < p.nodes = omega (arith, l.some_nodes) in
    let pair : n / 2 < p.agents * p.nodes = omega arith in
    let whole = div-add-mod' (n / 2) p.nodes in
    cluster_up (n / 2 / p.nodes) (n / 2 % p.nodes) s (div_below (n / 2) p.nodes p.agents some pair) (mod_below (n / 2) p.nodes some) refl refl (omega arith)

pub cluster_odd : (p : Layout) (n : ℕ) → IsLayout p → p.shape ≡ Cluster → n < link_count p → (n % 2 ≡ 0 → ⊥) → IsLink p n (p.agents + n / 2 % p.nodes) (n / 2 / p.nodes)
cluster_odd p n l s h odd =
    let c = count-cluster p s in
    let some : 0 < p.nodes = omega (arith, l.some_nodes) in
    let rest : n % 2 ≡ 1 = omega arith in
    let pair : n / 2 < p.agents * p.nodes = omega arith in
    let whole = div-add-mod' (n / 2) p.nodes in
    cluster_down (n / 2 / p.nodes) (n / 2 % p.nodes) s (div_below (n / 2) p.nodes p.agents some pair) (mod_below (n / 2) p.nodes some) refl refl (omega arith)

-- A link to or from a home, by its number.
pub home_even : (p : Layout) (n : ℕ) → p.shape ≢ Cluster → n < 2 * p.agents → n % 2 ≡ 0 → IsLink p n (n / 2) (p.agents + n / 2 % p.nodes)
home_even p n s h even = home_up (n / 2) s (omega arith) refl refl (omega arith)

pub home_odd : (p : Layout) (n : ℕ) → p.shape ≢ Cluster → n < 2 * p.agents → (n % 2 ≡ 0 → ⊥) → IsLink p n (p.agents + n / 2 % p.nodes) (n / 2)
home_odd p n s h odd = home_down (n / 2) s (omega arith) refl refl (omega arith)

-- A link of a tree between nodes, by what its number has past those of the agents.
pub tree_even : (p : Layout) (n : ℕ) → p.shape ≡ Tree → n < 2 * (p.nodes - 1) → n % 2 ≡ 0 → IsLink p (2 * p.agents + n) (p.agents + n / 2 + 1) (p.agents + n / 2 / 2)
tree_even p n s h even = tree_up (n / 2 + 1) s (omega arith) (omega arith) (omega arith) (omega arith) (omega arith)

pub tree_odd : (p : Layout) (n : ℕ) → p.shape ≡ Tree → n < 2 * (p.nodes - 1) → (n % 2 ≡ 0 → ⊥) → IsLink p (2 * p.agents + n) (p.agents + n / 2 / 2) (p.agents + n / 2 + 1)
tree_odd p n s h odd = tree_down (n / 2 + 1) s (omega arith) (omega arith) (omega arith) (omega arith) (omega arith)

-- ---- A number has one row

abbrev pub ends : ℕ → ℕ → LinkEnds
ends from to = record { from = from; to = to }

-- the ends that a number's row has, computed
abbrev pub turned : ℕ → ℕ → ℕ → LinkEnds
turned n from to = if n % 2 == 0 then ends from to else ends to from

abbrev pub row_in : Shape → ℕ → ℕ → ℕ → LinkEnds
row_in Cluster a m n = turned n (n / 2 / m) (a + n / 2 % m)
row_in Ring a m n = if nat_lt n (2 * a) then turned n (n / 2) (a + n / 2 % m) else ends (a + (n - 2 * a)) (a + (n - 2 * a + 1) % m)
row_in Tree a m n = if nat_lt n (2 * a) then turned n (n / 2) (a + n / 2 % m) else turned n (a + ((n - 2 * a) / 2 + 1)) (a + (n - 2 * a) / 2 / 2)

abbrev pub row : Layout → ℕ → LinkEnds
row p n = row_in p.shape p.agents p.nodes n

turned-even : (n m from to : ℕ) → n ≡ 2 * m → turned n from to ≡ ends from to
turned-even n m from to e = let z : (n % 2 == 0) ≡ true = eq-eqb (n % 2) 0 (omega arith) in rw z refl

turned-odd : (n m from to : ℕ) → n ≡ 2 * m + 1 → turned n from to ≡ ends to from
turned-odd n m from to e = let z : (n % 2 == 0) ≡ false = ne_eqb (n % 2) 0 (λ h. absurd (omega arith)) in rw z refl

-- with the parts of the ends known
turned-up : (n m from to f t : ℕ) → n ≡ 2 * m → from ≡ f → to ≡ t → turned n from to ≡ ends f t
turned-up n m from to f t e a b = turned-even n m from to e ∙ (ap (λ x. ends x to) a ∙ ap (ends f) b)

turned-down : (n m from to f t : ℕ) → n ≡ 2 * m + 1 → from ≡ f → to ≡ t → turned n from to ≡ ends t f
turned-down n m from to f t e a b = turned-odd n m from to e ∙ (ap (ends to) a ∙ ap (λ x. ends x f) b)

low-row : (s : Shape) (a m n : ℕ) → s ≢ Cluster → n < 2 * a → row_in s a m n ≡ turned n (n / 2) (a + n / 2 % m)
low-row Cluster a m n s h = absurd (s refl)
low-row Ring a m n s h = let z : nat_lt n (2 * a) ≡ true = lt-ltb n (2 * a) h in rw z refl
low-row Tree a m n s h = let z : nat_lt n (2 * a) ≡ true = lt-ltb n (2 * a) h in rw z refl

ring-row : (a m n : ℕ) → 2 * a ≤ n → row_in Ring a m n ≡ ends (a + (n - 2 * a)) (a + (n - 2 * a + 1) % m)
ring-row a m n h = let z : nat_lt n (2 * a) ≡ false = le-ltb n (2 * a) h in rw z refl

tree-row : (a m n : ℕ) → 2 * a ≤ n → row_in Tree a m n ≡ turned n (a + ((n - 2 * a) / 2 + 1)) (a + (n - 2 * a) / 2 / 2)
tree-row a m n h = let z : nat_lt n (2 * a) ≡ false = le-ltb n (2 * a) h in rw z refl

pair-is : {a b f t : ℕ} → a ≡ f → b ≡ t → ends a b ≡ ends f t
pair-is {a} {b} {f} {t} e g = ap (λ x. ends x b) e ∙ ap (ends f) g

by-shape : (p : Layout) (s : Shape) (n : ℕ) → p.shape ≡ s → row p n ≡ row_in s p.agents p.nodes n
by-shape p s n e = ap (λ s. row_in s p.agents p.nodes n) e

pub row-is : (p : Layout) (n from to : ℕ) → IsLink p n from to → row p n ≡ ends from to
row-is p n from to (cluster_up i k s ai kn f t e) =
    let half : n / 2 ≡ i * p.nodes + k = omega arith in
    let first : n / 2 / p.nodes ≡ from = ap (λ x. x / p.nodes) half ∙ (div-mul-add i p.nodes k kn ∙ sym f) in
    let second : p.agents + n / 2 % p.nodes ≡ to = ap (λ x. p.agents + x % p.nodes) half ∙ (ap (λ x. p.agents + x) (mod-mul-add i p.nodes k kn) ∙ sym t) in
    by-shape p Cluster n s ∙ turned-up n (i * p.nodes + k) _ _ from to e first second
row-is p n from to (cluster_down i k s ai kn f t e) =
    let half : n / 2 ≡ i * p.nodes + k = omega arith in
    let first : n / 2 / p.nodes ≡ to = ap (λ x. x / p.nodes) half ∙ (div-mul-add i p.nodes k kn ∙ sym t) in
    let second : p.agents + n / 2 % p.nodes ≡ from = ap (λ x. p.agents + x % p.nodes) half ∙ (ap (λ x. p.agents + x) (mod-mul-add i p.nodes k kn) ∙ sym f) in
    by-shape p Cluster n s ∙ turned-down n (i * p.nodes + k) _ _ to from e first second
row-is p n from to (home_up i s ai f t e) =
    let half : n / 2 ≡ i = omega arith in
    low-row p.shape p.agents p.nodes n s (omega arith) ∙ turned-up n i _ _ from to e (half ∙ sym f) (ap (λ x. p.agents + x % p.nodes) half ∙ sym t)
row-is p n from to (home_down i s ai f t e) =
    let half : n / 2 ≡ i = omega arith in
    low-row p.shape p.agents p.nodes n s (omega arith) ∙ turned-down n i _ _ to from e (half ∙ sym t) (ap (λ x. p.agents + x % p.nodes) half ∙ sym f)
row-is p n from to (along k s several kn f t e) =
    let past : n - 2 * p.agents ≡ k = omega arith in
    let first : p.agents + (n - 2 * p.agents) ≡ from = omega arith in
    let second : p.agents + (n - 2 * p.agents + 1) % p.nodes ≡ to = ap (λ x. p.agents + (x + 1) % p.nodes) past ∙ sym t in
    by-shape p Ring n s ∙ (ring-row p.agents p.nodes n (omega arith) ∙ pair-is first second)
row-is p n from to (tree_up k s some kn f t e) =
    let first : p.agents + ((n - 2 * p.agents) / 2 + 1) ≡ from = omega arith in
    let second : p.agents + (n - 2 * p.agents) / 2 / 2 ≡ to = omega arith in
    by-shape p Tree n s ∙ (tree-row p.agents p.nodes n (omega arith) ∙ turned-up n (p.agents + (k - 1)) _ _ from to (omega arith) first second)
row-is p n from to (tree_down k s some kn f t e) =
    let first : p.agents + ((n - 2 * p.agents) / 2 + 1) ≡ to = omega arith in
    let second : p.agents + (n - 2 * p.agents) / 2 / 2 ≡ from = omega arith in
    by-shape p Tree n s ∙ (tree-row p.agents p.nodes n (omega arith) ∙ turned-down n (p.agents + (k - 1)) _ _ to from (omega arith) first second)

-- A pair of an agent and a node has a number below that of all pairs.
pub pair-below : (i k a m : ℕ) → i < a → k < m → i * m + k < a * m
pair-below i k a m ai km =
    let next : (i + 1) * m ≤ a * m = mul-le-mul_right m (omega arith) in
    let one : (i + 1) * m ≡ i * m + m = omega arith in
    omega arith

homes-in : (s : Shape) (a m : ℕ) → s ≢ Cluster → 2 * a ≤ links_in s a m
homes-in Cluster a m s = absurd (s refl)
homes-in Ring a m s = omega arith
homes-in Tree a m s = omega arith

homes-below : (p : Layout) → IsLayout p → p.shape ≢ Cluster → 2 * p.agents ≤ link_count p
homes-below p l s = homes-in p.shape p.agents p.nodes s

-- and each row's number is below the count
pub row-below : (p : Layout) (n from to : ℕ) → IsLayout p → IsLink p n from to → n < link_count p
row-below p n from to l (cluster_up i k s ai kn f t e) =
    let c = count-cluster p s in let b = pair-below i k p.agents p.nodes ai kn in omega arith
row-below p n from to l (cluster_down i k s ai kn f t e) =
    let c = count-cluster p s in let b = pair-below i k p.agents p.nodes ai kn in omega arith
row-below p n from to l (home_up i s ai f t e) = let c = homes-below p l s in omega arith
row-below p n from to l (home_down i s ai f t e) = let c = homes-below p l s in omega arith
row-below p n from to l (along k s several kn f t e) = let c = count-ring p s several in omega arith
row-below p n from to l (tree_up k s some kn f t e) = let c = count-tree p s in omega arith
row-below p n from to l (tree_down k s some kn f t e) = let c = count-tree p s in omega arith

-- The same row, at an equal number.
pub at-number : (p : Layout) (m n from to : ℕ) → m ≡ n → IsLink p m from to → IsLink p n from to
at-number p m n from to e r = subst (λ (x : ℕ). IsLink p x from to) e r
