-- How many links and packets there are.
use Rattle.std.proofs.Common.{◌≡◌, ℕ, zero, suc, ◌+◌, ◌*◌, ◌<◌, ◌≤◌, ◌^◌, List, [], ◌∷◌, length, get_or, refl, ap, arith}
use Rattle.std.proofs.Common.{Bool, true, false, if◌then◌else◌, ◌==◌}
use Rattle.std.proofs.lemmas.Nat.{mul-le}
use Rattle.std.proofs.lemmas.List.Sums.{sum_by-cons}
use Rattle.std.specs.List.{sum_by}
use Rattle.abc_shape.specs.declared.shape.Shape.{Shape}
use Rattle.abc_shape.specs.declared.shape.Shape.TheVariants.{Cluster, Ring, Tree}
use Rattle.abc_shape.specs.declared.layout.Layout.{Layout}
use Rattle.abc_shape.specs.Plans.{IsLayout, link_count, links_in}

-- A ring of one node has no link around.
around : (one : Bool) (n : ℕ) → (if one then 0 else n) ≤ n
around true n = (let h : 0 ≤ n = omega arith in h)
around false n = (let h : n ≤ n = omega arith in h)

-- By shape.
few-in : (s : Shape) (a n : ℕ) → a ≤ 256 → n ≤ 64 → links_in s a n < 2 ^ 32
few-in Cluster a n few small = let m : a * n ≤ 256 * 64 = mul-le a n 256 64 few small in omega arith
few-in Ring a n few small = let m = around (n == 1) n in omega arith
few-in Tree a n few small = omega arith

-- There are fewer links than numbers of 32 bits.
pub few_links : (p : Layout) → IsLayout p → link_count p < 2 ^ 32
few_links p h = few-in p.shape p.agents p.nodes h.most_agents h.most_nodes

-- Where there is no item in all, each queue is empty.
pub all_empty : {X : Type 0} (qs : List (List X)) → sum_by length qs ≡ 0 → (l : ℕ) → get_or qs l [] ≡ []
all_empty [] h l = refl
all_empty ([] ∷ qs) h zero = refl
all_empty ((x ∷ q) ∷ qs) h zero =
    let e : sum_by length ((x ∷ q) ∷ qs) ≡ suc (length q) + sum_by length qs = sum_by-cons length (x ∷ q) qs in
    absurd (omega arith)
all_empty (q ∷ qs) h (suc l) =
    let e : sum_by length (q ∷ qs) ≡ length q + sum_by length qs = sum_by-cons length q qs in
    all_empty qs (omega arith) l

-- And back.
pub none_counted : {X : Type 0} (qs : List (List X)) → ((l : ℕ) → get_or qs l [] ≡ []) → sum_by length qs ≡ 0
none_counted [] h = refl
none_counted (q ∷ qs) h =
    let first : length q ≡ 0 = ap length (h zero) in
    let more : sum_by length qs ≡ 0 = none_counted qs (λ l. h (suc l)) in
    let e : sum_by length (q ∷ qs) ≡ length q + sum_by length qs = sum_by-cons length q qs in
    omega arith
