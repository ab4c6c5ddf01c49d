-- Sums over lists, and facts of all their items, where one or two items change.
use Rattle.std.proofs.Common.{◌≡◌, ◌≢◌, ℕ, zero, suc, ◌+◌, ◌≤◌, List, [], ◌∷◌, ◌++◌, length, set, refl, sym, ap, subst, arith}
use Rattle.std.specs.Prelude.{All, Some, slice_get, sum_by}
use Rattle.std.proofs.lemmas.List.Sums.{sum_by-cons, sum_by_push}
use mathlib.Core.Option.{some, some-injective, some-ne-none}
use lib.ListN.{get_elem?}

module _ {A : Type 0} where
  -- the two ways to read a list are one
  pub slice_get-get_elem : (xs : List A) (i : ℕ) (v : A) → get_elem? xs i ≡ some v → slice_get xs i ≡ Some v
  slice_get-get_elem [] i v e = absurd (some-ne-none v (sym e))
  slice_get-get_elem (x ∷ xs) zero v e = ap (λ y. Some y) (some-injective x v e)
  slice_get-get_elem (x ∷ xs) (suc i) v e = slice_get-get_elem xs i v e

  -- an item beside one that changes stays
  pub slice_get-set_other : (xs : List A) (i j : ℕ) (b w : A) → i ≢ j → slice_get xs j ≡ Some w → slice_get (set xs i b) j ≡ Some w
  slice_get-set_other [] i j b w apart e = e
  slice_get-set_other (x ∷ xs) zero zero b w apart e = absurd (apart refl)
  slice_get-set_other (x ∷ xs) zero (suc j) b w apart e = e
  slice_get-set_other (x ∷ xs) (suc i) zero b w apart e = e
  slice_get-set_other (x ∷ xs) (suc i) (suc j) b w apart e = slice_get-set_other xs i j b w (λ h. apart (ap suc h)) e

  -- what holds of all items holds of each
  pub All-slice_get : (P : A → Type 0) (xs : List A) (i : ℕ) (v : A) → All P xs → slice_get xs i ≡ Some v → P v
  All-slice_get P [] i v all e = cc
  All-slice_get P (x ∷ xs) zero v all e = let same : x ≡ v = cc in subst P same (all 0 x (omega arith))
  All-slice_get P (x ∷ xs) (suc i) v all e = All-slice_get P xs i v (λ k d l. all (suc k) d (omega arith)) e

  module _ (f : A → ℕ) where
    -- one item changes
    pub sum_by-set : (xs : List A) (i : ℕ) (v w : A) → slice_get xs i ≡ Some v → sum_by f (set xs i w) + f v ≡ sum_by f xs + f w
    sum_by-set [] i v w e = cc
    sum_by-set (x ∷ xs) zero v w e =
        let same : x ≡ v = cc in
        let h = ap f same in
        let a = sum_by-cons f x xs in
        let b = sum_by-cons f w xs in
        omega arith
    sum_by-set (x ∷ xs) (suc i) v w e =
        let h = sum_by-set xs i v w e in
        let a = sum_by-cons f x xs in
        let b = sum_by-cons f x (set xs i w) in
        omega arith

    -- one item is cut in two, and the second part comes last
    pub sum_by-split : (xs : List A) (i : ℕ) (v w u : A) → slice_get xs i ≡ Some v
        → sum_by f (set xs i w ++ u ∷ []) + f v ≡ sum_by f xs + (f w + f u)
    sum_by-split xs i v w u e = let a = sum_by-set xs i v w e in let b = sum_by_push f (set xs i w) u in omega arith

    -- two items change
    pub sum_by-join : (xs : List A) (i j : ℕ) (v w b n : A) → slice_get xs i ≡ Some v → slice_get xs j ≡ Some w → i ≢ j
        → sum_by f (set (set xs i b) j n) + (f v + f w) ≡ sum_by f xs + (f b + f n)
    sum_by-join xs i j v w b n e h apart =
        let x = sum_by-set xs i v b e in
        let y = sum_by-set (set xs i b) j w n (slice_get-set_other xs i j b w apart h) in
        omega arith

    -- one item is at most the sum
    pub le-sum_by : (xs : List A) (i : ℕ) (v : A) → slice_get xs i ≡ Some v → f v ≤ sum_by f xs
    le-sum_by [] i v e = cc
    le-sum_by (x ∷ xs) zero v e =
        let same : x ≡ v = cc in
        let h = ap f same in
        let a = sum_by-cons f x xs in
        omega arith
    le-sum_by (x ∷ xs) (suc i) v e = let h = le-sum_by xs i v e in let a = sum_by-cons f x xs in omega arith

  -- where each item's is at most the other, so is the sum
  pub sum_by-le-sum_by : (f g : A → ℕ) (xs : List A) → All (λ v. f v ≤ g v) xs → sum_by f xs ≤ sum_by g xs
  sum_by-le-sum_by f g [] each = omega arith
  sum_by-le-sum_by f g (x ∷ xs) each =
      let h = each 0 x (omega arith) in
      let t = sum_by-le-sum_by f g xs (λ k d l. each (suc k) d (omega arith)) in
      let a = sum_by-cons f x xs in
      let b = sum_by-cons g x xs in
      omega arith

  -- the length is a sum
  pub sum_by-one : (xs : List A) → sum_by (λ _. 1) xs ≡ length xs
  sum_by-one [] = refl
  sum_by-one (x ∷ xs) = let h = sum_by-one xs in let a = sum_by-cons (λ (y : A). 1) x xs in omega arith

  module _ (f g : A → ℕ) where
    -- where nobody has any of the one, nobody has any of the other
    nothing : (xs : List A) → sum_by f xs ≡ 0 → All (λ u. f u ≡ 0 → g u ≡ 0) xs → sum_by g xs ≡ 0
    nothing [] z each = refl
    nothing (x ∷ xs) z each =
        let a = sum_by-cons f x xs in
        let b = sum_by-cons g x xs in
        let h = each 0 x (omega arith) (omega arith) in
        let t = nothing xs (omega arith) (λ k d l. each (suc k) d (omega arith)) in
        omega arith

    -- where one item has all of the one, it has all of the other
    pub sum_by-sole : (xs : List A) (i : ℕ) (v : A) → slice_get xs i ≡ Some v → sum_by f xs ≡ f v
        → All (λ u. f u ≡ 0 → g u ≡ 0) xs → sum_by g xs ≡ g v
    sum_by-sole [] i v e all each = cc
    sum_by-sole (x ∷ xs) zero v e all each =
        let same : x ≡ v = cc in
        let h = ap f same in
        let k = ap g same in
        let a = sum_by-cons f x xs in
        let b = sum_by-cons g x xs in
        let t = nothing xs (omega arith) (λ k d l. each (suc k) d (omega arith)) in
        omega arith
    sum_by-sole (x ∷ xs) (suc i) v e all each =
        let a = sum_by-cons f x xs in
        let b = sum_by-cons g x xs in
        let t = le-sum_by f xs i v e in
        let h = each 0 x (omega arith) (omega arith) in
        let r = sum_by-sole xs i v e (omega arith) (λ k d l. each (suc k) d (omega arith)) in
        omega arith
