-- How often a number stands in a list. Two lists are permutations of each other exactly where each number
-- stands in both as often.
use Rattle.std.proofs.Common.{◌≡◌, ◌⊎◌, ⊎_elim, inl, inr, ℕ, ◌+◌, ◌<◌, ◌==◌, List, [], ◌∷◌, ◌++◌, cond, Bool, true, false}
use Rattle.std.proofs.Common.{take, drop, refl, sym, ap, subst, arith}
use Rattle.std.specs.Prelude.{sum_by, IsPermutation}
use Rattle.std.specs.List.{flat_map}
use Rattle.std.proofs.lemmas.Bool.{eqb-true}
use Rattle.std.proofs.lemmas.Bool.Decides.{nat_tests}
use Rattle.std.proofs.lemmas.List.Sums.{sum_by-cons, sum_by-append}
use Rattle.std.proofs.lemmas.List.Sorted.{sum_by-IsPermutation, IsPermutation-refl, IsPermutation-sym, IsPermutation-trans}
use Rattle.std.proofs.lemmas.List.Sorted.{IsPermutation-cons, IsPermutation-middle}

-- 1 where the numbers are the same
abbrev hit : ℕ → ℕ → ℕ
hit x y = cond (y == x) 1 0

-- how often a number stands in a list
abbrev pub times : ℕ → List ℕ → ℕ
times x ys = sum_by (λ y. hit x y) ys

-- once more at the head of a longer list
times-cons : (x y : ℕ) (ys : List ℕ) → times x (y ∷ ys) ≡ hit x y + times x ys
times-cons x y ys = sum_by-cons (λ z. hit x z) y ys

-- in two lists one behind the other it stands as often as in both
pub times-append : (x : ℕ) (ys zs : List ℕ) → times x (ys ++ zs) ≡ times x ys + times x zs
times-append x ys zs = sum_by-append (λ y. hit x y) ys zs

-- in lists one behind the other, as often as in all
pub times-flat_map : {A : Type 0} (f : A → List ℕ) (x : ℕ) (items : List A) → times x (flat_map f items) ≡ sum_by (λ a. times x (f a)) items
times-flat_map f x [] = refl
times-flat_map f x (a ∷ items) =
    let e = times-append x (f a) (flat_map f items) in
    let h = times-flat_map f x items in
    let s = sum_by-cons (λ b. times x (f b)) a items in
    omega arith

-- a list cut behind its first has the same numbers
pub times-cut : (x : ℕ) (ys : List ℕ) → times x (drop 1 ys) + times x (take 1 ys) ≡ times x ys
times-cut x [] = refl
times-cut x (y ∷ ys) = let e = times-cons x y ys in let s = times-cons x y [] in omega arith

-- in permutations a number stands as often
pub times-IsPermutation : (xs ys : List ℕ) → IsPermutation xs ys → (x : ℕ) → times x xs ≡ times x ys
times-IsPermutation xs ys p x = sym (sum_by-IsPermutation (λ y. hit x y) xs ys p)

-- a test has one of its two values
cases : (b : Bool) → (b ≡ true) ⊎ (b ≡ false)
cases true = inl refl
cases false = inr refl

-- a number is the same as itself
hit-same : (x : ℕ) → hit x x ≡ 1
hit-same x = grind (arith, nat_tests)

-- a list in which a number stands, cut there
abbrev CutAt : ℕ → List ℕ → Type 0
CutAt x ys = (before : List ℕ) × (behind : List ℕ) × (ys ≡ before ++ x ∷ behind)

-- a number that stands in a list has a place there
cut_at : (x : ℕ) (ys : List ℕ) → 0 < times x ys → CutAt x ys
cut_at x [] some = absurd (omega arith)
cut_at x (y ∷ ys) some = ⊎_elim
    (λ (e : (y == x) ≡ true).
    let cut : CutAt x (y ∷ ys) = ([], ys, ap (λ z. z ∷ ys) (eqb-true y x e)) in
    cut)
    (λ (e : (y == x) ≡ false).
    let none : hit x y ≡ 0 = ap (λ b. cond b 1 0) e in
    let s = times-cons x y ys in
    let r = cut_at x ys (omega arith) in
    let cut : CutAt x (y ∷ ys) = (y ∷ r.0, r.1, ap (λ zs. y ∷ zs) r.2) in
    cut)
    (cases (y == x))

-- where each number stands as often, the lists are permutations
pub IsPermutation-times : (xs ys : List ℕ) → ((x : ℕ) → times x xs ≡ times x ys) → IsPermutation xs ys
IsPermutation-times [] [] same = IsPermutation-refl []
IsPermutation-times [] (y ∷ ys) same =
    let e = same y in
    let s = times-cons y y ys in
    let h = hit-same y in
    absurd (omega arith)
IsPermutation-times (x ∷ xs) ys same =
    let e = same x in
    let s = times-cons x x xs in
    let h = hit-same x in
    let cut = cut_at x ys (omega arith) in
    let before = cut.0 in
    let behind = cut.1 in
    let rest : (k : ℕ) → times k xs ≡ times k (before ++ behind) =
    λ k.
    let a = same k in
    let b = times-cons k x xs in
    let c = ap (times k) cut.2 in
    let d = times-append k before (x ∷ behind) in
    let f = times-cons k x behind in
    let g = times-append k before behind in
    omega arith in
    let front = IsPermutation-cons x xs (before ++ behind) (IsPermutation-times xs (before ++ behind) rest) in
    let middle = IsPermutation-sym (before ++ x ∷ behind) (x ∷ (before ++ behind)) (IsPermutation-middle before x behind) in
    subst (IsPermutation (x ∷ xs)) (sym cut.2) (IsPermutation-trans (x ∷ xs) (x ∷ (before ++ behind)) (before ++ x ∷ behind) front middle)
