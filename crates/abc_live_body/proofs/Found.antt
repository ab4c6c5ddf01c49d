-- Elements of lists by number.
use Rattle.std.proofs.Common.{◌≡◌, ℕ, zero, suc, ◌<◌, List, [], ◌∷◌, length, All, Some, slice_get, refl, subst, arith}
use Rattle.std.proofs.lemmas.List.Elements.{All-cons, All-head, All-tail, All-nil}

-- Each number below the length has an element.
pub element_at : {A : Type 0} (xs : List A) (i : ℕ) → i < length xs → (x : A) × (slice_get xs i ≡ Some x)
element_at [] i below = absurd (omega arith)
element_at (x ∷ xs) zero below = (x, refl)
element_at (x ∷ xs) (suc i) below = element_at xs i (omega arith)

-- What holds of all holds of the one with this number,
pub all_at : {A : Type 0} (P : A → Type 0) (xs : List A) (i : ℕ) (x : A) → All P xs → slice_get xs i ≡ Some x → P x
all_at P [] i x all e = cc
all_at P (y ∷ xs) zero x all e = let same : y ≡ x = cc in subst P same (All-head P y xs all)
all_at P (y ∷ xs) (suc i) x all e = all_at P xs i x (All-tail P y xs all) e

-- and what holds of each holds of all.
pub all_from : {A : Type 0} (P : A → Type 0) (xs : List A) → ((i : ℕ) (x : A) → slice_get xs i ≡ Some x → P x) → All P xs
all_from P [] each = All-nil P
all_from P (x ∷ xs) each = All-cons P x xs (each 0 x refl) (all_from P xs (λ i y e. each (suc i) y e))
