-- A list in which what stands at each place is told by its place.
use Rattle.std.proofs.Common.{◌≡◌, ℕ, zero, suc, List, [], ◌∷◌, ◌++◌, length, slice_get, Some, subst}

-- one more item behind the others
pub each-push : {X : Type 0} (P : ℕ → X → Type 0) (xs : List X) (x : X) → ((k : ℕ) (y : X) → slice_get xs k ≡ Some y → P k y) → P (length xs) x → (k : ℕ) (y : X) → slice_get (xs ++ x ∷ []) k ≡ Some y → P k y
each-push {X} P [] x h here zero y e = let same : x ≡ y = cc in subst (λ (z : X). P zero z) same here
each-push P [] x h here (suc k) y e = cc
each-push P (z ∷ xs) x h here zero y e = h zero y e
each-push P (z ∷ xs) x h here (suc k) y e = each-push (λ j. P (suc j)) xs x (λ j w f. h (suc j) w f) here k y e
