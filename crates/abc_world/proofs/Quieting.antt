-- Whether all items of a list are so, found one after the other.
use Rattle.std.proofs.Common.{◌≡◌, ℕ, ◌+◌, ◌<◌, ◌≤◌, List, length, map, get_or, subst, inl, inr, arith}
use Rattle.std.specs.Prelude.{Bool, true, false, MatchBool, Some, slice_get}
use Rattle.std.proofs.lemmas.Bool.{cases_lt}
use Rattle.std.proofs.lemmas.Option.{slice_get-get_or, slice_get_within}
use Rattle.abc_world.proofs.Lacking.{from-map}

-- The first items of a list, so many, are so.
abbrev pub FirstAre : {X : Type 0} → (X → Type 0) → List X → ℕ → Type 0
FirstAre {X} P xs count = (i : ℕ) (x : X) → i < count → slice_get xs i ≡ Some x → P x

-- None are at first,
pub first-none : {X : Type 0} (P : X → Type 0) (xs : List X) → FirstAre P xs 0
first-none P xs i x below stands = absurd (omega arith)

-- then one more each time,
pub first-next : {X : Type 0} (P : X → Type 0) (xs : List X) (count : ℕ) → FirstAre P xs count →
    ((x : X) → slice_get xs count ≡ Some x → P x) → FirstAre P xs (count + 1)
first-next P xs count before this i x below stands =
    elim (cases_lt i count) [
      | inl less ↦ before i x less stands
      | inr over ↦ let e : i ≡ count = omega arith in this x (subst (λ v. slice_get xs v ≡ Some x) e stands)
    ]

-- and in the end all, whatever is made of each.
pub first-all : {X Y : Type 0} (P : Y → Type 0) (f : X → Y) (xs : List X) (count : ℕ) → length xs ≤ count →
    FirstAre (λ x. P (f x)) xs count → (i : ℕ) (y : Y) → slice_get (map f xs) i ≡ Some y → P y
first-all P f xs count many are i y stands =
    let found = from-map f xs i y stands in
    let inside = slice_get_within xs i found.0 found.1 in
    subst P found.2 (are i found.0 (omega arith) found.1)

-- What was looked up at a place stands there,
pub found-there : {X : Type 0} (xs : List X) (i : ℕ) (y : X) → i < length xs → y ≡ get_or xs i y → slice_get xs i ≡ Some y
found-there xs i y below is = let stands = slice_get-get_or xs i y below in cc

-- and nothing else does.
pub only-there : {X : Type 0} (xs : List X) (i : ℕ) (x y : X) → i < length xs → y ≡ get_or xs i y → slice_get xs i ≡ Some x →
    y ≡ x
only-there xs i x y below is stands = let found = found-there xs i y below is in cc

-- What is told of one thing is told of another that is the same.
pub told-by : (b : Bool) (P Q : Type 0) → (P → Q) → (Q → P) → MatchBool b P (P → ⊥) → MatchBool b Q (Q → ⊥)
told-by true P Q there back told = there told
told-by false P Q there back told = λ q. told (back q)
