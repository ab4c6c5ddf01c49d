-- What an expression whose literals are values comes to is a value.
use Rattle.std.proofs.Common.{◌≡◌, ◌≤◌, ◌^◌, ℕ, ℤ, pos, Bool, true, false, List, [], ◌∷◌, ◌++◌, length, Option, None, Some, All, refl, subst, arith, not}
use Rattle.std.specs.Prelude.{◌+ℤ◌, ◌-ℤ◌, ◌*ℤ◌, nat_le, if◌then◌else◌}
use Rattle.std.specs.Option.{option_map}
use Rattle.std.proofs.lemmas.List.Elements.{All-nil, All-cons, All-head, All-tail, All-append, All-filter}
use Rattle.std.proofs.lemmas.Bool.{lt-ltb, leb-true}
use Rattle.abc_value.specs.declared.scalar.Scalar.{Scalar}
use Rattle.abc_value.specs.declared.scalar.Scalar.TheVariants.{Number, Text, Truth}
use Rattle.abc_value.specs.declared.value.Value.{Value}
use Rattle.abc_value.specs.declared.value.Value.TheVariants.{Scalar as One, Set, Nothing}
use Rattle.abc_value.specs.declared.limits.TheConstants.{MOST_MEMBERS}
use Rattle.abc_value.specs.Scalars.{scalar_cmp}
use Rattle.std.specs.declared.cmp.Ordering.TheVariants.{Less, Equal, Greater}
use Rattle.abc_value.specs.Sets.{Rises, IsSet, has, add_by, with_member, set_of, union_of, least_free_of}
use Rattle.abc_value.specs.Values.{fits_64, fitted, sum_of, rest_of, product_of, size_of, free_of, fitted_set, union_value, without_value, scalars_of, set_or_none, set_value, number_value}
use Rattle.abc_value.specs.Literals.{IsScalar, IsValue}
use Rattle.abc_value.proofs.Members.{rises_set, difference_set}
use Rattle.abc_value.proofs.Gap.{passed_is_least, passed_short}

-- ---- numbers
-- a number that fits is a value, and so is none
number_fits : (z : ℤ) → IsValue (number_value (fitted z))
number_fits z = by (fits_64 z) refl
  where
    by : (b : Bool) → fits_64 z ≡ b → IsValue (number_value (if b then Some z else None))
    by true e = e
    by false e = tt

-- A small count fits 64 bits.
small_fits : (n : ℕ) → n ≤ MOST_MEMBERS → fits_64 (pos n) ≡ true
small_fits n h = lt-ltb n (2 ^ 63) (omega (arith, h))

pub sum_value : (v w : Value) → IsValue (number_value (sum_of v w))
sum_value (One (Number m)) (One (Number n)) = number_fits (m +ℤ n)
sum_value (One (Number m)) (One (Text t)) = tt
sum_value (One (Number m)) (One (Truth b)) = tt
sum_value (One (Number m)) (Set s) = tt
sum_value (One (Number m)) Nothing = tt
sum_value (One (Text t)) w = tt
sum_value (One (Truth b)) w = tt
sum_value (Set s) w = tt
sum_value Nothing w = tt

pub rest_value : (v w : Value) → IsValue (number_value (rest_of v w))
rest_value (One (Number m)) (One (Number n)) = number_fits (m -ℤ n)
rest_value (One (Number m)) (One (Text t)) = tt
rest_value (One (Number m)) (One (Truth b)) = tt
rest_value (One (Number m)) (Set s) = tt
rest_value (One (Number m)) Nothing = tt
rest_value (One (Text t)) w = tt
rest_value (One (Truth b)) w = tt
rest_value (Set s) w = tt
rest_value Nothing w = tt

pub product_value : (v w : Value) → IsValue (number_value (product_of v w))
product_value (One (Number m)) (One (Number n)) = number_fits (m *ℤ n)
product_value (One (Number m)) (One (Text t)) = tt
product_value (One (Number m)) (One (Truth b)) = tt
product_value (One (Number m)) (Set s) = tt
product_value (One (Number m)) Nothing = tt
product_value (One (Text t)) w = tt
product_value (One (Truth b)) w = tt
product_value (Set s) w = tt
product_value Nothing w = tt

pub size_value : (v : Value) → IsValue v → IsValue (number_value (size_of v))
size_value (One x) h = tt
size_value (Set s) h = small_fits (length s) h.0.fits
size_value Nothing h = tt

-- The least free number of a set is at most the number of its members.
free_short : (s : List Scalar) → IsSet s → least_free_of s ≤ MOST_MEMBERS
free_short s h =
    let short = passed_short 0 s in
    let fits = h.fits in
    subst (λ (n : ℕ). n ≤ MOST_MEMBERS) (passed_is_least s h.rises) (omega (arith, short, fits))

pub free_value : (v : Value) → IsValue v → IsValue (number_value (free_of v))
free_value (One x) h = tt
free_value (Set s) h = small_fits (least_free_of s) (free_short s h.0)
free_value Nothing h = tt

-- ---- sets
-- What holds of the scalars of a list holds of the members of its set.
with_all : (P : Scalar → Type 0) (x : Scalar) (xs : List Scalar) → P x → All P xs →
    All P (with_member x xs)
with_all P x [] h k = All-cons P x [] h k
with_all P x (y ∷ ys) h k =
    let more = with_all P x ys h (All-tail P y ys k) in
    elim (scalar_cmp x y) as (λ o. All P (add_by o x y ys (with_member x ys))) [
      | Less ↦ All-cons P x (y ∷ ys) h k
      | Equal ↦ k
      | Greater ↦ All-cons P y (with_member x ys) (All-head P y ys k) more
    ]

set_all : (P : Scalar → Type 0) (xs : List Scalar) → All P xs → All P (set_of xs)
set_all P [] h = h
set_all P (x ∷ xs) h =
    with_all P x (set_of xs) (All-head P x xs h) (set_all P xs (All-tail P x xs h))

-- Members in order, if they are not too many.
fitted_value : (s : List Scalar) → Rises s → All IsScalar s → IsValue (fitted_set s)
fitted_value s rises all = by (nat_le (length s) MOST_MEMBERS) refl
  where
    by : (b : Bool) → nat_le (length s) MOST_MEMBERS ≡ b → IsValue (if b then Set s else Nothing)
    by true e = (record { rises = rises; fits = leb-true (length s) MOST_MEMBERS e }, all)
    by false e = tt

pub union_is_value : (v w : Value) → IsValue v → IsValue w → IsValue (union_value v w)
union_is_value (Set a) (Set b) h k =
    fitted_value (union_of a b) (rises_set (a ++ b))
    (set_all IsScalar (a ++ b) (All-append IsScalar a b h.1 k.1))
union_is_value (Set a) (One y) h k = tt
union_is_value (Set a) Nothing h k = tt
union_is_value (One x) w h k = tt
union_is_value Nothing w h k = tt

pub without_is_value : (v w : Value) → IsValue v → IsValue w → IsValue (without_value v w)
without_is_value (Set a) (Set b) h k =
    (difference_set a b h.0, All-filter (λ x. not (has b x)) IsScalar a h.1)
without_is_value (Set a) (One y) h k = tt
without_is_value (Set a) Nothing h k = tt
without_is_value (One x) w h k = tt
without_is_value Nothing w h k = tt

abbrev AreScalars : Option (List Scalar) → Type 0
AreScalars None = Unit {0}
AreScalars (Some xs) = All IsScalar xs

-- the scalars of values
scalars_are : (vs : List Value) → All IsValue vs → AreScalars (scalars_of vs)
scalars_are [] h = All-nil IsScalar
scalars_are (One x ∷ vs) h = by (scalars_of vs) (scalars_are vs (All-tail IsValue (One x) vs h))
  where
    by : (o : Option (List Scalar)) → AreScalars o → AreScalars (option_map (λ xs. x ∷ xs) o)
    by None k = tt
    by (Some xs) k = All-cons IsScalar x xs (All-head IsValue (One x) vs h) k
scalars_are (Set s ∷ vs) h = tt
scalars_are (Nothing ∷ vs) h = tt

pub set_is_value : (vs : List Value) → All IsValue vs → IsValue (set_value vs)
set_is_value vs h = by (scalars_of vs) (scalars_are vs h)
  where
    by : (o : Option (List Scalar)) → AreScalars o → IsValue (set_or_none o)
    by None k = tt
    by (Some xs) k = fitted_value (set_of xs) (rises_set xs) (set_all IsScalar xs k)
