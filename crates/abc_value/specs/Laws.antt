-- Laws that tie what is kept to what it means: lists of members to sets, and the operators to the
-- mathematical ones.
use Rattle.std.specs.Prelude.{ℕ, ◌<◌, ◌≡◌, ◌↔◌, true, false, not, ◌&&◌, ◌||◌, List, [], ◌∷◌, ◌++◌, pos, ◌<ℤ◌, ◌≤◌, length, slice_index}
use Rattle.abc_value.specs.declared.scalar.Scalar.{Scalar}
use Rattle.abc_value.specs.declared.scalar.Scalar.TheVariants.{Number, Text, Truth}
use Rattle.abc_value.specs.declared.value.Value.{Value}
use Rattle.abc_value.specs.Sets.{IsSet, Rises, has, set_of, union_of, difference_of, least_free_of}
use Rattle.abc_value.specs.declared.value.Value.TheVariants.{Scalar as One}
use Rattle.abc_value.specs.Literals.{literal, IsValue, IsLongest}
use Rattle.abc_value.specs.Values.{is_same}

-- two sets are the same exactly where they have the same members
abbrev pub SetsAreTheirMembers : Type 0
SetsAreTheirMembers = (a b : List Scalar) → IsSet a → IsSet b → ((x : Scalar) → has a x ≡ has b x) ↔ (a ≡ b)

-- being a member is standing in the list
abbrev pub MembersStand : Type 0
MembersStand = (before after : List Scalar) (x : Scalar) → has (before ++ x ∷ after) x ≡ true

-- the set of a list is in order and has just the scalars of the list
pub record SetOfList (xs : List Scalar) : Type 0 where
  pub in_order : Rises (set_of xs)
  pub members : (x : Scalar) → has (set_of xs) x ≡ has xs x

abbrev pub SetsOfLists : Type 0
SetsOfLists = (xs : List Scalar) → SetOfList xs

-- a union is in order and has the members of either
pub record Union (a b : List Scalar) : Type 0 where
  pub in_order : Rises (union_of a b)
  pub members : (x : Scalar) → has (union_of a b) x ≡ (has a x || has b x)

abbrev pub Unions : Type 0
Unions = (a b : List Scalar) → Union a b

-- a difference is a set and has the members of the first that the second has not
pub record Difference (a b : List Scalar) : Type 0 where
  pub is_set : IsSet (difference_of a b)
  pub members : (x : Scalar) → has (difference_of a b) x ≡ (has a x && not (has b x))

abbrev pub Differences : Type 0
Differences = (a b : List Scalar) → IsSet a → Difference a b

-- the least free number is no member, and each number from 0 up below it is one
pub record LeastFree (s : List Scalar) : Type 0 where
  pub free : has s (Number (pos (least_free_of s))) ≡ false
  pub least : (n : ℕ) → n < least_free_of s → has s (Number (pos n)) ≡ true

abbrev pub LeastFreeNumbers : Type 0
LeastFreeNumbers = (s : List Scalar) → IsSet s → LeastFree s

-- the order of texts: a proper prefix first, else by the first byte that differs
pub data TextBefore : List ℕ → List ℕ → Type 0 where
  shorter : (c : ℕ) (t : List ℕ) → TextBefore [] (c ∷ t)
  lower : (b c : ℕ) (s t : List ℕ) → b < c → TextBefore (b ∷ s) (c ∷ t)
  alike : (c : ℕ) (s t : List ℕ) → TextBefore s t → TextBefore (c ∷ s) (c ∷ t)

-- the order of members: numbers by value, then texts, then false, then true
abbrev pub Before : Scalar → Scalar → Type 0
Before (Number m) (Number n) = m <ℤ n
Before (Number m) (Text t) = Unit {0}
Before (Number m) (Truth c) = Unit {0}
Before (Text s) (Number n) = ⊥
Before (Text s) (Text t) = TextBefore s t
Before (Text s) (Truth c) = Unit {0}
Before (Truth b) (Number n) = ⊥
Before (Truth b) (Text t) = ⊥
Before (Truth b) (Truth c) = (b ≡ false) × (c ≡ true)

-- each member of a set stands before the next
abbrev pub MembersAreOrdered : Type 0
MembersAreOrdered = (front back : List Scalar) (x y : Scalar) → IsSet (front ++ x ∷ (y ∷ back)) → Before x y

-- `same` is equality, and none is the same as none
abbrev pub SameIsEquality : Type 0
SameIsEquality = (v w : Value) → (is_same v w ≡ true) ↔ (v ≡ w)

-- ---- literals
-- no two values are written alike
abbrev pub LiteralsDiffer : Type 0
LiteralsDiffer = (v w : Value) → IsValue v → IsValue w → literal v ≡ literal w → v ≡ w

-- only a digit after a number goes on with it
abbrev pub GoesOn : Value → List ℕ → Type 0
GoesOn (One (Number n)) rest = (48 ≤ slice_index rest 0) × (slice_index rest 0 ≤ 57)
GoesOn _ rest = ⊥

-- what is written is read back, whatever follows that can't go on with it
abbrev pub WrittenIsRead : Type 0
WrittenIsRead = (v : Value) (rest : List ℕ) → IsValue v → ¬ (GoesOn v rest) → (w : Value) (n : ℕ) → IsLongest (literal v ++ rest) w n → (w ≡ v) × (n ≡ length (literal v))
