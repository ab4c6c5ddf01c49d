-- A member after the others.
use Rattle.std.proofs.Common.{◌≡◌, ◌==◌, ℕ, zero, suc, ◌-◌, Bool, true, false, List, [], ◌∷◌, ◌++◌, Option, Some, length, slice_get, MatchBool, refl, sym, subst, ◌∙◌, arith, length-append}
use Rattle.std.proofs.lemmas.Bool.{ne_eqb}
use Rattle.std.specs.declared.cmp.Ordering.{Ordering}
use Rattle.std.specs.declared.cmp.Ordering.TheVariants.{Less, Equal, Greater}
use Rattle.std.specs.Ordering.{is_lt}
use Rattle.abc_value.specs.declared.scalar.Scalar.{Scalar}
use Rattle.abc_value.specs.Scalars.{scalar_cmp}
use Rattle.abc_value.specs.Sets.{Rises, IsSet, IsAbove, MayFollow, has_no_member, last_of}

-- whether a list has no member, by its length
pub none_by_length : (s : List Scalar) → (length s == 0) ≡ has_no_member s
none_by_length [] = refl
none_by_length (x ∷ s) = ne_eqb (suc (length s)) 0 (λ e. omega arith)

-- the last member, by its place
last_at : (m : List Scalar) (k : ℕ) → length m ≡ suc k → slice_get m k ≡ last_of m
last_at [] k l = absurd (omega arith)
last_at (y ∷ []) zero l = refl
last_at (y ∷ []) (suc k) l = absurd (omega arith)
last_at (y ∷ (z ∷ m)) zero l = absurd (omega arith)
last_at (y ∷ (z ∷ m)) (suc k) l = last_at (z ∷ m) k (omega arith)

last_is : (m : List Scalar) → slice_get m (length m - 1) ≡ last_of m
last_is [] = refl
last_is (y ∷ m) = last_at (y ∷ m) (length (y ∷ m) - 1) (omega arith)

-- the last member is the one that was put there
pub last_put : (m : List Scalar) (x : Scalar) → last_of (m ++ x ∷ []) ≡ Some x
last_put [] x = refl
last_put (y ∷ []) x = refl
last_put (y ∷ (z ∷ m)) x = last_put (z ∷ m) x

-- a scalar is below another exactly where their comparison says so
pub above_answer : (y x : Scalar) (o : Ordering) → o ≡ scalar_cmp y x → MatchBool (is_lt o) (scalar_cmp y x ≡ Less) (¬ (scalar_cmp y x ≡ Less))
above_answer y x Less e = sym e
above_answer y x Equal e = λ h. cc
above_answer y x Greater e = λ h. cc

-- members in order go on with one above the last, and with no other
rises_after : (m : List Scalar) (x : Scalar) → Rises m → IsAbove (last_of m) x → Rises (m ++ x ∷ [])
rises_after [] x r h = tt
rises_after (y ∷ []) x r h = (h, tt)
rises_after (y ∷ (z ∷ m)) x r h = (r.0, rises_after (z ∷ m) x r.1 h)

last_below : (m : List Scalar) (x : Scalar) → Rises (m ++ x ∷ []) → IsAbove (last_of m) x
last_below [] x r = tt
last_below (y ∷ []) x r = r.0
last_below (y ∷ (z ∷ m)) x r = last_below (z ∷ m) x r.1

-- a set goes on with a member that may follow, and with no other
pub follow_set : (m : List Scalar) (x : Scalar) → IsSet m → MayFollow (length m) (last_of m) x → IsSet (m ++ x ∷ [])
follow_set m x s f = record { rises = rises_after m x s.rises f.above; fits = let a = length-append m (x ∷ []) in let r = f.room in omega arith }

pub set_follow : (m : List Scalar) (x : Scalar) → IsSet (m ++ x ∷ []) → MayFollow (length m) (last_of m) x
set_follow m x s = record { room = let a = length-append m (x ∷ []) in let f = s.fits in omega arith; above = last_below m x s.rises }

-- so the answer about the last member is the answer about the set
pub follow_answer : (m : List Scalar) (x : Scalar) (b : Bool) (o : Option Scalar) → IsSet m → o ≡ slice_get m (length m - 1)
    → MatchBool b (MayFollow (length m) o x) (¬ (MayFollow (length m) o x)) → MatchBool b (IsSet (m ++ x ∷ [])) (¬ (IsSet (m ++ x ∷ [])))
follow_answer m x b o s e = decided b (e ∙ last_is m)
  where
    decided : (b : Bool) → o ≡ last_of m → MatchBool b (MayFollow (length m) o x) (¬ (MayFollow (length m) o x)) → MatchBool b (IsSet (m ++ x ∷ [])) (¬ (IsSet (m ++ x ∷ [])))
    decided true e f = follow_set m x s (subst (λ l. MayFollow (length m) l x) e f)
    decided false e f = λ t. f (subst (λ l. MayFollow (length m) l x) (sym e) (set_follow m x t))

-- a front of a set is a set
rises_front : (m n : List Scalar) → Rises (m ++ n) → Rises m
rises_front [] n r = tt
rises_front (y ∷ []) n r = tt
rises_front (y ∷ (z ∷ m)) n r = (r.0, rises_front (z ∷ m) n r.1)

pub set_front : (m n : List Scalar) → IsSet (m ++ n) → IsSet m
set_front m n s = record { rises = rises_front m n s.rises; fits = let a = length-append m n in let f = s.fits in omega arith }
