-- The order of members as they are printed, and equality of values.
use Rattle.std.proofs.Common.{◌≡◌, ℕ, ℤ, ◌<◌, ◌<ℤ◌, true, false, List, [], ◌∷◌, ◌++◌, refl, ap, sym, subst, ◌∙◌}
use Rattle.std.specs.declared.cmp.Ordering.TheVariants.{Less, Greater}
use Rattle.std.specs.Bool.{Decides}
use Rattle.std.specs.Ordering.{nat_cmp, int_cmp, ordering_then}
use Rattle.std.specs.Cmp.Lexicographic.{slice_cmp, pointwise}
use Rattle.std.proofs.lemmas.Cmp.{ranked, int_ranked, by_ranked}
use Rattle.std.proofs.lemmas.Slice.Eq.{slice_eq-Decides}
use Rattle.abc_value.specs.declared.scalar.Scalar.{Scalar}
use Rattle.abc_value.specs.declared.scalar.Scalar.TheVariants.{Number, Text, Truth}
use Rattle.abc_value.specs.declared.value.Value.{Value}
use Rattle.abc_value.specs.declared.value.Value.TheVariants.{Scalar as One, Set, Nothing}
use Rattle.abc_value.specs.Scalars.{scalar_cmp, scalar_eq}
use Rattle.abc_value.specs.Sets.{Rises, IsSet}
use Rattle.abc_value.specs.Laws.{TextBefore, shorter, lower, alike, Before}
use Rattle.abc_value.specs.Values.{is_same}
use Rattle.abc_value.proofs.Order.{eq_same, eq_refl}
use Rattle.abc_value.proofs.Members.{rises_tail}

text_before : (s t : List ℕ) → slice_cmp nat_cmp s t ≡ Less → TextBefore s t
text_before [] [] h = cc
text_before [] (c ∷ t) h = shorter c t
text_before (b ∷ s) [] h = cc
text_before (b ∷ s) (c ∷ t) h =
    by_ranked (b < c) (b ≡ c) (c < b) (nat_cmp b c) (ranked b c (nat_cmp b c) refl)
    (λ e l. lower b c s t l)
    (λ e q. subst (λ d. TextBefore (b ∷ s) (d ∷ t)) q (alike b s t (text_before s t (sym (ap (λ o. ordering_then o (slice_cmp nat_cmp s t)) e) ∙ h))))
    (λ e g. let r : ordering_then Greater (slice_cmp nat_cmp s t) ≡ Less = sym (ap (λ o. ordering_then o (slice_cmp nat_cmp s t)) e) ∙ h in cc)

number_before : (m n : ℤ) → int_cmp m n ≡ Less → m <ℤ n
number_before m n h =
    by_ranked (m <ℤ n) (m ≡ n) (n <ℤ m) (int_cmp m n) (int_ranked m n (int_cmp m n) refl) (λ e l. l) (λ e q. cc) (λ e g. cc)

before : (x y : Scalar) → scalar_cmp x y ≡ Less → Before x y
before (Number m) (Number n) h = number_before m n h
before (Number m) (Text t) h = tt
before (Number m) (Truth c) h = tt
before (Text s) (Number n) h = cc
before (Text s) (Text t) h = text_before s t h
before (Text s) (Truth c) h = tt
before (Truth b) (Number n) h = cc
before (Truth b) (Text t) h = cc
before (Truth true) (Truth true) h = cc
before (Truth true) (Truth false) h = cc
before (Truth false) (Truth true) h = (refl, refl)
before (Truth false) (Truth false) h = cc

neighbours : (front back : List Scalar) (x y : Scalar) → Rises (front ++ x ∷ (y ∷ back)) → Before x y
neighbours [] back x y r = before x y r.0
neighbours (f ∷ front) back x y r = neighbours front back x y (rises_tail f (front ++ x ∷ (y ∷ back)) r)

pub members_ordered : (front back : List Scalar) (x y : Scalar) → IsSet (front ++ x ∷ (y ∷ back)) → Before x y
members_ordered front back x y s = neighbours front back x y s.rises

decides : (x y : Scalar) → Decides (scalar_eq x y) (x ≡ y)
decides x y = (eq_same x y, λ e. subst (λ z. scalar_eq x z ≡ true) e (eq_refl x))

same_value : (v w : Value) → is_same v w ≡ true → v ≡ w
same_value (One x) (One y) h = ap One (eq_same x y h)
same_value (One x) (Set t) h = cc
same_value (One x) Nothing h = cc
same_value (Set s) (One y) h = cc
same_value (Set s) (Set t) h = ap Set ((slice_eq-Decides decides s t (pointwise scalar_eq s t) refl).0 h)
same_value (Set s) Nothing h = cc
same_value Nothing (One y) h = cc
same_value Nothing (Set t) h = cc
same_value Nothing Nothing h = refl

itself : (v : Value) → is_same v v ≡ true
itself (One x) = eq_refl x
itself (Set s) = (slice_eq-Decides decides s s (pointwise scalar_eq s s) refl).1 refl
itself Nothing = refl

pub same_decides : (v w : Value) → (is_same v w ≡ true → v ≡ w) × (v ≡ w → is_same v w ≡ true)
same_decides v w = (same_value v w, λ e. subst (λ u. is_same v u ≡ true) e (itself v))
