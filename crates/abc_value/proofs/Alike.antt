-- No two values are written alike, and what is written is read back.
use Rattle.std.proofs.Common.{◌≡◌, ◌⊎◌, ℕ, ℤ, pos, negsuc, zero, suc, ◌+◌, ◌-◌, ◌<◌, true, false, All, List, [], ◌∷◌, ◌++◌, length, get_or, take, drop, flat_map, refl, ap, sym, subst, ◌∙◌, inl, inr, arith, length-append, append_assoc, append-nil}
use Rattle.std.specs.Int.{IsInRange}
use Rattle.std.specs.Fmt.{signed_decimal}
use Rattle.std.proofs.Math.Seq.{get_or-append_seam, take-append-add}
use Rattle.std.proofs.lemmas.Bool.{cases_lt, cases_order}
use Rattle.std.proofs.lemmas.List.{take_at, drop_at}
use Rattle.std.proofs.lemmas.List.Elements.{All-head, All-tail}
use Rattle.abc_value.specs.declared.scalar.Scalar.{Scalar}
use Rattle.abc_value.specs.declared.scalar.Scalar.TheVariants.{Number, Text, Truth}
use Rattle.abc_value.specs.declared.value.Value.{Value}
use Rattle.abc_value.specs.declared.value.Value.TheVariants.{Scalar as One, Set, Nothing}
use Rattle.abc_value.specs.Values.{fits_64}
use Rattle.abc_value.specs.Literals.{BeginsWith, IsScalar, IsValue, scalar_text, next_text, members_text, literal, escaped, IsLongest}
use Rattle.abc_value.specs.Laws.{GoesOn}
use Rattle.abc_value.proofs.Digits.{digit_of}
use Rattle.abc_value.proofs.Fronts.{fits_pos, fits_neg}
use Rattle.abc_value.proofs.Pieces.{same_end, tail_is}
use Rattle.abc_value.proofs.Texts.{only_texts}
use Rattle.abc_value.proofs.Words.{only_truth}
use Rattle.abc_value.proofs.Entries.{IsStop, same_text, no_more, scalar_first, only_numbers, number_first, truth_more, longer}
use Rattle.abc_value.proofs.Steps.{stop_after}

-- what a longer text with the same front is
cut_longer : (a b : List ℕ) (c : ℕ) (r s : List ℕ) (m : ℕ) → a ++ c ∷ r ≡ b ++ s → length a + suc m ≡ length b → b ≡ a ++ c ∷ take m r
cut_longer a b c r s m e l =
    sym (take_at b s (length b) refl) ∙ ap (λ t. take (length b) t) (sym e) ∙ ap (λ n. take n (a ++ c ∷ r)) (sym l) ∙ take-append-add a (c ∷ r) (suc m)

longer_stop : (x y : Scalar) (c d : ℕ) (r s : List ℕ) → IsScalar x → IsScalar y → IsStop c → scalar_text x ++ c ∷ r ≡ scalar_text y ++ d ∷ s → (m : ℕ) → length (scalar_text x) + m ≡ length (scalar_text y) → 0 < m → ⊥
longer_stop x y c d r s h k p e zero l q = omega arith
longer_stop x y c d r s h k p e (suc m) l q = no_more y x c (take m r) k h p (cut_longer (scalar_text x) (scalar_text y) c r (d ∷ s) m e l)

same_stop : (x y : Scalar) (c d : ℕ) (r s : List ℕ) → IsScalar x → IsScalar y → IsStop c → IsStop d → scalar_text x ++ c ∷ r ≡ scalar_text y ++ d ∷ s → x ≡ y
same_stop x y c d r s h k p q e =
    elim (cases_order (length (scalar_text x)) (length (scalar_text y))) [
      | inl l ↦ same_text x y h k (sym (take_at (scalar_text x) (c ∷ r) (length (scalar_text x)) refl) ∙ ap (λ t. take (length (scalar_text x)) t) e ∙ take_at (scalar_text y) (d ∷ s) (length (scalar_text x)) (sym l))
      | inr o ↦ elim o [
        | inl l ↦ absurd (longer_stop x y c d r s h k p e (length (scalar_text y) - length (scalar_text x)) (omega arith) (omega arith))
        | inr l ↦ absurd (longer_stop y x d c s r k h q (sym e) (length (scalar_text x) - length (scalar_text y)) (omega arith) (omega arith))
      ]
    ]

after_text : (x y : Scalar) (s t : List ℕ) → x ≡ y → scalar_text x ++ s ≡ scalar_text y ++ t → s ≡ t
after_text x y s t q e =
    sym (drop_at (scalar_text x) s (length (scalar_text x)) refl) ∙ ap (λ l. drop (length (scalar_text x)) l) e ∙ drop_at (scalar_text y) t (length (scalar_text x)) (ap (λ z. length (scalar_text z)) (sym q))

-- a scalar, and the members after it
one_more : (x y : Scalar) (s t : List Scalar) (u v : List ℕ) → IsScalar x → IsScalar y → scalar_text x ++ (flat_map next_text s ++ 125 ∷ u) ≡ scalar_text y ++ (flat_map next_text t ++ 125 ∷ v) → (x ≡ y) × (flat_map next_text s ++ 125 ∷ u ≡ flat_map next_text t ++ 125 ∷ v)
one_more x y s t u v h k e =
    let a = stop_after s u in
    let b = stop_after t v in
    let q = same_stop x y a.0 b.0 a.1 b.1 h k a.2.0 b.2.0 (ap (λ l. scalar_text x ++ l) (sym a.2.1) ∙ e ∙ ap (λ l. scalar_text y ++ l) b.2.1) in
    (q, after_text x y (flat_map next_text s ++ 125 ∷ u) (flat_map next_text t ++ 125 ∷ v) q e)

same_others : (s t : List Scalar) (u v : List ℕ) → All IsScalar s → All IsScalar t → flat_map next_text s ++ 125 ∷ u ≡ flat_map next_text t ++ 125 ∷ v → (s ≡ t) × (u ≡ v)
same_others [] [] u v h k e = (refl, tail_is 125 125 u v e)
same_others [] (y ∷ t) u v h k e = let f = ap (λ l. get_or l 0 0) e in absurd (omega arith)
same_others (x ∷ s) [] u v h k e = let f = ap (λ l. get_or l 0 0) e in absurd (omega arith)
same_others (x ∷ s) (y ∷ t) u v h k e =
    let a = sym (append_assoc (next_text x) (flat_map next_text s) (125 ∷ u)) ∙ e ∙ append_assoc (next_text y) (flat_map next_text t) (125 ∷ v) in
    let o = one_more x y s t u v (All-head IsScalar x s h) (All-head IsScalar y t k) (ap (λ l. drop 2 l) a) in
    let r = same_others s t u v (All-tail IsScalar x s h) (All-tail IsScalar y t k) o.1 in
    ((λ i. o.0 i ∷ r.0 i), r.1)

no_bracket : (y : Scalar) (t : List Scalar) (v w : List ℕ) → IsScalar y → 125 ∷ w ≡ members_text (y ∷ t) ++ 125 ∷ v → ⊥
no_bracket y t v w h e = (scalar_first (125 ∷ w) y h (flat_map next_text t ++ 125 ∷ v, e ∙ append_assoc (scalar_text y) (flat_map next_text t) (125 ∷ v))).closing refl

same_sets : (s t : List Scalar) (u v : List ℕ) → All IsScalar s → All IsScalar t → members_text s ++ 125 ∷ u ≡ members_text t ++ 125 ∷ v → (s ≡ t) × (u ≡ v)
same_sets [] [] u v h k e = (refl, tail_is 125 125 u v e)
same_sets [] (y ∷ t) u v h k e = absurd (no_bracket y t v u (All-head IsScalar y t k) e)
same_sets (x ∷ s) [] u v h k e = absurd (no_bracket x s u v (All-head IsScalar x s h) (sym e))
same_sets (x ∷ s) (y ∷ t) u v h k e =
    let o = one_more x y s t u v (All-head IsScalar x s h) (All-head IsScalar y t k) (sym (append_assoc (scalar_text x) (flat_map next_text s) (125 ∷ u)) ∙ e ∙ append_assoc (scalar_text y) (flat_map next_text t) (125 ∷ v)) in
    let r = same_others s t u v (All-tail IsScalar x s h) (All-tail IsScalar y t k) o.1 in
    ((λ i. o.0 i ∷ r.0 i), r.1)

-- ---- no value is written as another with more after it
itself : (text : List ℕ) → BeginsWith text text
itself text = ([], sym (append-nil text))

first_some : (text rest : List ℕ) → 0 < length text → get_or (text ++ rest) 0 0 ≡ get_or text 0 0
first_some [] rest l = absurd (omega arith)
first_some (c ∷ text) rest l = refl

later_digit : (z : ℤ) → fits_64 z ≡ true → (i : ℕ) → 0 < i → i < length (signed_decimal z) → IsInRange 48 57 (get_or (signed_decimal z) i 0)
later_digit (pos n) h i p l = digit_of n (let f = fits_pos n h in omega arith) i l
later_digit (negsuc n) h zero p l = absurd (omega arith)
later_digit (negsuc n) h (suc i) p l = digit_of (suc n) (let f = fits_neg n h in omega arith) i (omega arith)

some_scalar : (x : Scalar) → IsScalar x → 0 < length (scalar_text x)
some_scalar x h = some (scalar_text x) (scalar_first (scalar_text x) x h (itself (scalar_text x))).some
  where
    some : (t : List ℕ) → (get_or t 0 0 ≡ 0 → ⊥) → 0 < length t
    some [] f = absurd (f refl)
    some (c ∷ t) f = omega arith

-- a scalar's text with more after it is no scalar's text, but for digits after a number
no_longer_scalar : (y x : Scalar) (c : ℕ) (r : List ℕ) → IsScalar y → IsScalar x → scalar_text x ≡ scalar_text y ++ c ∷ r → GoesOn (One y) (c ∷ r)
no_longer_scalar (Number m) x c r h k e =
    only_numbers (scalar_text x) (subst (λ b. (b ≡ 45) ⊎ IsInRange 48 57 b) (sym (first_some (signed_decimal m) (c ∷ r) (some_scalar (Number m) h)) ∙ sym (ap (λ l. get_or l 0 0) e)) (number_first (signed_decimal m) m h (itself (signed_decimal m)))) x k (itself (scalar_text x))
    (λ v. scalar_text v ≡ scalar_text x → GoesOn (One (Number m)) (c ∷ r)) (λ z f b q. digits z f (q ∙ e)) refl
  where
    digits : (z : ℤ) → fits_64 z ≡ true → signed_decimal z ≡ signed_decimal m ++ c ∷ r → IsInRange 48 57 c
    digits z f e =
        let at : get_or (signed_decimal z) (length (signed_decimal m)) 0 ≡ c = ap (λ t. get_or t (length (signed_decimal m)) 0) e ∙ get_or-append_seam (signed_decimal m) c r 0 in
        subst (λ d. IsInRange 48 57 d) at (later_digit z f (length (signed_decimal m)) (some_scalar (Number m) h) (longer (signed_decimal z) (signed_decimal m) c r e))
no_longer_scalar (Text t) x c r h k e =
    only_texts (scalar_text x) (ap (λ l. get_or l 0 0) e) x k (itself (scalar_text x)) (λ v. scalar_text v ≡ scalar_text x → ⊥) (λ u f b q.
    let w : scalar_text (Text u) ≡ scalar_text (Text t) ++ c ∷ r = q ∙ e in
    let z = (same_end u t [] (c ∷ r) (tail_is 34 34 (flat_map escaped u ++ 34 ∷ []) (flat_map escaped t ++ 34 ∷ (c ∷ r)) (w ∙ ap (λ l. 34 ∷ l) (append_assoc (flat_map escaped t) (34 ∷ []) (c ∷ r))))).1 in
    let n = ap length z in omega arith) refl
no_longer_scalar (Truth true) x c r h k e =
    only_truth (scalar_text x) (inl (ap (λ l. get_or l 0 0) e)) x k (itself (scalar_text x)) (λ v. scalar_text v ≡ scalar_text x → ⊥) (λ d b q. truth_more d true c r (q ∙ e)) refl
no_longer_scalar (Truth false) x c r h k e =
    only_truth (scalar_text x) (inr (ap (λ l. get_or l 0 0) e)) x k (itself (scalar_text x)) (λ v. scalar_text v ≡ scalar_text x → ⊥) (λ d b q. truth_more d false c r (q ∙ e)) refl

no_longer : (v w : Value) (c : ℕ) (r : List ℕ) → IsValue v → IsValue w → literal w ≡ literal v ++ c ∷ r → GoesOn v (c ∷ r)
no_longer (One y) (One x) c r h k e = no_longer_scalar y x c r h k e
no_longer (One y) (Set s) c r h k e = absurd ((scalar_first (literal (Set s)) y h (c ∷ r, e)).opening refl)
no_longer (One y) Nothing c r h k e = absurd ((scalar_first (literal Nothing) y h (c ∷ r, e)).letter_n refl)
no_longer (Set s) (One x) c r h k e = (scalar_first (scalar_text x) x k (itself (scalar_text x))).opening (ap (λ l. get_or l 0 0) e)
no_longer (Set s) (Set t) c r h k e =
    let z = (same_sets t s [] (c ∷ r) k.1 h.1 (tail_is 123 123 (members_text t ++ 125 ∷ []) (members_text s ++ 125 ∷ (c ∷ r)) (e ∙ ap (λ l. 123 ∷ l) (append_assoc (members_text s) (125 ∷ []) (c ∷ r))))).1 in
    let n = ap length z in omega arith
no_longer (Set s) Nothing c r h k e = let f = ap (λ l. get_or l 0 0) e in omega arith
no_longer Nothing (One x) c r h k e = (scalar_first (scalar_text x) x k (itself (scalar_text x))).letter_n (ap (λ l. get_or l 0 0) e)
no_longer Nothing (Set t) c r h k e = let f = ap (λ l. get_or l 0 0) e in omega arith
no_longer Nothing Nothing c r h k e = let l = longer (literal Nothing) (literal Nothing) c r e in omega arith

pub literals_differ : (v w : Value) → IsValue v → IsValue w → literal v ≡ literal w → v ≡ w
literals_differ (One y) (One x) h k e = ap One (same_text y x h k e)
literals_differ (One y) (Set s) h k e = absurd ((scalar_first (scalar_text y) y h (itself (scalar_text y))).opening (ap (λ l. get_or l 0 0) e))
literals_differ (One y) Nothing h k e = absurd ((scalar_first (scalar_text y) y h (itself (scalar_text y))).letter_n (ap (λ l. get_or l 0 0) e))
literals_differ (Set s) (One x) h k e = absurd ((scalar_first (scalar_text x) x k (itself (scalar_text x))).opening (ap (λ l. get_or l 0 0) (sym e)))
literals_differ (Set s) (Set t) h k e = ap Set (same_sets s t [] [] h.1 k.1 (tail_is 123 123 (members_text s ++ 125 ∷ []) (members_text t ++ 125 ∷ []) e)).0
literals_differ (Set s) Nothing h k e = let f = ap (λ l. get_or l 0 0) e in absurd (omega arith)
literals_differ Nothing (One x) h k e = absurd ((scalar_first (scalar_text x) x k (itself (scalar_text x))).letter_n (ap (λ l. get_or l 0 0) (sym e)))
literals_differ Nothing (Set t) h k e = let f = ap (λ l. get_or l 0 0) e in absurd (omega arith)
literals_differ Nothing Nothing h k e = refl

pub written_is_read : (v : Value) (rest : List ℕ) → IsValue v → ¬ (GoesOn v rest) → (w : Value) (n : ℕ) → IsLongest (literal v ++ rest) w n → (w ≡ v) × (n ≡ length (literal v))
written_is_read v rest h g w n f =
    let l = f.longest v h (rest, refl) in
    elim (cases_lt (length (literal v)) n) [
      | inl o ↦ absurd (more rest (n - length (literal v)) (omega arith) (omega arith) g f)
      | inr o ↦ (literals_differ w v f.is_value h (sym f.front ∙ take_at (literal v) rest n (omega arith)), omega arith)
    ]
  where
    more : (rest : List ℕ) (m : ℕ) → length (literal v) + m ≡ n → 0 < m → ¬ (GoesOn v rest) → IsLongest (literal v ++ rest) w n → ⊥
    more rest zero e p g f = omega arith
    more [] (suc m) e p g f = let a = length-append (literal v) [] in let k = f.within in omega arith
    more (c ∷ r) (suc m) e p g f = g (begins v c (take m r) r (no_longer v w c (take m r) h f.is_value (sym f.front ∙ ap (λ j. take j (literal v ++ c ∷ r)) (sym e) ∙ take-append-add (literal v) (c ∷ r) (suc m))))
      where
        begins : (v : Value) (c : ℕ) (s r : List ℕ) → GoesOn v (c ∷ s) → GoesOn v (c ∷ r)
        begins (One (Number n)) c s r d = d
        begins (One (Text t)) c s r d = d
        begins (One (Truth b)) c s r d = d
        begins (Set t) c s r d = d
        begins Nothing c s r d = d
