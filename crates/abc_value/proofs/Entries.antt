-- Which scalar is written at the front of bytes, before a comma or the end of a set.
use Rattle.std.proofs.Common.{◌≡◌, ◌≢◌, ◌⊎◌, ℕ, ℤ, pos, negsuc, zero, suc, ◌+◌, ◌-◌, ◌^◌, ◌<◌, Bool, true, false, List, [], ◌∷◌, ◌++◌, length, get_or, take, flat_map, refl, ap, sym, subst, ◌∙◌, inl, inr, arith, length-append, append_assoc, append-nil, length-take-le}
use Rattle.std.specs.Int.{IsInRange}
use Rattle.std.specs.Fmt.{signed_decimal}
use Rattle.std.specs.Int.Signed.{mag}
use Rattle.std.proofs.Math.Seq.{get_or-append_seam, take-append-add}
use Rattle.std.proofs.lemmas.Bool.{cases_lt}
use Rattle.std.proofs.lemmas.Fmt.{signed_decimal_injective}
use Rattle.std.proofs.lemmas.List.{take_at}
use Rattle.abc_value.specs.declared.scalar.Scalar.{Scalar}
use Rattle.abc_value.specs.declared.scalar.Scalar.TheVariants.{Number, Text, Truth}
use Rattle.abc_value.specs.Values.{fits_64}
use Rattle.abc_value.specs.Literals.{BeginsWith, IsScalar, scalar_text, escaped}
use Rattle.abc_value.specs.Reading.{IsScalarFront}
use Rattle.abc_value.proofs.Digits.{digit_of}
use Rattle.abc_value.proofs.Fronts.{fits_pos, fits_neg, first_pos, minus_first, quote_first, true_first, false_first}
use Rattle.abc_value.proofs.Pieces.{same_end, tail_is}
use Rattle.abc_value.proofs.Texts.{only_texts}
use Rattle.abc_value.proofs.Words.{only_truth}

-- the first byte of a scalar's text
pub record IsScalarByte (b : ℕ) : Type 0 where
  pub some : b ≢ 0
  pub comma : b ≢ 44
  pub letter_n : b ≢ 110
  pub opening : b ≢ 123
  pub closing : b ≢ 125

scalar_byte : (a b : ℕ) → a ≡ b → (b < 44) ⊎ ((b ≡ 45) ⊎ (((47 < b) × (b < 103)) ⊎ (b ≡ 116))) → 0 < b → IsScalarByte a
scalar_byte a b e h p = elim h [
  | inl l ↦ record { some = λ z. omega arith; comma = λ z. omega arith; letter_n = λ z. omega arith; opening = λ z. omega arith; closing = λ z. omega arith }
  | inr m ↦ elim m [
    | inl l ↦ record { some = λ z. omega arith; comma = λ z. omega arith; letter_n = λ z. omega arith; opening = λ z. omega arith; closing = λ z. omega arith }
    | inr q ↦ elim q [
      | inl l ↦ let l0 = l.0 in let l1 = l.1 in record { some = λ z. omega arith; comma = λ z. omega arith; letter_n = λ z. omega arith; opening = λ z. omega arith; closing = λ z. omega arith }
      | inr l ↦ record { some = λ z. omega arith; comma = λ z. omega arith; letter_n = λ z. omega arith; opening = λ z. omega arith; closing = λ z. omega arith }
    ]
  ]
]

pub scalar_first : (bytes : List ℕ) (y : Scalar) → IsScalar y → BeginsWith bytes (scalar_text y) → IsScalarByte (get_or bytes 0 0)
scalar_first bytes (Number (pos n)) h b = let r = first_pos bytes n (fits_pos n h) b in let r0 = r.0 in let r1 = r.1 in scalar_byte _ (get_or bytes 0 0) refl (inr (inr (inl ((omega arith), (omega arith))))) (omega arith)
scalar_first bytes (Number (negsuc n)) h b = scalar_byte _ 45 (minus_first bytes n b) (inr (inl refl)) (omega arith)
scalar_first bytes (Text t) h b = scalar_byte _ 34 (quote_first bytes t b) (inl (omega arith)) (omega arith)
scalar_first bytes (Truth true) h b = scalar_byte _ 116 (true_first bytes b) (inr (inr (inr refl))) (omega arith)
scalar_first bytes (Truth false) h b = scalar_byte _ 102 (false_first bytes b) (inr (inr (inl ((omega arith), (omega arith))))) (omega arith)

-- ---- numbers
mag_small : (z : ℤ) → fits_64 z ≡ true → mag z < 2 ^ 63
mag_small (pos n) h = fits_pos n h
mag_small (negsuc n) h = fits_neg n h

abbrev pub NumberByte : ℕ → Type 0
NumberByte b = (b ≡ 45) ⊎ IsInRange 48 57 b

pub number_byte : (z : ℤ) → fits_64 z ≡ true → (i : ℕ) → i < length (signed_decimal z) → NumberByte (get_or (signed_decimal z) i 0)
number_byte (pos n) h i l = inr (digit_of n (let f = fits_pos n h in omega arith) i l)
number_byte (negsuc n) h zero l = inl refl
number_byte (negsuc n) h (suc i) l = inr (digit_of (suc n) (let f = fits_neg n h in omega arith) i (omega arith))

pub number_first : (bytes : List ℕ) (z : ℤ) → fits_64 z ≡ true → BeginsWith bytes (signed_decimal z) → NumberByte (get_or bytes 0 0)
number_first bytes (pos n) h b = inr (first_pos bytes n (fits_pos n h) b)
number_first bytes (negsuc n) h b = inl (minus_first bytes n b)

pub only_numbers : (bytes : List ℕ) → NumberByte (get_or bytes 0 0) → (y : Scalar) → IsScalar y → BeginsWith bytes (scalar_text y) → (P : Scalar → Type 0) → ((z : ℤ) → fits_64 z ≡ true → BeginsWith bytes (signed_decimal z) → P (Number z)) → P y
only_numbers bytes f (Number z) h b P g = g z h b
only_numbers bytes f (Text t) h b P g = let r = quote_first bytes t b in elim f [ inl e ↦ absurd (omega arith) | inr e ↦ let e0 = e.0 in let e1 = e.1 in absurd (omega arith) ]
only_numbers bytes f (Truth true) h b P g = let r = true_first bytes b in elim f [ inl e ↦ absurd (omega arith) | inr e ↦ let e0 = e.0 in let e1 = e.1 in absurd (omega arith) ]
only_numbers bytes f (Truth false) h b P g = let r = false_first bytes b in elim f [ inl e ↦ absurd (omega arith) | inr e ↦ let e0 = e.0 in let e1 = e.1 in absurd (omega arith) ]

-- ---- two scalars that are written alike are the same
itself : (text : List ℕ) → BeginsWith text text
itself text = ([], sym (append-nil text))

same_truth : (b c : Bool) → scalar_text (Truth b) ≡ scalar_text (Truth c) → Truth b ≡ Truth c
same_truth true true e = refl
same_truth false false e = refl
same_truth true false e = let l = ap length e in absurd (omega arith)
same_truth false true e = let l = ap length e in absurd (omega arith)

pub same_text : (x y : Scalar) → IsScalar x → IsScalar y → scalar_text x ≡ scalar_text y → x ≡ y
same_text (Number m) y h k e =
    only_numbers (scalar_text y) (subst (λ t. NumberByte (get_or t 0 0)) e (number_first (signed_decimal m) m h (itself (signed_decimal m)))) y k (itself (scalar_text y))
    (λ v. scalar_text v ≡ scalar_text y → Number m ≡ v) (λ z f b q. ap Number (signed_decimal_injective m z (mag_small m h) (mag_small z f) (e ∙ sym q))) refl
same_text (Text t) y h k e =
    only_texts (scalar_text y) (ap (λ l. get_or l 0 0) (sym e)) y k (itself (scalar_text y))
    (λ v. scalar_text v ≡ scalar_text y → Text t ≡ v) (λ u f b q. ap Text (same_end t u [] [] (tail_is 34 34 (flat_map escaped t ++ 34 ∷ []) (flat_map escaped u ++ 34 ∷ []) (e ∙ sym q))).0) refl
same_text (Truth true) y h k e =
    only_truth (scalar_text y) (inl (ap (λ l. get_or l 0 0) (sym e))) y k (itself (scalar_text y))
    (λ v. scalar_text v ≡ scalar_text y → Truth true ≡ v) (λ c b q. same_truth true c (e ∙ sym q)) refl
same_text (Truth false) y h k e =
    only_truth (scalar_text y) (inr (ap (λ l. get_or l 0 0) (sym e))) y k (itself (scalar_text y))
    (λ v. scalar_text v ≡ scalar_text y → Truth false ≡ v) (λ c b q. same_truth false c (e ∙ sym q)) refl

-- ---- no scalar is written as another with a comma or a bracket after it
abbrev pub IsStop : ℕ → Type 0
IsStop c = (c ≡ 44) ⊎ (c ≡ 125)

stop_no_number : (c : ℕ) → IsStop c → NumberByte c → ⊥
stop_no_number c s n = elim s [
  | inl e ↦ elim n [ inl f ↦ omega arith | inr f ↦ let f0 = f.0 in omega arith ]
  | inr e ↦ elim n [ inl f ↦ omega arith | inr f ↦ let f1 = f.1 in omega arith ]
]

pub longer : (a b : List ℕ) (c : ℕ) (r : List ℕ) → a ≡ b ++ c ∷ r → length b < length a
longer a b c r e = let l = ap length e in let m = length-append b (c ∷ r) in omega arith

pub truth_more : (b d : Bool) (c : ℕ) (r : List ℕ) → scalar_text (Truth b) ≡ scalar_text (Truth d) ++ c ∷ r → ⊥
truth_more true true c r e = let l = longer (scalar_text (Truth true)) (scalar_text (Truth true)) c r e in omega arith
truth_more false false c r e = let l = longer (scalar_text (Truth false)) (scalar_text (Truth false)) c r e in omega arith
truth_more true false c r e = let l = longer (scalar_text (Truth true)) (scalar_text (Truth false)) c r e in omega arith
truth_more false true c r e = let f = ap (λ t. get_or t 0 0) e in omega arith

pub no_more : (x y : Scalar) (c : ℕ) (r : List ℕ) → IsScalar x → IsScalar y → IsStop c → scalar_text x ≡ scalar_text y ++ c ∷ r → ⊥
no_more (Number m) y c r h k s e =
    let l = longer (signed_decimal m) (scalar_text y) c r e in
    let at : get_or (signed_decimal m) (length (scalar_text y)) 0 ≡ c = ap (λ t. get_or t (length (scalar_text y)) 0) e ∙ get_or-append_seam (scalar_text y) c r 0 in
    stop_no_number c s (subst (λ d. NumberByte d) at (number_byte m h (length (scalar_text y)) l))
no_more (Text t) y c r h k s e =
    only_texts (scalar_text (Text t)) refl y k (c ∷ r, e) (λ v. scalar_text v ≡ scalar_text y → ⊥) (λ u f b q.
    let w : scalar_text (Text t) ≡ scalar_text (Text u) ++ c ∷ r = e ∙ ap (λ z. z ++ c ∷ r) (sym q) in
    let z = (same_end t u [] (c ∷ r) (tail_is 34 34 (flat_map escaped t ++ 34 ∷ []) (flat_map escaped u ++ 34 ∷ (c ∷ r)) (w ∙ ap (λ l. 34 ∷ l) (append_assoc (flat_map escaped u) (34 ∷ []) (c ∷ r))))).1 in
    let n = ap length z in omega arith) refl
no_more (Truth true) y c r h k s e =
    only_truth (scalar_text (Truth true)) (inl refl) y k (c ∷ r, e) (λ v. scalar_text v ≡ scalar_text y → ⊥) (λ d b q. truth_more true d c r (e ∙ ap (λ z. z ++ c ∷ r) (sym q))) refl
no_more (Truth false) y c r h k s e =
    only_truth (scalar_text (Truth false)) (inr refl) y k (c ∷ r, e) (λ v. scalar_text v ≡ scalar_text y → ⊥) (λ d b q. truth_more false d c r (e ∙ ap (λ z. z ++ c ∷ r) (sym q))) refl

-- ---- the scalar at the front is the only one that a set goes on after
pub followed : (bytes : List ℕ) (x : Scalar) (n : ℕ) → IsScalarFront bytes x n → (y : Scalar) (c : ℕ) (rest : List ℕ) → IsScalar y → IsStop c → bytes ≡ scalar_text y ++ c ∷ rest → y ≡ x
followed bytes x n f y c rest k s e =
    let l = f.longest y k (c ∷ rest, e) in
    let w = f.within in
    let long = length-take-le n bytes f.within in
    let is = ap length f.front in
    elim (cases_lt (length (scalar_text y)) n) [
      | inl g ↦ absurd (longer_text (n - length (scalar_text y)) (omega arith) (omega arith))
      | inr g ↦ same_text y x k f.is_scalar (sym (take_at (scalar_text y) (c ∷ rest) n (omega arith)) ∙ sym (ap (λ t. take n t) e) ∙ f.front)
    ]
  where
    longer_text : (m : ℕ) → length (scalar_text y) + m ≡ n → 0 < m → ⊥
    longer_text zero q p = omega arith
    longer_text (suc m) q p = no_more x y c (take m rest) f.is_scalar k s (sym f.front ∙ ap (λ t. take n t) e ∙ ap (λ j. take j (scalar_text y ++ c ∷ rest)) (sym q) ∙ take-append-add (scalar_text y) (c ∷ rest) (suc m))
