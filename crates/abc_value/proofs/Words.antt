-- Words at the front of bytes.
use Rattle.std.proofs.Common.{◌≡◌, ◌⊎◌, ◌==◌, ℕ, pos, negsuc, ◌≤◌, Bool, true, false, List, length, get_or, take, drop, MatchBool, refl, ap, ◌∙◌, inl, inr, arith, length-append}
use Rattle.std.specs.List.{starts_with}
use Rattle.std.proofs.lemmas.Slice.Eq.{starts_is}
use Rattle.std.proofs.lemmas.Bool.Decides.{Decides-eqb}
use Rattle.std.proofs.lemmas.Bool.{both_ways}
use Rattle.std.proofs.lemmas.List.{take_at}
use Rattle.abc_value.specs.declared.scalar.Scalar.{Scalar}
use Rattle.abc_value.specs.declared.scalar.Scalar.TheVariants.{Number, Text, Truth}
use Rattle.abc_value.specs.Literals.{BeginsWith, IsScalar, scalar_text}
use Rattle.abc_value.specs.Reading.{IsScalarFront, NoScalar}
use Rattle.abc_value.proofs.Fronts.{fits_pos, first_pos, minus_first, quote_first, true_first, false_first}

pub begins_from : (bytes word : List ℕ) (r : Bool) → r ≡ starts_with (λ a b. a == b) bytes word → MatchBool r (BeginsWith bytes word) (¬ (BeginsWith bytes word))
begins_from bytes word r e =
    let s = starts_is Decides-eqb bytes word r e in
    elim r as (λ b. r ≡ b → MatchBool b (BeginsWith bytes word) (¬ (BeginsWith bytes word))) [
      | true ↦ λ q. (drop (length word) bytes, s.0 q)
      | false ↦ λ q h. both_ways r q (s.1 h.0 h.1)
    ] refl

-- a word that is at the front is what the front is
pub word_front : (bytes word : List ℕ) → BeginsWith bytes word → (length word ≤ length bytes) × (take (length word) bytes ≡ word)
word_front bytes word b =
    let e = ap length b.1 in
    ((let a = length-append word b.0 in omega arith), ap (λ l. take (length word) l) b.1 ∙ take_at word b.0 (length word) refl)

pub only_truth : (bytes : List ℕ) → ((get_or bytes 0 0 ≡ 116) ⊎ (get_or bytes 0 0 ≡ 102)) → (y : Scalar) → IsScalar y → BeginsWith bytes (scalar_text y) → (P : Scalar → Type 0) → ((c : Bool) → BeginsWith bytes (scalar_text (Truth c)) → P (Truth c)) → P y
only_truth bytes f (Number (pos n)) h b P g = let r = first_pos bytes n (fits_pos n h) b in let r0 = r.0 in let r1 = r.1 in elim f [ inl e ↦ absurd (omega arith) | inr e ↦ absurd (omega arith) ]
only_truth bytes f (Number (negsuc n)) h b P g = let r = minus_first bytes n b in elim f [ inl e ↦ absurd (omega arith) | inr e ↦ absurd (omega arith) ]
only_truth bytes f (Text t) h b P g = let r = quote_first bytes t b in elim f [ inl e ↦ absurd (omega arith) | inr e ↦ absurd (omega arith) ]
only_truth bytes f (Truth c) h b P g = g c b

pub truth_front : (bytes : List ℕ) (b : Bool) → ((get_or bytes 0 0 ≡ 116) ⊎ (get_or bytes 0 0 ≡ 102)) → BeginsWith bytes (scalar_text (Truth b)) → IsScalarFront bytes (Truth b) (length (scalar_text (Truth b)))
truth_front bytes b f w = record {
  is_scalar = tt;
  within = (word_front bytes (scalar_text (Truth b)) w).0;
  front = (word_front bytes (scalar_text (Truth b)) w).1;
  longest = λ y h v. only_truth bytes f y h v (λ x. length (scalar_text x) ≤ length (scalar_text (Truth b))) (λ c u. same_truth b c w u);
}
  where
    same_truth : (b c : Bool) → BeginsWith bytes (scalar_text (Truth b)) → BeginsWith bytes (scalar_text (Truth c)) → length (scalar_text (Truth c)) ≤ length (scalar_text (Truth b))
    same_truth true true w u = omega arith
    same_truth false false w u = omega arith
    same_truth true false w u = let p = true_first bytes w in let q = false_first bytes u in absurd (omega arith)
    same_truth false true w u = let p = true_first bytes u in let q = false_first bytes w in absurd (omega arith)

pub no_truth : (bytes : List ℕ) → ((get_or bytes 0 0 ≡ 116) ⊎ (get_or bytes 0 0 ≡ 102)) → ¬ (BeginsWith bytes (scalar_text (Truth true))) → ¬ (BeginsWith bytes (scalar_text (Truth false))) → NoScalar bytes
no_truth bytes f t u y h b = only_truth bytes f y h b (λ x. ⊥) (λ c w. which c w)
  where
    which : (c : Bool) → BeginsWith bytes (scalar_text (Truth c)) → ⊥
    which true w = t w
    which false w = u w
