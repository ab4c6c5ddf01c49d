-- Values at the front of bytes, and values in brackets.
use Rattle.std.proofs.Common.{◌≡◌, ℕ, pos, negsuc, ◌<◌, true, false, List, [], ◌∷◌, ◌++◌, length, get_or, drop, decimal, codes, All, refl, sym, ap, ◌∙◌, subst, append_assoc, arith}
use Rattle.std.proofs.lemmas.List.{drop_at, append_cancel_left}
use Rattle.std.specs.Prelude.{flat_map}
use Rattle.std.proofs.lemmas.List.Elements.{All-head}
use Rattle.abc_value.specs.declared.scalar.Scalar.TheVariants.{Number, Text, Truth}
use Rattle.abc_value.specs.declared.value.Value.TheVariants.{Scalar as One, Set, Nothing}
use Rattle.abc_value.proofs.Fronts.{fits_pos, first_pos}
use Rattle.abc_value.specs.declared.value.Value.{Value}
use Rattle.abc_value.specs.Literals.{literal, IsValue, IsLongest}
use Rattle.abc_value.proofs.Alike.{written_is_read}
use Rattle.abc_text.specs.Tokens.{is_digit}
use Rattle.abc_grammar.specs.declared.limits.TheConstants.{MOST_PARTS}
use Rattle.abc_trace.specs.Lines.{behind_comma, parted}
use Rattle.abc_trace_lines.specs.Fronts.{StopsAt}
use Rattle.abc_trace_lines.specs.Items.{IsItemFront, IsPartedFront, IsTupleFront}
use Rattle.abc_trace_lines.proofs.Literals.{stays, literal_split}
use Rattle.abc_trace_lines.proofs.ItemLists.{parted_one}

-- ---- one value
-- Where a digit follows the longest literal, no literal is there before what goes on with no digit.
pub no_literal_before : (bytes more : List ℕ) (v : Value) (n : ℕ) → IsLongest bytes v n →
    more ≡ drop n bytes → ¬ (StopsAt is_digit more) → (w : Value) (r : List ℕ) →
    ¬ (IsItemFront literal IsValue bytes w r)
no_literal_before bytes more v n longest e digit w r is =
    let read = written_is_read w r is.good (stays w r is.stops) v n
    (subst (λ (t : List ℕ). IsLongest t v n) is.text longest) in
    let same : more ≡ r = e ∙ ap (drop n) is.text ∙ drop_at (literal w) r n (sym read.1) in
    digit (subst (StopsAt is_digit) (sym same) is.stops)

-- ---- values in brackets
-- Values that stand in brackets that aren't empty stand at the front behind the first of them.
inside_is : (bytes inside more : List ℕ) (values : List Value) → bytes ≡ codes "(" ++ inside →
    ((more : List ℕ) → ¬ (inside ≡ codes ")" ++ more)) → IsTupleFront bytes values more →
    IsPartedFront literal IsValue inside values (41 ∷ more)
inside_is bytes inside more [] e some is =
    absurd (some more (append_cancel_left (codes "(") inside (41 ∷ more) (sym e ∙ is.text)))
inside_is bytes inside more (v ∷ vs) e some is = record {
  some = omega arith;
  good = is.good;
  text = append_cancel_left (codes "(") inside (parted literal (v ∷ vs) ++ 41 ∷ more)
      (sym e ∙ is.text);
  stops = refl;
  ends = λ behind f. let h = ap (λ (t : List ℕ). get_or t 0 0) f in omega (arith, h);
}

-- the values that are read are those that stand there
same_values : (bytes inside rest more : List ℕ) (read values : List Value) →
    bytes ≡ codes "(" ++ inside → ((more : List ℕ) → ¬ (inside ≡ codes ")" ++ more)) →
    IsPartedFront literal IsValue inside read rest → IsTupleFront bytes values more →
    (read ≡ values) × (rest ≡ 41 ∷ more)
same_values bytes inside rest more read values e some front is =
    parted_one literal IsValue literal_split inside rest (41 ∷ more) read values front
    (inside_is bytes inside more values e some is)

pub tuple_not_closed : (bytes inside rest : List ℕ) (read : List Value) →
    bytes ≡ codes "(" ++ inside → ((more : List ℕ) → ¬ (inside ≡ codes ")" ++ more)) →
    IsPartedFront literal IsValue inside read rest →
    ((more : List ℕ) → ¬ (rest ≡ codes ")" ++ more)) → (values : List Value) (more : List ℕ) →
    ¬ (IsTupleFront bytes values more)
tuple_not_closed bytes inside rest read e some front none values more is =
    none more (same_values bytes inside rest more read values e some front is).1

pub tuple_too_many : (bytes inside rest : List ℕ) (read : List Value) →
    bytes ≡ codes "(" ++ inside → ((more : List ℕ) → ¬ (inside ≡ codes ")" ++ more)) →
    IsPartedFront literal IsValue inside read rest → MOST_PARTS < length read →
    (values : List Value) (more : List ℕ) → ¬ (IsTupleFront bytes values more)
tuple_too_many bytes inside rest read e some front many values more is =
    let same = ap length (same_values bytes inside rest more read values e some front is).0 in
    let few = is.few in
    omega (arith, many, same, few)

-- ---- one reading
-- No literal begins with a bracket that closes a tuple.
no_bracket : (v : Value) (r more : List ℕ) → IsValue v → ¬ (literal v ++ r ≡ 41 ∷ more)
no_bracket (One (Number (pos n))) r more h e =
    let first = first_pos (decimal n ++ r) n (fits_pos n h) (r, refl) in
    let low = first.0 in
    let at = ap (λ (t : List ℕ). get_or t 0 0) e in
    omega (arith, low, at)
no_bracket (One (Number (negsuc n))) r more h e =
    let at = ap (λ (t : List ℕ). get_or t 0 0) e in omega (arith, at)
no_bracket (One (Text t)) r more h e =
    let at = ap (λ (t : List ℕ). get_or t 0 0) e in omega (arith, at)
no_bracket (One (Truth true)) r more h e =
    let at = ap (λ (t : List ℕ). get_or t 0 0) e in omega (arith, at)
no_bracket (One (Truth false)) r more h e =
    let at = ap (λ (t : List ℕ). get_or t 0 0) e in omega (arith, at)
no_bracket (Set s) r more h e = let at = ap (λ (t : List ℕ). get_or t 0 0) e in omega (arith, at)
no_bracket Nothing r more h e = let at = ap (λ (t : List ℕ). get_or t 0 0) e in omega (arith, at)

-- Where values stand in brackets, no bracket that closes stands behind the first.
some_inside : (v : Value) (vs : List Value) (r more : List ℕ) → All IsValue (v ∷ vs) →
    ¬ (parted literal (v ∷ vs) ++ r ≡ 41 ∷ more)
some_inside v vs r more h e =
    no_bracket v (flat_map (behind_comma literal) vs ++ r) more (All-head IsValue v vs h)
    (sym (append_assoc (literal v) (flat_map (behind_comma literal) vs) r) ∙ e)

-- There is one tuple at the front.
pub tuple_one : (bytes r s : List ℕ) (vs ws : List Value) → IsTupleFront bytes vs r →
    IsTupleFront bytes ws s → (vs ≡ ws) × (r ≡ s)
tuple_one bytes r s [] [] a b = (refl, ap (λ (t : List ℕ). drop 2 t) (sym a.text ∙ b.text))
tuple_one bytes r s [] (w ∷ ws) a b =
    absurd (some_inside w ws (41 ∷ s) r b.good
    (sym (ap (λ (t : List ℕ). drop 1 t) (sym a.text ∙ b.text))))
tuple_one bytes r s (v ∷ vs) ws a b =
    let inside : List ℕ = parted literal (v ∷ vs) ++ 41 ∷ r in
    let some : (more : List ℕ) → ¬ (inside ≡ codes ")" ++ more) = λ more e. some_inside v vs
    (41 ∷ r) more a.good e in
    let both = parted_one literal IsValue literal_split inside (41 ∷ r) (41 ∷ s) (v ∷ vs) ws
    (inside_is bytes inside r (v ∷ vs) a.text some a) (inside_is bytes inside s ws a.text some b) in
    (both.0, ap (λ (t : List ℕ). drop 1 t) both.1)
