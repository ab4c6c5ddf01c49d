-- Those that heard.
use Rattle.std.proofs.Common.{◌≡◌, ℕ, ◌≤◌, ◌<◌, ◌^◌, false, true, List, [], ◌∷◌, ◌++◌, length, get_or, decimal, drop, codes, All, refl, sym, ap, ◌∙◌, subst, append_assoc, append-nil, arith}
use Rattle.std.specs.Prelude.{◌==◌, flat_map}
use Rattle.std.proofs.lemmas.List.Elements.{All-head}
use Rattle.abc_text.specs.Tokens.{is_digit, is_letter}
use Rattle.abc_text.specs.Meanings.{AreDifferent}
use Rattle.abc_trace.specs.declared.limits.TheConstants.{MOST_PLACE}
use Rattle.abc_trace.specs.Lines.{behind_comma, parted}
use Rattle.abc_trace_lines.specs.Plain.{hearer_text, hearers_text}
use Rattle.abc_trace_lines.specs.Spelled.{IsHearer, hearers_words}
use Rattle.abc_trace_lines.specs.Fronts.{StopsAt, IsNameBefore, IsPlaceFront}
use Rattle.abc_trace_lines.specs.Items.{IsItemFront, IsPartedFront}
use Rattle.abc_trace_lines.specs.Reading.{AreHearers}
use Rattle.abc_trace_lines.proofs.Numerals.{number_split, not_empty}
use Rattle.abc_trace_lines.proofs.Words.{begins_letter, name_split, name_before_one}
use Rattle.abc_trace_lines.proofs.ItemLists.{parted_one}

-- ---- one that heard
place_small : (n : ℕ) → n ≤ MOST_PLACE → n < 2 ^ 64
place_small n h = omega (arith, h)

pub hearer_split : (a b : List ℕ × ℕ) (r s : List ℕ) → IsHearer a → IsHearer b →
    StopsAt is_digit r → StopsAt is_digit s → hearer_text a ++ r ≡ hearer_text b ++ s →
    (a ≡ b) × (r ≡ s)
hearer_split a b r s x y u v e =
    let whole : a.0 ++ (58 ∷ (decimal a.1 ++ r)) ≡ b.0 ++ (58 ∷ (decimal b.1 ++ s)) =
    sym (append_assoc a.0 (58 ∷ decimal a.1) r) ∙ e ∙ append_assoc b.0 (58 ∷ decimal b.1) s in
    let words = name_split a.0 b.0 (58 ∷ (decimal a.1 ++ r))
    (58 ∷ (decimal b.1 ++ s)) x.0 y.0 refl refl whole in
    let places = number_split a.1 b.1 r s (place_small a.1 x.1) (place_small b.1 y.1) u v
    (ap (λ (t : List ℕ). drop 1 t) words.1) in
    ((λ i. (words.0 i, places.0 i)), places.1)

-- the name of one that heard stands before a colon
name_is : (bytes more : List ℕ) (h : List ℕ × ℕ) → IsItemFront hearer_text IsHearer bytes h more →
    IsNameBefore 58 bytes h.0 (decimal h.1 ++ more)
name_is bytes more h is =
    record { name = is.good.0; text = is.text ∙ append_assoc h.0 (58 ∷ decimal h.1) more }

pub hearer_not_place : (bytes word digits : List ℕ) → IsNameBefore 58 bytes word digits →
    ((n : ℕ) (more : List ℕ) → ¬ (IsPlaceFront digits n more)) → (h : List ℕ × ℕ) (more : List ℕ) →
    ¬ (IsItemFront hearer_text IsHearer bytes h more)
hearer_not_place bytes word digits name none h more is = none h.1 more (record {
  fits = is.good.1;
  text = (name_before_one 58 bytes word h.0 digits (decimal h.1 ++ more) refl name
      (name_is bytes more h is)).1;
  stops = is.stops;
})

-- ---- all of them
-- Where the bytes are no dash, those that heard are parted by commas.
parted_is : (bytes : List ℕ) (heard : List (List ℕ × ℕ)) → ¬ (bytes ≡ codes "-") →
    AreHearers bytes heard → IsPartedFront hearer_text IsHearer bytes heard []
parted_is bytes [] some is = absurd (some is.text)
parted_is bytes (h ∷ heard) some is = record {
  some = omega arith;
  good = is.good;
  text = is.text ∙ sym (append-nil (parted hearer_text (h ∷ heard)));
  stops = tt;
  ends = λ behind f. let z : 0 ≡ length (codes ", " ++ behind) = ap length f in omega (arith, z);
}

pub hearers_not : (bytes : List ℕ) → ¬ (bytes ≡ codes "-") →
    ((heard : List (List ℕ × ℕ)) (more : List ℕ) →
    ¬ (IsPartedFront hearer_text IsHearer bytes heard more)) →
    (heard : List (List ℕ × ℕ)) → ¬ (AreHearers bytes heard)
hearers_not bytes some none heard is = none heard [] (parted_is bytes heard some is)

-- those that are read are those that stand there
same_hearers : (bytes rest : List ℕ) (read heard : List (List ℕ × ℕ)) → ¬ (bytes ≡ codes "-") →
    IsPartedFront hearer_text IsHearer bytes read rest → AreHearers bytes heard →
    (read ≡ heard) × (rest ≡ [])
same_hearers bytes rest read heard some front is =
    parted_one hearer_text IsHearer hearer_split bytes rest [] read heard front
    (parted_is bytes heard some is)

pub hearers_not_end : (bytes rest : List ℕ) (read : List (List ℕ × ℕ)) → ¬ (bytes ≡ codes "-") →
    IsPartedFront hearer_text IsHearer bytes read rest → false ≡ (length rest == 0) →
    (heard : List (List ℕ × ℕ)) → ¬ (AreHearers bytes heard)
hearers_not_end bytes rest read some front more heard is =
    not_empty rest more (same_hearers bytes rest read heard some front is).1

pub hearers_not_once : (bytes rest : List ℕ) (read : List (List ℕ × ℕ)) → ¬ (bytes ≡ codes "-") →
    IsPartedFront hearer_text IsHearer bytes read rest → ¬ (AreDifferent (hearers_words read)) →
    (heard : List (List ℕ × ℕ)) → ¬ (AreHearers bytes heard)
hearers_not_once bytes rest read some front twice heard is =
    twice (subst (λ (h : List (List ℕ × ℕ)). AreDifferent (hearers_words h))
    (sym (same_hearers bytes rest read heard some front is).0) is.once)

pub hearers_are : (bytes rest : List ℕ) (read : List (List ℕ × ℕ)) →
    IsPartedFront hearer_text IsHearer bytes read rest → rest ≡ [] →
    AreDifferent (hearers_words read) → AreHearers bytes read
hearers_are bytes rest [] front e once = let z = front.some in absurd (omega (arith, z))
hearers_are bytes rest (h ∷ read) front e once = record {
  good = front.good;
  once = once;
  text = front.text ∙ ap (λ (t : List ℕ). parted hearer_text (h ∷ read) ++ t) e
      ∙ append-nil (parted hearer_text (h ∷ read));
}

-- ---- one reading
-- A dash tells nobody that heard.
dash_not : (h : List ℕ × ℕ) (heard : List (List ℕ × ℕ)) → All IsHearer (h ∷ heard) →
    ¬ (codes "-" ≡ parted hearer_text (h ∷ heard))
dash_not h heard x e =
    let rest : List ℕ = flat_map (behind_comma hearer_text) heard in
    let whole : codes "-" ≡ h.0 ++ (58 ∷ (decimal h.1 ++ rest)) = e
    ∙ append_assoc h.0 (58 ∷ decimal h.1) rest in
    let letter : is_letter 45 ≡ true =
    ap (λ (t : List ℕ). is_letter (get_or t 0 0)) whole
    ∙ begins_letter h.0 (58 ∷ (decimal h.1 ++ rest)) (All-head IsHearer h heard x).0 in
    let z : false ≡ true = letter in
    cc

-- bytes that are those that heard, parted by commas
whole : (text : List ℕ) (h : List ℕ × ℕ) (heard : List (List ℕ × ℕ)) → All IsHearer (h ∷ heard) →
    text ≡ parted hearer_text (h ∷ heard) → IsPartedFront hearer_text IsHearer text (h ∷ heard) []
whole text h heard x e = record {
  some = omega arith;
  good = x;
  text = e ∙ sym (append-nil (parted hearer_text (h ∷ heard)));
  stops = tt;
  ends = λ behind f. let z : 0 ≡ length (codes ", " ++ behind) = ap length f in omega (arith, z);
}

pub hearers_one : (h k : List (List ℕ × ℕ)) → All IsHearer h → All IsHearer k →
    hearers_text h ≡ hearers_text k → h ≡ k
hearers_one [] [] x y e = refl
hearers_one [] (b ∷ k) x y e = absurd (dash_not b k y e)
hearers_one (a ∷ h) [] x y e = absurd (dash_not a h x (sym e))
hearers_one (a ∷ h) (b ∷ k) x y e =
    let text : List ℕ = parted hearer_text (b ∷ k) in
    (parted_one hearer_text IsHearer hearer_split text [] [] (a ∷ h) (b ∷ k)
    (whole text a h x (sym e)) (whole text b k y refl)).0
