-- The text of a predicate that is sent is read in one way, its words numbered as they are met.
use Rattle.std.proofs.Common.{◌≡◌, ℕ, zero, suc, ◌+◌, ◌≤◌, ◌<◌, Bool, true, false, List, [], ◌∷◌, ◌++◌, map, length, get_or, take, Option, Some, None, All, refl, sym, ap, ◌∙◌, subst, append_assoc, arith}
use Rattle.std.specs.Prelude.{filter_map, slice_get, ◌||◌, not, cond}
use Rattle.std.specs.Option.{option_map_or}
use Rattle.std.specs.Str.{bytes_eq}
use Rattle.std.proofs.lemmas.List.{take_all}
use Rattle.std.proofs.lemmas.Slice.Eq.{bytes_eq-Decides}
use Rattle.abc_pred.specs.declared.names.Name.{Name}
use Rattle.abc_pred.specs.Terms.{Pred}
use Rattle.abc_pred.specs.Meaning.{IsClosed}
use Rattle.abc_text.specs.declared.lexical.Before.TheVariants.{Open}
use Rattle.abc_text.specs.declared.lexical.Token.{Token as TextToken}
use Rattle.abc_text.specs.declared.lexical.Fault.{Fault}
use Rattle.abc_text.specs.Meanings.{has_word, number_in, names_behind, AreNew, AreDifferent}
use Rattle.abc_text.proofs.Reading.{one_reading}
use Rattle.abc_grammar.specs.declared.lexemes.Lexeme.{Lexeme}
use Rattle.abc_grammar.specs.declared.lexemes.Lexeme.TheVariants as l
use Rattle.abc_grammar.specs.Lexemes.{name_in, lexemes_of}
use Rattle.abc_grammar.specs.Scanned.{IsScanned}
use Rattle.abc_grammar.specs.Preds.{IsPred}
use Rattle.abc_grammar.specs.Limits.{BeginsExtraToken}
use Rattle.abc_grammar.specs.Refusals.{IsSomePred, IsWithin}
use Rattle.abc_grammar.specs.Fronts.{IsFront}
use Rattle.abc_grammar.proofs.PredRuns.{one_pred}
use Rattle.abc_printed.specs.Parts.{word_at, lexemes}
use Rattle.abc_printed.specs.Forms.{pred_parts}
use Rattle.abc_printed.specs.Printed.{pred_text}
use Rattle.abc_printed.specs.Printable.{PredHasValues, HasWord}
use Rattle.abc_printed_laws.proofs.Programs.{prints_are_terms}
use Rattle.abc_printed_texts.proofs.ReadParts.{tokens_from, good_are_read}
use Rattle.abc_printed_texts.proofs.Terms.{pred_good}
use Rattle.abc_printed_texts.proofs.NamesMet.{met, none_met, IsNamed, all_fit, IsScannedAs, scanned_as}
use Rattle.abc_printed_texts.proofs.PrintsAccepted.{named_have}
use Rattle.abc_trace.specs.WellFormed.{IsSent}
use Rattle.abc_trace.specs.Met.{with_words, lexeme_word, pred_words}
use Rattle.abc_trace_preds.specs.Renaming.{renamed}
use Rattle.abc_trace_preds.specs.Reading.{PredsAreOne}
use Rattle.abc_trace_preds.proofs.Renamed.{new_lexeme, lexemes_anew, keeps_values, keeps_closed}
use Rattle.abc_trace_preds.proofs.Words.{KeepsWord, HasIn, word_there, text_anew, met_anew, sent_anew, met_words, met_have, numbers_keep, numbers_named}

-- ---- two readings
-- Bytes that are read twice, with the same words known, are read alike.
pub record ReadAlike (xs ys : List Lexeme) (ws vs : List (List ℕ)) : Type 0 where
  pub lexemes : xs ≡ ys
  pub names : ws ≡ vs

pub read_alike :
    (base ws vs : List (List ℕ)) (bytes : List ℕ) (ts us : List TextToken) (xs ys : List Lexeme) →
    IsScannedAs base ws bytes ts xs → IsScannedAs base vs bytes us ys → ReadAlike xs ys ws vs
read_alike base ws vs bytes ts us xs ys h k =
    let same : (ts ≡ us) × (◌≡◌ {A = Option Fault} None None) =
    (one_reading bytes).one ts us None None h.scanned.read k.scanned.read in
    record {
      lexemes = h.scanned.meant
          ∙ ap (λ (vs : List TextToken). lexemes_of (names_behind base bytes vs) bytes vs) same.0 ∙ sym k.scanned.meant;
      names = h.names ∙ ap (names_behind base bytes) same.0 ∙ sym k.names;
    }

-- ---- a print is read
-- The print of a predicate whose names have these words at their numbers is read as its lexemes.
pub print_read :
    (base words : List (List ℕ)) (p : Pred) → PredHasValues p → All (IsNamed words) (lexemes (pred_parts p)) →
    met words base (lexemes (pred_parts p)) ≡ words →
    IsScannedAs base words (pred_text words p) (tokens_from words 0 (pred_parts p)) (lexemes (pred_parts p))
print_read base words p values named all =
    let parts = pred_parts p in
    let good = pred_good p values in
    scanned_as base words (pred_text words p) (tokens_from words 0 parts) (lexemes parts)
    (good_are_read words parts (named_have words (lexemes parts) named) good) named (all_fit Open parts good) all

-- ---- numbered as met
-- the words that have numbers once those of the predicate have been met, and its names by these numbers
abbrev pub words_met : List (List ℕ) → List (List ℕ) → Pred → List (List ℕ)
words_met base words p = with_words base (pred_words words p)

abbrev pub name_met : List (List ℕ) → List (List ℕ) → Pred → Name → Name
name_met base words p n = name_in (words_met base words p) (word_at words n)

abbrev pub pred_met : List (List ℕ) → List (List ℕ) → Pred → Pred
pred_met base words p = renamed (name_met base words p) p

module _ (base words : List (List ℕ)) (p : Pred) where
  -- Each name keeps its word,
  pub met_keep : All (KeepsWord words (words_met base words p) (name_met base words p)) (lexemes (pred_parts p))
  met_keep =
      numbers_keep words (words_met base words p) (lexemes (pred_parts p)) (met_have words base (lexemes (pred_parts p)))

  -- the text stays,
  pub met_text : pred_text (words_met base words p) (pred_met base words p) ≡ pred_text words p
  met_text = text_anew words (words_met base words p) (name_met base words p) p met_keep

  -- and so do the words.
  pub met_same : pred_words (words_met base words p) (pred_met base words p) ≡ pred_words words p
  met_same = met_anew words (words_met base words p) (name_met base words p) p met_keep

  -- The text is read as the lexemes of the predicate numbered as met.
  pub met_read : PredHasValues p → All (HasWord words) (lexemes (pred_parts p)) →
      IsScannedAs base (words_met base words p) (pred_text words p)
      (tokens_from (words_met base words p) 0 (pred_parts (pred_met base words p)))
      (lexemes (pred_parts (pred_met base words p)))
  met_read values have =
      let known = words_met base words p in
      let r = name_met base words p in
      let q = pred_met base words p in
      let ls = lexemes (pred_parts p) in
      let named : All (IsNamed known) (lexemes (pred_parts q)) =
      subst (All (IsNamed known)) (sym (lexemes_anew r p)) (numbers_named words known ls have (met_have words base ls)) in
      let all : met known base (lexemes (pred_parts q)) ≡ known =
      met_words known base (lexemes (pred_parts q)) ∙ ap (with_words base) met_same in
      subst (λ (bytes : List ℕ). IsScannedAs base known bytes (tokens_from known 0 (pred_parts q)) (lexemes (pred_parts q)))
      met_text (print_read base known q (keeps_values r p values) named all)

-- ---- different words
-- A word that is none of more is none of fewer.
fewer : (words : List (List ℕ)) (w word : List ℕ) → has_word (w ∷ words) word ≡ false →
    (bytes_eq word w ≡ false) × (has_word words word ≡ false)
fewer words w word h = by (bytes_eq word w) (has_word words word) h
  where
    by : (a b : Bool) → (a || b) ≡ false → (a ≡ false) × (b ≡ false)
    by true b e = absurd (let e' : true ≡ false = e in cc)
    by false b e = (refl, e)

-- A new word is none of those that were known.
new_at : (known ws : List (List ℕ)) (k : ℕ) → AreNew known ws → k < length ws → has_word known (get_or ws k []) ≡ false
new_at known [] k h lt = absurd (omega (arith, lt))
new_at known (w ∷ ws) zero h lt = h.0
new_at known (w ∷ ws) (suc k) h lt = front known (w ∷ []) (get_or ws k []) (new_at (known ++ w ∷ []) ws k h.1 (omega (arith, lt)))
  where
    front : (xs ys : List (List ℕ)) (word : List ℕ) → has_word (xs ++ ys) word ≡ false → has_word xs word ≡ false
    front [] ys word e = refl
    front (x ∷ xs) ys word e =
        let both = fewer (xs ++ ys) x word e in
        let more = front xs ys word both.1 in
        λ i. both.0 i || more i

-- The last word that was known is another one.
not_last : (known : List (List ℕ)) (w word : List ℕ) → has_word (known ++ w ∷ []) word ≡ false → bytes_eq word w ≡ false
not_last [] w word h = (fewer [] w word h).0
not_last (x ∷ known) w word h = not_last known w word (fewer (known ++ w ∷ []) x word h).1

-- So each of different words has its own place.
place_of : (known ws : List (List ℕ)) (k : ℕ) → AreNew known ws → k < length ws →
    (has_word ws (get_or ws k []) ≡ true) × (number_in ws (get_or ws k []) ≡ k)
place_of known [] k h lt = absurd (omega (arith, lt))
place_of known (w ∷ ws) zero h lt =
    let same : bytes_eq w w ≡ true = (bytes_eq-Decides w w).1 refl in (
      ap (λ (b : Bool). b || has_word ws w) same,
      ap (λ (b : Bool). cond (not b) (1 + number_in ws w) 0) same,
    )
place_of known (w ∷ ws) (suc k) h lt =
    let word = get_or ws k [] in
    let more = place_of (known ++ w ∷ []) ws k h.1 (omega (arith, lt)) in
    let other : bytes_eq word w ≡ false = not_last known w word (new_at (known ++ w ∷ []) ws k h.1 (omega (arith, lt))) in
    let next = more.1 in (
      ap (λ (b : Bool). b || has_word ws word) other ∙ more.0,
      ap (λ (b : Bool). cond (not b) (1 + number_in ws word) 0) other ∙ omega (arith, next),
    )

-- Where words are different, names that have words have their own numbers.
name_placed : (words : List (List ℕ)) (n : Name) → AreDifferent words → n.0 < length words →
    (has_word words (word_at words n) ≡ true) × (number_in words (word_at words n) ≡ n.0)
name_placed words n h lt =
    let P : List ℕ → Type 0 = λ w. (has_word words w ≡ true) × (number_in words w ≡ n.0) in
    subst P (sym (word_there words n.0 lt)) (place_of [] words n.0 h lt)

-- So lexemes that have words are named.
pub have_named : (words : List (List ℕ)) (ls : List Lexeme) → AreDifferent words → All (HasWord words) ls → All (IsNamed words) ls
have_named words ls h have k d lt = named (get_or ls k d) (have k d lt)
  where
    named : (t : Lexeme) → HasWord words t → IsNamed words t
    named (l.Name n) g = record { has = g; numbered = name_placed words n h g.0 }
    named (l.Variable n) g = record { has = g; numbered = name_placed words n h g.0 }
    named (l.Keyword k) g = record { has = tt; numbered = tt }
    named (l.Mark m) g = record { has = tt; numbered = tt }
    named (l.Number n) g = record { has = tt; numbered = tt }
    named (l.Text bytes) g = record { has = tt; numbered = tt }

-- ---- the law
-- The words of two predicates with one text are those of its tokens.
one_words :
    (known known' : List (List ℕ)) (p q : Pred) → IsSent known p → IsSent known' q →
    pred_text known p ≡ pred_text known' q → pred_words known p ≡ pred_words known' q
one_words known known' p q h k e =
    let left = met_read [] known p h.values h.named in
    let right = met_read [] known' q k.values k.named in
    let ws = words_met [] known p in
    let xs = lexemes (pred_parts (pred_met [] known p)) in
    let same =
    read_alike [] ws (words_met [] known' q) (pred_text known' q) _ _ xs (lexemes (pred_parts (pred_met [] known' q)))
    (subst (λ (bytes : List ℕ). IsScannedAs [] ws bytes (tokens_from ws 0 (pred_parts (pred_met [] known p))) xs) e left)
    right in
    sym (met_same [] known p)
    ∙ (λ i. filter_map (lexeme_word (same.names i)) (same.lexemes i))
    ∙ met_same [] known' q

-- Where different words have the same numbers the lexemes are the same, and so are the predicates.
one_sent :
    (known : List (List ℕ)) (p q : Pred) → AreDifferent known → IsSent known p → IsSent known q →
    pred_text known p ≡ pred_text known q → p ≡ q
one_sent known p q d h k e =
    let xs = lexemes (pred_parts p) in
    let ys = lexemes (pred_parts q) in
    let left_named = have_named known xs d h.named in
    let right_named = have_named known ys d k.named in
    let left = print_read known known p h.values left_named (none_met known xs left_named) in
    let right = print_read known known q k.values right_named (none_met known ys right_named) in
    let same =
    read_alike known known known (pred_text known q) (tokens_from known 0 (pred_parts p)) (tokens_from known 0 (pred_parts q)) xs ys
    (subst (λ (bytes : List ℕ). IsScannedAs known known bytes (tokens_from known 0 (pred_parts p)) xs) e left) right in
    one_pred (subst (λ (ls : List Lexeme). IsPred ls p) same.lexemes (prints_are_terms.preds p h.values))
    (prints_are_terms.preds q k.values)

pub preds_are_one : PredsAreOne
preds_are_one = record { words = one_words; preds = one_sent }
