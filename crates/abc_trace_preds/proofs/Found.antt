-- What is found in a text that is to be one predicate, its words numbered as they are met.
use Rattle.std.proofs.Common.{◌≡◌, ℕ, ◌+◌, ◌≤◌, ◌<◌, List, [], ◌∷◌, ◌++◌, length, take, Option, Some, None, All, refl, sym, ap, ◌∙◌, subst, arith}
use Rattle.std.specs.Prelude.{IsTrue, Bool, true, false, is_some, ◌↔◌}
use Rattle.std.proofs.lemmas.List.{take_all, length-map}
use Rattle.abc_pred.specs.Terms.{Pred}
use Rattle.abc_pred.specs.Meaning.{IsClosed}
use Rattle.abc_text.specs.declared.lexical.Token.{Token as TextToken}
use Rattle.abc_text.specs.declared.lexical.Fault.{Fault}
use Rattle.abc_text.specs.Meanings.{named, HasName, names_behind}
use Rattle.abc_text.proofs.Reading.{one_reading}
use Rattle.abc_text.proofs.Standing.{tokens_stand}
use Rattle.abc_text.proofs.Growing.{named_have_numbers}
use Rattle.abc_grammar.specs.declared.lexemes.Lexeme.{Lexeme}
use Rattle.abc_grammar.specs.Lexemes.{lexeme_of, lexemes_of}
use Rattle.abc_grammar.specs.Scanned.{IsScanned}
use Rattle.abc_grammar.specs.Preds.{IsPred}
use Rattle.abc_grammar.specs.Limits.{BeginsExtraToken}
use Rattle.abc_grammar.specs.Refusals.{IsSomePred, IsWithin}
use Rattle.abc_grammar.specs.Fronts.{IsFront, IsLongest, HasNoFront}
use Rattle.abc_grammar.proofs.PredRuns.{one_pred}
use Rattle.abc_lexemes.specs.declared.lexed.Lexed.{Lexed}
use Rattle.abc_lexemes.specs.Lexed.{IsLexed}
use Rattle.abc_printed.specs.Parts.{lexemes}
use Rattle.abc_printed.specs.Forms.{pred_parts}
use Rattle.abc_printed.specs.Printed.{pred_text}
use Rattle.abc_printed.specs.Printable.{PredHasValues}
use Rattle.abc_printed_laws.specs.Kept.{names_in}
use Rattle.abc_printed_laws.proofs.Programs.{prints_are_terms}
use Rattle.abc_printed_laws.proofs.NamedPrograms.{names_are_kept}
use Rattle.abc_printed_laws.proofs.Sound.{TextsFit}
use Rattle.abc_printed_texts.proofs.ReadParts.{tokens_from}
use Rattle.abc_printed_texts.proofs.NamesMet.{met, met_names, IsNamed, IsScannedAs}
use Rattle.abc_printed_texts.proofs.TextNames.{text_named, text_met}
use Rattle.abc_printed_texts.proofs.PrintsAccepted.{kept_named, named_have}
use Rattle.abc_trace.specs.WellFormed.{IsSent}
use Rattle.abc_trace.specs.Met.{with_words, pred_words}
use Rattle.abc_trace_preds.specs.Alone.{IsWhole}
use Rattle.abc_trace_preds.specs.Reading.{IsReadPred}
use Rattle.abc_trace_preds.proofs.Values.{lexemes_fit, has_values}
use Rattle.abc_trace_preds.proofs.Words.{StaysSent, sent_anew, met_words}
use Rattle.abc_trace_preds.proofs.Sents.{read_alike, print_read, words_met, name_met, pred_met, met_keep, met_text, met_read}

-- ---- a whole text
module _ (bytes : List ℕ) (ts : List TextToken) (ls : List Lexeme) (names : List (List ℕ)) (h : IsScannedAs [] names bytes ts ls) where
  -- The lexemes are what the tokens stand for by the words that have numbers,
  meant_by_names : ls ≡ lexemes_of names bytes ts
  meant_by_names = h.scanned.meant ∙ ap (λ (ws : List (List ℕ)). lexemes_of ws bytes ts) (sym h.names)

  -- each of which is there.
  names_have : All (λ t. HasName names (named bytes t)) ts
  names_have =
      subst (λ (ws : List (List ℕ)). All (λ t. HasName ws (named bytes t)) ts) (sym h.names) (named_have_numbers [] bytes ts)

  -- They have words at their numbers,
  text_lexemes_named : All (IsNamed names) ls
  text_lexemes_named =
      subst (All (IsNamed names)) (sym meant_by_names)
      (text_named names bytes ts (tokens_stand bytes ts None h.scanned.read) names_have)

  -- and all words are theirs.
  text_lexemes_met : met names [] ls ≡ names
  text_lexemes_met = ap (met names []) meant_by_names ∙ text_met names bytes [] ts names_have ∙ sym h.names

  module _ (p : Pred) (is : IsPred ls p) (within : IsWithin IsSomePred BeginsExtraToken ls (length ls)) where
    -- The literals of a predicate that they are are values,
    text_values : PredHasValues p
    text_values =
        has_values ls within p is
        (subst TextsFit (sym h.scanned.meant)
        (lexemes_fit (names_behind [] bytes ts) bytes ts (tokens_stand bytes ts None h.scanned.read)))

    -- its print has the same names,
    print_names : names_in (lexemes (pred_parts p)) ≡ names_in ls
    print_names = names_are_kept.preds ls p is

    print_named : All (IsNamed names) (lexemes (pred_parts p))
    print_named = kept_named names ls (lexemes (pred_parts p)) print_names text_lexemes_named

    -- which name all words,
    print_met : met names [] (lexemes (pred_parts p)) ≡ names
    print_met =
        met_names names [] (lexemes (pred_parts p)) ∙ ap (met names []) print_names ∙ sym (met_names names [] ls)
        ∙ text_lexemes_met

    -- so where the text is the print, its lexemes are the print's.
    text_is_print : pred_text names p ≡ bytes → lexemes (pred_parts p) ≡ ls
    text_is_print e =
        let xs = lexemes (pred_parts p) in
        let us = tokens_from names 0 (pred_parts p) in
        let read = subst (λ (bs : List ℕ). IsScannedAs [] names bs us xs) e (print_read [] names p text_values print_named print_met) in
        (read_alike [] names names bytes us ts xs ls read h).lexemes

    -- Then it is one that is sent, and its words are the text's.
    text_sent : IsClosed p → (e : pred_text names p ≡ bytes) →
        IsSent names p × (pred_text names p ≡ bytes) × (names ≡ with_words [] (pred_words names p))
    text_sent closed e = (
      record {
        closed = closed;
        values = text_values;
        named = named_have names (lexemes (pred_parts p)) print_named;
        within = subst (λ (us : List Lexeme). IsWithin IsSomePred BeginsExtraToken us (length us)) (sym (text_is_print e)) within;
      },
      e,
      sym print_met ∙ met_words names [] (lexemes (pred_parts p)),
    )

-- What is found where all lexemes of a text are a closed predicate that is printed so.
pub whole_found : (bytes : List ℕ) (lexed : Lexed) (count : ℕ) (p : Pred) → IsLexed [] bytes lexed →
    IsLongest lexed.lexemes count p → IsWhole bytes lexed count p →
    IsSent lexed.names p × (pred_text lexed.names p ≡ bytes) × (lexed.names ≡ with_words [] (pred_words lexed.names p))
whole_found bytes lexed count p h long whole =
    let ls = lexed.lexemes in
    let all = whole.all in
    let scan : IsScannedAs [] lexed.names bytes lexed.tokens ls = record {
      scanned = subst (λ (f : Option Fault). IsScanned [] bytes lexed.tokens f ls) whole.good h.scanned;
      names = h.names;
    } in
    text_sent bytes lexed.tokens ls lexed.names scan p
    (subst (λ (us : List Lexeme). IsPred us p) (take_all count ls (omega (arith, all))) long.front.pred)
    (subst (IsWithin IsSomePred BeginsExtraToken ls) all long.front.within) whole.closed whole.printed

-- ---- the text of a predicate that is sent
-- All lexemes of a text are a predicate that is closed and is printed so.
record HasSent (bytes : List ℕ) (lexed : Lexed) : Type 0 where
  pub pred : Pred
  pub good : lexed.fault ≡ None
  pub front : IsFront lexed.lexemes (length lexed.lexemes) pred
  pub closed : IsClosed pred
  pub printed : pred_text lexed.names pred ≡ bytes

-- It is so of the text of each predicate that is sent, whatever numbers its names have.
has_sent : (bytes : List ℕ) (lexed : Lexed) → IsLexed [] bytes lexed →
    (words : List (List ℕ)) (p : Pred) → IsSent words p → pred_text words p ≡ bytes → HasSent bytes lexed
has_sent bytes lexed h words p sent e =
    let known = words_met [] words p in
    let q = pred_met [] words p in
    let us = tokens_from known 0 (pred_parts q) in
    let xs = lexemes (pred_parts q) in
    let read : IsScannedAs [] known bytes us xs =
    subst (λ (bs : List ℕ). IsScannedAs [] known bs us xs) e (met_read [] words p sent.values sent.named) in
    let same : (lexed.tokens ≡ us) × (lexed.fault ≡ None) =
    (one_reading bytes).one lexed.tokens us lexed.fault None h.scanned.read read.scanned.read in
    let alike : lexed.lexemes ≡ xs =
    h.scanned.meant ∙ ap (λ (vs : List TextToken). lexemes_of (names_behind [] bytes vs) bytes vs) same.0
    ∙ sym read.scanned.meant in
    let names : lexed.names ≡ known = h.names ∙ ap (names_behind [] bytes) same.0 ∙ sym read.names in
    let stays : StaysSent words known (name_met [] words p) p =
    sent_anew words known (name_met [] words p) p sent (met_keep [] words p) in
    let front : IsFront xs (length xs) q = record {
      exists = omega arith;
      pred = subst (λ (vs : List Lexeme). IsPred vs q) (sym (take_all (length xs) xs (omega arith)))
          (prints_are_terms.preds q stays.sent.values);
      within = stays.sent.within;
    } in
    record {
      pred = q;
      good = same.1;
      front = subst (λ (vs : List Lexeme). IsFront vs (length vs) q) (sym alike) front;
      closed = stays.sent.closed;
      printed = ap (λ (ws : List (List ℕ)). pred_text ws q) names ∙ met_text [] words p ∙ e;
    }

-- So a text that begins with no predicate is the text of none,
pub none_begun : (bytes : List ℕ) (lexed : Lexed) → IsLexed [] bytes lexed → HasNoFront lexed.lexemes → IsReadPred [] bytes [] None
none_begun bytes lexed h none words p sent e =
    let has = has_sent bytes lexed h words p sent e in
    none (length lexed.lexemes) has.pred has.front

-- and so is one that is not as such a text is.
pub none_whole : (bytes : List ℕ) (lexed : Lexed) (count : ℕ) (p : Pred) → IsLexed [] bytes lexed →
    IsLongest lexed.lexemes count p → ¬ IsWhole bytes lexed count p → IsReadPred [] bytes [] None
none_whole bytes lexed count p h long never words q sent e =
    let has = has_sent bytes lexed h words q sent e in
    let ls = lexed.lexemes in
    let above = long.longest (length ls) has.pred has.front in
    let below = long.front.exists in
    let all : count ≡ length ls = omega (arith, above, below) in
    let same : has.pred ≡ p =
    one_pred has.front.pred (subst (λ (n : ℕ). IsPred (take n ls) p) all long.front.pred) in
    never (record {
      good = has.good;
      all = all;
      closed = subst IsClosed same has.closed;
      printed = ap (pred_text lexed.names) (sym same) ∙ has.printed;
    })

-- ---- the tests of a whole text
-- A fault that is none.
pub none_of : (o : Option Fault) → is_some o ≡ false → o ≡ None
none_of None e = refl
none_of (Some fault) e = absurd (let e' : true ≡ false = e in cc)

-- Each token has one lexeme.
pub as_many : (bytes : List ℕ) (lexed : Lexed) → IsLexed [] bytes lexed → length lexed.lexemes ≡ length lexed.tokens
as_many bytes lexed h =
    ap (length {A = Lexeme}) h.scanned.meant
    ∙ length-map lexed.tokens (lexeme_of (names_behind [] bytes lexed.tokens) bytes)

-- Where all lexemes are a closed predicate, it is left whether it is printed so.
pub whole_by_print :
    (bytes : List ℕ) (lexed : Lexed) (count : ℕ) (p : Pred) (names : List (List ℕ)) (b : Bool) → IsLexed [] bytes lexed →
    lexed.fault ≡ None → count ≡ length lexed.lexemes → IsClosed p →
    names_behind [] bytes (take count lexed.tokens) ≡ [] ++ names → (IsTrue b ↔ (pred_text names p ≡ bytes)) →
    IsTrue b ↔ IsWhole bytes lexed count p
whole_by_print bytes lexed count p names b h good all closed e tells =
    let many = as_many bytes lexed h in
    let P : List (List ℕ) → Type 0 = λ ws. pred_text ws p ≡ bytes in
    let same : names ≡ lexed.names =
    sym e ∙ ap (names_behind [] bytes) (take_all count lexed.tokens (omega (arith, all, many))) ∙ sym h.names in (
      λ t. record { good = good; all = all; closed = closed; printed = subst P same (tells.0 t) },
      λ w. tells.1 (subst P (sym same) w.printed),
    )

-- A test that is false tells that what it tests does not hold,
pub never_told : (b : Bool) (A : Type 0) → (IsTrue b ↔ A) → b ≡ false → ¬ A
never_told b A tells e a = absurd (let no : b ≡ true = tells.1 a in cc)

-- and one that is true, that it does.
pub told : (b : Bool) (A : Type 0) → (IsTrue b ↔ A) → b ≡ true → A
told b A tells e = tells.0 e
