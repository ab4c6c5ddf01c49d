-- What is printed of the closed predicate of an output is read back.
use Rattle.std.proofs.Common.{ℕ, List, [], ◌∷◌, ◌++◌, length, None, All, sym, ap, ◌∙◌, subst, arith}
use Rattle.std.proofs.lemmas.List.{take_all}
use Rattle.std.proofs.lemmas.List.Elements.{All-nil, All-cons, All-tail}
use Rattle.abc_pred.specs.Terms.{Pred}
use Rattle.abc_pred.specs.Meaning.{close}
use Rattle.abc_text.specs.declared.lexical.Before.TheVariants.{Open}
use Rattle.abc_text.specs.declared.words.Mark.TheVariants as m
use Rattle.abc_text.specs.Meanings.{names_behind}
use Rattle.abc_grammar.specs.declared.lexemes.Lexeme.{Lexeme}
use Rattle.abc_grammar.specs.declared.lexemes.Lexeme.TheVariants as l
use Rattle.abc_grammar.specs.Plain.{plain_program}
use Rattle.abc_grammar.specs.Preds.{IsPred}
use Rattle.abc_grammar.specs.Fronts.{BeginsWithPred}
use Rattle.abc_printed.specs.Parts.{lexemes}
use Rattle.abc_printed.specs.Forms.{pred_parts}
use Rattle.abc_printed.specs.Printable.{PredHasValues}
use Rattle.abc_printed.specs.Printed.{pred_text}
use Rattle.abc_printed_laws.specs.Grammar.{PrintsAreTerms, ProgramsHaveValues}
use Rattle.abc_printed_laws.specs.Kept.{NamesAreKept}
use Rattle.abc_printed_laws.specs.Outputs.{StandsInside, OutputsStand}
use Rattle.abc_printed_limits.proofs.Closings.{pred_values}
use Rattle.abc_printed_limits.specs.Within.{PredIsWithin, ClosedPrintsAreWithin}
use Rattle.abc_printed_texts.specs.ReadBack.{OutputsAreRead}
use Rattle.abc_printed_texts.proofs.ReadParts.{tokens_from, good_are_read}
use Rattle.abc_printed_texts.proofs.Terms.{pred_good}
use Rattle.abc_printed_texts.proofs.NamesMet.{none_met, IsNamed, all_fit, IsScannedAs, scanned_as}
use Rattle.abc_printed_texts.proofs.PrintsAccepted.{lexemes_named, kept_named, named_have}
use Rattle.abc_printed_texts.proofs.Closed.{output_values, closed_named}
use Rattle.abc_printed_texts.proofs.LastToken.{pred_ends, tokens_length, parts_end}

-- ---- a print that stands alone
-- The print of a predicate whose names all have words at their numbers begins with it, to its end, and adds no name.
print_begins :
    (words : List (List ℕ)) (p : Pred) → IsPred (lexemes (pred_parts p)) p → PredHasValues p → All (IsNamed words) (lexemes (pred_parts p)) →
    PredIsWithin (lexemes (pred_parts p)) → BeginsWithPred words (pred_text words p) p (length (pred_text words p)) words
print_begins words p is values named within =
    let parts = pred_parts p in
    let ls = lexemes parts in
    let ts = tokens_from words 0 parts in
    let good = pred_good p values in
    let scan : IsScannedAs words words (pred_text words p) ts ls =
    scanned_as words words (pred_text words p) ts ls (good_are_read words parts (named_have words ls named) good) named (all_fit Open parts good)
    (none_met words ls named) in
    let long = tokens_length words 0 parts in
    record {
      tokens = ts;
      fault = None;
      lexemes = ls;
      scanned = scan.scanned;
      count = length ls;
      longest = record {
        front = record {
          exists = omega arith;
          pred = subst (λ (us : List Lexeme). IsPred us p) (sym (take_all (length ls) ls (omega arith))) is;
          within = within;
        };
        longest = λ n q front. front.exists;
      };
      ends = parts_end words parts (pred_ends p);
      names = scan.names ∙ ap (names_behind words (pred_text words p)) (sym (take_all (length ls) ts (omega (arith, long))));
    }

-- ---- the predicate of an output
-- What holds of all of two lists holds of the first,
all_left : {A : Type 0} (P : A → Type 0) (xs ys : List A) → All P (xs ++ ys) → All P xs
all_left P [] ys h = All-nil P
all_left P (x ∷ xs) ys h = All-cons P x xs (h 0 x (omega arith)) (all_left P xs ys (All-tail P x (xs ++ ys) h))

-- and of the second,
all_right : {A : Type 0} (P : A → Type 0) (xs ys : List A) → All P (xs ++ ys) → All P ys
all_right P [] ys h = h
all_right P (x ∷ xs) ys h = all_right P xs ys (All-tail P x (xs ++ ys) h)

-- so what holds of all lexemes of a text holds of those of the predicate.
inside_all : (P : Lexeme → Type 0) (ts : List Lexeme) (q : Pred) (h : StandsInside ts q) → All P ts → All P h.inside
inside_all P ts q h all =
    let front = all_left P (h.before ++ l.Mark m.OpenRound ∷ h.inside) (l.Mark m.CloseRound ∷ h.after) (subst (All P) h.stands all) in
    All-tail P (l.Mark m.OpenRound) h.inside (all_right P h.before (l.Mark m.OpenRound ∷ h.inside) front)

-- The names of the predicate are those of its text, and closing adds none.
pub outputs_are_read :
    PrintsAreTerms → ProgramsHaveValues → NamesAreKept → OutputsStand → ClosedPrintsAreWithin → OutputsAreRead
outputs_are_read terms have kept stand within bytes ts p h q o own vars holds held =
    let plain = plain_program p in
    let program_values = have bytes ts p h in
    let inside = stand h.text.lexemes plain h.text.grammar q o in
    let values = pred_values own vars holds held q (output_values plain q o program_values) in
    let named = kept_named p.names inside.inside (lexemes (pred_parts q)) (kept.preds inside.inside q inside.pred)
    (inside_all (IsNamed p.names) h.text.lexemes q inside (lexemes_named bytes ts p h.text)) in
    print_begins p.names (close q own vars) (terms.preds (close q own vars) values) values (closed_named p.names own vars q named)
    (within h.text.lexemes plain h.text.grammar program_values h.text.within q o own vars holds held)
