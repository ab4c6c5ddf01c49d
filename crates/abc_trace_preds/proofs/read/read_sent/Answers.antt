use Rattle.std.proofs.Common.{◌≡◌, ℕ, ◌+◌, ◌<◌, List, [], map, length, Bor, sym, ap, ◌∙◌, subst, arith}
use Rattle.std.proofs.lemmas.List.{length-map}
use Rattle.abc_pred.specs.Standing.{pred_of}
use Rattle.abc_pred.specs.Terms.{Pred}
use Rattle.abc_text.specs.Meanings.{number_in}
use Rattle.abc_printed.specs.Printed.{pred_text}
use Rattle.abc_trace.specs.WellFormed.{IsSent}
use Rattle.abc_trace.specs.Met.{with_words, pred_words}
use Rattle.abc_trace_preds.proofs.Numbers.{renumbered, few_words}
use Rattle.abc_trace_preds.proofs.read.read_sent.Goals as goal

-- the text of this predicate is these bytes, and the words that it names first have the next numbers
abbrev IsOf : List (List ℕ) → List ℕ → List (List ℕ) → Pred → Type 0
IsOf known bytes words p =
    IsSent words p × (pred_text words p ≡ bytes) × (words ≡ with_words known (pred_words words p))

pub numbers_of-requires : goal.numbers_of-requires
numbers_of-requires c =
    let bytes = c.args.bytes.now in
    let own = c.in-Some.field-0.names in
    let p = pred_of c.in-Some.field-0.pred in
    let alone : IsOf [] bytes own p = rw c.in-Some.is at c.in_ok-read_alone.ensures in
    let few = few_words own bytes p alone.0 alone.1 alone.2 in
    let room = c.requires.few in
    record {
      few = omega (
        arith,
        few,
        room,
        length-map c.words.result.now (λ (w : Bor (List ℕ)). w.now),
        ap (length {A = List ℕ}) c.words.ensures,
      );
    }

pub returns-in_ok-numbers-in-Some : goal.returns-in_ok-numbers-in-Some
returns-in_ok-numbers-in-Some c =
    let bytes = c.args.bytes.now in
    let own = c.in-Some.field-0.names in
    let p = pred_of c.in-Some.field-0.pred in
    let known = c.args.names.now in
    let now = c.numbers_of.new.names in
    let alone : IsOf [] bytes own p = rw c.in-Some.is at c.in_ok-read_alone.ensures in
    subst (IsOf known bytes now) (sym c.renumber.ensures)
    (renumbered known now own c.as_slice.result.now bytes p alone.0 alone.1 alone.2
    (c.in_ok-numbers-in-Some.ensures.names ∙ ap (with_words known) c.words.ensures)
    (c.as_slice.ensures ∙ c.in_ok-numbers-in-Some.ensures.numbers ∙ ap (map (number_in now)) c.words.ensures))
