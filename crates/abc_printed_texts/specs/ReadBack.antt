-- What is printed is read back.
use Rattle.std.specs.Prelude.{◌≡◌, ℕ, List, length}
use Rattle.abc_pred.specs.Terms.{Pred}
use Rattle.abc_pred.specs.Maps.{Entries}
use Rattle.abc_pred.specs.Meaning.{close}
use Rattle.abc_text.specs.declared.lexical.Token.{Token}
use Rattle.abc_term.specs.declared.terms.Program.{Program}
use Rattle.abc_grammar.specs.Plain.{plain_program}
use Rattle.abc_grammar.specs.Accepted.{IsAccepted}
use Rattle.abc_grammar.specs.Fronts.{BeginsWithPred}
use Rattle.abc_grammar.specs.TextLaws.{AreAlike}
use Rattle.abc_printed.specs.Printed.{pred_text, program_text}
use Rattle.abc_printed_laws.specs.Outputs.{ProgramHasOutput}
use Rattle.abc_printed_limits.specs.Within.{HoldsValues}

-- The print of an accepted program is a text that is accepted as it, with the same names in the
-- same numbers.
abbrev pub PrintsAreAccepted : Type 0
PrintsAreAccepted = (bytes : List ℕ) (ts : List Token) (p : Program) → IsAccepted bytes ts p →
    (us : List Token) × IsAccepted (program_text p) us p

-- So printing is canonical: programs of texts print alike exactly where they are alike.
pub record PrintsAreCanonical : Type 0 where
  pub alike : (p q : Program) → AreAlike p q → program_text p ≡ program_text q
  pub apart :
      (bytes cs : List ℕ) (ts us : List Token) (p q : Program) →
      IsAccepted bytes ts p → IsAccepted cs us q → program_text p ≡ program_text q → AreAlike p q

-- The print of a predicate is a text that begins with it, to its end, where these words have their
-- numbers, and no name is added.
abbrev pub IsReadWhole : List (List ℕ) → Pred → Type 0
IsReadWhole words q = BeginsWithPred words (pred_text words q) q (length (pred_text words q)) words

-- So it is of the predicate of each output of an accepted program, closed under any values.
abbrev pub OutputsAreRead : Type 0
OutputsAreRead =
    (bytes : List ℕ) (ts : List Token) (p : Program) → IsAccepted bytes ts p →
    (q : Pred) → ProgramHasOutput (plain_program p) q →
    (own vars : Entries) → HoldsValues own → HoldsValues vars → IsReadWhole p.names (close q own vars)
