-- Which programs have runs that traces tell, and that every accepted program is one of them.
use Rattle.std.specs.Prelude.{ℕ, List, All}
use Rattle.abc_pred.specs.Terms.{Pred}
use Rattle.abc_pred.specs.Maps.{Entries}
use Rattle.abc_pred.specs.Meaning.{close}
use Rattle.abc_text.specs.declared.lexical.Token.{Token}
use Rattle.abc_text.specs.Meanings.{AreDifferent}
use Rattle.abc_term.specs.declared.terms.Program.{Program}
use Rattle.abc_checks.specs.Facts.{IsChecked}
use Rattle.abc_grammar.specs.Plain.{plain_program}
use Rattle.abc_grammar.specs.Accepted.{IsAccepted}
use Rattle.abc_grammar_laws.specs.Short.{AreShort}
use Rattle.abc_printed.specs.Parts.{lexemes}
use Rattle.abc_printed.specs.Forms.{pred_parts, program_parts}
use Rattle.abc_printed.specs.Printable.{ProgramHasValues, HasWord}
use Rattle.abc_printed_laws.specs.Outputs.{ProgramHasOutput}
use Rattle.abc_printed_limits.specs.Within.{HoldsValues, PredIsWithin}

pub record IsTraceable (p : Program) : Type 0 where
  -- no fact of the checks holds of it
  pub checked : IsChecked p
  -- the words of its names are different
  pub different : AreDifferent p.names
  -- each name that stands in its print has a word, which is a NAME where the name is no variable
  pub named : All (HasWord p.names) (lexemes (program_parts (plain_program p)))
  -- its literals are values
  pub values : ProgramHasValues (plain_program p)
  -- its tuples are within their limit
  pub short : AreShort (plain_program p)
  -- the predicate of each output, closed under any values, is printed within the limits of a
  -- predicate that stands alone
  pub within :
      (q : Pred) → ProgramHasOutput (plain_program p) q → (own vars : Entries) →
      HoldsValues own → HoldsValues vars → PredIsWithin (lexemes (pred_parts (close q own vars)))

abbrev pub AcceptedAreTraceable : Type 0
AcceptedAreTraceable =
    (bytes : List ℕ) (ts : List Token) (p : Program) → IsAccepted bytes ts p → IsTraceable p
