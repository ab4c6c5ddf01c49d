-- A print stays within the limits of every text of its term.
use Rattle.std.specs.Prelude.{List, length, All}
use Rattle.abc_value.specs.Literals.{IsValue}
use Rattle.abc_pred.specs.Terms.{Pred}
use Rattle.abc_pred.specs.Maps.{Entries}
use Rattle.abc_pred.specs.Meaning.{close}
use Rattle.abc_grammar.specs.declared.lexemes.Lexeme.{Lexeme}
use Rattle.abc_grammar.specs.Limits.{IsTooLarge, BeginsExtraToken}
use Rattle.abc_grammar.specs.Refusals.{IsSomeProgram, IsSomePred, IsWithin}
use Rattle.abc_grammar.specs.Plain.{PlainProgram}
use Rattle.abc_grammar.specs.Programs.{IsProgram}
use Rattle.abc_printed.specs.Parts.{lexemes}
use Rattle.abc_printed.specs.Forms.{pred_parts, program_parts}
use Rattle.abc_printed.specs.Printable.{ProgramHasValues}
use Rattle.abc_printed_laws.specs.Outputs.{ProgramHasOutput}

-- all tokens are within the limits of a program, or of a predicate that stands alone
abbrev pub ProgramIsWithin : List Lexeme → Type 0
ProgramIsWithin ts = IsWithin IsSomeProgram IsTooLarge ts (length ts)

abbrev pub PredIsWithin : List Lexeme → Type 0
PredIsWithin ts = IsWithin IsSomePred BeginsExtraToken ts (length ts)

-- a print has no bracket and no token more than a text of its program
abbrev pub PrintsAreWithin : Type 0
PrintsAreWithin =
    (ts : List Lexeme) (p : PlainProgram) → IsProgram ts p → ProgramHasValues p →
    ProgramIsWithin ts →
    ProgramIsWithin (lexemes (program_parts p))

-- each attribute and each variable has a value
abbrev pub HoldsValues : Entries → Type 0
HoldsValues env = All (λ entry. IsValue entry.1) env

-- What is printed of the predicate of an output, closed under any values, is within the limits of a
-- predicate that stands alone.
abbrev pub ClosedPrintsAreWithin : Type 0
ClosedPrintsAreWithin =
    (ts : List Lexeme) (p : PlainProgram) → IsProgram ts p → ProgramHasValues p →
    ProgramIsWithin ts →
    (q : Pred) → ProgramHasOutput p q → (own vars : Entries) → HoldsValues own → HoldsValues vars →
    PredIsWithin (lexemes (pred_parts (close q own vars)))
