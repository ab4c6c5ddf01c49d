-- The limits of tuples and of set literals, as what an accepted text gives.
use Rattle.std.specs.Prelude.{◌≡◌, ℕ, ◌≤◌, List, ◌∷◌, ◌++◌, length, All}
use Rattle.abc_value.specs.declared.scalar.Scalar.{Scalar}
use Rattle.abc_text.specs.declared.lexical.Token.{Token}
use Rattle.abc_term.specs.Processes.{Process, Nil, Output, Input, When, Choice, Par, Call}
use Rattle.abc_term.specs.declared.terms.Program.{Program}
use Rattle.abc_grammar.specs.declared.lexemes.Lexeme.{Lexeme}
use Rattle.abc_grammar.specs.declared.lexemes.Lexeme.TheVariants as l
use Rattle.abc_text.specs.declared.words.Mark.TheVariants as m
use Rattle.abc_grammar.specs.declared.limits.TheConstants.{MOST_PARTS, MOST_WRITTEN}
use Rattle.abc_grammar.specs.Listed.{AreListed}
use Rattle.abc_grammar.specs.Literals.{IsScalar}
use Rattle.abc_grammar.specs.Plain.{PlainProgram, plain_program}
use Rattle.abc_grammar.specs.Programs.{IsProgram}
use Rattle.abc_grammar.specs.Accepted.{IsAccepted}
use Rattle.abc_grammar_laws.specs.Crowding.{BeginsExtraPart}

-- each output has at most so many expressions, and each input so many variables
abbrev pub HasShortTuples : Process → Type 0
HasShortTuples Nil = Unit {0}
HasShortTuples (Output es p us A) = (length es ≤ MOST_PARTS) × HasShortTuples A
HasShortTuples (Input p xs us A) = (length xs ≤ MOST_PARTS) × HasShortTuples A
HasShortTuples (When g A) = HasShortTuples A
HasShortTuples (Choice A B) = HasShortTuples A × HasShortTuples B
HasShortTuples (Par A B) = HasShortTuples A × HasShortTuples B
HasShortTuples (Call c) = Unit {0}

-- of all definitions and components
pub record AreShort (p : PlainProgram) : Type 0 where
  pub definitions : All (λ d. HasShortTuples d.1) p.definitions
  pub components : All (λ C. HasShortTuples C.run) p.components

abbrev pub TuplesAreShort : Type 0
TuplesAreShort = (bytes : List ℕ) (ts : List Token) (p : Program) → IsAccepted bytes ts p → AreShort (plain_program p)

-- wherever scalars parted by commas stand behind a `{` of the text, they are at most so many
abbrev pub SetsAreShort : Type 0
SetsAreShort =
    (bytes : List ℕ) (ts : List Token) (p : Program) (h : IsAccepted bytes ts p) →
    (before parts after : List Lexeme) (scalars : List Scalar) → AreListed IsScalar parts scalars →
    h.text.lexemes ≡ before ++ l.Mark m.OpenCurly ∷ parts ++ after → length scalars ≤ MOST_WRITTEN

-- Conversely no token begins a part too many in a text of the grammar whose tuples are short.
abbrev pub NoneTooMany : Type 0
NoneTooMany =
    (ts : List Lexeme) (p : PlainProgram) → IsProgram ts p → AreShort p → (k : ℕ) → ¬ BeginsExtraPart ts k
