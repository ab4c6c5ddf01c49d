-- Lists of tokens in which no set literal is too long.
use Rattle.std.specs.Prelude.{◌≡◌, ◌≤◌, List, ◌∷◌, ◌++◌, length}
use Rattle.abc_value.specs.declared.scalar.Scalar.{Scalar}
use Rattle.abc_grammar.specs.declared.lexemes.Lexeme.TheVariants as l
use Rattle.abc_text.specs.declared.words.Mark.TheVariants as m
use Rattle.abc_grammar.specs.declared.limits.TheConstants.{MOST_WRITTEN}
use Rattle.abc_grammar.specs.Listed.{AreListed}
use Rattle.abc_grammar.specs.Literals.{IsScalar}
use Rattle.abc_reading.specs.Reading.{Read}
use Rattle.abc_readers.specs.Operands.{Tokens, members_at}

-- wherever scalars parted by commas stand in braces, they are at most as many as a set literal may write
abbrev pub SetsFit : Tokens → Type 0
SetsFit ts =
    (before parts after : Tokens) (scalars : List Scalar) → AreListed IsScalar parts scalars →
    ts ≡ before ++ l.Mark m.OpenCurly ∷ parts ++ l.Mark m.CloseCurly ∷ after → length scalars ≤ MOST_WRITTEN

-- these tokens begin with a `{`, and behind it the members of a set literal are read
abbrev pub BeginsSet : Tokens → List Scalar → Type 0
BeginsSet ts scalars = (us rest : Tokens) × (ts ≡ l.Mark m.OpenCurly ∷ us) × (members_at us ≡ Read scalars rest)
