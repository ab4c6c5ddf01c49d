-- Parts that are read back: each lexeme fits what stands before it, and what follows it doesn't run into it.
use Rattle.std.specs.Prelude.{◌≤◌, Bool, true, false, List, [], ◌∷◌}
use Rattle.abc_text.specs.declared.lexical.Before.{Before}
use Rattle.abc_text.specs.declared.lexical.Before.TheVariants.{Open, Operand, Sign}
use Rattle.abc_text.specs.Tokens.{greatest}
use Rattle.abc_text.specs.Words.{is_literal, closes_operand, is_dash}
use Rattle.abc_text.specs.Spelling.{IsTextValue}
use Rattle.abc_grammar.specs.declared.lexemes.Lexeme.{Lexeme}
use Rattle.abc_grammar.specs.declared.lexemes.Lexeme.TheVariants as l
use Rattle.abc_printed.specs.Parts.{Part, Token, Space, Line}

-- ---- what stands before the next token
abbrev pub after_minus : Before → Before
after_minus Open = Sign
after_minus Operand = Open
after_minus Sign = Sign

-- behind a lexeme that may end an operand, or is a `-`
abbrev pub after_by : Bool → Bool → Before → Before
after_by true minus before = Operand
after_by false true before = after_minus before
after_by false false before = Open

abbrev pub after : Before → Lexeme → Before
after before (l.Keyword k) = after_by (is_literal k) false before
after before (l.Mark m) = after_by (closes_operand m) (is_dash m) before
after before (l.Name n) = Operand
after before (l.Variable n) = Operand
after before (l.Number n) = Operand
after before (l.Text bytes) = Operand

-- ---- each lexeme
-- A number isn't too great, and a text fits.
abbrev pub Fits : Before → Lexeme → Type 0
Fits before (l.Keyword k) = Unit {0}
Fits before (l.Mark m) = Unit {0}
Fits before (l.Name n) = Unit {0}
Fits before (l.Variable n) = Unit {0}
Fits before (l.Number n) = n ≤ greatest before
Fits before (l.Text bytes) = IsTextValue bytes

-- The parts begin with no byte of a word.
abbrev pub AreApart : List Part → Type 0
AreApart [] = Unit {0}
AreApart (Token (l.Keyword k) ∷ rest) = ⊥
AreApart (Token (l.Mark m) ∷ rest) = Unit {0}
AreApart (Token (l.Name n) ∷ rest) = ⊥
AreApart (Token (l.Variable n) ∷ rest) = ⊥
AreApart (Token (l.Number n) ∷ rest) = ⊥
AreApart (Token (l.Text bytes) ∷ rest) = ⊥
AreApart (Space ∷ rest) = Unit {0}
AreApart (Line ∷ rest) = Unit {0}

-- These parts may follow the lexeme.
abbrev pub MayStandBehind : Lexeme → List Part → Type 0
MayStandBehind (l.Keyword k) rest = AreApart rest
MayStandBehind (l.Mark m) rest = Unit {0}
MayStandBehind (l.Name n) rest = AreApart rest
MayStandBehind (l.Variable n) rest = AreApart rest
MayStandBehind (l.Number n) rest = AreApart rest
MayStandBehind (l.Text bytes) rest = Unit {0}

-- ---- all parts
abbrev pub AreGood : Before → List Part → Type 0
AreGood before [] = Unit {0}
AreGood before (Token t ∷ rest) = Fits before t × MayStandBehind t rest × AreGood (after before t) rest
AreGood before (Space ∷ rest) = AreGood before rest
AreGood before (Line ∷ rest) = AreGood before rest
