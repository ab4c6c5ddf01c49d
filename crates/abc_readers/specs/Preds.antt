-- Reading predicates, as plain functions on lists of lexemes.
use Rattle.std.specs.Prelude.{ℕ, zero, suc, [], ◌∷◌, Option, Some, None}
use Rattle.abc_pred.specs.Terms.{Operand, Pred}
use Rattle.abc_pred.specs.Terms as p
use Rattle.abc_cause.specs.declared.Cause.TheVariants.{Syntax}
use Rattle.abc_grammar.specs.declared.lexemes.Lexeme.{Lexeme}
use Rattle.abc_grammar.specs.declared.lexemes.Lexeme.TheVariants as l
use Rattle.abc_text.specs.declared.words.Mark.TheVariants as m
use Rattle.abc_text.specs.declared.words.Keyword.TheVariants as k
use Rattle.abc_reading.specs.Reading.{Read, ◌>>=◌, mapped, again, Joins, chain}
use Rattle.abc_readers.specs.Operands.{Tokens, Reading, refuse, operand}

abbrev pub close_square : {A : Type 0} → A → Tokens → Reading A
close_square a (l.Mark m.CloseSquare ∷ ts) = Read a ts
close_square a ts = refuse ts

-- how a token compares two operands, if it does
abbrev pub comparing : Lexeme → Option (Operand → Operand → Pred)
comparing (l.Mark m.Equal) = Some p.Same
comparing (l.Mark m.Below) = Some p.Less
comparing (l.Keyword k.In) = Some p.Member
comparing t = None

abbrev pub compared_by : Operand → Lexeme → Tokens → Option (Operand → Operand → Pred) → Reading Pred
compared_by a t ts None = refuse (t ∷ ts)
compared_by a t ts (Some make) = mapped (make a) (operand ts)

-- what follows the first operand of a comparison
abbrev pub compared : Operand → Tokens → Reading Pred
compared a [] = refuse []
compared a (t ∷ ts) = compared_by a t ts (comparing t)

unfoldable pub comparison : Tokens → Reading Pred
comparison ts = operand ts >>= compared

abbrev pub ands : Joins Lexeme Pred
ands (l.Keyword k.And) = Some p.And
ands t = None

abbrev pub ors : Joins Lexeme Pred
ors (l.Keyword k.Or) = Some p.Or
ors t = None

-- where inner reads the predicates in brackets
module _ (inner : Tokens → Reading Pred) where
  abbrev pub bracketed_by : Tokens → Reading Pred
  bracketed_by ts = inner ts >>= close_square

  -- a test that begins with no `not`
  abbrev pub plain_by : Tokens → Reading Pred
  plain_by (l.Keyword k.Tt ∷ ts) = Read p.True ts
  plain_by (l.Keyword k.Ff ∷ ts) = Read p.False ts
  plain_by (l.Mark m.OpenSquare ∷ ts) = bracketed_by ts
  plain_by ts = comparison ts

  abbrev pub test_by : Tokens → Reading Pred
  test_by [] = plain_by []
  test_by (l.Keyword k.Not ∷ ts) = mapped p.Not (test_by ts)
  test_by (t ∷ ts) = plain_by (t ∷ ts)

  abbrev pub both_by : Tokens → Reading Pred
  both_by ts = chain Syntax test_by ands ts

  abbrev pub pred_by : Tokens → Reading Pred
  pred_by ts = chain Syntax both_by ors ts

abbrev pub pred_step : (Unit {0} → Tokens → Reading Pred) → Unit {0} → Tokens → Reading Pred
pred_step inner u ts = pred_by (inner tt) ts

unfoldable pub pred : Tokens → Reading Pred
pred ts = again Syntax pred_step tt ts

unfoldable pub both : Tokens → Reading Pred
both ts = both_by pred ts

unfoldable pub test : Tokens → Reading Pred
test ts = test_by pred ts

unfoldable pub plain : Tokens → Reading Pred
plain ts = plain_by pred ts

unfoldable pub bracketed : Tokens → Reading Pred
bracketed ts = bracketed_by pred ts

-- so many `not`s before a predicate
abbrev pub nots : ℕ → Pred → Pred
nots zero a = a
nots (suc n) a = p.Not (nots n a)
