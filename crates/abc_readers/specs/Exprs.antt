-- Reading expressions, as plain functions on lists of lexemes.
use Rattle.std.specs.Prelude.{List, [], ◌∷◌}
use Rattle.abc_pred.specs.Terms.{Operand, Expr}
use Rattle.abc_pred.specs.Terms as e
use Rattle.abc_cause.specs.declared.Cause.TheVariants.{Syntax}
use Rattle.abc_grammar.specs.declared.lexemes.Lexeme.TheVariants as l
use Rattle.abc_text.specs.declared.words.Mark.TheVariants as m
use Rattle.abc_text.specs.declared.words.Keyword.TheVariants as k
use Rattle.abc_reading.specs.Reading.{Read, ◌>>=◌, mapped, again}
use Rattle.abc_readers.specs.Operands.{Tokens, Reading, refuse, close_round, listed, operand}

-- ---- terms that are read whole
abbrev pub whole : {A : Type 0} → (Tokens → Reading A) → Tokens → Reading A
whole f ts = f ts >>= λ a us. Read a us

unfoldable pub whole_operand : Tokens → Reading Operand
whole_operand ts = whole operand ts

-- the operands of a set, behind its opening bracket, where there is at least one
unfoldable pub items : Tokens → Reading (List Operand)
items ts = listed whole_operand ts >>= close_round

abbrev pub items_at : Tokens → Reading (List Operand)
items_at (l.Mark m.CloseRound ∷ ts) = Read [] ts
items_at ts = items ts

-- behind `set`
abbrev pub set_items : Tokens → Reading (List Operand)
set_items (l.Mark m.OpenRound ∷ ts) = items_at ts
set_items ts = refuse ts

abbrev pub comma : {A : Type 0} → A → Tokens → Reading A
comma a (l.Mark m.Comma ∷ ts) = Read a ts
comma a ts = refuse ts

-- where inner reads the expressions in brackets
module _ (inner : Tokens → Reading Expr) where
  -- behind the first of two expressions
  abbrev pub second_by : (Expr → Expr → Expr) → Expr → Tokens → Reading Expr
  second_by make a ts = comma (tt {0}) ts >>= λ u us. whole inner us >>= λ b vs. close_round (tt {0}) vs >>= λ w ws. Read (make a b) ws

  -- behind the opening bracket
  abbrev pub two_by : (Expr → Expr → Expr) → Tokens → Reading Expr
  two_by make ts = whole inner ts >>= second_by make

  -- behind `union` or `without`
  abbrev pub pair_by : (Expr → Expr → Expr) → Tokens → Reading Expr
  pair_by make (l.Mark m.OpenRound ∷ ts) = two_by make ts
  pair_by make ts = refuse ts

  abbrev pub expr_by : Tokens → Reading Expr
  expr_by (l.Keyword k.Set ∷ ts) = mapped e.SetOf (set_items ts)
  expr_by (l.Keyword k.Union ∷ ts) = pair_by e.Union ts
  expr_by (l.Keyword k.Without ∷ ts) = pair_by e.Without ts
  expr_by ts = mapped e.Plain (operand ts)

abbrev pub expr_step : (Unit {0} → Tokens → Reading Expr) → Unit {0} → Tokens → Reading Expr
expr_step inner u ts = expr_by (inner tt) ts

unfoldable pub expr : Tokens → Reading Expr
expr ts = again Syntax expr_step tt ts

unfoldable pub whole_expr : Tokens → Reading Expr
whole_expr ts = whole expr ts

unfoldable pub two_exprs : (Expr → Expr → Expr) → Tokens → Reading Expr
two_exprs make ts = two_by expr make ts

unfoldable pub pair : (Expr → Expr → Expr) → Tokens → Reading Expr
pair make ts = pair_by expr make ts
