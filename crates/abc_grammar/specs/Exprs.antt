-- The grammar of expressions: which tokens are which expression.
use Rattle.std.specs.Prelude.{List, [], ◌∷◌, ◌++◌}
use Rattle.abc_pred.specs.Terms.{Operand, Expr}
use Rattle.abc_pred.specs.Terms as e
use Rattle.abc_grammar.specs.declared.lexemes.Lexeme.{Lexeme}
use Rattle.abc_grammar.specs.declared.lexemes.Lexeme.TheVariants as l
use Rattle.abc_text.specs.declared.words.Mark.TheVariants as m
use Rattle.abc_text.specs.declared.words.Keyword.TheVariants as k
use Rattle.abc_grammar.specs.Listed.{MayBeListed}
use Rattle.abc_grammar.specs.Operands.{IsOperand}

-- expr = operand | "set" "(" [ operand { "," operand } ] ")"
--      | "union" "(" expr "," expr ")" | "without" "(" expr "," expr ")"
pub data IsExpr : List Lexeme → Expr → Type 0 where
  operand : {ts : List Lexeme} {a : Operand} → IsOperand ts a → IsExpr ts (e.Plain a)
  set :
      {ts : List Lexeme} {items : List Operand} → MayBeListed IsOperand ts items →
      IsExpr (l.Keyword k.Set ∷ l.Mark m.OpenRound ∷ ts ++ l.Mark m.CloseRound ∷ []) (e.SetOf items)
  union :
      {ts us : List Lexeme} {a b : Expr} → IsExpr ts a → IsExpr us b →
      IsExpr (l.Keyword k.Union ∷ l.Mark m.OpenRound ∷ ts ++ l.Mark m.Comma ∷ us ++ l.Mark m.CloseRound ∷ []) (e.Union a b)
  without :
      {ts us : List Lexeme} {a b : Expr} → IsExpr ts a → IsExpr us b →
      IsExpr (l.Keyword k.Without ∷ l.Mark m.OpenRound ∷ ts ++ l.Mark m.Comma ∷ us ++ l.Mark m.CloseRound ∷ []) (e.Without a b)
