-- What is printed of an expression is of the grammar.
use Rattle.std.proofs.Common.{List, [], ◌∷◌, ◌++◌}
use Rattle.abc_pred.specs.Terms.{Expr}
use Rattle.abc_pred.specs.Terms as t
use Rattle.abc_text.specs.declared.words.Mark.TheVariants as m
use Rattle.abc_text.specs.declared.words.Keyword.TheVariants as k
use Rattle.abc_grammar.specs.declared.lexemes.Lexeme.TheVariants as l
use Rattle.abc_grammar.specs.Operands.{IsOperand}
use Rattle.abc_grammar.specs.Exprs.{IsExpr}
use Rattle.abc_grammar.specs.Exprs as g
use Rattle.abc_printed.specs.Parts.{Part, Space, mark, listed, lexemes}
use Rattle.abc_printed.specs.Forms.{operand_parts, expr_parts}
use Rattle.abc_printed.specs.Printable.{OperandHasValues, ExprHasValues}
use Rattle.abc_printed_laws.proofs.Parts.{of_pieces}
use Rattle.abc_printed_laws.proofs.Listed.{may_be_listed}
use Rattle.abc_printed_laws.proofs.Operands.{operand_is}

-- Where its literals are values.
pub expr_is : (a : Expr) → ExprHasValues a → IsExpr (lexemes (expr_parts a)) a
expr_is (t.Plain a) h = g.operand (operand_is a h)
expr_is (t.SetOf items) h =
    of_pieces (λ ts. IsExpr (l.Keyword k.Set ∷ l.Mark m.OpenRound ∷ ts) (t.SetOf items)) (listed operand_parts items) (mark m.CloseRound ∷ [])
    (g.set (may_be_listed IsOperand OperandHasValues operand_parts operand_is items h))
expr_is (t.Union a b) h =
    let end : List Part = mark m.CloseRound ∷ [] in
    of_pieces (λ ts. IsExpr (l.Keyword k.Union ∷ l.Mark m.OpenRound ∷ ts) (t.Union a b)) (expr_parts a ++ mark m.Comma ∷ Space ∷ expr_parts b) end
    (of_pieces (λ ts. IsExpr (l.Keyword k.Union ∷ l.Mark m.OpenRound ∷ ts ++ l.Mark m.CloseRound ∷ []) (t.Union a b)) (expr_parts a)
    (mark m.Comma ∷ Space ∷ expr_parts b) (g.union (expr_is a h.0) (expr_is b h.1)))
expr_is (t.Without a b) h =
    let end : List Part = mark m.CloseRound ∷ [] in
    of_pieces (λ ts. IsExpr (l.Keyword k.Without ∷ l.Mark m.OpenRound ∷ ts) (t.Without a b)) (expr_parts a ++ mark m.Comma ∷ Space ∷ expr_parts b) end
    (of_pieces (λ ts. IsExpr (l.Keyword k.Without ∷ l.Mark m.OpenRound ∷ ts ++ l.Mark m.CloseRound ∷ []) (t.Without a b)) (expr_parts a)
    (mark m.Comma ∷ Space ∷ expr_parts b) (g.without (expr_is a h.0) (expr_is b h.1)))
