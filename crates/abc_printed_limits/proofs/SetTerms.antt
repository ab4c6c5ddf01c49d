-- What is printed of an operand, an expression or a predicate whose literals are values has no scalar too many in a set literal.
use Rattle.std.proofs.Common.{ℕ, List, ◌∷◌, ◌++◌, refl}
use Rattle.abc_pred.specs.Terms.{Operand, Expr, Pred}
use Rattle.abc_pred.specs.Terms as t
use Rattle.abc_text.specs.declared.words.Mark.TheVariants as m
use Rattle.abc_text.specs.declared.words.Keyword.TheVariants as k
use Rattle.abc_grammar.specs.declared.lexemes.Lexeme.TheVariants as l
use Rattle.abc_printed.specs.Parts.{Part, Token, Space}
use Rattle.abc_printed.specs.Forms.{operand_grade, operand_parts, rounded, expr_parts, pred_grade, pred_parts, squared}
use Rattle.abc_printed.specs.Printable.{OperandHasValues, ExprHasValues, PredHasValues}
use Rattle.abc_printed_limits.proofs.Sets.{Still, still_none, still_space, still_cons, still_append, still_sides, still_inside, still_bracketed, still_listed, literal_still}

-- in round brackets, or without
rounded_still : (asked grade : ℕ) {ps : List Part} → Still ps → Still (rounded asked grade ps)
rounded_still asked grade h = still_bracketed m.OpenRound m.CloseRound asked grade refl refl h

-- What is printed of an operand.
pub operand_still : (a : Operand) → OperandHasValues a → Still (operand_parts a)
operand_still (t.Literal v) h = literal_still v h
operand_still (t.Attr a) h = still_cons (l.Name a) refl still_none
operand_still (t.This a) h = still_cons (l.Keyword k.This) refl (still_cons (l.Mark m.Dot) refl (still_cons (l.Name a) refl still_none))
operand_still (t.Var x) h = still_cons (l.Variable x) refl still_none
operand_still (t.Add a b) h =
    still_sides (l.Mark m.Plus) refl (rounded_still 0 (operand_grade a) (operand_still a h.0))
    (rounded_still 1 (operand_grade b) (operand_still b h.1))
operand_still (t.Sub a b) h =
    still_sides (l.Mark m.Minus) refl (rounded_still 0 (operand_grade a) (operand_still a h.0))
    (rounded_still 1 (operand_grade b) (operand_still b h.1))
operand_still (t.Mul a b) h =
    still_sides (l.Mark m.Star) refl (rounded_still 1 (operand_grade a) (operand_still a h.0))
    (rounded_still 2 (operand_grade b) (operand_still b h.1))
operand_still (t.Size a) h =
    still_cons (l.Keyword k.Size) refl (still_inside (l.Mark m.OpenRound) (l.Mark m.CloseRound) refl refl (operand_still a h))
operand_still (t.Free a) h =
    still_cons (l.Keyword k.Free) refl (still_inside (l.Mark m.OpenRound) (l.Mark m.CloseRound) refl refl (operand_still a h))

-- two parts and a comma between them
pair_still : {ps qs : List Part} → Still ps → Still qs → Still (ps ++ Token (l.Mark m.Comma) ∷ Space ∷ qs)
pair_still h i = still_append h (still_cons (l.Mark m.Comma) refl (still_space i))

-- What is printed of an expression.
pub expr_still : (e : Expr) → ExprHasValues e → Still (expr_parts e)
expr_still (t.Plain a) h = operand_still a h
expr_still (t.SetOf items) h =
    still_cons (l.Keyword k.Set) refl (still_inside (l.Mark m.OpenRound) (l.Mark m.CloseRound) refl refl
    (still_listed OperandHasValues operand_parts operand_still items h))
expr_still (t.Union a b) h =
    still_cons (l.Keyword k.Union) refl (still_inside (l.Mark m.OpenRound) (l.Mark m.CloseRound) refl refl
    (pair_still (expr_still a h.0) (expr_still b h.1)))
expr_still (t.Without a b) h =
    still_cons (l.Keyword k.Without) refl (still_inside (l.Mark m.OpenRound) (l.Mark m.CloseRound) refl refl
    (pair_still (expr_still a h.0) (expr_still b h.1)))

-- in square brackets, or without
squared_still : (asked grade : ℕ) {ps : List Part} → Still ps → Still (squared asked grade ps)
squared_still asked grade h = still_bracketed m.OpenSquare m.CloseSquare asked grade refl refl h

-- What is printed of a predicate.
pub pred_still : (p : Pred) → PredHasValues p → Still (pred_parts p)
pred_still t.True h = still_cons (l.Keyword k.Tt) refl still_none
pred_still t.False h = still_cons (l.Keyword k.Ff) refl still_none
pred_still (t.Same a b) h = still_sides (l.Mark m.Equal) refl (operand_still a h.0) (operand_still b h.1)
pred_still (t.Less a b) h = still_sides (l.Mark m.Below) refl (operand_still a h.0) (operand_still b h.1)
pred_still (t.Member a b) h = still_sides (l.Keyword k.In) refl (operand_still a h.0) (operand_still b h.1)
pred_still (t.Not p) h = still_cons (l.Keyword k.Not) refl (still_space (squared_still 2 (pred_grade p) (pred_still p h)))
pred_still (t.And p q) h =
    still_sides (l.Keyword k.And) refl (squared_still 1 (pred_grade p) (pred_still p h.0)) (squared_still 2 (pred_grade q) (pred_still q h.1))
pred_still (t.Or p q) h =
    still_sides (l.Keyword k.Or) refl (squared_still 0 (pred_grade p) (pred_still p h.0)) (squared_still 1 (pred_grade q) (pred_still q h.1))
