-- What is printed of an operand, an expression or a predicate has no bracket and no token more than its text: brackets of the
-- text are dropped, and stand in the print only where the grammar asked for them in the text.
use Rattle.std.proofs.Common.{ℕ, ◌≤◌, List, refl, arith}
use Rattle.abc_pred.specs.Terms.{Operand, Expr, Pred}
use Rattle.abc_text.specs.declared.words.Mark.TheVariants as m
use Rattle.abc_text.specs.declared.words.Keyword.TheVariants as k
use Rattle.abc_grammar.specs.declared.lexemes.Lexeme.{Lexeme}
use Rattle.abc_grammar.specs.declared.lexemes.Lexeme.TheVariants as l
use Rattle.abc_grammar.specs.Operands.{IsOperand, IsProduct, IsAtom}
use Rattle.abc_grammar.specs.Operands as o
use Rattle.abc_grammar.specs.Exprs.{IsExpr}
use Rattle.abc_grammar.specs.Exprs as e
use Rattle.abc_grammar.specs.Preds.{IsPred, IsBoth, IsTest}
use Rattle.abc_grammar.specs.Preds as p
use Rattle.abc_printed.specs.Parts.{Part}
use Rattle.abc_printed.specs.Forms.{operand_grade, operand_parts, rounded, expr_parts, pred_grade, pred_parts, squared}
use Rattle.abc_printed_limits.proofs.Depths.{round, square}
use Rattle.abc_printed_limits.proofs.Prints.{Prints, prints_none, prints_space, prints_cons, prints_append, prints_then, prints_sides, prints_plainly, prints_as_is, prints_bracketed, optional_prints}
use Rattle.abc_printed_limits.proofs.Literals.{literal_prints}

-- ---- operands
-- a print without brackets, of a grade that is asked
bare : (grade asked : ℕ) {ts : List Lexeme} {ps : List Part} → asked ≤ grade → Prints ts ps → Prints ts (rounded asked grade ps)
bare grade asked le h = prints_plainly m.OpenRound m.CloseRound asked grade le h

-- The print of an operand at a place that asks so much.
abbrev OperandAt : ℕ → List Lexeme → Operand → Type 0
OperandAt asked ts a = Prints ts (rounded asked (operand_grade a) (operand_parts a))

mutual
  -- Each operand is printed at a place that asks nothing, each product where products are asked, each atom where atoms are.
  operand_prints : {ts : List Lexeme} {a : Operand} → IsOperand ts a → (asked : ℕ) → asked ≤ 0 → OperandAt asked ts a
  operand_prints (o.product h) asked le = product_prints h asked (omega (arith, le))
  operand_prints (o.plus h i) asked le =
      bare 0 asked le (prints_sides (l.Mark m.Plus) (λ n. refl, refl) (operand_prints h 0 (omega arith)) (product_prints i 1 (omega arith)))
  operand_prints (o.minus h i) asked le =
      bare 0 asked le (prints_sides (l.Mark m.Minus) (λ n. refl, refl) (operand_prints h 0 (omega arith)) (product_prints i 1 (omega arith)))

  product_prints : {ts : List Lexeme} {a : Operand} → IsProduct ts a → (asked : ℕ) → asked ≤ 1 → OperandAt asked ts a
  product_prints (o.atom h) asked le = atom_prints h asked (omega (arith, le))
  product_prints (o.times h i) asked le =
      bare 1 asked le (prints_sides (l.Mark m.Star) (λ n. refl, refl) (product_prints h 1 (omega arith)) (atom_prints i 2 (omega arith)))

  atom_prints : {ts : List Lexeme} {a : Operand} → IsAtom ts a → (asked : ℕ) → asked ≤ 2 → OperandAt asked ts a
  atom_prints (o.literal h) asked le = bare 2 asked le (literal_prints h)
  atom_prints o.attribute asked le = bare 2 asked le (prints_cons _ (λ n. refl, refl) prints_none)
  atom_prints o.own asked le =
      bare 2 asked le (prints_cons _ (λ n. refl, refl) (prints_cons _ (λ n. refl, refl) (prints_cons _ (λ n. refl, refl) prints_none)))
  atom_prints o.variable asked le = bare 2 asked le (prints_cons _ (λ n. refl, refl) prints_none)
  atom_prints (o.bracketed {a = a} h) asked le =
      prints_bracketed m.OpenRound m.CloseRound asked (operand_grade a) round
      (prints_as_is m.OpenRound m.CloseRound 0 (operand_grade a) (omega arith) (operand_prints h 0 (omega arith)))
  atom_prints (o.size {a = a} h) asked le =
      bare 2 asked le (prints_cons _ (λ n. refl, refl) (prints_then _ _ round
      (prints_as_is m.OpenRound m.CloseRound 0 (operand_grade a) (omega arith) (operand_prints h 0 (omega arith))) prints_none))
  atom_prints (o.free {a = a} h) asked le =
      bare 2 asked le (prints_cons _ (λ n. refl, refl) (prints_then _ _ round
      (prints_as_is m.OpenRound m.CloseRound 0 (operand_grade a) (omega arith) (operand_prints h 0 (omega arith))) prints_none))

-- An operand's print has no bracket and no token more than its text.
pub operand_printed : {ts : List Lexeme} {a : Operand} → IsOperand ts a → Prints ts (operand_parts a)
operand_printed {a = a} h = prints_as_is m.OpenRound m.CloseRound 0 (operand_grade a) (omega arith) (operand_prints h 0 (omega arith))

-- ---- expressions
-- and an expression's
pub expr_printed : {ts : List Lexeme} {a : Expr} → IsExpr ts a → Prints ts (expr_parts a)
expr_printed (e.operand h) = operand_printed h
expr_printed (e.set h) =
    prints_cons _ (λ n. refl, refl) (prints_then _ _ round (optional_prints IsOperand operand_parts (λ us a i. operand_printed i) h) prints_none)
expr_printed (e.union h i) =
    prints_cons _ (λ n. refl, refl) (prints_then _ _ round
    (prints_append (expr_printed h) (prints_cons (l.Mark m.Comma) (λ n. refl, refl) (prints_space (expr_printed i)))) prints_none)
expr_printed (e.without h i) =
    prints_cons _ (λ n. refl, refl) (prints_then _ _ round
    (prints_append (expr_printed h) (prints_cons (l.Mark m.Comma) (λ n. refl, refl) (prints_space (expr_printed i)))) prints_none)

-- ---- predicates
-- a print without brackets, of a grade that is asked
bare_pred : (grade asked : ℕ) {ts : List Lexeme} {ps : List Part} → asked ≤ grade → Prints ts ps → Prints ts (squared asked grade ps)
bare_pred grade asked le h = prints_plainly m.OpenSquare m.CloseSquare asked grade le h

-- The print of a predicate at a place that asks so much.
abbrev PredAt : ℕ → List Lexeme → Pred → Type 0
PredAt asked ts a = Prints ts (squared asked (pred_grade a) (pred_parts a))

mutual
  -- The same for predicates: `or` asks nothing on its left, `and` what binds by `and`, `not` a test.
  pred_prints : {ts : List Lexeme} {a : Pred} → IsPred ts a → (asked : ℕ) → asked ≤ 0 → PredAt asked ts a
  pred_prints (p.both h) asked le = both_prints h asked (omega (arith, le))
  pred_prints (p.or h i) asked le =
      bare_pred 0 asked le (prints_sides (l.Keyword k.Or) (λ n. refl, refl) (pred_prints h 0 (omega arith)) (both_prints i 1 (omega arith)))

  both_prints : {ts : List Lexeme} {a : Pred} → IsBoth ts a → (asked : ℕ) → asked ≤ 1 → PredAt asked ts a
  both_prints (p.test h) asked le = test_prints h asked (omega (arith, le))
  both_prints (p.and h i) asked le =
      bare_pred 1 asked le (prints_sides (l.Keyword k.And) (λ n. refl, refl) (both_prints h 1 (omega arith)) (test_prints i 2 (omega arith)))

  test_prints : {ts : List Lexeme} {a : Pred} → IsTest ts a → (asked : ℕ) → asked ≤ 2 → PredAt asked ts a
  test_prints p.always asked le = bare_pred 2 asked le (prints_cons _ (λ n. refl, refl) prints_none)
  test_prints p.never asked le = bare_pred 2 asked le (prints_cons _ (λ n. refl, refl) prints_none)
  test_prints (p.not h) asked le =
      bare_pred 2 asked le (prints_cons (l.Keyword k.Not) (λ n. refl, refl) (prints_space (test_prints h 2 (omega arith))))
  test_prints (p.bracketed {a = a} h) asked le =
      prints_bracketed m.OpenSquare m.CloseSquare asked (pred_grade a) square
      (prints_as_is m.OpenSquare m.CloseSquare 0 (pred_grade a) (omega arith) (pred_prints h 0 (omega arith)))
  test_prints (p.same h i) asked le = bare_pred 2 asked le (prints_sides (l.Mark m.Equal) (λ n. refl, refl) (operand_printed h) (operand_printed i))
  test_prints (p.below h i) asked le = bare_pred 2 asked le (prints_sides (l.Mark m.Below) (λ n. refl, refl) (operand_printed h) (operand_printed i))
  test_prints (p.member h i) asked le =
      bare_pred 2 asked le (prints_sides (l.Keyword k.In) (λ n. refl, refl) (operand_printed h) (operand_printed i))

-- A predicate's print has no bracket and no token more than its text.
pub pred_printed : {ts : List Lexeme} {a : Pred} → IsPred ts a → Prints ts (pred_parts a)
pred_printed {a = a} h = prints_as_is m.OpenSquare m.CloseSquare 0 (pred_grade a) (omega arith) (pred_prints h 0 (omega arith))
