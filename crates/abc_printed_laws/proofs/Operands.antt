-- What is printed of an operand is of the grammar, at the level of its grade.
use Rattle.std.proofs.Common.{ℕ, List, [], ◌∷◌}
use Rattle.abc_pred.specs.Terms.{Operand}
use Rattle.abc_pred.specs.Terms as t
use Rattle.abc_text.specs.declared.words.Mark.TheVariants as m
use Rattle.abc_text.specs.declared.words.Keyword.TheVariants as k
use Rattle.abc_grammar.specs.declared.lexemes.Lexeme.TheVariants as l
use Rattle.abc_grammar.specs.Operands.{IsOperand, IsProduct, IsAtom}
use Rattle.abc_grammar.specs.Operands as g
use Rattle.abc_printed.specs.Parts.{Part, mark, lexemes}
use Rattle.abc_printed.specs.Forms.{operand_grade, rounded, operand_parts}
use Rattle.abc_printed.specs.Printable.{OperandHasValues}
use Rattle.abc_printed_laws.proofs.Parts.{of_pieces, of_sides}
use Rattle.abc_printed_laws.proofs.Levels.{IsGraded, AtGrade, lowest, at_low, at_mid, at_high}
use Rattle.abc_printed_laws.proofs.Literals.{literal_is}

-- The levels of the grammar of operands, and its brackets.
operand_levels : IsGraded IsOperand IsProduct IsAtom m.OpenRound m.CloseRound
operand_levels = record { low = g.product; mid = g.atom; around = g.bracketed }

-- what is printed of an operand is at its grade
abbrev Stands : Operand → Type 0
Stands a = AtGrade IsOperand IsProduct IsAtom (operand_grade a) (lexemes (operand_parts a)) a

-- what is printed of it at a place that asks so much
abbrev pub placed : ℕ → Operand → List Part
placed asked a = rounded asked (operand_grade a) (operand_parts a)

-- what is printed of it as it is
plain : (a : Operand) → Stands a → IsOperand (lexemes (operand_parts a)) a
plain a h = lowest operand_levels (operand_grade a) (lexemes (operand_parts a)) a h

-- What is printed of an operand as a side of a sum, to the left and to the right, and of a product.
sum_side : (a : Operand) → Stands a → IsOperand (lexemes (placed 0 a)) a
sum_side a h = at_low operand_levels (operand_grade a) (operand_parts a) a h

product_side : (a : Operand) → Stands a → IsProduct (lexemes (placed 1 a)) a
product_side a h = at_mid operand_levels (operand_grade a) (operand_parts a) a h

atom_side : (a : Operand) → Stands a → IsAtom (lexemes (placed 2 a)) a
atom_side a h = at_high operand_levels (operand_grade a) (operand_parts a) a h

-- What is printed of an operand whose literals are values is at its grade.
operand_at : (a : Operand) → OperandHasValues a → Stands a
operand_at (t.Literal v) h = g.literal (literal_is v h)
operand_at (t.Attr a) h = g.attribute
operand_at (t.This a) h = g.own
operand_at (t.Var x) h = g.variable
operand_at (t.Add a b) h =
    of_sides (λ ts. IsOperand ts (t.Add a b)) (placed 0 a) (l.Mark m.Plus) (placed 1 b)
    (g.plus (sum_side a (operand_at a h.0)) (product_side b (operand_at b h.1)))
operand_at (t.Sub a b) h =
    of_sides (λ ts. IsOperand ts (t.Sub a b)) (placed 0 a) (l.Mark m.Minus) (placed 1 b)
    (g.minus (sum_side a (operand_at a h.0)) (product_side b (operand_at b h.1)))
operand_at (t.Mul a b) h =
    of_sides (λ ts. IsProduct ts (t.Mul a b)) (placed 1 a) (l.Mark m.Star) (placed 2 b)
    (g.times (product_side a (operand_at a h.0)) (atom_side b (operand_at b h.1)))
operand_at (t.Size a) h =
    of_pieces (λ ts. IsAtom (l.Keyword k.Size ∷ l.Mark m.OpenRound ∷ ts) (t.Size a)) (operand_parts a) (mark m.CloseRound ∷ [])
    (g.size (plain a (operand_at a h)))
operand_at (t.Free a) h =
    of_pieces (λ ts. IsAtom (l.Keyword k.Free ∷ l.Mark m.OpenRound ∷ ts) (t.Free a)) (operand_parts a) (mark m.CloseRound ∷ [])
    (g.free (plain a (operand_at a h)))

-- And so it is an operand.
pub operand_is : (a : Operand) → OperandHasValues a → IsOperand (lexemes (operand_parts a)) a
operand_is a h = plain a (operand_at a h)
