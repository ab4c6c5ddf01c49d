-- What is printed of a predicate is of the grammar, at the level of its grade.
use Rattle.std.proofs.Common.{ℕ, List}
use Rattle.abc_pred.specs.Terms.{Pred}
use Rattle.abc_pred.specs.Terms as t
use Rattle.abc_text.specs.declared.words.Mark.TheVariants as m
use Rattle.abc_text.specs.declared.words.Keyword.TheVariants as k
use Rattle.abc_grammar.specs.declared.lexemes.Lexeme.TheVariants as l
use Rattle.abc_grammar.specs.Preds.{IsPred, IsBoth, IsTest}
use Rattle.abc_grammar.specs.Preds as g
use Rattle.abc_printed.specs.Parts.{Part, lexemes}
use Rattle.abc_printed.specs.Forms.{operand_parts, pred_grade, squared, pred_parts}
use Rattle.abc_printed.specs.Printable.{PredHasValues}
use Rattle.abc_printed_laws.proofs.Parts.{of_sides}
use Rattle.abc_printed_laws.proofs.Levels.{IsGraded, AtGrade, lowest, at_low, at_mid, at_high}
use Rattle.abc_printed_laws.proofs.Operands.{operand_is}

-- The levels of the grammar of predicates, and its brackets.
pred_levels : IsGraded IsPred IsBoth IsTest m.OpenSquare m.CloseSquare
pred_levels = record { low = g.both; mid = g.test; around = g.bracketed }

-- what is printed of a predicate is at its grade
abbrev Stands : Pred → Type 0
Stands p = AtGrade IsPred IsBoth IsTest (pred_grade p) (lexemes (pred_parts p)) p

-- what is printed of it at a place that asks so much
abbrev pub placed : ℕ → Pred → List Part
placed asked p = squared asked (pred_grade p) (pred_parts p)

-- What is printed of a predicate as a side of `or`, to the left and to the right, and of `and`.
or_side : (p : Pred) → Stands p → IsPred (lexemes (placed 0 p)) p
or_side p h = at_low pred_levels (pred_grade p) (pred_parts p) p h

and_side : (p : Pred) → Stands p → IsBoth (lexemes (placed 1 p)) p
and_side p h = at_mid pred_levels (pred_grade p) (pred_parts p) p h

test_side : (p : Pred) → Stands p → IsTest (lexemes (placed 2 p)) p
test_side p h = at_high pred_levels (pred_grade p) (pred_parts p) p h

-- What is printed of a predicate whose literals are values is at its grade.
pred_at : (p : Pred) → PredHasValues p → Stands p
pred_at t.True h = g.always
pred_at t.False h = g.never
pred_at (t.Same a b) h =
    of_sides (λ ts. IsTest ts (t.Same a b)) (operand_parts a) (l.Mark m.Equal) (operand_parts b)
    (g.same (operand_is a h.0) (operand_is b h.1))
pred_at (t.Less a b) h =
    of_sides (λ ts. IsTest ts (t.Less a b)) (operand_parts a) (l.Mark m.Below) (operand_parts b)
    (g.below (operand_is a h.0) (operand_is b h.1))
pred_at (t.Member a b) h =
    of_sides (λ ts. IsTest ts (t.Member a b)) (operand_parts a) (l.Keyword k.In) (operand_parts b)
    (g.member (operand_is a h.0) (operand_is b h.1))
pred_at (t.Not p) h = g.not (test_side p (pred_at p h))
pred_at (t.And p q) h =
    of_sides (λ ts. IsBoth ts (t.And p q)) (placed 1 p) (l.Keyword k.And) (placed 2 q)
    (g.and (and_side p (pred_at p h.0)) (test_side q (pred_at q h.1)))
pred_at (t.Or p q) h =
    of_sides (λ ts. IsPred ts (t.Or p q)) (placed 0 p) (l.Keyword k.Or) (placed 1 q)
    (g.or (or_side p (pred_at p h.0)) (and_side q (pred_at q h.1)))

-- And so it is a predicate.
pub pred_is : (p : Pred) → PredHasValues p → IsPred (lexemes (pred_parts p)) p
pred_is p h = lowest pred_levels (pred_grade p) (lexemes (pred_parts p)) p (pred_at p h)
