-- How each form is printed, by grades and places.
use Rattle.std.specs.Prelude.{ℕ, suc, true, false, List, [], ◌∷◌, ◌++◌, flat_map, pos, negsuc}
use Rattle.abc_value.specs.declared.scalar.Scalar.{Scalar}
use Rattle.abc_value.specs.declared.scalar.Scalar.TheVariants as s
use Rattle.abc_value.specs.declared.value.Value.{Value}
use Rattle.abc_value.specs.declared.value.Value.TheVariants as v
use Rattle.abc_pred.specs.declared.names.Name.{Name}
use Rattle.abc_pred.specs.Terms.{Operand, Expr, Pred}
use Rattle.abc_pred.specs.Terms as t
use Rattle.abc_text.specs.declared.words.Mark.TheVariants as m
use Rattle.abc_text.specs.declared.words.Keyword.TheVariants as k
use Rattle.abc_term.specs.Processes.{Process, Update}
use Rattle.abc_term.specs.Processes as P
use Rattle.abc_grammar.specs.Plain.{PlainComponent, PlainProgram}
use Rattle.abc_printed.specs.Parts.{Part, Space, Line, mark, keyword, name, variable, number, text, listed, bracketed}

-- what stands between two sides
abbrev pub spaced : Part → List Part
spaced part = Space ∷ part ∷ Space ∷ []

-- ---- literals
-- 5, -5, "a", true, false
abbrev pub scalar_parts : Scalar → List Part
scalar_parts (s.Number (pos n)) = number n ∷ []
scalar_parts (s.Number (negsuc n)) = mark m.Minus ∷ number (suc n) ∷ []
scalar_parts (s.Text bytes) = text bytes ∷ []
scalar_parts (s.Truth true) = keyword k.True ∷ []
scalar_parts (s.Truth false) = keyword k.False ∷ []

-- a scalar, none, {1, 2}
abbrev pub literal_parts : Value → List Part
literal_parts (v.Scalar x) = scalar_parts x
literal_parts (v.Set xs) = mark m.OpenCurly ∷ listed scalar_parts xs ++ mark m.CloseCurly ∷ []
literal_parts v.Nothing = keyword k.None ∷ []

-- ---- operands
-- sums and differences, products, all others
abbrev pub operand_grade : Operand → ℕ
operand_grade (t.Add a b) = 0
operand_grade (t.Sub a b) = 0
operand_grade (t.Mul a b) = 1
operand_grade _ = 2

abbrev pub rounded : ℕ → ℕ → List Part → List Part
rounded asked grade parts = bracketed m.OpenRound m.CloseRound asked grade parts

abbrev pub operand_parts : Operand → List Part
operand_parts (t.Literal v) = literal_parts v
operand_parts (t.Attr a) = name a ∷ []
operand_parts (t.This a) = keyword k.This ∷ mark m.Dot ∷ name a ∷ []
operand_parts (t.Var x) = variable x ∷ []
operand_parts (t.Add a b) =
    rounded 0 (operand_grade a) (operand_parts a) ++ spaced (mark m.Plus)
    ++ rounded 1 (operand_grade b) (operand_parts b)
operand_parts (t.Sub a b) =
    rounded 0 (operand_grade a) (operand_parts a) ++ spaced (mark m.Minus)
    ++ rounded 1 (operand_grade b) (operand_parts b)
operand_parts (t.Mul a b) =
    rounded 1 (operand_grade a) (operand_parts a) ++ spaced (mark m.Star)
    ++ rounded 2 (operand_grade b) (operand_parts b)
operand_parts (t.Size a) =
    keyword k.Size ∷ mark m.OpenRound ∷ operand_parts a ++ mark m.CloseRound ∷ []
operand_parts (t.Free a) =
    keyword k.Free ∷ mark m.OpenRound ∷ operand_parts a ++ mark m.CloseRound ∷ []

-- ---- expressions
abbrev pub expr_parts : Expr → List Part
expr_parts (t.Plain a) = operand_parts a
expr_parts (t.SetOf items) =
    keyword k.Set ∷ mark m.OpenRound ∷ listed operand_parts items ++ mark m.CloseRound ∷ []
expr_parts (t.Union a b) =
    keyword k.Union ∷ mark m.OpenRound ∷ expr_parts a ++ mark m.Comma ∷ Space ∷ expr_parts b
    ++ mark m.CloseRound ∷ []
expr_parts (t.Without a b) =
    keyword k.Without ∷ mark m.OpenRound ∷ expr_parts a ++ mark m.Comma ∷ Space ∷ expr_parts b
    ++ mark m.CloseRound ∷ []

-- ---- predicates
-- or, and, all others
abbrev pub pred_grade : Pred → ℕ
pred_grade (t.Or p q) = 0
pred_grade (t.And p q) = 1
pred_grade _ = 2

abbrev pub squared : ℕ → ℕ → List Part → List Part
squared asked grade parts = bracketed m.OpenSquare m.CloseSquare asked grade parts

abbrev pub pred_parts : Pred → List Part
pred_parts t.True = keyword k.Tt ∷ []
pred_parts t.False = keyword k.Ff ∷ []
pred_parts (t.Same a b) = operand_parts a ++ spaced (mark m.Equal) ++ operand_parts b
pred_parts (t.Less a b) = operand_parts a ++ spaced (mark m.Below) ++ operand_parts b
pred_parts (t.Member a b) = operand_parts a ++ spaced (keyword k.In) ++ operand_parts b
pred_parts (t.Not p) = keyword k.Not ∷ Space ∷ squared 2 (pred_grade p) (pred_parts p)
pred_parts (t.And p q) = squared 1 (pred_grade p) (pred_parts p) ++ spaced (keyword k.And)
    ++ squared 2 (pred_grade q) (pred_parts q)
pred_parts (t.Or p q) = squared 0 (pred_grade p) (pred_parts p) ++ spaced (keyword k.Or)
    ++ squared 1 (pred_grade q) (pred_parts q)

-- ---- processes
-- | , + , all others
abbrev pub process_grade : Process → ℕ
process_grade (P.Par A B) = 0
process_grade (P.Choice A B) = 1
process_grade _ = 2

abbrev pub curled : ℕ → ℕ → List Part → List Part
curled asked grade parts = bracketed m.OpenCurly m.CloseCurly asked grade parts

-- [a := E] and a space
abbrev pub update_parts : Update → List Part
update_parts (a, e) = mark m.OpenSquare ∷ name a ∷ spaced (mark m.Becomes) ++ expr_parts e
    ++ mark m.CloseSquare ∷ Space ∷ []

-- (PRED)
abbrev pub guard_parts : Pred → List Part
guard_parts p = mark m.OpenRound ∷ pred_parts p ++ mark m.CloseRound ∷ []

-- (E, E) @ (PRED)
abbrev pub output_parts : List Expr → Pred → List Part
output_parts es p = mark m.OpenRound ∷ listed expr_parts es ++ mark m.CloseRound
    ∷ spaced (mark m.At) ++ guard_parts p

-- ? (PRED) ($x, $y)
abbrev pub input_parts : Pred → List Name → List Part
input_parts p xs =
    mark m.Question ∷ Space ∷ guard_parts p ++ Space ∷ mark m.OpenRound
    ∷ listed (λ x. variable x ∷ []) xs ++ mark m.CloseRound ∷ []

abbrev pub process_parts : Process → List Part
process_parts P.Nil = number 0 ∷ []
process_parts (P.Call c) = name c ∷ []
process_parts (P.Output es p us A) =
    output_parts es p ++ spaced (mark m.Dot) ++ flat_map update_parts us
    ++ curled 2 (process_grade A) (process_parts A)
process_parts (P.Input p xs us A) =
    input_parts p xs ++ spaced (mark m.Dot) ++ flat_map update_parts us
    ++ curled 2 (process_grade A) (process_parts A)
process_parts (P.When p A) =
    keyword k.When ∷ Space ∷ guard_parts p ++ Space ∷ curled 2 (process_grade A) (process_parts A)
process_parts (P.Choice A B) =
    curled 1 (process_grade A) (process_parts A) ++ spaced (mark m.Plus)
    ++ curled 2 (process_grade B) (process_parts B)
process_parts (P.Par A B) =
    curled 0 (process_grade A) (process_parts A) ++ spaced (mark m.Bar)
    ++ curled 1 (process_grade B) (process_parts B)

-- ---- programs
-- def NAME = PROC;
abbrev pub definition_parts : Name × Process → List Part
definition_parts (c, A) = keyword k.Def ∷ Space ∷ name c ∷ spaced (mark m.Equal)
    ++ process_parts A ++ mark m.Semicolon ∷ Line ∷ []

-- `  a = LITERAL;`
abbrev pub initial_parts : Name × Value → List Part
initial_parts (a, v) = Space ∷ Space ∷ name a ∷ spaced (mark m.Equal) ++ literal_parts v
    ++ mark m.Semicolon ∷ Line ∷ []

-- a space and the names, or nothing
abbrev pub shown_parts : List Name → List Part
shown_parts [] = []
shown_parts (a ∷ names) = Space ∷ listed (λ n. name n ∷ []) (a ∷ names)

-- `comp NAME {`, a line for each attribute, `  show NAMES;`, `  run PROC;` and `}`
abbrev pub component_parts : PlainComponent → List Part
component_parts C =
    keyword k.Comp ∷ Space ∷ name C.name ∷ Space ∷ mark m.OpenCurly ∷ Line
    ∷ flat_map initial_parts C.initial
    ++ Space ∷ Space ∷ keyword k.Show ∷ shown_parts C.show ++ mark m.Semicolon ∷ Line
    ∷ Space ∷ Space ∷ keyword k.Run ∷ Space ∷ process_parts C.run ++ mark m.Semicolon ∷ Line
    ∷ mark m.CloseCurly ∷ Line ∷ []

-- `abc 1;`, each definition, each component
abbrev pub program_parts : PlainProgram → List Part
program_parts p =
    keyword k.Abc ∷ Space ∷ number 1 ∷ mark m.Semicolon ∷ Line
    ∷ flat_map definition_parts p.definitions ++ flat_map component_parts p.components
