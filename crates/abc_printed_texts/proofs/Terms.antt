-- The parts of each form are good.
use Rattle.std.proofs.Common.{◌≡◌, ℕ, suc, true, false, List, [], ◌∷◌, ◌++◌, All, pos, negsuc, sym, subst, append_assoc, append-nil, arith}
use Rattle.std.specs.Prelude.{flat_map}
use Rattle.std.proofs.lemmas.Bool.Decides.{nat_tests}
use Rattle.abc_value.specs.Text.{IsPrintable}
use Rattle.abc_value.specs.Literals.{IsScalar, IsValue}
use Rattle.abc_value.specs.declared.scalar.Scalar.{Scalar}
use Rattle.abc_value.specs.declared.scalar.Scalar.TheVariants as s
use Rattle.abc_value.specs.declared.value.Value.{Value}
use Rattle.abc_value.specs.declared.value.Value.TheVariants as v
use Rattle.abc_value.proofs.Fronts.{fits_pos, fits_neg}
use Rattle.abc_pred.specs.declared.names.Name.{Name}
use Rattle.abc_pred.specs.Terms.{Operand, Expr, Pred}
use Rattle.abc_pred.specs.Terms as t
use Rattle.abc_text.specs.declared.lexical.Before.TheVariants.{Open}
use Rattle.abc_text.specs.declared.words.Mark.TheVariants as m
use Rattle.abc_text.specs.declared.words.Keyword.TheVariants as k
use Rattle.abc_text.specs.Tokens.{is_printable}
use Rattle.abc_text.specs.Spelling.{IsTextValue}
use Rattle.abc_term.specs.Processes.{Process, Update}
use Rattle.abc_term.specs.Processes as P
use Rattle.abc_grammar.specs.Plain.{PlainComponent, PlainProgram}
use Rattle.abc_printed.specs.Parts.{Part, listed, Space, Line, mark, keyword, name, variable}
use Rattle.abc_printed.specs.Forms.{spaced, scalar_parts, literal_parts, operand_grade, operand_parts, expr_parts, pred_grade, pred_parts, process_grade, curled, update_parts, guard_parts, output_parts, input_parts, process_parts, definition_parts, initial_parts, shown_parts, component_parts, program_parts}
use Rattle.abc_printed.specs.Printable.{OperandHasValues, ExprHasValues, PredHasValues, UpdateHasValues, ProcessHasValues, DefinitionHasValues, InitialHasValue, ComponentHasValues, ProgramHasValues}
use Rattle.abc_printed_texts.proofs.Good.{AreApart, AreGood}
use Rattle.abc_printed_texts.proofs.Joined.{IsTerm, IsAny, IsTail, Always, minus_frees, any_term, tail_term, space_term, space_tail, line_tail, mark_tail, close_tail, mark_spaced, mark_between, keyword_any, keyword_free, keyword_between, any_between, name_any, variable_any, number_any, minus_term, text_any, term_then, any_then, tail_then, ended_then, nothing, ended, closed, bracketed_term, bracketed_any, behind_commas, listed_term, repeated_any, ended_apart}

-- ---- literals
-- A byte that may stand in a value's text may stand in a text.
printable_byte : (b : ℕ) → IsPrintable b → is_printable b ≡ true
printable_byte b h = let low = h.0 in let high = h.1 in grind (arith, nat_tests)

-- So a text of a value fits.
text_value : (bytes : List ℕ) → IsScalar (s.Text bytes) → IsTextValue bytes
text_value bytes h = record { short = h.0; bytes = λ k d lt. printable_byte _ (h.1 k d lt) }

-- The parts of a scalar are good where a `-` is a sign: a negative number begins with one.
pub scalar_term : (x : Scalar) → IsScalar x → IsTerm AreApart (scalar_parts x)
scalar_term (s.Number (pos n)) h = any_term (number_any n (fits_pos n h) nothing)
scalar_term (s.Number (negsuc n)) h = minus_term (suc n) (let small = fits_neg n h in omega (arith, small)) nothing
scalar_term (s.Text bytes) h = any_term (text_any bytes (text_value bytes h) nothing)
scalar_term (s.Truth true) h = any_term (keyword_any k.True nothing)
scalar_term (s.Truth false) h = any_term (keyword_any k.False nothing)

-- Those of a value are good there.
pub literal_term : (v : Value) → IsValue v → IsTerm AreApart (literal_parts v)
literal_term (v.Scalar x) h = scalar_term x h
literal_term (v.Set xs) h = tail_term (closed m.OpenCurly m.CloseCurly (λ before. tt) (listed_term scalar_parts IsScalar scalar_term xs h.1))
literal_term v.Nothing h = any_term (keyword_any k.None nothing)

-- ---- operands and expressions
-- Those of an operand are good there.
pub operand_term : (a : Operand) → OperandHasValues a → IsTerm AreApart (operand_parts a)
operand_term (t.Literal v) h = literal_term v h
operand_term (t.Attr a) h = any_term (name_any a nothing)
operand_term (t.This a) h = any_term (keyword_any k.This (mark_tail m.Dot (λ before. tt) (any_term (name_any a nothing))))
operand_term (t.Var x) h = any_term (variable_any x nothing)
operand_term (t.Add a b) h =
    mark_between m.Plus (λ before. tt) (bracketed_term m.OpenRound m.CloseRound (λ before. tt) 0 (operand_grade a) (operand_term a h.0))
    (bracketed_term m.OpenRound m.CloseRound (λ before. tt) 1 (operand_grade b) (operand_term b h.1))
operand_term (t.Sub a b) h =
    mark_between m.Minus minus_frees (bracketed_term m.OpenRound m.CloseRound (λ before. tt) 0 (operand_grade a) (operand_term a h.0))
    (bracketed_term m.OpenRound m.CloseRound (λ before. tt) 1 (operand_grade b) (operand_term b h.1))
operand_term (t.Mul a b) h =
    mark_between m.Star (λ before. tt) (bracketed_term m.OpenRound m.CloseRound (λ before. tt) 1 (operand_grade a) (operand_term a h.0))
    (bracketed_term m.OpenRound m.CloseRound (λ before. tt) 2 (operand_grade b) (operand_term b h.1))
operand_term (t.Size a) h = any_term (keyword_any k.Size (closed m.OpenRound m.CloseRound (λ before. tt) (operand_term a h)))
operand_term (t.Free a) h = any_term (keyword_any k.Free (closed m.OpenRound m.CloseRound (λ before. tt) (operand_term a h)))

-- two sides in round brackets
pair_tail :
    {xs ys : List Part} → IsTerm AreApart xs → IsTerm AreApart ys →
    IsTail AreApart (mark m.OpenRound ∷ xs ++ mark m.Comma ∷ Space ∷ ys ++ mark m.CloseRound ∷ [])
pair_tail h g = closed m.OpenRound m.CloseRound (λ before. tt) (term_then h (mark_tail m.Comma (λ before. tt) (space_term g)))

-- Those of an expression are good there.
pub expr_term : (e : Expr) → ExprHasValues e → IsTerm AreApart (expr_parts e)
expr_term (t.Plain a) h = operand_term a h
expr_term (t.SetOf items) h =
    any_term (keyword_any k.Set (closed m.OpenRound m.CloseRound (λ before. tt) (listed_term operand_parts OperandHasValues operand_term items h)))
expr_term (t.Union a b) h = any_term (keyword_any k.Union (pair_tail (expr_term a h.0) (expr_term b h.1)))
expr_term (t.Without a b) h = any_term (keyword_any k.Without (pair_tail (expr_term a h.0) (expr_term b h.1)))

-- ---- predicates
-- Those of a predicate are good there.
pub pred_term : (p : Pred) → PredHasValues p → IsTerm AreApart (pred_parts p)
pred_term t.True h = any_term (keyword_any k.Tt nothing)
pred_term t.False h = any_term (keyword_any k.Ff nothing)
pred_term (t.Same a b) h = mark_between m.Equal (λ before. tt) (operand_term a h.0) (operand_term b h.1)
pred_term (t.Less a b) h = mark_between m.Below (λ before. tt) (operand_term a h.0) (operand_term b h.1)
pred_term (t.Member a b) h = keyword_between k.In (λ before. tt) (operand_term a h.0) (operand_term b h.1)
pred_term (t.Not p) h =
    any_term (keyword_free k.Not (λ before. tt) (bracketed_term m.OpenSquare m.CloseSquare (λ before. tt) 2 (pred_grade p) (pred_term p h)))
pred_term (t.And p q) h =
    keyword_between k.And (λ before. tt) (bracketed_term m.OpenSquare m.CloseSquare (λ before. tt) 1 (pred_grade p) (pred_term p h.0))
    (bracketed_term m.OpenSquare m.CloseSquare (λ before. tt) 2 (pred_grade q) (pred_term q h.1))
pred_term (t.Or p q) h =
    keyword_between k.Or (λ before. tt) (bracketed_term m.OpenSquare m.CloseSquare (λ before. tt) 0 (pred_grade p) (pred_term p h.0))
    (bracketed_term m.OpenSquare m.CloseSquare (λ before. tt) 1 (pred_grade q) (pred_term q h.1))

-- ---- processes
-- An update ends with a space.
update_any : (u : Update) → UpdateHasValues u → IsAny Always (update_parts u)
update_any (a, e) h =
    (mark_tail m.OpenSquare (λ before. tt)
    (any_term (name_any a (mark_spaced m.Becomes (λ before. tt) (term_then (expr_term e h) (close_tail m.CloseSquare (space_tail ended).any)))))).any

-- The predicate of a guard stands in round brackets.
guard_tail : (p : Pred) → PredHasValues p → IsTail AreApart (guard_parts p)
guard_tail p h = closed m.OpenRound m.CloseRound (λ before. tt) (pred_term p h)

-- The expressions of an output and its guard begin with a round bracket.
output_tail : (es : List Expr) (p : Pred) → All ExprHasValues es → PredHasValues p → IsTail AreApart (output_parts es p)
output_tail es p h g =
    mark_tail m.OpenRound (λ before. tt)
    (subst (IsTerm AreApart) (sym (append_assoc (listed expr_parts es) (mark m.CloseRound ∷ spaced (mark m.At)) (guard_parts p)))
    (term_then (listed_term expr_parts ExprHasValues expr_term es h)
    (close_tail m.CloseRound (mark_spaced m.At (λ before. tt) (tail_term (guard_tail p g))).any)))

-- A variable alone is good.
variable_term : (x : Name) → Unit {0} → IsTerm AreApart (variable x ∷ [])
variable_term x h = any_term (variable_any x nothing)

-- The guard of an input and its variables begin with a `?`.
input_tail : (p : Pred) (xs : List Name) → PredHasValues p → IsTail AreApart (input_parts p xs)
input_tail p xs h =
    mark_tail m.Question (λ before. tt)
    (space_term (tail_term (tail_then (tail_then (guard_tail p h)
    (space_tail (mark_tail m.OpenRound (λ before. tt) (listed_term (λ x. variable x ∷ []) (λ x. Unit {0}) variable_term xs (λ i d lt. tt))).any))
    (close_tail m.CloseRound nothing.any))))

-- a `.`, updates, and a process behind them
prefixed :
    {front : List Part} (us : List Update) (A : Process) → IsTail AreApart front → All UpdateHasValues us → IsAny AreApart (process_parts A) →
    IsAny AreApart (front ++ spaced (mark m.Dot) ++ flat_map update_parts us ++ curled 2 (process_grade A) (process_parts A))
prefixed us A f h g =
    ended_then (ended_then (tail_then f (space_tail (close_tail m.Dot (space_tail ended).any).any)).any
    (repeated_any update_parts UpdateHasValues update_any us h))
    (bracketed_any m.OpenCurly m.CloseCurly (λ before. tt) 2 (process_grade A) g)

-- A process begins with no sign, so it is good anywhere.
pub process_any : (A : Process) → ProcessHasValues A → IsAny AreApart (process_parts A)
process_any P.Nil h = number_any 0 (omega arith) nothing
process_any (P.Call c) h = name_any c nothing
process_any (P.Output es p us A) h = prefixed us A (output_tail es p h.0 h.1) h.2 (process_any A h.3)
process_any (P.Input p xs us A) h = prefixed us A (input_tail p xs h.0) h.1 (process_any A h.2)
process_any (P.When p A) h =
    keyword_any k.When (space_tail (tail_then (guard_tail p h.0)
    (space_tail (bracketed_any m.OpenCurly m.CloseCurly (λ before. tt) 2 (process_grade A) (process_any A h.1)))).any)
process_any (P.Choice A B) h =
    any_between m.Plus (λ before. tt) (bracketed_any m.OpenCurly m.CloseCurly (λ before. tt) 1 (process_grade A) (process_any A h.0))
    (any_term (bracketed_any m.OpenCurly m.CloseCurly (λ before. tt) 2 (process_grade B) (process_any B h.1)))
process_any (P.Par A B) h =
    any_between m.Bar (λ before. tt) (bracketed_any m.OpenCurly m.CloseCurly (λ before. tt) 0 (process_grade A) (process_any A h.0))
    (any_term (bracketed_any m.OpenCurly m.CloseCurly (λ before. tt) 1 (process_grade B) (process_any B h.1)))

-- ---- programs
-- a `;` and the end of the line
semicolon : IsTail Always (mark m.Semicolon ∷ Line ∷ [])
semicolon = close_tail m.Semicolon (line_tail ended).any

-- A definition is good anywhere, and ends with its line.
definition_any : (d : Name × Process) → DefinitionHasValues d → IsAny Always (definition_parts d)
definition_any (c, A) h =
    keyword_any k.Def (space_tail (name_any c (mark_spaced m.Equal (λ before. tt) (any_term (any_then (process_any A h) semicolon)))))

-- An attribute and its first value end with their line.
initial_any : (x : Name × Value) → InitialHasValue x → IsAny Always (initial_parts x)
initial_any (a, v) h =
    (space_tail (space_tail (name_any a (mark_spaced m.Equal (λ before. tt) (term_then (literal_term v h) semicolon)))).any).any

-- A name alone is good.
name_term : (a : Name) → Unit {0} → IsTerm AreApart (name a ∷ [])
name_term a h = any_term (name_any a nothing)

-- The names that are shown begin with a space, where there are any.
shown_tail : (names : List Name) → IsTail AreApart (shown_parts names)
shown_tail [] = nothing
shown_tail (a ∷ names) = space_tail (any_then (name_any a nothing) (behind_commas (λ n. name n ∷ []) (λ n. Unit {0}) name_term names (λ i d lt. tt)))

-- the lines of a component behind its attributes
show_any : (names : List Name) → IsAny AreApart (Space ∷ Space ∷ keyword k.Show ∷ shown_parts names)
show_any names = (space_tail (space_tail (keyword_any k.Show (shown_tail names))).any).any

-- The process of a component stands behind a `;`.
run_tail : (A : Process) → ProcessHasValues A → IsTail AreApart (mark m.Semicolon ∷ Line ∷ Space ∷ Space ∷ keyword k.Run ∷ Space ∷ process_parts A)
run_tail A h =
    close_tail m.Semicolon (line_tail (space_tail (space_tail (keyword_free k.Run (λ before. tt) (any_term (process_any A h)))).any).any).any

-- A component ends with a line.
component_end : IsTail Always (mark m.Semicolon ∷ Line ∷ mark m.CloseCurly ∷ Line ∷ [])
component_end = close_tail m.Semicolon (line_tail (close_tail m.CloseCurly (line_tail ended).any).any).any

-- A component is good anywhere.
component_any : (C : PlainComponent) → ComponentHasValues C → IsAny Always (component_parts C)
component_any C h =
    keyword_free k.Comp (λ before. tt)
    (any_term (name_any C.name (space_tail (close_tail m.OpenCurly (line_tail
    (any_then (any_then (ended_then (repeated_any initial_parts InitialHasValue initial_any C.initial h.initial) (show_any C.show))
    (run_tail C.run h.run)) component_end)).any).any)))

-- A program is good anywhere.
program_any : (p : PlainProgram) → ProgramHasValues p → IsAny AreApart (program_parts p)
program_any p h =
    keyword_free k.Abc (λ before. tt)
    (any_term (number_any 1 (omega arith) (close_tail m.Semicolon (line_tail
    (ended_then (repeated_any definition_parts DefinitionHasValues definition_any p.definitions h.definitions)
    (ended_apart (repeated_any component_parts ComponentHasValues component_any p.components h.components)))).any)))

-- ---- whole texts
-- Alone each is good from the start of a text to its end.
pub pred_good : (p : Pred) → PredHasValues p → AreGood Open (pred_parts p)
pred_good p h = subst (AreGood Open) (append-nil (pred_parts p)) ((pred_term p h).good Open tt [] tt (λ before. tt))

-- So is a program.
pub program_good : (p : PlainProgram) → ProgramHasValues p → AreGood Open (program_parts p)
program_good p h = subst (AreGood Open) (append-nil (program_parts p)) ((program_any p h).good [] tt (λ before. tt) Open)
