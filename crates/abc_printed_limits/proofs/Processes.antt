-- What is printed of a process has no bracket and no token more than its text.
use Rattle.std.proofs.Common.{◌≡◌, ℕ, ◌≤◌, List, [], ◌∷◌, ◌++◌, refl, sym, ap, subst, append_assoc, arith}
use Rattle.std.specs.Prelude.{flat_map}
use Rattle.abc_pred.specs.declared.names.Name.{Name}
use Rattle.abc_pred.specs.Terms.{Expr, Pred}
use Rattle.abc_term.specs.Processes.{Process, Update}
use Rattle.abc_term.specs.Processes as P
use Rattle.abc_text.specs.declared.words.Mark.TheVariants as m
use Rattle.abc_text.specs.declared.words.Keyword.TheVariants as k
use Rattle.abc_grammar.specs.declared.lexemes.Lexeme.{Lexeme}
use Rattle.abc_grammar.specs.declared.lexemes.Lexeme.TheVariants as l
use Rattle.abc_grammar.specs.Listed.{IsVariable}
use Rattle.abc_grammar.specs.Listed as gl
use Rattle.abc_grammar.specs.Exprs.{IsExpr}
use Rattle.abc_grammar.specs.Processes.{IsUpdate, IsProcess, IsChoice, IsPrefix, IsAfter}
use Rattle.abc_grammar.specs.Processes as q
use Rattle.abc_printed.specs.Parts.{Part, Space, mark, variable, listed}
use Rattle.abc_printed.specs.Forms.{spaced, expr_parts, pred_parts, guard_parts, output_parts, input_parts, update_parts, process_grade, process_parts, curled}
use Rattle.abc_printed_limits.proofs.Depths.{round, square, curly}
use Rattle.abc_printed_limits.proofs.Prints.{Prints, prints_none, prints_space, prints_cons, prints_append, prints_then, prints_sides, prints_plainly, prints_as_is, prints_bracketed, optional_prints, repeated_prints}
use Rattle.abc_printed_limits.proofs.Operands.{expr_printed, pred_printed}

-- ---- parts in brackets, and what stands behind them
-- a predicate in brackets, and parts behind them
pub guard_then : (p : Pred) (ps : List Part) → guard_parts p ++ ps ≡ mark m.OpenRound ∷ pred_parts p ++ mark m.CloseRound ∷ ps
guard_then p ps = ap (λ (qs : List Part). mark m.OpenRound ∷ qs) (append_assoc (pred_parts p) (mark m.CloseRound ∷ []) ps)

-- the parts of an output, each in its brackets
pub output_then : (es : List Expr) (p : Pred) (us ps : List Part) →
    output_parts es p ++ spaced (mark m.Dot) ++ us ++ ps
    ≡ mark m.OpenRound ∷ listed expr_parts es ++ mark m.CloseRound ∷ Space ∷ mark m.At ∷ Space ∷ mark m.OpenRound
    ∷ (pred_parts p ++ mark m.CloseRound ∷ Space ∷ mark m.Dot ∷ Space ∷ (us ++ ps))
output_then es p us ps =
    simp append_assoc (ap (λ (qs : List Part). mark m.OpenRound ∷ qs) (append_assoc (listed expr_parts es) (mark m.CloseRound ∷ spaced (mark m.At))
    (mark m.OpenRound ∷ (pred_parts p ++ mark m.CloseRound ∷ Space ∷ mark m.Dot ∷ Space ∷ (us ++ ps)))))

-- the parts of an input
pub input_then : (p : Pred) (xs : List Name) (us ps : List Part) →
    input_parts p xs ++ spaced (mark m.Dot) ++ us ++ ps
    ≡ mark m.Question ∷ Space ∷ mark m.OpenRound ∷ pred_parts p ++ mark m.CloseRound ∷ Space ∷ mark m.OpenRound
    ∷ (listed (λ x. variable x ∷ []) xs ++ mark m.CloseRound ∷ Space ∷ mark m.Dot ∷ Space ∷ (us ++ ps))
input_then p xs us ps = simp append_assoc

-- ---- updates and variables
-- an update's print
update_prints : (ts : List Lexeme) (u : Update) → IsUpdate ts u → Prints ts (update_parts u)
update_prints _ _ (q.update {a = a} {ts} {e} h) =
    prints_then (l.Mark m.OpenSquare) (l.Mark m.CloseSquare) square
    (prints_cons (l.Name a) (λ n. refl, refl) (prints_space (prints_cons (l.Mark m.Becomes) (λ n. refl, refl) (prints_space (expr_printed h)))))
    (prints_space prints_none)

-- a variable's print
variable_prints : (ts : List Lexeme) (x : Name) → IsVariable ts x → Prints ts (variable x ∷ [])
variable_prints _ _ (gl.variable {n = x}) = prints_cons (l.Variable x) (λ n. refl, refl) prints_none

-- ---- processes
-- a print without braces, of a grade that is asked
bare : (grade asked : ℕ) {ts : List Lexeme} {ps : List Part} → asked ≤ grade → Prints ts ps → Prints ts (curled asked grade ps)
bare grade asked le h = prints_plainly m.OpenCurly m.CloseCurly asked grade le h

-- what stands behind an action: updates, and a process
abbrev rest_parts : List Update → Process → List Part
rest_parts us A = flat_map update_parts us ++ curled 2 (process_grade A) (process_parts A)

-- The print of a process at a place that asks so much.
abbrev ProcessAt : ℕ → List Lexeme → Process → Type 0
ProcessAt asked ts A = Prints ts (curled asked (process_grade A) (process_parts A))

mutual
  -- Each process is printed at a place that asks nothing, each choice where choices are asked, each prefix where prefixes are.
  process_prints : {ts : List Lexeme} {A : Process} → IsProcess ts A → (asked : ℕ) → asked ≤ 0 → ProcessAt asked ts A
  process_prints (q.choice h) asked le = choice_prints h asked (omega (arith, le))
  process_prints (q.par h i) asked le =
      bare 0 asked le (prints_sides (l.Mark m.Bar) (λ n. refl, refl) (process_prints h 0 (omega arith)) (choice_prints i 1 (omega arith)))

  choice_prints : {ts : List Lexeme} {A : Process} → IsChoice ts A → (asked : ℕ) → asked ≤ 1 → ProcessAt asked ts A
  choice_prints (q.prefix h) asked le = prefix_prints h asked (omega (arith, le))
  choice_prints (q.plus h i) asked le =
      bare 1 asked le (prints_sides (l.Mark m.Plus) (λ n. refl, refl) (choice_prints h 1 (omega arith)) (prefix_prints i 2 (omega arith)))

  prefix_prints : {ts : List Lexeme} {A : Process} → IsPrefix ts A → (asked : ℕ) → asked ≤ 2 → ProcessAt asked ts A
  prefix_prints q.nil asked le = bare 2 asked le (prints_cons _ (λ n. refl, refl) prints_none)
  prefix_prints q.call asked le = bare 2 asked le (prints_cons _ (λ n. refl, refl) prints_none)
  prefix_prints (q.braced {A = A} h) asked le =
      prints_bracketed m.OpenCurly m.CloseCurly asked (process_grade A) curly
      (prints_as_is m.OpenCurly m.CloseCurly 0 (process_grade A) (omega arith) (process_prints h 0 (omega arith)))
  prefix_prints (q.when {ts} {us} {p} {A} h i) asked le =
      bare 2 asked le (prints_cons (l.Keyword k.When) (λ n. refl, refl) (prints_space
      (subst (Prints (l.Mark m.OpenRound ∷ ts ++ l.Mark m.CloseRound ∷ us))
      (sym (guard_then p (Space ∷ curled 2 (process_grade A) (process_parts A))))
      (prints_then (l.Mark m.OpenRound) (l.Mark m.CloseRound) round (pred_printed h) (prints_space (prefix_prints i 2 (omega arith)))))))
  prefix_prints (q.output {ts} {us} {vs} {es} {p} {updates} {A} h i j) asked le =
      let text = append_assoc ts (l.Mark m.CloseRound ∷ l.Mark m.At ∷ l.Mark m.OpenRound ∷ us) (l.Mark m.CloseRound ∷ l.Mark m.Dot ∷ vs) in
      let print = output_then es p (flat_map update_parts updates) (curled 2 (process_grade A) (process_parts A)) in
      let behind : List Lexeme = l.Mark m.OpenRound ∷ (us ++ l.Mark m.CloseRound ∷ l.Mark m.Dot ∷ vs) in
      bare 2 asked le
      (subst (λ (ws : List Lexeme). Prints (l.Mark m.OpenRound ∷ ws) (process_parts (P.Output es p updates A))) (sym text)
      (subst (Prints (l.Mark m.OpenRound ∷ ts ++ l.Mark m.CloseRound ∷ l.Mark m.At ∷ behind)) (sym print)
      (prints_then (l.Mark m.OpenRound) (l.Mark m.CloseRound) round (optional_prints IsExpr expr_parts (λ ws a x. expr_printed x) h)
      (prints_space (prints_cons (l.Mark m.At) (λ n. refl, refl) (prints_space
      (prints_then (l.Mark m.OpenRound) (l.Mark m.CloseRound) round (pred_printed i)
      (prints_space (prints_cons (l.Mark m.Dot) (λ n. refl, refl) (prints_space (after_prints j)))))))))))
  prefix_prints (q.input {ts} {us} {vs} {p} {xs} {updates} {A} h i j) asked le =
      let text = append_assoc ts (l.Mark m.CloseRound ∷ l.Mark m.OpenRound ∷ us) (l.Mark m.CloseRound ∷ l.Mark m.Dot ∷ vs) in
      let print = input_then p xs (flat_map update_parts updates) (curled 2 (process_grade A) (process_parts A)) in
      let behind : List Lexeme = l.Mark m.OpenRound ∷ (us ++ l.Mark m.CloseRound ∷ l.Mark m.Dot ∷ vs) in
      bare 2 asked le
      (subst (λ (ws : List Lexeme). Prints (l.Mark m.Question ∷ l.Mark m.OpenRound ∷ ws) (process_parts (P.Input p xs updates A))) (sym text)
      (subst (Prints (l.Mark m.Question ∷ l.Mark m.OpenRound ∷ ts ++ l.Mark m.CloseRound ∷ behind)) (sym print)
      (prints_cons (l.Mark m.Question) (λ n. refl, refl) (prints_space
      (prints_then (l.Mark m.OpenRound) (l.Mark m.CloseRound) round (pred_printed h)
      (prints_space (prints_then (l.Mark m.OpenRound) (l.Mark m.CloseRound) round
      (optional_prints IsVariable (λ x. variable x ∷ []) variable_prints i)
      (prints_space (prints_cons (l.Mark m.Dot) (λ n. refl, refl) (prints_space (after_prints j)))))))))))

  after_prints : {ts : List Lexeme} {us : List Update} {A : Process} → IsAfter ts us A → Prints ts (rest_parts us A)
  after_prints (q.after h i) = prints_append (repeated_prints IsUpdate update_parts update_prints h) (prefix_prints i 2 (omega arith))

-- A process's print has no bracket and no token more than its text.
pub process_printed : {ts : List Lexeme} {A : Process} → IsProcess ts A → Prints ts (process_parts A)
process_printed {A = A} h = prints_as_is m.OpenCurly m.CloseCurly 0 (process_grade A) (omega arith) (process_prints h 0 (omega arith))
