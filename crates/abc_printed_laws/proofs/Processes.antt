-- What is printed of a process is of the grammar, at the level of its grade.
use Rattle.std.specs.Prelude.{All, flat_map}
use Rattle.std.proofs.Common.{◌≡◌, ℕ, List, [], ◌∷◌, ◌++◌, refl, sym, ◌∙◌, subst, append_assoc}
use Rattle.abc_pred.specs.declared.names.Name.{Name}
use Rattle.abc_pred.specs.Terms.{Expr, Pred}
use Rattle.abc_text.specs.declared.words.Mark.TheVariants as m
use Rattle.abc_text.specs.declared.words.Keyword.TheVariants as k
use Rattle.abc_term.specs.Processes.{Process, Update}
use Rattle.abc_term.specs.Processes as P
use Rattle.abc_grammar.specs.declared.lexemes.Lexeme.{Lexeme}
use Rattle.abc_grammar.specs.declared.lexemes.Lexeme.TheVariants as l
use Rattle.abc_grammar.specs.Listed.{IsVariable}
use Rattle.abc_grammar.specs.Listed as listing
use Rattle.abc_grammar.specs.Exprs.{IsExpr}
use Rattle.abc_grammar.specs.Processes.{IsUpdate, IsProcess, IsChoice, IsPrefix, IsAfter}
use Rattle.abc_grammar.specs.Processes as g
use Rattle.abc_printed.specs.Parts.{Part, Space, mark, keyword, variable, listed, lexemes}
use Rattle.abc_printed.specs.Forms.{spaced, expr_parts, pred_parts, process_grade, curled, update_parts, process_parts}
use Rattle.abc_printed.specs.Printable.{ExprHasValues, PredHasValues, UpdateHasValues, ProcessHasValues}
use Rattle.abc_printed_laws.proofs.Parts.{lexemes-append, pieces, of_pieces, of_sides}
use Rattle.abc_printed_laws.proofs.Listed.{may_be_listed, are_repeated}
use Rattle.abc_printed_laws.proofs.Levels.{IsGraded, AtGrade, lowest, at_low, at_mid, at_high}
use Rattle.abc_printed_laws.proofs.Exprs.{expr_is}
use Rattle.abc_printed_laws.proofs.Preds.{pred_is}

-- What is printed of an update is one.
update_is : (u : Update) → UpdateHasValues u → IsUpdate (lexemes (update_parts u)) u
update_is (a, e) h =
    of_pieces (λ ts. IsUpdate (l.Mark m.OpenSquare ∷ l.Name a ∷ l.Mark m.Becomes ∷ ts) (a, e)) (expr_parts e) (mark m.CloseSquare ∷ Space ∷ [])
    (g.update (expr_is e h))

-- what is printed of a variable
abbrev pub variable_parts : Name → List Part
variable_parts x = variable x ∷ []

-- It is a variable.
variable_is : (x : Name) → Unit {0} → IsVariable (lexemes (variable_parts x)) x
variable_is x h = listing.variable

-- The levels of the grammar of processes, and its brackets.
process_levels : IsGraded IsProcess IsChoice IsPrefix m.OpenCurly m.CloseCurly
process_levels = record { low = g.choice; mid = g.prefix; around = g.braced }

-- what is printed of a process is at its grade
abbrev Stands : Process → Type 0
Stands A = AtGrade IsProcess IsChoice IsPrefix (process_grade A) (lexemes (process_parts A)) A

-- what is printed of it at a place that asks so much
abbrev pub placed : ℕ → Process → List Part
placed asked A = curled asked (process_grade A) (process_parts A)

-- What is printed of a process as a side of `|`, to the left and to the right, and of `+`.
par_side : (A : Process) → Stands A → IsProcess (lexemes (placed 0 A)) A
par_side A h = at_low process_levels (process_grade A) (process_parts A) A h

choice_side : (A : Process) → Stands A → IsChoice (lexemes (placed 1 A)) A
choice_side A h = at_mid process_levels (process_grade A) (process_parts A) A h

prefix_side : (A : Process) → Stands A → IsPrefix (lexemes (placed 2 A)) A
prefix_side A h = at_high process_levels (process_grade A) (process_parts A) A h

-- ---- actions
-- The pieces of an output, and of an input, grouped as in the grammar.
output_grouped : (a b c d e : List Lexeme) → a ++ b ++ (c ++ d) ++ e ≡ a ++ (b ++ c) ++ (d ++ e)
output_grouped a b c d e = simp append_assoc

input_grouped : (a b c d e : List Lexeme) → a ++ b ++ c ++ d ++ e ≡ a ++ (b ++ c) ++ (d ++ e)
input_grouped a b c d e = simp append_assoc

-- a predicate in its round brackets
abbrev pub guarded : List Part → List Part
guarded gs = mark m.OpenRound ∷ gs ++ mark m.CloseRound ∷ []

-- the lexemes of a guard
guard_lexemes : (gs : List Part) → lexemes (guarded gs) ≡ l.Mark m.OpenRound ∷ lexemes gs ++ l.Mark m.CloseRound ∷ []
guard_lexemes gs = lexemes-append (mark m.OpenRound ∷ gs) (mark m.CloseRound ∷ [])

-- What stands before the dot of an action, which has such lexemes, and behind it.
action_lexemes :
    (head us last : List Part) (ts : List Lexeme) → lexemes head ≡ ts →
    lexemes (head ++ spaced (mark m.Dot) ++ us ++ last) ≡ ts ++ l.Mark m.Dot ∷ (lexemes us ++ lexemes last)
action_lexemes head us last ts e =
    let dot : List Part = spaced (mark m.Dot) in
    let marked : List Lexeme = ts ++ l.Mark m.Dot ∷ [] in
    pieces (head ++ dot ++ us) last (marked ++ lexemes us) (lexemes last)
    (pieces (head ++ dot) us marked (lexemes us) (pieces head dot ts (l.Mark m.Dot ∷ []) e refl) refl) refl
    ∙ append_assoc marked (lexemes us) (lexemes last)
    ∙ append_assoc ts (l.Mark m.Dot ∷ []) (lexemes us ++ lexemes last)

-- the lexemes of an output
pub output_lexemes :
    (xs gs us last : List Part) →
    lexemes (mark m.OpenRound ∷ xs ++ mark m.CloseRound ∷ spaced (mark m.At) ++ guarded gs ++ spaced (mark m.Dot) ++ us ++ last)
    ≡ l.Mark m.OpenRound ∷ lexemes xs ++ l.Mark m.CloseRound ∷ l.Mark m.At ∷ l.Mark m.OpenRound ∷ lexemes gs
    ++ l.Mark m.CloseRound ∷ l.Mark m.Dot ∷ (lexemes us ++ lexemes last)
output_lexemes xs gs us last =
    let sent : List Part = mark m.OpenRound ∷ xs in
    let at : List Part = mark m.CloseRound ∷ spaced (mark m.At) in
    let sent_ts : List Lexeme = l.Mark m.OpenRound ∷ lexemes xs in
    let at_ts : List Lexeme = l.Mark m.CloseRound ∷ l.Mark m.At ∷ [] in
    let guard_ts : List Lexeme = l.Mark m.OpenRound ∷ lexemes gs in
    let close : List Lexeme = l.Mark m.CloseRound ∷ [] in
    action_lexemes (sent ++ at ++ guarded gs) us last (sent_ts ++ at_ts ++ (guard_ts ++ close))
    (pieces (sent ++ at) (guarded gs) (sent_ts ++ at_ts) (guard_ts ++ close) (pieces sent at sent_ts at_ts refl refl) (guard_lexemes gs))
    ∙ output_grouped sent_ts at_ts guard_ts close (l.Mark m.Dot ∷ (lexemes us ++ lexemes last))

-- the lexemes of an input
pub input_lexemes :
    (gs xs us last : List Part) →
    lexemes (mark m.Question ∷ Space ∷ guarded gs ++ Space ∷ mark m.OpenRound ∷ xs ++ mark m.CloseRound ∷ [] ++ spaced (mark m.Dot) ++ us ++ last)
    ≡ l.Mark m.Question ∷ l.Mark m.OpenRound ∷ lexemes gs ++ l.Mark m.CloseRound ∷ l.Mark m.OpenRound ∷ lexemes xs
    ++ l.Mark m.CloseRound ∷ l.Mark m.Dot ∷ (lexemes us ++ lexemes last)
input_lexemes gs xs us last =
    let guard : List Part = mark m.Question ∷ Space ∷ guarded gs in
    let bound : List Part = Space ∷ mark m.OpenRound ∷ xs in
    let guard_ts : List Lexeme = l.Mark m.Question ∷ l.Mark m.OpenRound ∷ lexemes gs in
    let bound_ts : List Lexeme = l.Mark m.OpenRound ∷ lexemes xs in
    let close : List Lexeme = l.Mark m.CloseRound ∷ [] in
    action_lexemes (guard ++ bound ++ mark m.CloseRound ∷ []) us last (guard_ts ++ close ++ bound_ts ++ close)
    (pieces (guard ++ bound) (mark m.CloseRound ∷ []) (guard_ts ++ close ++ bound_ts) close
    (pieces guard bound (guard_ts ++ close) bound_ts (λ i. l.Mark m.Question ∷ guard_lexemes gs i) refl) refl)
    ∙ input_grouped guard_ts close bound_ts close (l.Mark m.Dot ∷ (lexemes us ++ lexemes last))

-- the lexemes of `when`
pub when_lexemes :
    (gs last : List Part) →
    lexemes (keyword k.When ∷ Space ∷ guarded gs ++ Space ∷ last)
    ≡ l.Keyword k.When ∷ l.Mark m.OpenRound ∷ lexemes gs ++ l.Mark m.CloseRound ∷ lexemes last
when_lexemes gs last =
    let guard_ts : List Lexeme = l.Keyword k.When ∷ l.Mark m.OpenRound ∷ lexemes gs in
    let close : List Lexeme = l.Mark m.CloseRound ∷ [] in
    pieces (keyword k.When ∷ Space ∷ guarded gs) (Space ∷ last) (guard_ts ++ close) (lexemes last) (λ i. l.Keyword k.When ∷ guard_lexemes gs i) refl
    ∙ append_assoc guard_ts close (lexemes last)

-- What is printed behind the dot of an action is what the grammar has there.
after_is : (us : List Update) (A : Process) → All UpdateHasValues us → IsPrefix (lexemes (placed 2 A)) A →
    IsAfter (lexemes (flat_map update_parts us) ++ lexemes (placed 2 A)) us A
after_is us A h i = g.after (are_repeated IsUpdate UpdateHasValues update_parts update_is us h) i

-- What is printed of an output, and of an input, is one.
output_is :
    (es : List Expr) (p : Pred) (us : List Update) (A : Process) → All ExprHasValues es → PredHasValues p → All UpdateHasValues us →
    IsPrefix (lexemes (placed 2 A)) A → IsPrefix (lexemes (process_parts (P.Output es p us A))) (P.Output es p us A)
output_is es p us A h i j last =
    subst (λ ts. IsPrefix ts (P.Output es p us A))
    (sym (output_lexemes (listed expr_parts es) (pred_parts p) (flat_map update_parts us) (placed 2 A)))
    (g.output (may_be_listed IsExpr ExprHasValues expr_parts expr_is es h) (pred_is p i) (after_is us A j last))

input_is :
    (p : Pred) (xs : List Name) (us : List Update) (A : Process) → PredHasValues p → All UpdateHasValues us →
    IsPrefix (lexemes (placed 2 A)) A → IsPrefix (lexemes (process_parts (P.Input p xs us A))) (P.Input p xs us A)
input_is p xs us A h i last =
    subst (λ ts. IsPrefix ts (P.Input p xs us A))
    (sym (input_lexemes (pred_parts p) (listed variable_parts xs) (flat_map update_parts us) (placed 2 A)))
    (g.input (pred_is p h) (may_be_listed IsVariable (λ x. Unit {0}) variable_parts variable_is xs (λ i d lt. tt)) (after_is us A i last))

-- What is printed of a process whose literals are values is at its grade.
process_at : (A : Process) → ProcessHasValues A → Stands A
process_at P.Nil h = g.nil
process_at (P.Call c) h = g.call
process_at (P.Output es p us A) h = output_is es p us A h.0 h.1 h.2 (prefix_side A (process_at A h.3))
process_at (P.Input p xs us A) h = input_is p xs us A h.0 h.1 (prefix_side A (process_at A h.2))
process_at (P.When p A) h =
    subst (λ ts. IsPrefix ts (P.When p A)) (sym (when_lexemes (pred_parts p) (placed 2 A)))
    (g.when (pred_is p h.0) (prefix_side A (process_at A h.1)))
process_at (P.Choice A B) h =
    of_sides (λ ts. IsChoice ts (P.Choice A B)) (placed 1 A) (l.Mark m.Plus) (placed 2 B)
    (g.plus (choice_side A (process_at A h.0)) (prefix_side B (process_at B h.1)))
process_at (P.Par A B) h =
    of_sides (λ ts. IsProcess ts (P.Par A B)) (placed 0 A) (l.Mark m.Bar) (placed 1 B)
    (g.par (par_side A (process_at A h.0)) (choice_side B (process_at B h.1)))

-- And so it is a process.
pub process_is : (A : Process) → ProcessHasValues A → IsProcess (lexemes (process_parts A)) A
process_is A h = lowest process_levels (process_grade A) (lexemes (process_parts A)) A (process_at A h)
