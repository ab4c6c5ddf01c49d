-- What is printed of a program whose literals are values has no scalar too many in a set literal: behind a `{` that opens none
-- at most one scalar stands.
use Rattle.std.proofs.Common.{◌≡◌, ℕ, ◌⊎◌, inl, inr, Bool, true, false, List, [], ◌∷◌, ◌++◌, refl, sym, ap, ◌∙◌, subst, append_assoc}
use Rattle.std.specs.Prelude.{flat_map, if◌then◌else◌, nat_lt}
use Rattle.abc_value.specs.declared.value.Value.{Value}
use Rattle.abc_pred.specs.declared.names.Name.{Name}
use Rattle.abc_pred.specs.Terms.{Pred}
use Rattle.abc_term.specs.Processes.{Process, Update}
use Rattle.abc_term.specs.Processes as P
use Rattle.abc_text.specs.declared.words.Mark.TheVariants as m
use Rattle.abc_text.specs.declared.words.Keyword.TheVariants as k
use Rattle.abc_grammar.specs.declared.lexemes.Lexeme.{Lexeme}
use Rattle.abc_grammar.specs.declared.lexemes.Lexeme.TheVariants as l
use Rattle.abc_grammar.specs.Plain.{PlainComponent, PlainProgram}
use Rattle.abc_limits.specs.declared.scalars.Written.TheVariants.{Outside, Expects, Counted}
use Rattle.abc_limits.specs.Written.{written_behind}
use Rattle.abc_printed.specs.Parts.{Part, Token, Space, Line, mark, keyword, name, variable, lexemes, listed}
use Rattle.abc_printed.specs.Forms.{spaced, expr_parts, guard_parts, update_parts, process_grade, process_parts, curled, initial_parts, shown_parts, definition_parts, component_parts, program_parts}
use Rattle.abc_printed.specs.Printable.{ExprHasValues, PredHasValues, UpdateHasValues, ProcessHasValues, DefinitionHasValues, InitialHasValue, ComponentHasValues, ProgramHasValues}
use Rattle.abc_printed_laws.proofs.Parts.{lexemes-append}
use Rattle.abc_printed_limits.proofs.Sets.{Passes, passes_append, passes_cons, Unfilled, Still, still_none, still_space, still_line, still_cons, still_append, still_sides, still_inside, still_listed, still_repeated, literal_still}
use Rattle.abc_printed_limits.proofs.SetTerms.{expr_still, pred_still}

-- ---- processes
-- Behind a `{` these may be one scalar, or none.
abbrev pub AtMostOne : List Part → Type 0
AtMostOne ps = Passes (Expects 0) Outside (lexemes ps) ⊎ Passes (Expects 0) (Counted 1) (lexemes ps)

-- Outside of a set literal they are still, and behind a `{` at most one scalar.
pub record Quiet (ps : List Part) : Type 0 where
  pub still : Still ps
  pub braced : AtMostOne ps

-- parts whose first token is no scalar
quiet_cons : (t : Lexeme) {ps : List Part} → written_behind Outside t ≡ Outside → written_behind (Expects 0) t ≡ Outside → Still ps →
    Quiet (Token t ∷ ps)
quiet_cons t {ps} e f h = record { still = still_cons t e h; braced = inl (passes_cons (Expects 0) Outside Outside t (lexemes ps) refl f h.passes) }

-- up to a token that is no comma
closed_braced : (t : Lexeme) (ps qs : List Part) → written_behind Outside t ≡ Outside → written_behind (Counted 1) t ≡ Outside →
    AtMostOne ps → Still qs → Passes (Expects 0) Outside (lexemes (ps ++ Token t ∷ qs))
closed_braced t ps qs e f h k = subst (Passes (Expects 0) Outside) (sym (lexemes-append ps (Token t ∷ qs))) (by h)
  where
    by : AtMostOne ps → Passes (Expects 0) Outside (lexemes ps ++ t ∷ lexemes qs)
    by (inl g) = passes_append (Expects 0) Outside Outside (lexemes ps) (t ∷ lexemes qs) g
        (passes_cons Outside Outside Outside t (lexemes qs) refl e k.passes)
    by (inr g) = passes_append (Expects 0) (Counted 1) Outside (lexemes ps) (t ∷ lexemes qs) g
        (passes_cons (Counted 1) Outside Outside t (lexemes qs) refl f k.passes)

-- two sides, and what stands between them
quiet_sides : (t : Lexeme) {ps qs : List Part} → written_behind Outside t ≡ Outside → written_behind (Counted 1) t ≡ Outside → Quiet ps → Quiet qs →
    Quiet (ps ++ spaced (Token t) ++ qs)
quiet_sides t {ps} {qs} e f h k =
    let s = k.still in
    record {
      still = still_sides t e h.still k.still;
      braced = inl (subst (Passes (Expects 0) Outside)
          (lexemes-append ps (Token t ∷ qs) ∙ sym (lexemes-append (ps ++ spaced (Token t)) qs ∙ ap (λ (ts : List Lexeme). ts ++ lexemes qs)
          (lexemes-append ps (spaced (Token t))) ∙ append_assoc (lexemes ps) (t ∷ []) (lexemes qs)))
          (closed_braced t ps qs e f h.braced s));
    }

-- in braces
quiet_inside : {ps : List Part} → Quiet ps → Quiet (mark m.OpenCurly ∷ ps ++ mark m.CloseCurly ∷ [])
quiet_inside {ps} h =
    let all : List Lexeme = lexemes (ps ++ mark m.CloseCurly ∷ []) in
    let inside : Passes (Expects 0) Outside all = closed_braced (l.Mark m.CloseCurly) ps [] refl refl h.braced still_none in
    record {
      still = record { passes = passes_cons Outside (Expects 0) Outside (l.Mark m.OpenCurly) all refl refl inside };
      braced = inl (passes_cons (Expects 0) (Expects 0) Outside (l.Mark m.OpenCurly) all refl refl inside);
    }

-- in braces, or without
quiet_curled : (asked grade : ℕ) {ps : List Part} → Quiet ps → Quiet (curled asked grade ps)
quiet_curled asked grade {ps} h = by (nat_lt grade asked)
  where
    by : (b : Bool) → Quiet (if b then mark m.OpenCurly ∷ ps ++ mark m.CloseCurly ∷ [] else ps)
    by true = quiet_inside h
    by false = h

-- the same outside of a set literal
still_curled : (asked grade : ℕ) {ps : List Part} → Quiet ps → Still (curled asked grade ps)
still_curled asked grade {ps} h = let q : Quiet (curled asked grade ps) = quiet_curled asked grade h in q.still

-- an update
update_still : (u : Update) → UpdateHasValues u → Still (update_parts u)
update_still (a, e) h =
    still_cons (l.Mark m.OpenSquare) refl (still_append (still_append (still_cons (l.Name a) refl (still_space (still_cons (l.Mark m.Becomes) refl
    (still_space still_none)))) (expr_still e h)) (still_cons (l.Mark m.CloseSquare) refl (still_space still_none)))

-- a predicate in brackets
guard_still : (p : Pred) → PredHasValues p → Still (guard_parts p)
guard_still p h = still_inside (l.Mark m.OpenRound) (l.Mark m.CloseRound) refl refl (pred_still p h)

-- the variables of an input
variables_still : (xs : List Name) → Still (listed (λ x. variable x ∷ []) xs)
variables_still xs = still_listed (λ x. Unit {0}) (λ x. variable x ∷ []) (λ x h. still_cons (l.Variable x) refl still_none) xs (λ i d lt. tt)

-- behind the brackets of an action: a dot, updates and a process
after_still : {ps qs rs : List Part} → Still ps → Still qs → Still rs → Still (ps ++ spaced (mark m.Dot) ++ qs ++ rs)
after_still h i j = still_append (still_append (still_append h (still_space (still_cons (l.Mark m.Dot) refl (still_space still_none)))) i) j

-- What is printed of a process.
pub process_quiet : (A : Process) → ProcessHasValues A → Quiet (process_parts A)
process_quiet P.Nil h = record { still = still_cons (l.Number 0) refl still_none; braced = inr (record { free = (refl, refl); ends = refl }) }
process_quiet (P.Call c) h = quiet_cons (l.Name c) refl refl still_none
process_quiet (P.Output es p us A) h =
    quiet_cons (l.Mark m.OpenRound) refl refl
    (after_still (still_append (still_append (still_listed ExprHasValues expr_parts expr_still es h.0) (still_cons (l.Mark m.CloseRound) refl
    (still_space (still_cons (l.Mark m.At) refl (still_space still_none))))) (guard_still p h.1))
    (still_repeated UpdateHasValues update_parts update_still us h.2) (still_curled 2 (process_grade A) (process_quiet A h.3)))
process_quiet (P.Input p xs us A) h =
    quiet_cons (l.Mark m.Question) refl refl
    (after_still (still_append (still_append (still_space (guard_still p h.0))
    (still_space (still_cons (l.Mark m.OpenRound) refl (variables_still xs))))
    (still_cons (l.Mark m.CloseRound) refl still_none))
    (still_repeated UpdateHasValues update_parts update_still us h.1) (still_curled 2 (process_grade A) (process_quiet A h.2)))
process_quiet (P.When p A) h =
    quiet_cons (l.Keyword k.When) refl refl
    (still_append (still_space (guard_still p h.0)) (still_space (still_curled 2 (process_grade A) (process_quiet A h.1))))
process_quiet (P.Choice A B) h =
    quiet_sides (l.Mark m.Plus) refl refl (quiet_curled 1 (process_grade A) (process_quiet A h.0))
    (quiet_curled 2 (process_grade B) (process_quiet B h.1))
process_quiet (P.Par A B) h =
    quiet_sides (l.Mark m.Bar) refl refl (quiet_curled 0 (process_grade A) (process_quiet A h.0))
    (quiet_curled 1 (process_grade B) (process_quiet B h.1))

-- the same outside of a set literal
process_still : (A : Process) → ProcessHasValues A → Still (process_parts A)
process_still A h = let q : Quiet (process_parts A) = process_quiet A h in q.still

-- ---- definitions and components
-- a definition
definition_still : (d : Name × Process) → DefinitionHasValues d → Still (definition_parts d)
definition_still (c, A) h =
    still_cons (l.Keyword k.Def) refl (still_space (still_cons (l.Name c) refl (still_append (still_append (still_space
    (still_cons (l.Mark m.Equal) refl (still_space still_none))) (process_still A h))
    (still_cons (l.Mark m.Semicolon) refl (still_line still_none)))))

-- the first value of an attribute
initial_still : (x : Name × Value) → InitialHasValue x → Still (initial_parts x)
initial_still (a, v) h =
    still_space (still_space (still_cons (l.Name a) refl (still_append (still_append (still_space (still_cons (l.Mark m.Equal) refl
    (still_space still_none))) (literal_still v h)) (still_cons (l.Mark m.Semicolon) refl (still_line still_none)))))

-- names parted by commas
names_still : (names : List Name) → Still (listed (λ n. name n ∷ []) names)
names_still names = still_listed (λ x. Unit {0}) (λ n. name n ∷ []) (λ x h. still_cons (l.Name x) refl still_none) names (λ i d lt. tt)

-- the attributes that are shown
shown_still : (names : List Name) → Still (shown_parts names)
shown_still [] = still_none
shown_still (a ∷ names) = still_space (names_still (a ∷ names))

-- what stands in the braces of a component begins with a name or with `show`
opened : (first : List (Name × Value)) (ps qs rs : List Part) →
    Still (flat_map initial_parts first ++ Space ∷ Space ∷ keyword k.Show ∷ ps ++ qs ++ rs) →
    Passes (Expects 0) Outside (lexemes (flat_map initial_parts first ++ Space ∷ Space ∷ keyword k.Show ∷ ps ++ qs ++ rs))
opened [] ps qs rs h = let s = h.passes in record { free = (refl, (s.free).1); ends = s.ends }
opened ((a, v) ∷ first) ps qs rs h = let s = h.passes in record { free = (refl, (s.free).1); ends = s.ends }

-- a component
component_still : (C : PlainComponent) → ComponentHasValues C → Still (component_parts C)
component_still C h =
    let shown = shown_parts C.show in
    let run : List Part = mark m.Semicolon ∷ Line ∷ Space ∷ Space ∷ keyword k.Run ∷ Space ∷ process_parts C.run in
    let end : List Part = mark m.Semicolon ∷ Line ∷ mark m.CloseCurly ∷ Line ∷ [] in
    let inside : List Part = flat_map initial_parts C.initial ++ Space ∷ Space ∷ keyword k.Show ∷ shown ++ run ++ end in
    let all : Still inside =
    still_append (still_append (still_append (still_repeated InitialHasValue initial_parts initial_still C.initial h.initial)
    (still_space (still_space (still_cons (l.Keyword k.Show) refl (shown_still C.show)))))
    (still_cons (l.Mark m.Semicolon) refl (still_line (still_space (still_space (still_cons (l.Keyword k.Run) refl
    (still_space (process_still C.run h.run))))))))
    (still_cons (l.Mark m.Semicolon) refl (still_line (still_cons (l.Mark m.CloseCurly) refl (still_line still_none)))) in
    record {
      passes = passes_cons Outside Outside Outside (l.Keyword k.Comp) (l.Name C.name ∷ l.Mark m.OpenCurly ∷ lexemes inside) refl refl
          (passes_cons Outside Outside Outside (l.Name C.name) (l.Mark m.OpenCurly ∷ lexemes inside) refl refl
          (passes_cons Outside (Expects 0) Outside (l.Mark m.OpenCurly) (lexemes inside) refl refl (opened C.initial shown run end all)));
    }

-- ---- programs
-- What is printed of a program has no scalar too many.
pub program_unfilled : (p : PlainProgram) → ProgramHasValues p → Unfilled Outside (lexemes (program_parts p))
program_unfilled p h =
    let s : Still (program_parts p) =
    still_cons (l.Keyword k.Abc) refl (still_space (still_cons (l.Number 1) refl (still_cons (l.Mark m.Semicolon) refl (still_line
    (still_append (still_repeated DefinitionHasValues definition_parts definition_still p.definitions h.definitions)
    (still_repeated ComponentHasValues component_parts component_still p.components h.components)))))) in
    let passes = s.passes in
    passes.free
