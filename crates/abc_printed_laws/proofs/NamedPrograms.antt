-- A program's lexemes and its print name the same, in the same order.
use Rattle.std.specs.Prelude.{flat_map}
use Rattle.std.proofs.Common.{◌≡◌, ℕ, List, [], ◌∷◌, ◌++◌, refl, sym, ap, ◌∙◌}
use Rattle.abc_value.specs.declared.value.Value.{Value}
use Rattle.abc_pred.specs.declared.names.Name.{Name}
use Rattle.abc_text.specs.declared.words.Mark.TheVariants as m
use Rattle.abc_text.specs.declared.words.Keyword.TheVariants as k
use Rattle.abc_term.specs.Processes.{Process, Update}
use Rattle.abc_grammar.specs.declared.lexemes.Lexeme.{Lexeme}
use Rattle.abc_grammar.specs.declared.lexemes.Lexeme.TheVariants as l
use Rattle.abc_grammar.specs.Listed.{MayBeListed, IsName, IsVariable}
use Rattle.abc_grammar.specs.Listed as listing
use Rattle.abc_grammar.specs.Plain.{PlainComponent, PlainProgram}
use Rattle.abc_grammar.specs.Processes.{IsUpdate, IsProcess, IsChoice, IsPrefix, IsAfter}
use Rattle.abc_grammar.specs.Processes as q
use Rattle.abc_grammar.specs.Programs.{IsDefinition, IsInitial, IsComponent, IsProgram}
use Rattle.abc_grammar.specs.Programs as g
use Rattle.abc_printed.specs.Parts.{Part, Space, Line, mark, keyword, name, listed, lexemes}
use Rattle.abc_printed.specs.Forms.{literal_parts, expr_parts, pred_parts, process_grade, update_parts, process_parts, definition_parts, initial_parts, shown_parts, component_parts, program_parts}
use Rattle.abc_printed_laws.specs.Kept.{names_in, NamesAreKept}
use Rattle.abc_printed_laws.proofs.Names.{named, same_lists, same_pieces, same_sides, names_closed, named_bracketed, names_of_all, listed_named, all_optional, optional_names, repeated_names}
use Rattle.abc_printed_laws.proofs.NamedTerms.{literal_names, expr_names, pred_names}
use Rattle.abc_printed_laws.proofs.Processes.{variable_parts, placed, output_lexemes, input_lexemes, when_lexemes}

update_names : (ts : List Lexeme) (u : Update) → IsUpdate ts u → named (update_parts u) ≡ names_in ts
update_names _ _ (q.update {a} {ts} {e} h) =
    λ i. l.Name a ∷ same_pieces (expr_parts e) (mark m.CloseSquare ∷ Space ∷ []) ts (l.Mark m.CloseSquare ∷ []) (expr_names ts e h) refl i

variable_names : (ts : List Lexeme) (x : Name) → IsVariable ts x → named (variable_parts x) ≡ names_in ts
variable_names _ _ listing.variable = refl

-- The brackets of a process at its place name nothing.
placed_names : (asked : ℕ) (A : Process) (ts : List Lexeme) → named (process_parts A) ≡ names_in ts → named (placed asked A) ≡ names_in ts
placed_names asked A ts h = named_bracketed m.OpenCurly m.CloseCurly asked (process_grade A) (process_parts A) ∙ h

mutual
  pub process_names : {ts : List Lexeme} {A : Process} → IsProcess ts A → named (process_parts A) ≡ names_in ts
  process_names (q.choice h) = choice_names h
  process_names (q.par {ts} {us} {A} {B} h i) =
      same_sides (placed 0 A) (l.Mark m.Bar) (placed 1 B) ts us (placed_names 0 A ts (process_names h)) (placed_names 1 B us (choice_names i))

  choice_names : {ts : List Lexeme} {A : Process} → IsChoice ts A → named (process_parts A) ≡ names_in ts
  choice_names (q.prefix h) = prefix_names h
  choice_names (q.plus {ts} {us} {A} {B} h i) =
      same_sides (placed 1 A) (l.Mark m.Plus) (placed 2 B) ts us (placed_names 1 A ts (choice_names h)) (placed_names 2 B us (prefix_names i))

  prefix_names : {ts : List Lexeme} {A : Process} → IsPrefix ts A → named (process_parts A) ≡ names_in ts
  prefix_names q.nil = refl
  prefix_names q.call = refl
  prefix_names (q.braced {ts} h) = process_names h ∙ sym (names_closed ts m.CloseCurly)
  prefix_names (q.when {ts} {us} {p} {A} h i) =
      ap names_in (when_lexemes (pred_parts p) (placed 2 A))
      ∙ same_lists (lexemes (pred_parts p)) ts (l.Mark m.CloseRound ∷ lexemes (placed 2 A)) (l.Mark m.CloseRound ∷ us) (pred_names h)
      (placed_names 2 A us (prefix_names i))
  prefix_names (q.output {ts} {us} {vs} {es} {p} {updates} {A} h i j) =
      let between : List Lexeme = l.Mark m.CloseRound ∷ l.Mark m.At ∷ l.Mark m.OpenRound ∷ [] in
      let sent : List Lexeme = lexemes (listed expr_parts es) in
      let guard : List Lexeme = lexemes (pred_parts p) in
      let rest : List Lexeme = lexemes (flat_map update_parts updates) ++ lexemes (placed 2 A) in
      ap names_in (output_lexemes (listed expr_parts es) (pred_parts p) (flat_map update_parts updates) (placed 2 A))
      ∙ same_lists (sent ++ (between ++ guard)) (ts ++ (between ++ us))
      (l.Mark m.CloseRound ∷ l.Mark m.Dot ∷ rest) (l.Mark m.CloseRound ∷ l.Mark m.Dot ∷ vs)
      (same_lists sent ts (between ++ guard) (between ++ us) (optional_names expr_parts expr_names h) (pred_names i)) (after_names j)
  prefix_names (q.input {ts} {us} {vs} {p} {xs} {updates} {A} h i j) =
      let between : List Lexeme = l.Mark m.CloseRound ∷ l.Mark m.OpenRound ∷ [] in
      let guard : List Lexeme = lexemes (pred_parts p) in
      let bound : List Lexeme = lexemes (listed variable_parts xs) in
      let rest : List Lexeme = lexemes (flat_map update_parts updates) ++ lexemes (placed 2 A) in
      ap names_in (input_lexemes (pred_parts p) (listed variable_parts xs) (flat_map update_parts updates) (placed 2 A))
      ∙ same_lists (guard ++ (between ++ bound)) (ts ++ (between ++ us))
      (l.Mark m.CloseRound ∷ l.Mark m.Dot ∷ rest) (l.Mark m.CloseRound ∷ l.Mark m.Dot ∷ vs)
      (same_lists guard ts (between ++ bound) (between ++ us) (pred_names h) (optional_names variable_parts variable_names i)) (after_names j)

  after_names : {ts : List Lexeme} {us : List Update} {A : Process} → IsAfter ts us A →
      names_in (lexemes (flat_map update_parts us) ++ lexemes (placed 2 A)) ≡ names_in ts
  after_names (q.after {ts} {us} {updates} {A} h i) =
      same_lists (lexemes (flat_map update_parts updates)) ts (lexemes (placed 2 A)) us (repeated_names update_parts update_names h)
      (placed_names 2 A us (prefix_names i))

-- ---- programs
definition_names : (ts : List Lexeme) (d : Name × Process) → IsDefinition ts d → named (definition_parts d) ≡ names_in ts
definition_names _ _ (g.definition {c} {ts} {A} h) =
    λ i. l.Name c ∷ same_pieces (process_parts A) (mark m.Semicolon ∷ Line ∷ []) ts (l.Mark m.Semicolon ∷ []) (process_names h) refl i

initial_names : (ts : List Lexeme) (x : Name × Value) → IsInitial ts x → named (initial_parts x) ≡ names_in ts
initial_names _ _ (g.initial {a} {ts} {v} h) =
    λ i. l.Name a ∷ same_pieces (literal_parts v) (mark m.Semicolon ∷ Line ∷ []) ts (l.Mark m.Semicolon ∷ []) (literal_names ts v h) refl i

-- what is printed of a name
abbrev name_parts : Name → List Part
name_parts n = name n ∷ []

name_names : (ts : List Lexeme) (n : Name) → IsName ts n → named (name_parts n) ≡ names_in ts
name_names _ _ listing.name = refl

shown_named : (names : List Name) → named (shown_parts names) ≡ names_of_all name_parts names
shown_named [] = refl
shown_named (a ∷ names) = listed_named name_parts (a ∷ names)

component_names : (ts : List Lexeme) (C : PlainComponent) → IsComponent ts C → named (component_parts C) ≡ names_in ts
component_names _ _ (g.component {c} {ts} {us} {vs} {first} {shown} {A} h i j) =
    let attributes : List Part = flat_map initial_parts first in
    let show : List Part = Space ∷ Space ∷ keyword k.Show ∷ shown_parts shown in
    let run : List Part = mark m.Semicolon ∷ Line ∷ Space ∷ Space ∷ keyword k.Run ∷ Space ∷ process_parts A in
    let show_ts : List Lexeme = l.Keyword k.Show ∷ us in
    let run_ts : List Lexeme = l.Mark m.Semicolon ∷ l.Keyword k.Run ∷ vs in
    λ d. l.Name c ∷ same_pieces (attributes ++ show ++ run) (mark m.Semicolon ∷ Line ∷ mark m.CloseCurly ∷ Line ∷ []) (ts ++ show_ts ++ run_ts)
    (l.Mark m.Semicolon ∷ l.Mark m.CloseCurly ∷ [])
    (same_pieces (attributes ++ show) run (ts ++ show_ts) run_ts
    (same_pieces attributes show ts show_ts (repeated_names initial_parts initial_names h) (shown_named shown ∙ all_optional name_parts name_names i))
    (process_names j)) refl d

program_names : (ts : List Lexeme) (p : PlainProgram) → IsProgram ts p → named (program_parts p) ≡ names_in ts
program_names _ _ (g.headed_1 {ts} {us} {definitions} {components} h i) =
    same_pieces (flat_map definition_parts definitions) (flat_map component_parts components) ts us
    (repeated_names definition_parts definition_names h) (repeated_names component_parts component_names i)

pub names_are_kept : NamesAreKept
names_are_kept = record { preds = λ ts p h. pred_names h; programs = program_names }
