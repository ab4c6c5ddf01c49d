-- What is printed of a program is of the grammar.
use Rattle.std.specs.Prelude.{flat_map}
use Rattle.std.proofs.Common.{List, [], ◌∷◌, ◌++◌}
use Rattle.abc_value.specs.declared.value.Value.{Value}
use Rattle.abc_pred.specs.declared.names.Name.{Name}
use Rattle.abc_text.specs.declared.words.Mark.TheVariants as m
use Rattle.abc_text.specs.declared.words.Keyword.TheVariants as k
use Rattle.abc_term.specs.Processes.{Process}
use Rattle.abc_grammar.specs.declared.lexemes.Lexeme.{Lexeme}
use Rattle.abc_grammar.specs.declared.lexemes.Lexeme.TheVariants as l
use Rattle.abc_grammar.specs.Listed.{MayBeListed, IsName}
use Rattle.abc_grammar.specs.Listed as listing
use Rattle.abc_grammar.specs.Plain.{PlainComponent, PlainProgram}
use Rattle.abc_grammar.specs.Programs.{IsDefinition, IsInitial, IsComponent, IsProgram}
use Rattle.abc_grammar.specs.Programs as g
use Rattle.abc_printed.specs.Parts.{Part, Space, Line, mark, keyword, name, lexemes}
use Rattle.abc_printed.specs.Forms.{literal_parts, process_parts, definition_parts, initial_parts, shown_parts, component_parts, program_parts}
use Rattle.abc_printed.specs.Printable.{DefinitionHasValues, InitialHasValue, ComponentHasValues, ProgramHasValues}
use Rattle.abc_printed_laws.specs.Grammar.{PrintsAreTerms}
use Rattle.abc_printed_laws.proofs.Parts.{of_pieces}
use Rattle.abc_printed_laws.proofs.Listed.{may_be_listed, are_repeated}
use Rattle.abc_printed_laws.proofs.Literals.{literal_is}
use Rattle.abc_printed_laws.proofs.Operands.{operand_is}
use Rattle.abc_printed_laws.proofs.Exprs.{expr_is}
use Rattle.abc_printed_laws.proofs.Preds.{pred_is}
use Rattle.abc_printed_laws.proofs.Processes.{process_is}

-- A definition, a component's first value, a name and the names that a component shows.
definition_is : (d : Name × Process) → DefinitionHasValues d → IsDefinition (lexemes (definition_parts d)) d
definition_is (c, A) h =
    of_pieces (λ ts. IsDefinition (l.Keyword k.Def ∷ l.Name c ∷ l.Mark m.Equal ∷ ts) (c, A)) (process_parts A) (mark m.Semicolon ∷ Line ∷ [])
    (g.definition (process_is A h))

initial_is : (x : Name × Value) → InitialHasValue x → IsInitial (lexemes (initial_parts x)) x
initial_is (a, v) h =
    of_pieces (λ ts. IsInitial (l.Name a ∷ l.Mark m.Equal ∷ ts) (a, v)) (literal_parts v) (mark m.Semicolon ∷ Line ∷ [])
    (g.initial (literal_is v h))

name_is : (n : Name) → Unit {0} → IsName (lexemes (name n ∷ [])) n
name_is n h = listing.name

shown_is : (names : List Name) → MayBeListed IsName (lexemes (shown_parts names)) names
shown_is [] = listing.none
shown_is (a ∷ names) = may_be_listed IsName (λ n. Unit {0}) (λ n. name n ∷ []) name_is (a ∷ names) (λ i d lt. tt)

-- A component, piece by piece.
component_is : (C : PlainComponent) → ComponentHasValues C → IsComponent (lexemes (component_parts C)) C
component_is C h =
    let run : List Part = mark m.Semicolon ∷ Line ∷ Space ∷ Space ∷ keyword k.Run ∷ Space ∷ process_parts C.run in
    let show : List Part = Space ∷ Space ∷ keyword k.Show ∷ shown_parts C.show in
    let first : List Part = flat_map initial_parts C.initial in
    let head : List Lexeme → List Lexeme = λ ts. l.Keyword k.Comp ∷ l.Name C.name ∷ l.Mark m.OpenCurly ∷ ts in
    let end : List Lexeme = l.Mark m.Semicolon ∷ l.Mark m.CloseCurly ∷ [] in
    of_pieces (λ ts. IsComponent (head ts) C) (first ++ show ++ run) (mark m.Semicolon ∷ Line ∷ mark m.CloseCurly ∷ Line ∷ [])
    (of_pieces (λ ts. IsComponent (head (ts ++ end)) C) (first ++ show) run
    (of_pieces (λ ts. IsComponent (head (ts ++ lexemes run ++ end)) C) first show
    (g.component (are_repeated IsInitial InitialHasValue initial_parts initial_is C.initial h.initial) (shown_is C.show) (process_is C.run h.run))))

-- A program, where its literals are values.
pub program_is : (p : PlainProgram) → ProgramHasValues p → IsProgram (lexemes (program_parts p)) p
program_is p h =
    of_pieces (λ ts. IsProgram (l.Keyword k.Abc ∷ l.Number 1 ∷ l.Mark m.Semicolon ∷ ts) p) (flat_map definition_parts p.definitions)
    (flat_map component_parts p.components)
    (g.headed_1 (are_repeated IsDefinition DefinitionHasValues definition_parts definition_is p.definitions h.definitions)
    (are_repeated IsComponent ComponentHasValues component_parts component_is p.components h.components))

pub prints_are_terms : PrintsAreTerms
prints_are_terms = record { operands = operand_is; exprs = expr_is; preds = pred_is; processes = process_is; programs = program_is }
