-- The bytes of definitions, components and programs.
use Rattle.std.proofs.Common.{◌≡◌, ℕ, List, [], ◌∷◌, ◌++◌, flat_map, map, length, ◌<◌, ◌≤◌, arith, codes, refl, ap, sym, ◌∙◌, append-nil}
use Rattle.std.proofs.Common.{append_assoc}
use Rattle.std.specs.Fmt.{digits}
use Rattle.abc_value.specs.declared.value.Value.{Value}
use Rattle.abc_value.specs.Literals.{literal}
use Rattle.abc_pred.specs.declared.names.Name.{Name}
use Rattle.abc_text.specs.declared.words.Mark.TheVariants as m
use Rattle.abc_text.specs.declared.words.Keyword.TheVariants as k
use Rattle.abc_term.specs.declared.terms.Program.{Program}
use Rattle.abc_term.specs.Standing.{process_of, definitions_of}
use Rattle.abc_term.specs.Processes.{Process}
use Rattle.abc_grammar.specs.Plain.{PlainComponent, plain_component}
use Rattle.abc_printed.specs.Parts.{Part, Space, Line, mark, keyword, name, word_at, bytes_of}
use Rattle.abc_printed.specs.Forms.{literal_parts, process_parts, spaced, definition_parts, initial_parts, shown_parts, component_parts}
use Rattle.abc_printed.specs.Printed.{program_text}
use Rattle.abc_print.specs.Bytes.{name_list, process_bytes, definition_bytes, initial_bytes, shown_bytes, opening_bytes, closing_bytes}
use Rattle.abc_print.specs.Bytes.{component_bytes}
use Rattle.abc_print.proofs.Joined.{bytes-append, bytes-three, bytes-flat, bytes-flat-map}
use Rattle.abc_print.proofs.LiteralBytes.{literals}
use Rattle.abc_print.proofs.ProcessBytes.{process-lowest}

pub definition-bytes :
    (words : List (List ℕ)) (c : Name) (A : Process)
    → definition_bytes words (c, A) ≡ codes "def " ++ (word_at words c ++ (codes " = " ++ (process_bytes words 0 A ++ codes ";\n")))
unfolding definition_bytes
definition-bytes words c A =
    bytes-three words (keyword k.Def ∷ Space ∷ name c ∷ spaced (mark m.Equal)) (process_parts A) (mark m.Semicolon ∷ Line ∷ [])
    ∙ ap (λ rest. codes "def " ++ rest) (append_assoc (word_at words c) (codes " = ") (bytes_of words (process_parts A) ++ codes ";\n"))
    ∙ ap (λ text. codes "def " ++ (word_at words c ++ (codes " = " ++ (text ++ codes ";\n")))) (sym (process-lowest words A))

pub initial-bytes :
    (words : List (List ℕ)) (a : Name × Value)
    → initial_bytes words a ≡ codes "  " ++ (word_at words a.0 ++ (codes " = " ++ (literal a.1 ++ codes ";\n")))
unfolding initial_bytes
initial-bytes words a =
    bytes-three words (Space ∷ Space ∷ name a.0 ∷ spaced (mark m.Equal)) (literal_parts a.1) (mark m.Semicolon ∷ Line ∷ [])
    ∙ ap (λ rest. codes "  " ++ rest) (append_assoc (word_at words a.0) (codes " = ") (bytes_of words (literal_parts a.1) ++ codes ";\n"))
    ∙ ap (λ text. codes "  " ++ (word_at words a.0 ++ (codes " = " ++ (text ++ codes ";\n")))) (literals words a.1)

pub shown-nil : (words : List (List ℕ)) (names : List Name) → length names < 1 → shown_bytes words names ≡ []
unfolding shown_bytes
shown-nil words [] h = refl
shown-nil words (a ∷ names) h = absurd (omega arith)

pub shown-cons : (words : List (List ℕ)) (names : List Name) → 1 ≤ length names → shown_bytes words names ≡ 32 ∷ name_list words names
unfolding shown_bytes name_list
shown-cons words [] h = absurd (omega arith)
shown-cons words (a ∷ names) h = refl

pub opening-bytes :
    (words : List (List ℕ)) (C : PlainComponent)
    → opening_bytes words C ≡ codes "comp " ++ (word_at words C.name ++ (codes " {\n" ++ flat_map (initial_bytes words) C.initial))
unfolding opening_bytes initial_bytes
opening-bytes words C =
    ap (λ lines. codes "comp " ++ (word_at words C.name ++ (codes " {\n" ++ lines))) (bytes-flat words initial_parts C.initial)

pub closing-bytes :
    (words : List (List ℕ)) (shown : List Name) (A : Process)
    → closing_bytes words shown A
    ≡ codes "  show" ++ (shown_bytes words shown ++ (codes ";\n  run " ++ (process_bytes words 0 A ++ codes ";\n}\n")))
unfolding closing_bytes shown_bytes
closing-bytes words shown A =
    let show : List Part = Space ∷ Space ∷ keyword k.Show ∷ shown_parts shown in
    let run : List Part = mark m.Semicolon ∷ Line ∷ Space ∷ Space ∷ keyword k.Run ∷ Space ∷ process_parts A in
    let end : List Part = mark m.Semicolon ∷ Line ∷ mark m.CloseCurly ∷ Line ∷ [] in
    bytes-three words show run end
    ∙ ap (λ text. bytes_of words show ++ (codes ";\n  run " ++ (text ++ codes ";\n}\n"))) (sym (process-lowest words A))

pub component-bytes :
    (words : List (List ℕ)) (C : PlainComponent) → component_bytes words C ≡ opening_bytes words C ++ closing_bytes words C.show C.run
unfolding component_bytes opening_bytes closing_bytes
component-bytes words C =
    let opening : List Part = keyword k.Comp ∷ Space ∷ name C.name ∷ Space ∷ mark m.OpenCurly ∷ Line ∷ flat_map initial_parts C.initial in
    let show : List Part = Space ∷ Space ∷ keyword k.Show ∷ shown_parts C.show in
    let run : List Part = mark m.Semicolon ∷ Line ∷ Space ∷ Space ∷ keyword k.Run ∷ Space ∷ process_parts C.run in
    let end : List Part = mark m.Semicolon ∷ Line ∷ mark m.CloseCurly ∷ Line ∷ [] in
    ap (bytes_of words) (append_assoc (opening ++ show) run end ∙ append_assoc opening show (run ++ end))
    ∙ bytes-append words opening (show ++ (run ++ end))
    ∙ ap (λ text. bytes_of words opening ++ text) (ap (bytes_of words) (sym (append_assoc show run end)))

pub program-bytes :
    (p : Program)
    → program_text p
    ≡ codes "abc 1;\n"
    ++ (flat_map (λ d. definition_bytes p.names (d.name, process_of d.body)) p.definitions
    ++ flat_map (λ C. component_bytes p.names (plain_component C)) p.components)
unfolding digits definition_bytes component_bytes
program-bytes p =
    ap (λ text. codes "abc 1;\n" ++ text)
    (bytes-append p.names (flat_map definition_parts (definitions_of p.definitions)) (flat_map component_parts (map plain_component p.components))
    ∙ ap (λ text. text ++ bytes_of p.names (flat_map component_parts (map plain_component p.components)))
    (bytes-flat-map p.names definition_parts (λ d. (d.name, process_of d.body)) p.definitions)
    ∙ ap (λ text. flat_map (λ d. bytes_of p.names (definition_parts (d.name, process_of d.body))) p.definitions ++ text)
    (bytes-flat-map p.names component_parts plain_component p.components))

pub ruleset program_forms = (
  append_assoc,
  append-nil,
  definition-bytes,
  initial-bytes,
  shown-nil,
  shown-cons,
  opening-bytes,
  closing-bytes,
  component-bytes,
  program-bytes,
)
