-- What is printed of a program has brackets as deep as its text at most, and no definition and no component has a token more.
use Rattle.std.proofs.Common.{◌≡◌, ℕ, ◌+◌, ◌≤◌, true, List, [], ◌∷◌, ◌++◌, length, Option, Some, None, refl, sym, ap, ◌∙◌, subst, append_assoc, arith}
use Rattle.std.specs.Prelude.{flat_map}
use Rattle.abc_value.specs.declared.value.Value.{Value}
use Rattle.abc_pred.specs.declared.names.Name.{Name}
use Rattle.abc_term.specs.Processes.{Process}
use Rattle.abc_text.specs.declared.words.Mark.TheVariants as m
use Rattle.abc_text.specs.declared.words.Keyword.TheVariants as k
use Rattle.abc_grammar.specs.declared.lexemes.Lexeme.{Lexeme}
use Rattle.abc_grammar.specs.declared.lexemes.Lexeme.TheVariants as l
use Rattle.abc_grammar.specs.Listed.{AreRepeated, IsName}
use Rattle.abc_grammar.specs.Listed as gl
use Rattle.abc_grammar.specs.declared.limits.TheConstants.{MOST_TOKENS}
use Rattle.abc_grammar.specs.Limits.{open_with, open_behind, starts_item}
use Rattle.abc_grammar.specs.Laws.{Balanced}
use Rattle.abc_grammar.specs.Plain.{PlainComponent, PlainProgram}
use Rattle.abc_grammar.specs.Programs.{IsDefinition, IsInitial, IsComponent, IsProgram}
use Rattle.abc_grammar.specs.Programs as g
use Rattle.abc_grammar.proofs.Balance.{open_behind-append}
use Rattle.abc_printed.specs.Parts.{Part, Token, Space, Line, mark, keyword, name, lexemes, listed}
use Rattle.abc_printed.specs.Forms.{initial_parts, shown_parts, definition_parts, component_parts, process_parts, program_parts}
use Rattle.abc_printed_laws.proofs.Parts.{lexemes-append}
use Rattle.abc_printed_limits.proofs.Depths.{Fits, fits_append, fits_front, fits_back, curly}
use Rattle.abc_printed_limits.proofs.Prints.{Prints, prints_none, prints_space, prints_line, prints_cons, prints_append, prints_then, optional_prints, repeated_prints, repeated_more}
use Rattle.abc_printed_limits.proofs.Literals.{literal_prints}
use Rattle.abc_printed_limits.proofs.Processes.{process_printed}
use Rattle.abc_printed_limits.proofs.Items.{Roomy, roomy_append, roomy_front, roomy_back, item_after, item_first, few_roomy, roomy_few}

-- ---- definitions and components
-- What goes over from the text of definitions and components to their print.
pub record Whole (ts us : List Lexeme) : Type 0 where
  pub text : Balanced ts
  pub print : Balanced us
  pub fits : (room n : ℕ) → Fits room n ts → Fits room n us
  pub roomy : (i j : Option ℕ) → Roomy i ts → Roomy j us
  pub again : (i j : Option ℕ) → Roomy i ts → Roomy j ts

-- none
whole_none : Whole [] []
whole_none = record { text = λ n. refl; print = λ n. refl; fits = λ room n f. f; roomy = λ i j r. tt; again = λ i j r. tt }

-- balanced tokens behind balanced ones
balanced_append : (ts us : List Lexeme) → Balanced ts → Balanced us → Balanced (ts ++ us)
balanced_append ts us h k n = open_behind-append ts us n ∙ ap (λ (i : ℕ). open_behind i us) (h n) ∙ k n

-- some behind others
whole_append : (ts us vs ws : List Lexeme) → Whole ts us → Whole vs ws → Whole (ts ++ vs) (us ++ ws)
whole_append ts us vs ws h k = record {
  text = balanced_append ts vs h.text k.text;
  print = balanced_append us ws h.print k.print;
  fits = λ room n f. fits_append room n us ws (h.fits room n (fits_front room n ts vs f))
      (subst (λ (i : ℕ). Fits room i ws) (sym (h.print n)) (k.fits room n (subst (λ (i : ℕ). Fits room i vs) (h.text n) (fits_back room n ts vs f))));
  roomy = λ i j r. roomy_append j us ws (h.roomy i j (roomy_front i ts vs r)) (k.roomy (item_after i ts) (item_after j us) (roomy_back i ts vs r));
  again = λ i j r. roomy_append j ts vs (h.again i j (roomy_front i ts vs r)) (k.again (item_after i ts) (item_after j ts) (roomy_back i ts vs r));
}

-- a token that begins one, and what is inside
whole_item : (t : Lexeme) {ts : List Lexeme} {ps : List Part} → starts_item t ≡ true → ((n : ℕ) → open_with n t ≡ n) → Prints ts ps →
    Whole (t ∷ ts) (lexemes (Token t ∷ ps))
whole_item t {ts} {ps} starts flat h =
    let s = h.less in
    let text = s.text in
    let print = s.print in
    let balanced : (us : List Lexeme) → Balanced us → Balanced (t ∷ us) = λ us b n. ap (λ (i : ℕ). open_behind i us) (flat n) ∙ b n in
    let no_more : (room : ℕ) → room + 0 ≡ room = λ room. omega arith in
    let fit : (room n : ℕ) → Fits room n (t ∷ ts) → Fits room n (t ∷ lexemes ps) = λ room n f. (
      f.0,
      subst (λ (i : ℕ). Fits room i (lexemes ps)) (sym (flat n))
          (subst (λ (r : ℕ). Fits r n (lexemes ps)) (no_more room) (s.fits room n (subst (λ (i : ℕ). Fits room i ts) (flat n) f.1))),
    ) in
    let most : (i : Option ℕ) → Roomy i (t ∷ ts) → 1 + length ts ≤ MOST_TOKENS =
    λ i r. roomy_few 1 ts text.inside (omega arith) (subst (λ (o : Option ℕ). Roomy o ts) (item_first i t starts).1 r.1) in
    let few : (i : Option ℕ) → Roomy i (t ∷ ts) → Roomy (Some 1) (lexemes ps) = λ i r.
    (let few_more = most i r in
    let short = h.shorter in
    few_roomy 1 (lexemes ps) print.inside (omega (arith, few_more, short))) in
    record {
      text = balanced ts text.balanced;
      print = balanced (lexemes ps) print.balanced;
      fits = fit;
      roomy = λ i j r. ((item_first j t starts).0, subst (λ (o : Option ℕ). Roomy o (lexemes ps)) (sym (item_first j t starts).1) (few i r));
      again = λ i j r. (
        (item_first j t starts).0,
        subst (λ (o : Option ℕ). Roomy o ts) (sym (item_first j t starts).1) (few_roomy 1 ts text.inside (most i r)),
      );
    }

-- definitions, or components, one behind another
repeated_whole : {A : Type 0} (Item : List Lexeme → A → Type 0) (print : A → List Part) →
    ((ts : List Lexeme) (a : A) → Item ts a → Whole ts (lexemes (print a))) → {ts : List Lexeme} {items : List A} → AreRepeated Item ts items →
    Whole ts (lexemes (flat_map print items))
repeated_whole Item print each gl.none = whole_none
repeated_whole Item print each (gl.more {ts} {us} {items} {a} h i) =
    subst (Whole (ts ++ us)) (sym (ap lexemes (repeated_more print items a) ∙ lexemes-append (flat_map print items) (print a)))
    (whole_append ts (lexemes (flat_map print items)) us (lexemes (print a)) (repeated_whole Item print each h) (each us a i))

-- a definition
definition_whole : (ts : List Lexeme) (d : Name × Process) → IsDefinition ts d → Whole ts (lexemes (definition_parts d))
definition_whole _ _ (g.definition {c = c} h) =
    whole_item (l.Keyword k.Def) refl (λ n. refl)
    (prints_space (prints_cons (l.Name c) (λ n. refl, refl) (prints_space (prints_cons (l.Mark m.Equal) (λ n. refl, refl) (prints_space
    (prints_append (process_printed h) (prints_cons (l.Mark m.Semicolon) (λ n. refl, refl) (prints_line prints_none))))))))

-- the first value of an attribute
initial_prints : (ts : List Lexeme) (x : Name × Value) → IsInitial ts x → Prints ts (initial_parts x)
initial_prints _ _ (g.initial {a = a} h) =
    prints_space (prints_space (prints_cons (l.Name a) (λ n. refl, refl) (prints_space (prints_cons (l.Mark m.Equal) (λ n. refl, refl) (prints_space
    (prints_append (literal_prints h) (prints_cons (l.Mark m.Semicolon) (λ n. refl, refl) (prints_line prints_none))))))))

-- a name
name_prints : (ts : List Lexeme) (a : Name) → IsName ts a → Prints ts (name a ∷ [])
name_prints _ _ (gl.name {n = a}) = prints_cons (l.Name a) (λ n. refl, refl) prints_none

-- the attributes that are shown
shown_prints : (ts : List Lexeme) (names : List Name) → Prints ts (listed (λ n. name n ∷ []) names) → Prints ts (shown_parts names)
shown_prints ts [] h = h
shown_prints ts (a ∷ names) h = prints_space h

-- a component
component_whole : (ts : List Lexeme) (C : PlainComponent) → IsComponent ts C → Whole ts (lexemes (component_parts C))
component_whole _ _ (g.component {c = c} {ts} {us} {vs} {first} {shown} {A} h i j) =
    let front : List Lexeme = ts ++ l.Keyword k.Show ∷ us ++ l.Mark m.Semicolon ∷ l.Keyword k.Run ∷ vs in
    let parts : List Part =
    flat_map initial_parts first ++ Space ∷ Space ∷ keyword k.Show ∷ shown_parts shown
    ++ mark m.Semicolon ∷ Line ∷ Space ∷ Space ∷ keyword k.Run ∷ Space ∷ process_parts A in
    let text = append_assoc front (l.Mark m.Semicolon ∷ []) (l.Mark m.CloseCurly ∷ []) in
    let print = append_assoc parts (mark m.Semicolon ∷ Line ∷ []) (mark m.CloseCurly ∷ Line ∷ []) in
    let names = shown_prints us shown (optional_prints IsName (λ n. name n ∷ []) name_prints i) in
    let run : Prints (l.Mark m.Semicolon ∷ l.Keyword k.Run ∷ vs) (mark m.Semicolon ∷ Line ∷ Space ∷ Space ∷ keyword k.Run ∷ Space ∷ process_parts A) =
    prints_cons (l.Mark m.Semicolon) (λ n. refl, refl) (prints_line (prints_space (prints_space
    (prints_cons (l.Keyword k.Run) (λ n. refl, refl) (prints_space (process_printed j)))))) in
    let show : Prints (l.Keyword k.Show ∷ us) (Space ∷ Space ∷ keyword k.Show ∷ shown_parts shown) =
    prints_space (prints_space (prints_cons (l.Keyword k.Show) (λ n. refl, refl) names)) in
    let values = repeated_prints IsInitial initial_parts initial_prints h in
    let inside : Prints (front ++ l.Mark m.Semicolon ∷ []) (parts ++ mark m.Semicolon ∷ Line ∷ []) =
    prints_append (prints_append (prints_append values show) run) (prints_cons (l.Mark m.Semicolon) (λ n. refl, refl) (prints_line prints_none)) in
    let braced : Prints (l.Mark m.OpenCurly ∷ (front ++ l.Mark m.Semicolon ∷ []) ++ l.Mark m.CloseCurly ∷ [])
    (mark m.OpenCurly ∷ (Line ∷ (parts ++ mark m.Semicolon ∷ Line ∷ [])) ++ mark m.CloseCurly ∷ Line ∷ []) =
    prints_then (l.Mark m.OpenCurly) (l.Mark m.CloseCurly) curly (prints_line inside) (prints_line prints_none) in
    subst (λ (ws : List Lexeme). Whole (l.Keyword k.Comp ∷ l.Name c ∷ l.Mark m.OpenCurly ∷ ws)
    (lexemes (component_parts (record { name = c; initial = first; show = shown; run = A })))) text
    (subst (λ (ps : List Part).
    Whole (l.Keyword k.Comp ∷ l.Name c ∷ l.Mark m.OpenCurly ∷ (front ++ l.Mark m.Semicolon ∷ [] ++ l.Mark m.CloseCurly ∷ []))
    (lexemes (keyword k.Comp ∷ Space ∷ name c ∷ Space ∷ mark m.OpenCurly ∷ Line ∷ ps))) print
    (whole_item (l.Keyword k.Comp) refl (λ n. refl) (prints_space (prints_cons (l.Name c) (λ n. refl, refl) (prints_space braced)))))

-- ---- programs
-- all definitions and components
program_whole : {ts us : List Lexeme} {definitions : List (Name × Process)} {components : List PlainComponent} →
    AreRepeated IsDefinition ts definitions → AreRepeated IsComponent us components →
    Whole (ts ++ us) (lexemes (flat_map definition_parts definitions ++ flat_map component_parts components))
program_whole {ts} {us} {definitions} {components} h i =
    let ds = flat_map definition_parts definitions in
    let cs = flat_map component_parts components in
    subst (Whole (ts ++ us)) (sym (lexemes-append ds cs))
    (whole_append ts (lexemes ds) us (lexemes cs) (repeated_whole IsDefinition definition_parts definition_whole h)
    (repeated_whole IsComponent component_parts component_whole i))

-- A program's print has no bracket deeper than its text.
pub program_fits : {ts : List Lexeme} {p : PlainProgram} → IsProgram ts p → (room : ℕ) → Fits room 0 ts → Fits room 0 (lexemes (program_parts p))
program_fits (g.headed_1 h i) room f = let w = program_whole h i in (f.0, (f.1.0, (f.1.1.0, w.fits room 0 f.1.1.1)))

-- No definition and no component of a print has a token too many.
pub program_roomy : {ts : List Lexeme} {p : PlainProgram} → IsProgram ts p → Roomy None ts → Roomy None (lexemes (program_parts p))
program_roomy (g.headed_1 h i) r = let w = program_whole h i in (r.0, (r.1.0, (r.1.1.0, w.roomy None None r.1.1.1)))

-- a text that is roomy is so behind a token too
pub program_again : {ts : List Lexeme} {p : PlainProgram} → IsProgram ts p → Roomy None ts → Roomy (Some 0) ts
program_again (g.headed_1 h i) r = let w = program_whole h i in (refl, (refl, (refl, w.again None (Some 3) r.1.1.1)))
