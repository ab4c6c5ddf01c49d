-- A machine that goes over the tokens of a program.
use Rattle.std.proofs.Common.{◌≡◌, zero, suc, List, [], ◌∷◌, ◌++◌, Option, Some, None, refl, ap, sym, ◌∙◌, append_assoc}
use Rattle.abc_value.specs.declared.value.Value.{Value}
use Rattle.abc_pred.specs.declared.names.Name.{Name}
use Rattle.abc_pred.specs.Terms.{Operand}
use Rattle.abc_pred.specs.Terms as o
use Rattle.abc_term.specs.Processes.{Process}
use Rattle.abc_grammar.specs.declared.lexemes.Lexeme.{Lexeme}
use Rattle.abc_grammar.specs.declared.lexemes.Lexeme.TheVariants as l
use Rattle.abc_text.specs.declared.words.Mark.TheVariants as m
use Rattle.abc_text.specs.declared.words.Keyword.TheVariants as k
use Rattle.abc_grammar.specs.Listed.{AreListed, MayBeListed, AreRepeated, IsName}
use Rattle.abc_grammar.specs.Listed as listed
use Rattle.abc_grammar.specs.Operands as operands
use Rattle.abc_grammar.specs.Plain.{PlainComponent, PlainProgram}
use Rattle.abc_grammar.specs.Programs.{IsDefinition, IsInitial, IsComponent, IsProgram}
use Rattle.abc_grammar.specs.Programs as g
use Rattle.abc_grammar.proofs.Runs.{run, run_on}
use Rattle.abc_grammar.proofs.Embedded.{taken, through}
use Rattle.abc_grammar.proofs.OperandRuns.{State, start}
use Rattle.abc_grammar.proofs.OperandRuns as operand
use Rattle.abc_grammar.proofs.Inner.{value, Stops, came}
use Rattle.abc_grammar.proofs.ProcessRuns.{ProcessState, state, Want, fresh, Top, value_process, StopsProcess, process_came}
use Rattle.abc_grammar.proofs.ProcessRuns as process

-- a component on its way
pub record Begun : Type 0 where
  pub name : Name
  pub initial : List (Name × Value)
  pub show : List Name

abbrev pub begun : Name → List (Name × Value) → List Name → Begun
begun name initial show = record { name = name; initial = initial; show = show }

-- The header; a definition or a component comes; the places within them.
pub data Step : Type 0 where
  Header : Step
  Number : Step
  HeaderEnd : Step
  Item : Step
  DefName : Step
  DefEqual : Name → Step
  DefBody : Name → ProcessState → Step
  CompName : Step
  CompOpen : Name → Step
  Attribute : Begun → Step
  AttributeEqual : Begun → Name → Step
  AttributeValue : Begun → Name → State → Step
  Shown : Begun → Step
  ShownCame : Begun → Step
  RunWord : Begun → Step
  RunBody : Begun → ProcessState → Step
  CompClose : PlainComponent → Step

pub record ProgramState : Type 0 where
  pub at : Step
  pub program : PlainProgram

abbrev pub at_step : Step → PlainProgram → ProgramState
at_step at p = record { at = at; program = p }

abbrev pub process_start : ProcessState
process_start = state Want fresh Top

abbrev pub plain : List (Name × Process) → List PlainComponent → PlainProgram
plain definitions components = record { definitions = definitions; components = components }

abbrev pub with_definition : Name → Process → PlainProgram → PlainProgram
with_definition c A p = plain (p.definitions ++ (c, A) ∷ []) p.components

abbrev pub with_component : PlainComponent → PlainProgram → PlainProgram
with_component C p = plain p.definitions (p.components ++ C ∷ [])

-- ---- steps
abbrev pub header : PlainProgram → Lexeme → Option ProgramState
header p (l.Keyword k.Abc) = Some (at_step Number p)
header p _ = None

abbrev pub header_number : PlainProgram → Lexeme → Option ProgramState
header_number p (l.Number (suc zero)) = Some (at_step HeaderEnd p)
header_number p _ = None

abbrev pub semicolon : Step → PlainProgram → Lexeme → Option ProgramState
semicolon at p (l.Mark m.Semicolon) = Some (at_step at p)
semicolon at p _ = None

abbrev pub equal : Step → PlainProgram → Lexeme → Option ProgramState
equal at p (l.Mark m.Equal) = Some (at_step at p)
equal at p _ = None

abbrev pub item : PlainProgram → Lexeme → Option ProgramState
item p (l.Keyword k.Def) = Some (at_step DefName p)
item p (l.Keyword k.Comp) = Some (at_step CompName p)
item p _ = None

abbrev pub def_name : PlainProgram → Lexeme → Option ProgramState
def_name p (l.Name c) = Some (at_step (DefEqual c) p)
def_name p _ = None

abbrev pub behind_def : Name → PlainProgram → Lexeme → Process → Option ProgramState
behind_def c p (l.Mark m.Semicolon) A = Some (at_step Item (with_definition c A p))
behind_def c p _ A = None

abbrev pub comp_name : PlainProgram → Lexeme → Option ProgramState
comp_name p (l.Name c) = Some (at_step (CompOpen c) p)
comp_name p _ = None

abbrev pub comp_open : Name → PlainProgram → Lexeme → Option ProgramState
comp_open c p (l.Mark m.OpenCurly) = Some (at_step (Attribute (begun c [] [])) p)
comp_open c p _ = None

abbrev pub attribute : Begun → PlainProgram → Lexeme → Option ProgramState
attribute b p (l.Name a) = Some (at_step (AttributeEqual b a) p)
attribute b p (l.Keyword k.Show) = Some (at_step (Shown b) p)
attribute b p _ = None

abbrev pub with_literal : Begun → Name → PlainProgram → Operand → Option ProgramState
with_literal b a p (o.Literal v) = Some (at_step (Attribute (begun b.name (b.initial ++ (a, v) ∷ []) b.show)) p)
with_literal b a p _ = None

abbrev pub behind_value : Begun → Name → PlainProgram → Lexeme → Operand → Option ProgramState
behind_value b a p (l.Mark m.Semicolon) v = with_literal b a p v
behind_value b a p _ v = None

abbrev pub shown : Begun → PlainProgram → Lexeme → Option ProgramState
shown b p (l.Name a) = Some (at_step (ShownCame (begun b.name b.initial (b.show ++ a ∷ []))) p)
shown b p (l.Mark m.Semicolon) = Some (at_step (RunWord b) p)
shown b p _ = None

abbrev pub shown_came : Begun → PlainProgram → Lexeme → Option ProgramState
shown_came b p (l.Mark m.Comma) = Some (at_step (Shown b) p)
shown_came b p (l.Mark m.Semicolon) = Some (at_step (RunWord b) p)
shown_came b p _ = None

abbrev pub run_word : Begun → PlainProgram → Lexeme → Option ProgramState
run_word b p (l.Keyword k.Run) = Some (at_step (RunBody b process_start) p)
run_word b p _ = None

abbrev pub component : Begun → Process → PlainComponent
component b A = record { name = b.name; initial = b.initial; show = b.show; run = A }

abbrev pub behind_run : Begun → PlainProgram → Lexeme → Process → Option ProgramState
behind_run b p (l.Mark m.Semicolon) A = Some (at_step (CompClose (component b A)) p)
behind_run b p _ A = None

abbrev pub comp_close : PlainComponent → PlainProgram → Lexeme → Option ProgramState
comp_close C p (l.Mark m.CloseCurly) = Some (at_step Item (with_component C p))
comp_close C p _ = None

abbrev pub step_at : Step → PlainProgram → Lexeme → Option ProgramState
step_at Header p t = header p t
step_at Number p t = header_number p t
step_at HeaderEnd p t = semicolon Item p t
step_at Item p t = item p t
step_at DefName p t = def_name p t
step_at (DefEqual c) p t = equal (DefBody c process_start) p t
step_at (DefBody c s) p t = taken (λ r. at_step (DefBody c r) p) (behind_def c p t) None (process.step s t) (value_process s)
step_at CompName p t = comp_name p t
step_at (CompOpen c) p t = comp_open c p t
step_at (Attribute b) p t = attribute b p t
step_at (AttributeEqual b a) p t = equal (AttributeValue b a start) p t
step_at (AttributeValue b a s) p t = taken (λ r. at_step (AttributeValue b a r) p) (behind_value b a p t) None (operand.step s t) (value s)
step_at (Shown b) p t = shown b p t
step_at (ShownCame b) p t = shown_came b p t
step_at (RunWord b) p t = run_word b p t
step_at (RunBody b s) p t = taken (λ r. at_step (RunBody b r) p) (behind_run b p t) None (process.step s t) (value_process s)
step_at (CompClose C) p t = comp_close C p t

abbrev pub step : ProgramState → Lexeme → Option ProgramState
step s t = step_at s.at s.program t

-- ---- parts
definition_run :
    {ts : List Lexeme} {d : Name × Process} (p : PlainProgram) → IsDefinition ts d →
    run step (at_step Item p) ts ≡ Some (at_step Item (plain (p.definitions ++ d ∷ []) p.components))
definition_run p (g.definition {c} {ts} {A} h) =
    through process.step value_process StopsProcess process_start step (λ s. at_step (DefBody c s) p) (behind_def c p) (λ t. None) (λ s t. refl)
    ts A (process_came h) (l.Mark m.Semicolon) (λ _ _. refl) (at_step Item (with_definition c A p)) [] (Some (at_step Item (with_definition c A p))) refl refl

definitions_run :
    {ts : List Lexeme} {ds : List (Name × Process)} → AreRepeated IsDefinition ts ds →
    run step (at_step Item (plain [] [])) ts ≡ Some (at_step Item (plain ds []))
definitions_run listed.none = refl
definitions_run (listed.more {ts} {us} {items} first h) =
    run_on step _ (at_step Item (plain items [])) _ ts us (definitions_run first) (definition_run (plain items []) h)

initial_run :
    {ts : List Lexeme} {x : Name × Value} (b : Begun) (p : PlainProgram) → IsInitial ts x →
    run step (at_step (Attribute b) p) ts ≡ Some (at_step (Attribute (begun b.name (b.initial ++ x ∷ []) b.show)) p)
initial_run b p (g.initial {a} {ts} {v} h) =
    let z : ProgramState = at_step (Attribute (begun b.name (b.initial ++ (a, v) ∷ []) b.show)) p in
    through operand.step value Stops start step (λ s. at_step (AttributeValue b a s) p) (behind_value b a p) (λ t. None) (λ s t. refl)
    ts (o.Literal v) (came (operands.product (operands.atom (operands.literal h)))) (l.Mark m.Semicolon) (λ _ _. refl) z [] (Some z) refl refl

initials_run :
    {ts : List Lexeme} {xs : List (Name × Value)} (c : Name) (p : PlainProgram) → AreRepeated IsInitial ts xs →
    run step (at_step (Attribute (begun c [] [])) p) ts ≡ Some (at_step (Attribute (begun c xs [])) p)
initials_run c p listed.none = refl
initials_run c p (listed.more {ts} {us} {items} first h) =
    run_on step _ (at_step (Attribute (begun c items [])) p) _ ts us (initials_run c p first) (initial_run (begun c items []) p h)

names_run :
    {ts : List Lexeme} {xs : List Name} (c : Name) (initial : List (Name × Value)) (p : PlainProgram) → AreListed IsName ts xs →
    run step (at_step (Shown (begun c initial [])) p) ts ≡ Some (at_step (ShownCame (begun c initial xs)) p)
names_run c initial p (listed.one listed.name) = refl
names_run c initial p (listed.more {ts} {us} {items} first listed.name) =
    run_on step _ (at_step (ShownCame (begun c initial items)) p) _ ts (l.Mark m.Comma ∷ us) (names_run c initial p first) refl

show_run :
    {ts : List Lexeme} {xs : List Name} (us : List Lexeme) (z : Option ProgramState) (c : Name) (initial : List (Name × Value)) (p : PlainProgram) →
    MayBeListed IsName ts xs → run step (at_step (RunWord (begun c initial xs)) p) us ≡ z →
    run step (at_step (Shown (begun c initial [])) p) (ts ++ l.Mark m.Semicolon ∷ us) ≡ z
show_run us z c initial p listed.none k = k
show_run {xs = xs} us z c initial p (listed.some {ts} h) k =
    run_on step _ (at_step (ShownCame (begun c initial xs)) p) z ts (l.Mark m.Semicolon ∷ us) (names_run c initial p h) k

component_run :
    {ts : List Lexeme} {C : PlainComponent} (p : PlainProgram) → IsComponent ts C →
    run step (at_step Item p) ts ≡ Some (at_step Item (with_component C p))
component_run p (g.component {c} {ts} {us} {vs} {first} {shown = xs} {A} h i j) =
    let end : List Lexeme = l.Mark m.Semicolon ∷ l.Mark m.CloseCurly ∷ [] in
    let b : Begun = begun c first xs in
    ap (run step (at_step (Attribute (begun c [] [])) p))
    (append_assoc (ts ++ l.Keyword k.Show ∷ us) (l.Mark m.Semicolon ∷ l.Keyword k.Run ∷ vs) end ∙ append_assoc ts (l.Keyword k.Show ∷ us) (l.Mark m.Semicolon ∷ l.Keyword k.Run ∷ (vs ++ end)))
    ∙ run_on step _ (at_step (Attribute (begun c first [])) p) _ ts (l.Keyword k.Show ∷ (us ++ l.Mark m.Semicolon ∷ l.Keyword k.Run ∷ (vs ++ end))) (initials_run c p h)
    (show_run (l.Keyword k.Run ∷ (vs ++ end)) _ c first p i
    (through process.step value_process StopsProcess process_start step (λ s. at_step (RunBody b s) p) (behind_run b p) (λ t. None) (λ s t. refl)
    vs A (process_came j) (l.Mark m.Semicolon) (λ _ _. refl) (at_step (CompClose (component b A)) p) (l.Mark m.CloseCurly ∷ [])
    (Some (at_step Item (with_component (component b A) p))) refl refl))

components_run :
    {ts : List Lexeme} {Cs : List PlainComponent} (ds : List (Name × Process)) → AreRepeated IsComponent ts Cs →
    run step (at_step Item (plain ds [])) ts ≡ Some (at_step Item (plain ds Cs))
components_run ds listed.none = refl
components_run ds (listed.more {ts} {us} {items} first h) =
    run_on step _ (at_step Item (plain ds items)) _ ts us (components_run ds first) (component_run (plain ds items) h)

pub program_run : {ts : List Lexeme} {p : PlainProgram} → IsProgram ts p → run step (at_step Header (plain [] [])) ts ≡ Some (at_step Item p)
program_run (g.headed_1 {ts} {us} {definitions} {components} h i) =
    run_on step _ (at_step Item (plain definitions [])) _ ts us (definitions_run h) (components_run definitions i)

abbrev program_in : Option ProgramState → PlainProgram
program_in (Some s) = s.program
program_in None = plain [] []

-- The tokens of a program are in one way a program.
pub one_program : {ts : List Lexeme} {p q : PlainProgram} → IsProgram ts p → IsProgram ts q → p ≡ q
one_program h i = ap program_in (sym (program_run h) ∙ program_run i)
