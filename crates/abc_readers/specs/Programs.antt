-- Reading programs, as plain functions on lists of lexemes.
use Rattle.std.specs.Prelude.{ℕ, zero, suc, Bool, true, false, List, [], ◌∷◌, Option, Some, None}
use Rattle.abc_value.specs.declared.value.Value.{Value}
use Rattle.abc_pred.specs.declared.names.Name.{Name}
use Rattle.abc_term.specs.Processes.{Process}
use Rattle.abc_grammar.specs.declared.lexemes.Lexeme.{Lexeme}
use Rattle.abc_grammar.specs.declared.lexemes.Lexeme.TheVariants as l
use Rattle.abc_text.specs.declared.words.Mark.TheVariants as m
use Rattle.abc_text.specs.declared.words.Keyword.TheVariants as k
use Rattle.abc_grammar.specs.Plain.{PlainComponent, PlainProgram}
use Rattle.abc_reading.specs.Reading.{Read, ◌>>=◌, mapped}
use Rattle.abc_readers.specs.Operands.{Tokens, Reading, refuse, literal}
use Rattle.abc_readers.specs.Combining.{one, then_read, repeated, closed}
use Rattle.abc_readers.specs.Processes.{a_name, process}

-- ---- tokens that have a meaning
abbrev pub def_word : Lexeme → Option (Unit {0})
def_word (l.Keyword k.Def) = Some tt
def_word t = None

abbrev pub comp_word : Lexeme → Option (Unit {0})
comp_word (l.Keyword k.Comp) = Some tt
comp_word t = None

abbrev pub show_word : Lexeme → Option (Unit {0})
show_word (l.Keyword k.Show) = Some tt
show_word t = None

abbrev pub run_word : Lexeme → Option (Unit {0})
run_word (l.Keyword k.Run) = Some tt
run_word t = None

abbrev pub abc_word : Lexeme → Option (Unit {0})
abc_word (l.Keyword k.Abc) = Some tt
abc_word t = None

abbrev pub equal : Lexeme → Option (Unit {0})
equal (l.Mark m.Equal) = Some tt
equal t = None

abbrev pub semicolon : Lexeme → Option (Unit {0})
semicolon (l.Mark m.Semicolon) = Some tt
semicolon t = None

abbrev pub curly_opens : Lexeme → Option (Unit {0})
curly_opens (l.Mark m.OpenCurly) = Some tt
curly_opens t = None

abbrev pub curly_closes : Lexeme → Option (Unit {0})
curly_closes (l.Mark m.CloseCurly) = Some tt
curly_closes t = None

-- the number of the header is 1
abbrev pub is_one : ℕ → Option (Unit {0})
is_one zero = None
is_one (suc zero) = Some tt
is_one (suc (suc n)) = None

abbrev pub header_number : Lexeme → Option (Unit {0})
header_number (l.Number n) = is_one n
header_number t = None

-- ---- definitions
-- "def" NAME "=" proc ";"
abbrev pub definition_of : Unit {0} × (Name × (Unit {0} × (Process × Unit {0}))) → Name × Process
definition_of x = (x.1.0, x.1.1.1.0)

-- where `proc` reads processes
abbrev pub definition_with : (Tokens → Reading Process) → Tokens → Reading (Name × Process)
definition_with proc ts = mapped definition_of (then_read (one def_word) (then_read (one a_name) (then_read (one equal) (then_read proc
    (one semicolon)))) ts)

abbrev pub starts_definition : Lexeme → Bool
starts_definition (l.Keyword k.Def) = true
starts_definition t = false

-- ---- components
-- NAME "=" literal ";"
abbrev pub initial_of : Name × (Unit {0} × (Value × Unit {0})) → Name × Value
initial_of x = (x.0, x.1.1.0)

unfoldable pub initial : Tokens → Reading (Name × Value)
initial ts = mapped initial_of (then_read (one a_name) (then_read (one equal) (then_read literal (one semicolon))) ts)

abbrev pub starts_initial : Lexeme → Bool
starts_initial (l.Name n) = true
starts_initial t = false

-- "run" proc ";" "}"
abbrev pub run_of : Unit {0} × (Process × (Unit {0} × Unit {0})) → Process
run_of x = x.1.0

abbrev pub run_with : (Tokens → Reading Process) → Tokens → Reading Process
run_with proc ts = mapped run_of (then_read (one run_word) (then_read proc (then_read (one semicolon) (one curly_closes))) ts)

-- "show" [ NAME { "," NAME } ] ";"
abbrev pub shown_of : Unit {0} × List Name → List Name
shown_of x = x.1

unfoldable pub show_part : Tokens → Reading (List Name)
show_part ts = mapped shown_of (then_read (one show_word) (closed semicolon (one a_name)) ts)

-- "comp" NAME "{" { initial } show run
abbrev pub component_of : Unit {0} × (Name × (Unit {0} × (List (Name × Value) × (List Name × Process)))) → PlainComponent
component_of x = record { name = x.1.0; initial = x.1.1.1.0; show = x.1.1.1.1.0; run = x.1.1.1.1.1 }

abbrev pub component_with : (Tokens → Reading Process) → Tokens → Reading PlainComponent
component_with proc ts =
    mapped component_of
    (then_read (one comp_word) (then_read (one a_name) (then_read (one curly_opens) (then_read (repeated starts_initial initial)
    (then_read show_part (run_with proc))))) ts)

abbrev pub starts_component : Lexeme → Bool
starts_component (l.Keyword k.Comp) = true
starts_component t = false

-- ---- programs
-- "abc" 1 ";" { definition } { component }
abbrev pub program_of : Unit {0} × (Unit {0} × (Unit {0} × (List (Name × Process) × List PlainComponent))) → PlainProgram
program_of x = record { definitions = x.1.1.1.0; components = x.1.1.1.1 }

abbrev pub program_with : (Tokens → Reading Process) → Tokens → Reading PlainProgram
program_with proc ts =
    mapped program_of
    (then_read (one abc_word) (then_read (one header_number) (then_read (one semicolon) (then_read (repeated starts_definition
    (definition_with proc)) (repeated starts_component (component_with proc))))) ts)

-- nothing may follow
abbrev pub at_end : PlainProgram → Tokens → Reading PlainProgram
at_end p [] = Read p []
at_end p (t ∷ ts) = refuse (t ∷ ts)

abbrev pub whole_program_with : (Tokens → Reading Process) → Tokens → Reading PlainProgram
whole_program_with proc ts = program_with proc ts >>= at_end

-- ---- the same, limits aside
abbrev pub definition : Tokens → Reading (Name × Process)
definition ts = definition_with process ts

abbrev pub run_part : Tokens → Reading Process
run_part ts = run_with process ts

abbrev pub component : Tokens → Reading PlainComponent
component ts = component_with process ts

abbrev pub program : Tokens → Reading PlainProgram
program ts = program_with process ts

unfoldable pub whole_program : Tokens → Reading PlainProgram
whole_program ts = whole_program_with process ts
