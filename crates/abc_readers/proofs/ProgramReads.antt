-- Reading programs gives what is a program, and is refused where none goes on.
use Rattle.std.proofs.Common.{◌≡◌, ℕ, zero, suc, List, [], ◌∷◌, ◌++◌, Option, Some, None, refl, sym, ap, ◌∙◌, subst, append_assoc, append-nil}
use Rattle.abc_value.specs.declared.value.Value.{Value}
use Rattle.abc_value.specs.declared.value.Value.TheVariants as v
use Rattle.abc_pred.specs.declared.names.Name.{Name}
use Rattle.abc_term.specs.Processes.{Process}
use Rattle.abc_term.specs.Processes as P
use Rattle.abc_cause.specs.declared.Cause.TheVariants.{Syntax}
use Rattle.abc_grammar.specs.declared.lexemes.Lexeme.{Lexeme}
use Rattle.abc_grammar.specs.declared.lexemes.Lexeme.TheVariants as l
use Rattle.abc_text.specs.declared.words.Mark.TheVariants as m
use Rattle.abc_text.specs.declared.words.Keyword.TheVariants as k
use Rattle.abc_grammar.specs.Listed.{AreListed, MayBeListed, AreRepeated, IsName}
use Rattle.abc_grammar.specs.Listed as gl
use Rattle.abc_grammar.specs.Literals.{IsLiteral}
use Rattle.abc_grammar.specs.Literals as gs
use Rattle.abc_grammar.specs.Processes.{IsProcess}
use Rattle.abc_grammar.specs.Plain.{PlainComponent, PlainProgram}
use Rattle.abc_grammar.specs.Programs.{IsDefinition, IsInitial, IsComponent, IsProgram}
use Rattle.abc_grammar.specs.Programs as g
use Rattle.abc_reading.specs.Reading.{Read}
use Rattle.abc_reading.proofs.Laws.{Begins, Owes, Reads, bind_owes, mapped_owes, pure_owes, refuse_at_owes, first}
use Rattle.abc_readers.specs.Operands.{Tokens, Reading, literal}
use Rattle.abc_readers.specs.Combining.{one, IsOne, then_read, IsThen, repeated, closed, IsClosed}
use Rattle.abc_readers.specs.Processes.{a_name, process}
use Rattle.abc_readers.specs.Programs.{def_word, comp_word, show_word, run_word, abc_word, equal, semicolon, curly_opens, curly_closes, is_one, header_number, definition_of, definition, starts_definition, initial_of, initial, starts_initial, run_of, run_part, shown_of, show_part, component_of, component, starts_component, program_of, program, at_end, whole_program}
use Rattle.abc_readers.proofs.OperandReads.{literal_reads}
use Rattle.abc_readers.proofs.Combined.{one_reads, then_begins, then_reads, StartsSo, repeated_reads, closed_reads}
use Rattle.abc_readers.proofs.ProcessReads.{mark_is, name_is, some_mark, some_name, nil_process}
use Rattle.abc_readers.proofs.ProcessAgain.{process_reads}

-- ---- which token it is
only_def_word : (t : Lexeme) → def_word t ≡ Some tt → t ≡ l.Keyword k.Def
only_def_word (l.Keyword k.Def) e = refl
only_def_word t e = absurd (cc)

only_comp_word : (t : Lexeme) → comp_word t ≡ Some tt → t ≡ l.Keyword k.Comp
only_comp_word (l.Keyword k.Comp) e = refl
only_comp_word t e = absurd (cc)

only_show_word : (t : Lexeme) → show_word t ≡ Some tt → t ≡ l.Keyword k.Show
only_show_word (l.Keyword k.Show) e = refl
only_show_word t e = absurd (cc)

only_run_word : (t : Lexeme) → run_word t ≡ Some tt → t ≡ l.Keyword k.Run
only_run_word (l.Keyword k.Run) e = refl
only_run_word t e = absurd (cc)

only_abc_word : (t : Lexeme) → abc_word t ≡ Some tt → t ≡ l.Keyword k.Abc
only_abc_word (l.Keyword k.Abc) e = refl
only_abc_word t e = absurd (cc)

only_equal : (t : Lexeme) → equal t ≡ Some tt → t ≡ l.Mark m.Equal
only_equal (l.Mark m.Equal) e = refl
only_equal t e = absurd (cc)

only_semicolon : (t : Lexeme) → semicolon t ≡ Some tt → t ≡ l.Mark m.Semicolon
only_semicolon (l.Mark m.Semicolon) e = refl
only_semicolon t e = absurd (cc)

only_curly_opens : (t : Lexeme) → curly_opens t ≡ Some tt → t ≡ l.Mark m.OpenCurly
only_curly_opens (l.Mark m.OpenCurly) e = refl
only_curly_opens t e = absurd (cc)

only_curly_closes : (t : Lexeme) → curly_closes t ≡ Some tt → t ≡ l.Mark m.CloseCurly
only_curly_closes (l.Mark m.CloseCurly) e = refl
only_curly_closes t e = absurd (cc)

only_one : (n : ℕ) → is_one n ≡ Some tt → n ≡ 1
only_one zero e = absurd (cc)
only_one (suc zero) e = refl
only_one (suc (suc n)) e = absurd (cc)

only_header_number : (t : Lexeme) → header_number t ≡ Some tt → t ≡ l.Number 1
only_header_number (l.Number n) e = ap l.Number (only_one n e)
only_header_number t e = absurd (cc)

-- some tokens of each
some_def_word : Begins (IsOne def_word) []
some_def_word = some_mark def_word (l.Keyword k.Def) refl

some_comp_word : Begins (IsOne comp_word) []
some_comp_word = some_mark comp_word (l.Keyword k.Comp) refl

some_show_word : Begins (IsOne show_word) []
some_show_word = some_mark show_word (l.Keyword k.Show) refl

some_run_word : Begins (IsOne run_word) []
some_run_word = some_mark run_word (l.Keyword k.Run) refl

some_abc_word : Begins (IsOne abc_word) []
some_abc_word = some_mark abc_word (l.Keyword k.Abc) refl

some_equal : Begins (IsOne equal) []
some_equal = some_mark equal (l.Mark m.Equal) refl

some_semicolon : Begins (IsOne semicolon) []
some_semicolon = some_mark semicolon (l.Mark m.Semicolon) refl

some_curly_opens : Begins (IsOne curly_opens) []
some_curly_opens = some_mark curly_opens (l.Mark m.OpenCurly) refl

some_curly_closes : Begins (IsOne curly_closes) []
some_curly_closes = some_mark curly_closes (l.Mark m.CloseCurly) refl

some_header_number : Begins (IsOne header_number) []
some_header_number = some_mark header_number (l.Number 1) refl

some_process : Begins IsProcess []
some_process = (l.Number 0 ∷ [], P.Nil, nil_process)

some_literal : Begins IsLiteral []
some_literal = (l.Keyword k.None ∷ [], v.Nothing, gs.nothing)

-- ---- a term and a token behind it
module _ {A : Type 0} (R : Tokens → A → Type 0) (f : Tokens → Reading A) (law : Reads R f) (some : Begins R []) (meaning : Lexeme →
    Option (Unit {0})) (t : Lexeme) (means : meaning t ≡ Some tt) where
  ended_reads : Reads (IsThen R (IsOne meaning)) (then_read f (one meaning))
  ended_reads = then_reads R (IsOne meaning) f (one meaning) law (one_reads meaning (some_mark meaning t means)) (some_mark meaning t means)

  some_ended : Begins (IsThen R (IsOne meaning)) []
  some_ended = then_begins R (IsOne meaning) f (one meaning) some (some_mark meaning t means)

-- ---- a token and a term behind it
module _ {A : Type 0} (R : Tokens → A → Type 0) (f : Tokens → Reading A) (law : Reads R f) (some : Begins R []) (meaning : Lexeme →
    Option (Unit {0})) (t : Lexeme) (means : meaning t ≡ Some tt) where
  led_reads : Reads (IsThen (IsOne meaning) R) (then_read (one meaning) f)
  led_reads = then_reads (IsOne meaning) R (one meaning) f (one_reads meaning (some_mark meaning t means)) law some

  some_led : Begins (IsThen (IsOne meaning) R) []
  some_led = then_begins (IsOne meaning) R (one meaning) f (some_mark meaning t means) some

-- ---- definitions
abbrev Body : Tokens → Process × Unit {0} → Type 0
Body = IsThen IsProcess (IsOne semicolon)

abbrev Equated : Tokens → Unit {0} × (Process × Unit {0}) → Type 0
Equated = IsThen (IsOne equal) Body

abbrev Named : Tokens → Name × (Unit {0} × (Process × Unit {0})) → Type 0
Named = IsThen (IsOne a_name) Equated

body_reads : Reads Body (then_read process (one semicolon))
body_reads = ended_reads IsProcess process process_reads some_process semicolon (l.Mark m.Semicolon) refl

some_body : Begins Body []
some_body = some_ended IsProcess process process_reads some_process semicolon (l.Mark m.Semicolon) refl

equated_reads : Reads Equated (then_read (one equal) (then_read process (one semicolon)))
equated_reads = led_reads Body (then_read process (one semicolon)) body_reads some_body equal (l.Mark m.Equal) refl

some_equated : Begins Equated []
some_equated = some_led Body (then_read process (one semicolon)) body_reads some_body equal (l.Mark m.Equal) refl

named_reads : Reads Named (then_read (one a_name) (then_read (one equal) (then_read process (one semicolon))))
named_reads = then_reads (IsOne a_name) Equated (one a_name) (then_read (one equal) (then_read process (one semicolon)))
    (one_reads a_name some_name) equated_reads some_equated

some_named : Begins Named []
some_named = then_begins (IsOne a_name) Equated (one a_name) (then_read (one equal) (then_read process (one semicolon))) some_name some_equated

definition_is : (ts : Tokens) (x : Unit {0} × (Name × (Unit {0} × (Process × Unit {0})))) → IsThen (IsOne def_word) Named ts x →
    IsDefinition ts (definition_of x)
definition_is ts x h =
    let word = mark_is def_word (l.Keyword k.Def) only_def_word h.front x.0 h.left in
    let named = name_is h.right.front x.1.0 h.right.left in
    let equals = mark_is equal (l.Mark m.Equal) only_equal h.right.right.front x.1.1.0 h.right.right.left in
    let ending = mark_is semicolon (l.Mark m.Semicolon) only_semicolon h.right.right.right.back x.1.1.1.1 h.right.right.right.right in
    let us = h.right.right.right.front in
    let last : h.right.right.back ≡ us ++ l.Mark m.Semicolon ∷ [] = h.right.right.right.whole ∙ ap (λ (vs : Tokens). us ++ vs) ending in
    let third : h.right.back ≡ l.Mark m.Equal ∷ (us ++ l.Mark m.Semicolon ∷ []) =
    h.right.right.whole ∙ ap (λ (vs : Tokens). vs ++ h.right.right.back) equals ∙ ap (λ (vs : Tokens). l.Mark m.Equal ∷ vs) last in
    let second : h.back ≡ l.Name x.1.0 ∷ l.Mark m.Equal ∷ (us ++ l.Mark m.Semicolon ∷ []) =
    h.right.whole ∙ ap (λ (vs : Tokens). vs ++ h.right.back) named ∙ ap (λ (vs : Tokens). l.Name x.1.0 ∷ vs) third in
    let whole : ts ≡ l.Keyword k.Def ∷ l.Name x.1.0 ∷ l.Mark m.Equal ∷ (us ++ l.Mark m.Semicolon ∷ []) =
    h.whole ∙ ap (λ (vs : Tokens). vs ++ h.back) word ∙ ap (λ (vs : Tokens). l.Keyword k.Def ∷ vs) second in
    subst (λ (vs : Tokens). IsDefinition vs (definition_of x)) (sym whole) (g.definition h.right.right.right.left)

pub definition_reads : Reads IsDefinition definition
unfolding definition
definition_reads ts =
    mapped_owes (IsThen (IsOne def_word) Named) IsDefinition (then_read (one def_word) (then_read (one a_name) (then_read (one equal)
    (then_read process (one semicolon))))) definition_of [] [] ts _
    (led_reads Named (then_read (one a_name) (then_read (one equal) (then_read process (one semicolon)))) named_reads some_named def_word
    (l.Keyword k.Def) refl ts)
    (λ mid x h. definition_is mid x h)

pub definition_starts : (ts : Tokens) (d : Name × Process) → IsDefinition ts d → StartsSo starts_definition ts
definition_starts ts d (g.definition h) = refl

-- ---- initial values
abbrev Valued : Tokens → Value × Unit {0} → Type 0
Valued = IsThen IsLiteral (IsOne semicolon)

abbrev Given : Tokens → Unit {0} × (Value × Unit {0}) → Type 0
Given = IsThen (IsOne equal) Valued

given_reads : Reads Given (then_read (one equal) (then_read literal (one semicolon)))
given_reads =
    led_reads Valued (then_read literal (one semicolon)) (ended_reads IsLiteral literal literal_reads some_literal semicolon
    (l.Mark m.Semicolon) refl)
    (some_ended IsLiteral literal literal_reads some_literal semicolon (l.Mark m.Semicolon) refl) equal (l.Mark m.Equal) refl

some_given : Begins Given []
some_given =
    some_led Valued (then_read literal (one semicolon)) (ended_reads IsLiteral literal literal_reads some_literal semicolon (l.Mark m.Semicolon) refl)
    (some_ended IsLiteral literal literal_reads some_literal semicolon (l.Mark m.Semicolon) refl) equal (l.Mark m.Equal) refl

initial_is : (ts : Tokens) (x : Name × (Unit {0} × (Value × Unit {0}))) → IsThen (IsOne a_name) Given ts x → IsInitial ts (initial_of x)
initial_is ts x h =
    let named = name_is h.front x.0 h.left in
    let equals = mark_is equal (l.Mark m.Equal) only_equal h.right.front x.1.0 h.right.left in
    let ending = mark_is semicolon (l.Mark m.Semicolon) only_semicolon h.right.right.back x.1.1.1 h.right.right.right in
    let us = h.right.right.front in
    let last : h.right.back ≡ us ++ l.Mark m.Semicolon ∷ [] = h.right.right.whole ∙ ap (λ (vs : Tokens). us ++ vs) ending in
    let second : h.back ≡ l.Mark m.Equal ∷ (us ++ l.Mark m.Semicolon ∷ []) =
    h.right.whole ∙ ap (λ (vs : Tokens). vs ++ h.right.back) equals ∙ ap (λ (vs : Tokens). l.Mark m.Equal ∷ vs) last in
    let whole : ts ≡ l.Name x.0 ∷ l.Mark m.Equal ∷ (us ++ l.Mark m.Semicolon ∷ []) =
    h.whole ∙ ap (λ (vs : Tokens). vs ++ h.back) named ∙ ap (λ (vs : Tokens). l.Name x.0 ∷ vs) second in
    subst (λ (vs : Tokens). IsInitial vs (initial_of x)) (sym whole) (g.initial h.right.right.left)

pub initial_reads : Reads IsInitial initial
unfolding initial
initial_reads ts =
    mapped_owes (IsThen (IsOne a_name) Given) IsInitial (then_read (one a_name) (then_read (one equal) (then_read literal
    (one semicolon)))) initial_of [] [] ts _
    (then_reads (IsOne a_name) Given (one a_name) (then_read (one equal) (then_read literal (one semicolon)))
    (one_reads a_name some_name) given_reads some_given ts)
    (λ mid x h. initial_is mid x h)

pub initial_starts : (ts : Tokens) (a : Name × Value) → IsInitial ts a → StartsSo starts_initial ts
initial_starts ts a (g.initial h) = refl

-- ---- what is shown
pub record IsShow (ts : Tokens) (names : List Name) : Type 0 where
  pub inside : Tokens
  pub whole : ts ≡ l.Keyword k.Show ∷ (inside ++ l.Mark m.Semicolon ∷ [])
  pub listed : MayBeListed IsName inside names

-- one token that is a name, as the grammar has it
as_name : (ts : Tokens) (n : Name) → IsOne a_name ts n → IsName ts n
as_name ts n h = subst (λ (us : Tokens). IsName us n) (sym (name_is ts n h)) gl.name

names_are : {ts : Tokens} {xs : List Name} → AreListed (IsOne a_name) ts xs → AreListed IsName ts xs
names_are (gl.one {ts} {a} h) = gl.one (as_name ts a h)
names_are (gl.more {ts} {us} {items} {a} h q) = gl.more (names_are h) (as_name us a q)

may_be_names : {ts : Tokens} {xs : List Name} → MayBeListed (IsOne a_name) ts xs → MayBeListed IsName ts xs
may_be_names gl.none = gl.none
may_be_names (gl.some h) = gl.some (names_are h)

show_is : (ts : Tokens) (x : Unit {0} × List Name) → IsThen (IsOne show_word) (IsClosed semicolon (IsOne a_name)) ts x → IsShow ts x.1
show_is ts x h =
    let word = mark_is show_word (l.Keyword k.Show) only_show_word h.front x.0 h.left in
    let back : h.back ≡ h.right.front ++ l.Mark m.Semicolon ∷ [] = h.right.whole ∙ ap (λ (t : Lexeme). h.right.front ++ t ∷ []) (only_semicolon
    h.right.closing h.right.closer) in
    record {
      inside = h.right.front;
      whole = h.whole ∙ ap (λ (vs : Tokens). vs ++ h.back) word
          ∙ ap (λ (vs : Tokens). l.Keyword k.Show ∷ vs) back;
      listed = may_be_names h.right.listed;
    }

pub one_name_reads : Reads (IsOne a_name) (one a_name)
one_name_reads = one_reads a_name some_name

pub show_reads : Reads IsShow show_part
unfolding show_part
show_reads ts =
    mapped_owes (IsThen (IsOne show_word) (IsClosed semicolon (IsOne a_name))) IsShow (then_read (one show_word) (closed semicolon
    (one a_name))) shown_of [] [] ts _
    (led_reads (IsClosed semicolon (IsOne a_name)) (closed semicolon (one a_name)) (closed_reads semicolon (IsOne a_name)
    (one a_name) one_name_reads (l.Mark m.Semicolon, refl))
    (l.Mark m.Semicolon ∷ [], [], record { front = []; closing = l.Mark m.Semicolon; whole = refl; listed = gl.none; closer = refl }) show_word
    (l.Keyword k.Show) refl ts)
    (λ mid x h. show_is mid x h)

some_show : Begins IsShow []
some_show = (l.Keyword k.Show ∷ l.Mark m.Semicolon ∷ [], [], record { inside = []; whole = refl; listed = gl.none })

-- ---- what runs
pub record IsRun (ts : Tokens) (A : Process) : Type 0 where
  pub inside : Tokens
  pub whole : ts ≡ l.Keyword k.Run ∷ (inside ++ l.Mark m.Semicolon ∷ l.Mark m.CloseCurly ∷ [])
  pub is : IsProcess inside A

abbrev Ending : Tokens → Unit {0} × Unit {0} → Type 0
Ending = IsThen (IsOne semicolon) (IsOne curly_closes)

ending_reads : Reads Ending (then_read (one semicolon) (one curly_closes))
ending_reads = led_reads (IsOne curly_closes) (one curly_closes) (one_reads curly_closes some_curly_closes) some_curly_closes semicolon
    (l.Mark m.Semicolon) refl

some_ending : Begins Ending []
some_ending = some_led (IsOne curly_closes) (one curly_closes) (one_reads curly_closes some_curly_closes) some_curly_closes semicolon
    (l.Mark m.Semicolon) refl

run_is : (ts : Tokens) (x : Unit {0} × (Process × (Unit {0} × Unit {0}))) → IsThen (IsOne run_word) (IsThen IsProcess Ending) ts x →
    IsRun ts (run_of x)
run_is ts x h =
    let word = mark_is run_word (l.Keyword k.Run) only_run_word h.front x.0 h.left in
    let stop = mark_is semicolon (l.Mark m.Semicolon) only_semicolon h.right.right.front x.1.1.0 h.right.right.left in
    let ending = mark_is curly_closes (l.Mark m.CloseCurly) only_curly_closes h.right.right.back x.1.1.1 h.right.right.right in
    let us = h.right.front in
    let last : h.right.back ≡ l.Mark m.Semicolon ∷ l.Mark m.CloseCurly ∷ [] = h.right.right.whole
    ∙ ap (λ (vs : Tokens). vs ++ h.right.right.back) stop ∙ ap (λ (vs : Tokens). l.Mark m.Semicolon ∷ vs) ending in
    let back : h.back ≡ us ++ l.Mark m.Semicolon ∷ l.Mark m.CloseCurly ∷ [] = h.right.whole ∙ ap (λ (vs : Tokens). us ++ vs) last in
    record {
      inside = us;
      whole = h.whole ∙ ap (λ (vs : Tokens). vs ++ h.back) word
          ∙ ap (λ (vs : Tokens). l.Keyword k.Run ∷ vs) back;
      is = h.right.left;
    }

pub run_reads : Reads IsRun run_part
unfolding run_part
run_reads ts =
    mapped_owes (IsThen (IsOne run_word) (IsThen IsProcess Ending)) IsRun (then_read (one run_word) (then_read process (then_read (one semicolon)
    (one curly_closes)))) run_of [] [] ts _
    (led_reads (IsThen IsProcess Ending) (then_read process (then_read (one semicolon) (one curly_closes)))
    (then_reads IsProcess Ending process (then_read (one semicolon) (one curly_closes)) process_reads ending_reads some_ending)
    (then_begins IsProcess Ending process (then_read (one semicolon) (one curly_closes)) some_process some_ending) run_word (l.Keyword k.Run) refl ts)
    (λ mid x h. run_is mid x h)

some_run : Begins IsRun []
some_run = (
  l.Keyword k.Run ∷ l.Number 0 ∷ l.Mark m.Semicolon ∷ l.Mark m.CloseCurly ∷ [],
  P.Nil,
  record {
    inside = l.Number 0 ∷ [];
    whole = refl;
    is = nil_process;
  },
)

-- ---- components
abbrev ShowAndRun : Tokens → List Name × Process → Type 0
ShowAndRun = IsThen IsShow IsRun

abbrev Inside : Tokens → List (Name × Value) × (List Name × Process) → Type 0
Inside = IsThen (AreRepeated IsInitial) ShowAndRun

abbrev Opened : Tokens → Unit {0} × (List (Name × Value) × (List Name × Process)) → Type 0
Opened = IsThen (IsOne curly_opens) Inside

abbrev Called : Tokens → Name × (Unit {0} × (List (Name × Value) × (List Name × Process))) → Type 0
Called = IsThen (IsOne a_name) Opened

some_show_and_run : Begins ShowAndRun []
some_show_and_run = then_begins IsShow IsRun show_part run_part some_show some_run

inside_reads : Reads Inside (then_read (repeated starts_initial initial) (then_read show_part run_part))
inside_reads =
    then_reads (AreRepeated IsInitial) ShowAndRun (repeated starts_initial initial) (then_read show_part run_part)
    (repeated_reads IsInitial starts_initial initial initial_reads initial_starts)
    (then_reads IsShow IsRun show_part run_part show_reads run_reads some_run) some_show_and_run

some_inside : Begins Inside []
some_inside = then_begins (AreRepeated IsInitial) ShowAndRun (repeated starts_initial initial) (then_read show_part run_part)
    ([], [], gl.none) some_show_and_run

opened_reads : Reads Opened (then_read (one curly_opens) (then_read (repeated starts_initial initial) (then_read show_part run_part)))
opened_reads = led_reads Inside (then_read (repeated starts_initial initial) (then_read show_part run_part)) inside_reads some_inside curly_opens
    (l.Mark m.OpenCurly) refl

some_opened : Begins Opened []
some_opened = some_led Inside (then_read (repeated starts_initial initial) (then_read show_part run_part)) inside_reads some_inside curly_opens
    (l.Mark m.OpenCurly) refl

called_reads : Reads Called (then_read (one a_name) (then_read (one curly_opens) (then_read (repeated starts_initial initial)
    (then_read show_part run_part))))
called_reads =
    then_reads (IsOne a_name) Opened (one a_name) (then_read (one curly_opens) (then_read (repeated starts_initial initial)
    (then_read show_part run_part))) one_name_reads opened_reads some_opened

some_called : Begins Called []
some_called = then_begins (IsOne a_name) Opened (one a_name) (then_read (one curly_opens) (then_read (repeated starts_initial initial)
    (then_read show_part run_part))) some_name some_opened

pub component_grouped : (c : Name) (ts us vs : Tokens)
    → l.Keyword k.Comp ∷ l.Name c ∷ l.Mark m.OpenCurly ∷ ts ++ l.Keyword k.Show ∷ us ++ l.Mark m.Semicolon ∷ l.Keyword k.Run ∷ vs ++ l.Mark
    m.Semicolon ∷ l.Mark m.CloseCurly ∷ []
    ≡ l.Keyword k.Comp ∷ l.Name c ∷ l.Mark m.OpenCurly ∷ (ts ++ l.Keyword k.Show ∷ (us ++ l.Mark m.Semicolon ∷ l.Keyword k.Run ∷
    (vs ++ l.Mark m.Semicolon ∷ l.Mark m.CloseCurly ∷ [])))
component_grouped c ts us vs =
    append_assoc (l.Keyword k.Comp ∷ l.Name c ∷ l.Mark m.OpenCurly ∷ ts ++ l.Keyword k.Show ∷ us) (l.Mark m.Semicolon ∷ l.Keyword k.Run ∷ vs)
    (l.Mark m.Semicolon ∷ l.Mark m.CloseCurly ∷ [])
    ∙ append_assoc (l.Keyword k.Comp ∷ l.Name c ∷ l.Mark m.OpenCurly ∷ ts) (l.Keyword k.Show ∷ us) (l.Mark m.Semicolon ∷ l.Keyword k.Run ∷
    (vs ++ l.Mark m.Semicolon ∷ l.Mark m.CloseCurly ∷ []))

component_is : (ts : Tokens) (x : Unit {0} × (Name × (Unit {0} × (List (Name × Value) × (List Name × Process))))) →
    IsThen (IsOne comp_word) Called ts x → IsComponent ts (component_of x)
component_is ts x h =
    let word = mark_is comp_word (l.Keyword k.Comp) only_comp_word h.front x.0 h.left in
    let named = name_is h.right.front x.1.0 h.right.left in
    let opening = mark_is curly_opens (l.Mark m.OpenCurly) only_curly_opens h.right.right.front x.1.1.0 h.right.right.left in
    let inside = h.right.right.right in
    let firsts = inside.front in
    let s = inside.right.left in
    let r = inside.right.right in
    let tail : Tokens = l.Keyword k.Show ∷ (s.inside ++ l.Mark m.Semicolon ∷ l.Keyword k.Run ∷
    (r.inside ++ l.Mark m.Semicolon ∷ l.Mark m.CloseCurly ∷ [])) in
    let shown : inside.back ≡ tail =
    inside.right.whole ∙ ap (λ (vs : Tokens). vs ++ inside.right.back) s.whole ∙ ap (λ (vs : Tokens). (l.Keyword k.Show ∷ (s.inside ++ l.Mark
    m.Semicolon ∷ [])) ++ vs) r.whole
    ∙ ap (λ (vs : Tokens). l.Keyword k.Show ∷ vs) (append_assoc s.inside (l.Mark m.Semicolon ∷ []) (l.Keyword k.Run ∷
    (r.inside ++ l.Mark m.Semicolon ∷ l.Mark m.CloseCurly ∷ []))) in
    let fourth : h.right.right.back ≡ firsts ++ tail = inside.whole ∙ ap (λ (vs : Tokens). firsts ++ vs) shown in
    let third : h.right.back ≡ l.Mark m.OpenCurly ∷ (firsts ++ tail) =
    h.right.right.whole ∙ ap (λ (vs : Tokens). vs ++ h.right.right.back) opening ∙ ap (λ (vs : Tokens). l.Mark m.OpenCurly ∷ vs) fourth in
    let second : h.back ≡ l.Name x.1.0 ∷ l.Mark m.OpenCurly ∷ (firsts ++ tail) =
    h.right.whole ∙ ap (λ (vs : Tokens). vs ++ h.right.back) named ∙ ap (λ (vs : Tokens). l.Name x.1.0 ∷ vs) third in
    let whole : ts ≡ l.Keyword k.Comp ∷ l.Name x.1.0 ∷ l.Mark m.OpenCurly ∷ (firsts ++ tail) =
    h.whole ∙ ap (λ (vs : Tokens). vs ++ h.back) word ∙ ap (λ (vs : Tokens). l.Keyword k.Comp ∷ vs) second in
    subst (λ (vs : Tokens). IsComponent vs (component_of x)) (component_grouped x.1.0 firsts s.inside r.inside
    ∙ sym whole) (g.component inside.left s.listed r.is)

pub component_reads : Reads IsComponent component
unfolding component
component_reads ts =
    mapped_owes (IsThen (IsOne comp_word) Called) IsComponent (then_read (one comp_word) (then_read (one a_name) (then_read (one curly_opens)
    (then_read (repeated starts_initial initial) (then_read show_part run_part)))))
    component_of [] [] ts _
    (led_reads Called (then_read (one a_name) (then_read (one curly_opens) (then_read (repeated starts_initial initial)
    (then_read show_part run_part)))) called_reads some_called comp_word (l.Keyword k.Comp) refl ts)
    (λ mid x h. component_is mid x h)

pub component_starts : (ts : Tokens) (c : PlainComponent) → IsComponent ts c → StartsSo starts_component ts
component_starts ts c (g.component h q r) = refl

-- ---- programs
abbrev Items : Tokens → List (Name × Process) × List PlainComponent → Type 0
Items = IsThen (AreRepeated IsDefinition) (AreRepeated IsComponent)

items_reads : Reads Items (then_read (repeated starts_definition definition) (repeated starts_component component))
items_reads =
    then_reads (AreRepeated IsDefinition) (AreRepeated IsComponent) (repeated starts_definition definition) (repeated starts_component component)
    (repeated_reads IsDefinition starts_definition definition definition_reads definition_starts)
    (repeated_reads IsComponent starts_component component component_reads component_starts) ([], [], gl.none)

some_items : Begins Items []
some_items = then_begins (AreRepeated IsDefinition) (AreRepeated IsComponent) (repeated starts_definition definition)
    (repeated starts_component component) ([], [], gl.none) ([], [], gl.none)

abbrev Headed : Tokens → Unit {0} × (List (Name × Process) × List PlainComponent) → Type 0
Headed = IsThen (IsOne semicolon) Items

headed_reads : Reads Headed (then_read (one semicolon) (then_read (repeated starts_definition definition) (repeated starts_component component)))
headed_reads = led_reads Items (then_read (repeated starts_definition definition) (repeated starts_component component)) items_reads some_items
    semicolon (l.Mark m.Semicolon) refl

some_headed : Begins Headed []
some_headed = some_led Items (then_read (repeated starts_definition definition) (repeated starts_component component)) items_reads some_items
    semicolon (l.Mark m.Semicolon) refl

abbrev Numbered : Tokens → Unit {0} × (Unit {0} × (List (Name × Process) × List PlainComponent)) → Type 0
Numbered = IsThen (IsOne header_number) Headed

numbered_reads : Reads Numbered (then_read (one header_number) (then_read (one semicolon) (then_read (repeated starts_definition definition)
    (repeated starts_component component))))
numbered_reads = led_reads Headed (then_read (one semicolon) (then_read (repeated starts_definition definition)
    (repeated starts_component component))) headed_reads some_headed header_number (l.Number 1) refl

some_numbered : Begins Numbered []
some_numbered = some_led Headed (then_read (one semicolon) (then_read (repeated starts_definition definition)
    (repeated starts_component component))) headed_reads some_headed header_number (l.Number 1) refl

program_is : (ts : Tokens) (x : Unit {0} × (Unit {0} × (Unit {0} × (List (Name × Process) × List PlainComponent)))) →
    IsThen (IsOne abc_word) Numbered ts x → IsProgram ts (program_of x)
program_is ts x h =
    let word = mark_is abc_word (l.Keyword k.Abc) only_abc_word h.front x.0 h.left in
    let number = mark_is header_number (l.Number 1) only_header_number h.right.front x.1.0 h.right.left in
    let stop = mark_is semicolon (l.Mark m.Semicolon) only_semicolon h.right.right.front x.1.1.0 h.right.right.left in
    let items = h.right.right.right in
    let third : h.right.back ≡ l.Mark m.Semicolon ∷ (items.front ++ items.back) =
    h.right.right.whole ∙ ap (λ (vs : Tokens). vs ++ h.right.right.back) stop ∙ ap (λ (vs : Tokens). l.Mark m.Semicolon ∷ vs) items.whole in
    let second : h.back ≡ l.Number 1 ∷ l.Mark m.Semicolon ∷ (items.front ++ items.back) =
    h.right.whole ∙ ap (λ (vs : Tokens). vs ++ h.right.back) number ∙ ap (λ (vs : Tokens). l.Number 1 ∷ vs) third in
    let whole : ts ≡ l.Keyword k.Abc ∷ l.Number 1 ∷ l.Mark m.Semicolon ∷ (items.front ++ items.back) =
    h.whole ∙ ap (λ (vs : Tokens). vs ++ h.back) word ∙ ap (λ (vs : Tokens). l.Keyword k.Abc ∷ vs) second in
    subst (λ (vs : Tokens). IsProgram vs (program_of x)) (sym whole) (g.headed_1 items.left items.right)

pub program_reads : Reads IsProgram program
unfolding program
program_reads ts =
    mapped_owes (IsThen (IsOne abc_word) Numbered) IsProgram
    (then_read (one abc_word) (then_read (one header_number) (then_read (one semicolon) (then_read (repeated starts_definition definition)
    (repeated starts_component component))))) program_of [] [] ts _
    (led_reads Numbered (then_read (one header_number) (then_read (one semicolon) (then_read (repeated starts_definition definition)
    (repeated starts_component component)))) numbered_reads some_numbered abc_word (l.Keyword k.Abc) refl ts)
    (λ mid x h. program_is mid x h)

end_owes : (pre ts : Tokens) (p : PlainProgram) → IsProgram pre p → Owes IsProgram (at_end p) pre ts (at_end p ts)
end_owes pre [] p h = pure_owes IsProgram (at_end p) pre [] p h same
  where
    same : (vs : Tokens) → first vs ≡ first [] → at_end p vs ≡ Read p vs
    same [] e = refl
    same (x ∷ vs) e = absurd (let e' : Some x ≡ None = e in cc)
end_owes pre (t ∷ ts) p h = refuse_at_owes IsProgram (at_end p) pre t ts Syntax (
  [],
  p,
  subst (λ (us : Tokens). IsProgram us p) (sym
      (append-nil pre)) h,
) (λ us. refl)

pub whole_program_reads : Reads IsProgram whole_program
unfolding whole_program
whole_program_reads ts = bind_owes IsProgram IsProgram program at_end [] [] ts (program ts) (program_reads ts) (λ p us mid h. end_owes mid us p h)
    (λ mid b. b)
