-- What is a program is read, and what is refused goes on with none.
use Rattle.std.proofs.Common.{◌≡◌, List, [], ◌∷◌, ◌++◌, Some, None, refl, sym, ap, ◌∙◌, subst, append_assoc, append-nil}
use Rattle.abc_value.specs.declared.value.Value.{Value}
use Rattle.abc_pred.specs.declared.names.Name.{Name}
use Rattle.abc_term.specs.Processes.{Process}
use Rattle.abc_cause.specs.declared.Cause.{Cause}
use Rattle.abc_grammar.specs.declared.lexemes.Lexeme.{Lexeme}
use Rattle.abc_grammar.specs.declared.lexemes.Lexeme.TheVariants as l
use Rattle.abc_text.specs.declared.words.Mark.TheVariants as m
use Rattle.abc_text.specs.declared.words.Keyword.TheVariants as k
use Rattle.abc_grammar.specs.Listed.{AreListed, MayBeListed, AreRepeated, IsName}
use Rattle.abc_grammar.specs.Listed as gl
use Rattle.abc_grammar.specs.Processes.{IsProcess}
use Rattle.abc_grammar.specs.Plain.{PlainComponent, PlainProgram}
use Rattle.abc_grammar.specs.Programs.{IsDefinition, IsInitial, IsComponent, IsProgram}
use Rattle.abc_grammar.specs.Programs as g
use Rattle.abc_reading.specs.Reading.{Read, Cut, Refused, ◌>>=◌, mapped}
use Rattle.abc_reading.specs.Exact.{Begins, IsLastGood}
use Rattle.abc_reading.proofs.Laws.{first, Owes}
use Rattle.abc_readers.specs.Operands.{Tokens, Reading, commas}
use Rattle.abc_readers.specs.Combining.{one, IsOne, then_read, closed, repeated}
use Rattle.abc_readers.specs.Processes.{a_name}
use Rattle.abc_readers.specs.Programs.{semicolon, curly_closes, definition_of, definition, starts_definition, initial_of, initial, starts_initial, run_of, run_part, shown_of, show_part, component_of, component, starts_component, program_of, program, at_end, whole_program}
use Rattle.abc_readers.specs.Laws.{ProgramsAreRead}
use Rattle.abc_readers.proofs.OperandWhole.{literal_ends}
use Rattle.abc_readers.proofs.Combined.{NoMore, one_whole, repeated_whole, closed_whole}
use Rattle.abc_readers.proofs.ProcessWhole.{process_ends}
use Rattle.abc_readers.proofs.ProgramReads.{definition_reads, definition_starts, initial_reads, initial_starts, one_name_reads, component_reads, component_starts, whole_program_reads}

-- ---- definitions
definition_whole : (ts : Tokens) (d : Name × Process) → IsDefinition ts d → (rest : Tokens) → definition (ts ++ rest) ≡ Read d rest
unfolding definition
definition_whole ts d (g.definition {c} {ts = us} {A} h) rest =
    ap (λ (vs : Tokens). definition (l.Keyword k.Def ∷ l.Name c ∷ l.Mark m.Equal ∷ vs)) (append_assoc us (l.Mark m.Semicolon ∷ []) rest)
    ∙ ap (λ (y : Reading Process). mapped definition_of (mapped (λ b. (tt, b)) (mapped (λ b. (c, b)) (mapped (λ b. (tt, b)) (y >>= λ x vs. mapped
    (λ b. (x, b)) (one semicolon vs))))))
    (process_ends h (l.Mark m.Semicolon ∷ rest) refl refl)

-- ---- components
initial_whole : (ts : Tokens) (a : Name × Value) → IsInitial ts a → (rest : Tokens) → initial (ts ++ rest) ≡ Read a rest
unfolding initial
initial_whole ts a (g.initial {a = n} {ts = us} {v} h) rest =
    ap (λ (vs : Tokens). initial (l.Name n ∷ l.Mark m.Equal ∷ vs)) (append_assoc us (l.Mark m.Semicolon ∷ []) rest)
    ∙ ap (λ (y : Reading Value). mapped initial_of (mapped (λ b. (n, b)) (mapped (λ b. (tt, b)) (y >>= λ x vs. mapped (λ b. (x, b))
    (one semicolon vs))))) (literal_ends h (l.Mark m.Semicolon ∷ rest))

-- one token that is a name
one_is : (ts : Tokens) (n : Name) → IsName ts n → IsOne a_name ts n
one_is ts n gl.name = record { token = l.Name n; whole = refl; means = refl }

ones_are : {ts : Tokens} {xs : List Name} → AreListed IsName ts xs → AreListed (IsOne a_name) ts xs
ones_are (gl.one {ts} {a} h) = gl.one (one_is ts a h)
ones_are (gl.more {ts} {us} {items} {a} h q) = gl.more (ones_are h) (one_is us a q)

may_be_ones : {ts : Tokens} {xs : List Name} → MayBeListed IsName ts xs → MayBeListed (IsOne a_name) ts xs
may_be_ones gl.none = gl.none
may_be_ones (gl.some h) = gl.some (ones_are h)

abbrev Anything : Tokens → Type 0
Anything ts = Unit {0}

names_whole : {ts : Tokens} {xs : List Name} → MayBeListed IsName ts xs → (rest : Tokens) →
    closed semicolon (one a_name) (ts ++ l.Mark m.Semicolon ∷ rest) ≡ Read xs rest
names_whole {ts} {xs} h rest =
    subst (λ (us : Tokens). closed semicolon (one a_name) us ≡ Read xs rest) (append_assoc ts (l.Mark m.Semicolon ∷ []) rest)
    (closed_whole semicolon (IsOne a_name) (one a_name) one_name_reads (l.Mark m.Semicolon, refl) Anything (λ us. tt) (λ t us e. tt)
    (λ us n q more stop. one_whole a_name us n q more) opens closes_comma
    (ts ++ l.Mark m.Semicolon ∷ []) xs (record { front = ts; closing = l.Mark m.Semicolon; whole = refl; listed = may_be_ones h; closer = refl })
    rest)
  where
    by_token : (t : Lexeme) (n : Name) → a_name t ≡ Some n → semicolon t ≡ None
    by_token (l.Name x) n e = refl
    by_token t n e = absurd (cc)

    opens : (us : Tokens) (n : Name) → IsOne a_name us n → (t : Lexeme) × (vs : Tokens) × (us ≡ t ∷ vs) × (semicolon t ≡ None)
    opens us n q = (q.token, [], q.whole, by_token q.token n q.means)

    closes_comma : (t : Lexeme) → semicolon t ≡ Some tt → commas {A = Name} t ≡ None
    closes_comma (l.Mark m.Semicolon) e = refl
    closes_comma t e = absurd (cc)

show_whole : {ts : Tokens} {xs : List Name} → MayBeListed IsName ts xs → (rest : Tokens) →
    show_part (l.Keyword k.Show ∷ (ts ++ l.Mark m.Semicolon ∷ rest)) ≡ Read xs rest
unfolding show_part
show_whole h rest = ap (λ (y : Reading (List Name)). mapped shown_of (mapped (λ b. (tt, b)) y)) (names_whole h rest)

run_whole : {ts : Tokens} {A : Process} → IsProcess ts A → (rest : Tokens) → run_part (l.Keyword k.Run ∷ (ts ++ l.Mark m.Semicolon ∷ l.Mark
    m.CloseCurly ∷ rest)) ≡ Read A rest
unfolding run_part
run_whole h rest =
    ap (λ (y : Reading Process). mapped run_of (mapped (λ b. (tt, b)) (y >>= λ x vs. mapped (λ b. (x, b)) (then_read (one semicolon)
    (one curly_closes) vs)))) (process_ends h (l.Mark m.Semicolon ∷ l.Mark m.CloseCurly ∷ rest) refl refl)

component_grouped_on : (c : Name) (ts us vs rest : Tokens)
    → (l.Keyword k.Comp ∷ l.Name c ∷ l.Mark m.OpenCurly ∷ ts ++ l.Keyword k.Show ∷ us ++ l.Mark m.Semicolon ∷ l.Keyword k.Run ∷ vs ++ l.Mark
    m.Semicolon ∷ l.Mark m.CloseCurly ∷ []) ++ rest
    ≡ l.Keyword k.Comp ∷ l.Name c ∷ l.Mark m.OpenCurly ∷ (ts ++ l.Keyword k.Show ∷ (us ++ l.Mark m.Semicolon ∷ l.Keyword k.Run ∷
    (vs ++ l.Mark m.Semicolon ∷ l.Mark m.CloseCurly ∷ rest)))
component_grouped_on c ts us vs rest =
    append_assoc (l.Keyword k.Comp ∷ l.Name c ∷ l.Mark m.OpenCurly ∷ ts ++ l.Keyword k.Show ∷ us ++ l.Mark m.Semicolon ∷ l.Keyword k.Run ∷ vs)
    (l.Mark m.Semicolon ∷ l.Mark m.CloseCurly ∷ []) rest
    ∙ append_assoc (l.Keyword k.Comp ∷ l.Name c ∷ l.Mark m.OpenCurly ∷ ts ++ l.Keyword k.Show ∷ us) (l.Mark m.Semicolon ∷ l.Keyword k.Run ∷ vs)
    (l.Mark m.Semicolon ∷ l.Mark m.CloseCurly ∷ rest)
    ∙ append_assoc (l.Keyword k.Comp ∷ l.Name c ∷ l.Mark m.OpenCurly ∷ ts) (l.Keyword k.Show ∷ us) (l.Mark m.Semicolon ∷ l.Keyword k.Run ∷
    (vs ++ l.Mark m.Semicolon ∷ l.Mark m.CloseCurly ∷ rest))

component_whole : (ts : Tokens) (c : PlainComponent) → IsComponent ts c → (rest : Tokens) → component (ts ++ rest) ≡ Read c rest
unfolding component
component_whole ts c (g.component {c = n} {ts = us} {us = vs} {vs = ws} {first = firsts} {shown} {A} h q r) rest =
    ap component (component_grouped_on n us vs ws rest)
    ∙ ap (λ (y : Reading (List (Name × Value))). mapped component_of (mapped (λ b. (tt, b)) (mapped (λ b. (n, b)) (mapped (λ b. (tt, b))
    (y >>= λ x zs. mapped (λ b. (x, b)) (then_read show_part run_part zs))))))
    (repeated_whole IsInitial starts_initial initial initial_reads initial_starts initial_whole us firsts h (l.Keyword k.Show ∷
    (vs ++ l.Mark m.Semicolon ∷ l.Keyword k.Run ∷ (ws ++ l.Mark m.Semicolon ∷ l.Mark m.CloseCurly ∷ rest))) refl)
    ∙ ap (λ (y : Reading (List Name)). mapped component_of (mapped (λ b. (tt, b)) (mapped (λ b. (n, b)) (mapped (λ b. (tt, b)) (mapped (λ b.
    (firsts, b)) (y >>= λ x zs. mapped (λ b. (x, b)) (run_part zs)))))))
    (show_whole q (l.Keyword k.Run ∷ (ws ++ l.Mark m.Semicolon ∷ l.Mark m.CloseCurly ∷ rest)))
    ∙ ap (λ (y : Reading Process). mapped component_of (mapped (λ b. (tt, b)) (mapped (λ b. (n, b)) (mapped (λ b. (tt, b)) (mapped (λ b.
    (firsts, b)) (mapped (λ b. (shown, b)) y)))))) (run_whole r rest)

-- ---- programs
-- no component begins as a definition does
component_no_definition : {ts : Tokens} {c : PlainComponent} → IsComponent ts c → (rest : Tokens) → NoMore starts_definition (ts ++ rest)
component_no_definition (g.component h q r) rest = refl

components_no_definition : {ts : Tokens} {cs : List PlainComponent} → AreRepeated IsComponent ts cs → (rest : Tokens) →
    NoMore starts_definition rest → NoMore starts_definition (ts ++ rest)
components_no_definition gl.none rest stop = stop
components_no_definition (gl.more {ts} {us} h q) rest stop =
    subst (λ (vs : Tokens). NoMore starts_definition vs) (sym (append_assoc ts us rest)) (components_no_definition h (us ++ rest)
    (component_no_definition q rest))

program_whole : (ts : Tokens) (p : PlainProgram) → IsProgram ts p → program ts ≡ Read p []
unfolding program
program_whole ts p (g.headed_1 {ts = us} {us = vs} {definitions} {components} h q) =
    ap (λ (zs : Tokens). program (l.Keyword k.Abc ∷ l.Number 1 ∷ l.Mark m.Semicolon ∷ (us ++ zs))) (sym (append-nil vs))
    ∙ ap (λ (y : Reading (List (Name × Process))). mapped program_of (mapped (λ b. (tt, b)) (mapped (λ b. (tt, b)) (mapped (λ b. (tt, b))
    (y >>= λ x zs. mapped (λ b. (x, b)) (repeated starts_component component zs))))))
    (repeated_whole IsDefinition starts_definition definition definition_reads definition_starts definition_whole us definitions h (vs ++ [])
    (components_no_definition q [] tt))
    ∙ ap (λ (y : Reading (List PlainComponent)). mapped program_of (mapped (λ b. (tt, b)) (mapped (λ b. (tt, b)) (mapped (λ b. (tt, b)) (mapped
    (λ b. (definitions, b)) y)))))
    (repeated_whole IsComponent starts_component component component_reads component_starts component_whole vs components q [] tt)

whole_program_whole : (ts : Tokens) (p : PlainProgram) → IsProgram ts p → whole_program ts ≡ Read p []
unfolding whole_program
whole_program_whole ts p h = ap (λ (y : Reading PlainProgram). y >>= at_end) (program_whole ts p h)

-- ---- the law
owed : (ts : Tokens) (x : Reading PlainProgram) → whole_program ts ≡ x → Owes IsProgram whole_program [] ts x
owed ts x e = subst (λ (y : Reading PlainProgram). Owes IsProgram whole_program [] ts y) e (whole_program_reads ts)

nothing_left : (x : Reading PlainProgram) (us : Tokens) (p : PlainProgram) → (x >>= at_end) ≡ Read p us → us ≡ []
nothing_left (Read q []) us p e = cc
nothing_left (Read q (t ∷ ts)) us p e = absurd (cc)
nothing_left (Cut q ts c vs) us p e = absurd (cc)
nothing_left (Refused c vs) us p e = absurd (cc)

never_cut : (x : Reading PlainProgram) (us vs : Tokens) (p : PlainProgram) (c : Cause) → (x >>= at_end) ≡ Cut p us c vs → ⊥
never_cut (Read q []) us vs p c e = cc
never_cut (Read q (t ∷ ts)) us vs p c e = cc
never_cut (Cut q ts d ws) us vs p c e = cc
never_cut (Refused d ws) us vs p c e = cc

not_both : (ts vs : Tokens) (p : PlainProgram) (c : Cause) → whole_program ts ≡ Refused c vs → IsProgram ts p → ⊥
not_both ts vs p c e h = let r = whole_program_whole ts p h in cc

refused_good : (mid vs : Tokens) (c : Cause) → Begins IsProgram mid → ((ws : Tokens) → first ws ≡ first vs →
    whole_program (mid ++ ws) ≡ Refused c ws) → IsLastGood IsProgram mid vs
refused_good mid vs c begins same = record {
  begins = begins;
  token = λ t us e b. not_both (mid ++ t ∷ b.0) (t ∷ b.0) b.1 c (same (t ∷ b.0) (sym (ap first e))) (rw (append_assoc mid (t ∷ []) b.0) at b.2);
  end = λ p e h. not_both (mid ++ []) [] p c (same [] (sym (ap first e))) (rw append-nil h);
}

pub programs_are_read : ProgramsAreRead
unfolding whole_program
programs_are_read = record {
  found = λ ts us p e.
      let o = owed ts (Read p us) e in
      let none = nothing_left (program ts) us p e in
      (none, subst (λ (vs : Tokens). IsProgram vs p) (sym (o.whole ∙ ap (λ (vs : Tokens). o.mid ++ vs) none ∙ append-nil o.mid)) o.is);
  cut = λ ts us vs p c e. never_cut (program ts) us vs p c e;
  refused = λ ts vs c e. let o = owed ts (Refused c vs) e in (o.mid, o.whole, refused_good o.mid vs c o.begins o.same);
  whole = whole_program_whole;
}
