-- What a traceable program begins with can be told, and so can all its runs.
use Rattle.std.specs.Prelude.{Any, flat_map, nat_lt, if◌then◌else◌}
use Rattle.std.proofs.Common.{◌≡◌, inl, inr, ℕ, zero, suc, ◌+◌, Bool, true, false, List, [], ◌∷◌, ◌++◌, map, slice_get, Some, All, refl, ap, subst, arith}
use Rattle.std.proofs.lemmas.List.{length-map}
use Rattle.std.proofs.lemmas.List.Elements.{All-nil, All-cons, All-head, All-tail, All-weaker, All-map}
use Rattle.abc_value.specs.declared.value.Value.{Value}
use Rattle.abc_value.specs.declared.value.Value.TheVariants as value
use Rattle.abc_value.specs.declared.value.Value.TheVariants.{Nothing}
use Rattle.abc_pred.specs.declared.names.Name.{Name}
use Rattle.abc_pred.specs.Terms.{Pred}
use Rattle.abc_pred.specs.Maps.{Entries, IsKept, RisesFrom}
use Rattle.abc_pred.specs.Meaning.{close}
use Rattle.abc_pred.proofs.Closing.{closes}
use Rattle.abc_text.specs.declared.words.Mark.TheVariants as m
use Rattle.abc_text.specs.declared.words.Keyword.TheVariants as k
use Rattle.abc_text.specs.Meanings.{AreDifferent}
use Rattle.abc_term.specs.declared.terms.Component.{Component}
use Rattle.abc_term.specs.declared.terms.Program.{Program}
use Rattle.abc_term.specs.Processes.{Process, Nil, Output, Input, When, Choice, Par, Call, Update, body_of}
use Rattle.abc_term.specs.Standing.{definitions_of, component_of, system_of}
use Rattle.abc_term.proofs.MapsStay.{programs_begin_with_maps}
use Rattle.abc_sound.proofs.Sounding.{programs_begin_sound}
use Rattle.abc_grammar.specs.declared.lexemes.Lexeme.{Lexeme}
use Rattle.abc_grammar.specs.declared.lexemes.Lexeme.TheVariants as l
use Rattle.abc_grammar.specs.Plain.{PlainComponent, PlainProgram, plain_component, plain_program}
use Rattle.abc_grammar_laws.specs.Short.{HasShortTuples}
use Rattle.abc_printed.specs.Parts.{Part, Token, Space, Line, mark, keyword, name, number, lexemes}
use Rattle.abc_printed.specs.Forms.{spaced, output_parts, input_parts, guard_parts, update_parts, pred_parts, process_grade, process_parts, curled, definition_parts, component_parts, initial_parts, shown_parts, program_parts}
use Rattle.abc_printed.specs.Printable.{UpdateHasValues, ProcessHasValues, DefinitionHasValues, InitialHasValue, ComponentHasValues, HasWord}
use Rattle.abc_printed_laws.specs.Outputs.{HasOutput, ProgramHasOutput}
use Rattle.abc_printed_laws.proofs.Programs.{prints_are_terms}
use Rattle.abc_printed_laws.proofs.NamedPrograms.{names_are_kept}
use Rattle.abc_printed_laws.proofs.Outputs.{outputs_stand}
use Rattle.abc_printed_limits.proofs.Closings.{pred_values}
use Rattle.abc_printed_texts.proofs.NamesMet as met
use Rattle.abc_printed_texts.proofs.PrintsAccepted.{kept_named, named_have}
use Rattle.abc_printed_texts.proofs.Closed.{output_values, closed_named}
use Rattle.abc_traceable.specs.Traceable.{IsTraceable}
use Rattle.abc_trace.specs.WellFormed.{IsNamed, IsEntry}
use Rattle.abc_traceable.specs.Told.{EndIsTold, RunsAreTold}
use Rattle.abc_traceable.proofs.Numbers.{word_number}
use Rattle.abc_traceable.proofs.Telling.{IsSendable, IsSettable, CanTell}
use Rattle.abc_traceable.proofs.Environments.{IsHeld, all_held}
use Rattle.abc_traceable.proofs.Moving.{bodies_tell}
use Rattle.abc_traceable.proofs.Running.{IsAble, all_at, all_from, run_goes}

-- ---- names that stand in parts
module _ (words : List (List ℕ)) where
  -- each lexeme of the parts has a word
  abbrev pub AreWorded : List Part → Type 0
  AreWorded [] = Unit {0}
  AreWorded (Token t ∷ rest) = HasWord words t × AreWorded rest
  AreWorded (Space ∷ rest) = AreWorded rest
  AreWorded (Line ∷ rest) = AreWorded rest

  -- All lexemes of the parts say the same,
  pub from_lexemes : (parts : List Part) → All (HasWord words) (lexemes parts) → AreWorded parts
  from_lexemes [] h = tt
  from_lexemes (Token t ∷ rest) h = (
    All-head (HasWord words) t (lexemes rest) h,
    from_lexemes rest
        (All-tail (HasWord words) t (lexemes rest) h),
  )
  from_lexemes (Space ∷ rest) h = from_lexemes rest h
  from_lexemes (Line ∷ rest) h = from_lexemes rest h

  -- and so do the parts in front,
  front : (xs ys : List Part) → AreWorded (xs ++ ys) → AreWorded xs
  front [] ys h = tt
  front (Token t ∷ xs) ys h = (h.0, front xs ys h.1)
  front (Space ∷ xs) ys h = front xs ys h
  front (Line ∷ xs) ys h = front xs ys h

  -- and behind.
  back : (xs ys : List Part) → AreWorded (xs ++ ys) → AreWorded ys
  back [] ys h = h
  back (Token t ∷ xs) ys h = back xs ys h.1
  back (Space ∷ xs) ys h = back xs ys h
  back (Line ∷ xs) ys h = back xs ys h

  -- What stands in brackets, or without them, is worded where the whole is.
  inside : (asked grade : ℕ) (parts : List Part) → AreWorded (curled asked grade parts) →
      AreWorded parts
  inside asked grade parts h = by (nat_lt grade asked) h
    where
      by : (b : Bool) → AreWorded
          (if b then mark m.OpenCurly ∷ parts ++ mark m.CloseCurly ∷ [] else parts) →
          AreWorded parts
      by true i = front parts (mark m.CloseCurly ∷ []) i.1
      by false i = i

  -- a name of the print is one that may stand in a trace
  named : (n : Name) → HasWord words (l.Name n) → IsNamed words n
  named n h = (h.0, (h.1, h.2))

  -- updates of the print
  settings : (us : List Update) → AreWorded (flat_map update_parts us) → All UpdateHasValues us →
      All (IsSettable words) us
  settings [] h k = All-nil (IsSettable words)
  settings ((a, e) ∷ us) h k =
      let whole = front (update_parts (a, e)) (flat_map update_parts us) h in
      All-cons (IsSettable words) (a, e) us
      (named a whole.1.0, All-head UpdateHasValues (a, e) us k)
      (settings us (back (update_parts (a, e)) (flat_map update_parts us) h)
      (All-tail UpdateHasValues (a, e) us k))

  -- ---- processes
  -- a process whose names have words, whose literals are values, whose tuples are short and whose
  -- predicates can be sent can be told
  pub can_tell : (A : Process) → AreWorded (process_parts A) → ProcessHasValues A →
      HasShortTuples A →
      ((q : Pred) → HasOutput A q → IsSendable words q) → CanTell words A
  can_tell Nil h v s o = tt
  can_tell (Output es p us A) h v s o =
      let first = output_parts es p ++ spaced (mark m.Dot) in
      let upto = first ++ flat_map update_parts us in
      let rest = curled 2 (process_grade A) (process_parts A) in (
        s.0,
        v.0,
        o p (inl refl),
        settings us (back first (flat_map update_parts us) (front upto rest h)) v.2,
        can_tell A (inside 2 (process_grade A) (process_parts A) (back upto rest h)) v.3 s.1
            (λ q i. o q (inr i)),
      )
  can_tell (Input p xs us A) h v s o =
      let first = input_parts p xs ++ spaced (mark m.Dot) in
      let upto = first ++ flat_map update_parts us in
      let rest = curled 2 (process_grade A) (process_parts A) in (
        settings us (back first (flat_map update_parts us) (front upto rest h)) v.1,
        can_tell A (inside 2 (process_grade A) (process_parts A) (back upto rest h)) v.2 s.1 o,
      )
  can_tell (When p A) h v s o =
      let rest = curled 2 (process_grade A) (process_parts A) in
      can_tell A (inside 2 (process_grade A) (process_parts A)
      (back (Token (l.Keyword k.When) ∷ Space ∷ guard_parts p) (Space ∷ rest) h)) v.1 s o
  can_tell (Choice A B) h v s o =
      let left = curled 1 (process_grade A) (process_parts A) in
      let right = curled 2 (process_grade B) (process_parts B) in (
        can_tell A (inside 1 (process_grade A) (process_parts A)
            (front left (spaced (mark m.Plus)) (front (left ++ spaced (mark m.Plus)) right h))) v.0
            s.0 (λ q i. o q (inl i)),
        can_tell B (inside 2 (process_grade B) (process_parts B)
            (back (left ++ spaced (mark m.Plus)) right h)) v.1 s.1 (λ q i. o q (inr i)),
      )
  can_tell (Par A B) h v s o =
      let left = curled 0 (process_grade A) (process_parts A) in
      let right = curled 1 (process_grade B) (process_parts B) in (
        can_tell A (inside 0 (process_grade A) (process_parts A)
            (front left (spaced (mark m.Bar)) (front (left ++ spaced (mark m.Bar)) right h))) v.0
            s.0 (λ q i. o q (inl i)),
        can_tell B (inside 1 (process_grade B) (process_parts B)
            (back (left ++ spaced (mark m.Bar)) right h)) v.1 s.1 (λ q i. o q (inr i)),
      )
  can_tell (Call c) h v s o = tt

  -- ---- programs
  -- each of some items
  each_worded : {A : Type 0} (print : A → List Part) (items : List A) →
      AreWorded (flat_map print items) → (i : ℕ) (a : A) →
      slice_get items i ≡ Some a → AreWorded (print a)
  each_worded print [] h i a at = cc
  each_worded print (b ∷ items) h zero a at =
      let same : b ≡ a = cc in
      subst (λ x. AreWorded (print x)) same (front (print b) (flat_map print items) h)
  each_worded print (b ∷ items) h (suc i) a at =
      each_worded print items (back (print b) (flat_map print items) h) i a at

  -- the body of a definition
  body_worded : (d : Name × Process) → AreWorded (definition_parts d) →
      AreWorded (process_parts d.1)
  body_worded (c, A) h =
      let first : List Part = keyword k.Def ∷ Space ∷ name c ∷ spaced (mark m.Equal) in
      back first (process_parts A)
      (front (first ++ process_parts A) (mark m.Semicolon ∷ Line ∷ []) h)

  -- attributes at the start have words and values
  initials : (xs : List (Name × Value)) → AreWorded (flat_map initial_parts xs) →
      All InitialHasValue xs → All (IsHeld words) xs
  initials [] h v = All-nil (IsHeld words)
  initials ((a, x) ∷ xs) h v =
      let whole = front (initial_parts (a, x)) (flat_map initial_parts xs) h in
      All-cons (IsHeld words) (a, x) xs (named a whole.0, All-head InitialHasValue (a, x) xs v)
      (initials xs (back (initial_parts (a, x)) (flat_map initial_parts xs) h)
      (All-tail InitialHasValue (a, x) xs v))

  -- what is worded of a component
  record ComponentWorded (C : PlainComponent) : Type 0 where
    pub name_worded : IsNamed words C.name
    pub initial : AreWorded (flat_map initial_parts C.initial)
    pub run : AreWorded (process_parts C.run)

  component_worded : (C : PlainComponent) → AreWorded (component_parts C) → ComponentWorded C
  component_worded C h =
      let head : List Part =
      keyword k.Comp ∷ Space ∷ name C.name ∷ Space ∷ mark m.OpenCurly ∷ Line ∷ flat_map
      initial_parts C.initial in
      let show : List Part = Space ∷ Space ∷ keyword k.Show ∷ shown_parts C.show in
      let run : List Part =
      mark m.Semicolon ∷ Line ∷ Space ∷ Space ∷ keyword k.Run ∷ Space ∷ process_parts C.run in
      let end : List Part = mark m.Semicolon ∷ Line ∷ mark m.CloseCurly ∷ Line ∷ [] in
      let upto = front (head ++ show ++ run) end h in
      let first = front head show (front (head ++ show) run upto) in
      record {
        name_worded = named C.name first.1.0;
        initial = first.1.1.1;
        run = (back (head ++ show) run upto).1.1;
      }

-- ---- a traceable program
-- An item at a place is one of the items.
any_at : {A : Type 0} (P : A → Type 0) (xs : List A) (i : ℕ) (x : A) → slice_get xs i ≡ Some x →
    P x → Any P xs
any_at P [] i x at h = cc
any_at P (y ∷ xs) zero x at h = let same : y ≡ x = cc in (0, x, omega arith, same, h)
any_at P (y ∷ xs) (suc i) x at h = let r = any_at P xs i x at h in
    (suc r.0, r.1, (let lt = r.2 in omega (arith, lt)), r.3, r.4)

-- What stands at a place of a list stands for it at that place.
map_at : {A B : Type 0} (f : A → B) (xs : List A) (i : ℕ) (x : A) → slice_get xs i ≡ Some x →
    slice_get (map f xs) i ≡ Some (f x)
map_at f [] i x at = cc
map_at f (y ∷ xs) zero x at = let same : y ≡ x = cc in ap (λ z. Some (f z)) same
map_at f (y ∷ xs) (suc i) x at = map_at f xs i x at

-- What holds of all of two lists holds of the first, and of the second.
all_left : {A : Type 0} (P : A → Type 0) (xs ys : List A) → All P (xs ++ ys) → All P xs
all_left P [] ys h = All-nil P
all_left P (x ∷ xs) ys h =
    All-cons P x xs (All-head P x (xs ++ ys) h) (all_left P xs ys (All-tail P x (xs ++ ys) h))

all_right : {A : Type 0} (P : A → Type 0) (xs ys : List A) → All P (xs ++ ys) → All P ys
all_right P [] ys h = h
all_right P (x ∷ xs) ys h = all_right P xs ys (All-tail P x (xs ++ ys) h)

-- A lexeme that has a word among different words has it at its number.
numbered : (words : List (List ℕ)) → AreDifferent words → (t : Lexeme) → HasWord words t →
    met.IsNamed words t
numbered words different (l.Keyword k) h = record { has = tt; numbered = tt }
numbered words different (l.Mark m) h = record { has = tt; numbered = tt }
numbered words different (l.Name n) h = let at = word_number words different n h.0 in
    record { has = h; numbered = (at.known, at.number) }
numbered words different (l.Variable n) h = let at = word_number words different n h.0 in
    record { has = h; numbered = (at.known, at.number) }
numbered words different (l.Number n) h = record { has = tt; numbered = tt }
numbered words different (l.Text bytes) h = record { has = tt; numbered = tt }

module _ (p : Program) (able : IsTraceable p) where
  abbrev plain : PlainProgram
  plain = plain_program p

  abbrev print : List Lexeme
  print = lexemes (program_parts plain)

  -- The names of the predicate of an output have words.
  output_named : (q : Pred) → ProgramHasOutput plain q →
      All (met.IsNamed p.names) (lexemes (pred_parts q))
  output_named q o =
      let all = All-weaker (HasWord p.names) (met.IsNamed p.names)
      (numbered p.names able.different) print able.named in
      let stands = outputs_stand print plain (prints_are_terms.programs plain able.values) q o in
      let upto = all_left (met.IsNamed p.names)
      (stands.before ++ l.Mark m.OpenRound ∷ stands.inside) (l.Mark m.CloseRound ∷ stands.after)
      (subst (All (met.IsNamed p.names)) stands.stands all) in
      kept_named p.names stands.inside (lexemes (pred_parts q))
      (names_are_kept.preds stands.inside q stands.pred)
      (All-tail (met.IsNamed p.names) (l.Mark m.OpenRound) stands.inside
      (all_right (met.IsNamed p.names) stands.before (l.Mark m.OpenRound ∷ stands.inside) upto))

  -- So it can be sent.
  output_sendable : (q : Pred) → ProgramHasOutput plain q → IsSendable p.names q
  output_sendable q o own vars owns holds = record {
    closed = closes q own vars;
    values = pred_values own vars owns holds q (output_values plain q o able.values);
    named = named_have p.names (lexemes (pred_parts (close q own vars)))
        (closed_named p.names own vars q (output_named q o));
    within = able.within q o own vars owns holds;
  }

  -- the definitions and the components of the print
  parts_worded : AreWorded p.names (flat_map definition_parts plain.definitions) × AreWorded p.names
      (flat_map component_parts plain.components)
  parts_worded =
      let head : List Part =
      keyword k.Abc ∷ Space ∷ number 1 ∷ mark m.Semicolon ∷ Line ∷ flat_map definition_parts
      plain.definitions in
      let whole = from_lexemes p.names (program_parts plain) able.named in (
        (front p.names head (flat_map component_parts plain.components) whole).1.1.1,
        back p.names
            head (flat_map component_parts plain.components) whole,
      )

  -- The body of each definition can be told.
  definitions_tell : All (λ d. CanTell p.names d.1) plain.definitions
  definitions_tell =
      all_from (λ d. CanTell p.names d.1) plain.definitions
      (λ i d at.
      can_tell p.names d.1 (body_worded p.names d
      (each_worded p.names definition_parts plain.definitions parts_worded.0 i d at))
      (all_at DefinitionHasValues plain.definitions i d able.values.definitions at)
      (all_at (λ x. HasShortTuples x.1) plain.definitions i d able.short.definitions at)
      (λ q o. output_sendable q (inl (any_at (λ x. HasOutput x.1 q) plain.definitions i d at o))))

  -- So can each call's body.
  pub calls_tell : (c : Name) → CanTell p.names (body_of (definitions_of p.definitions) c)
  calls_tell c = bodies_tell p.names (definitions_of p.definitions) definitions_tell c

  -- The names of components have words,
  pub components_named : All (λ C. IsNamed p.names C.name) p.components
  components_named =
      all_from (λ C. IsNamed p.names C.name) p.components
      (λ i C at.
      (component_worded p.names (plain_component C)
      (each_worded p.names component_parts plain.components parts_worded.1 i (plain_component C)
      (map_at plain_component p.components i C at))).name_worded)

  -- Each component begins such that it can be told.
  component_able : (i : ℕ) (C : Component) → slice_get p.components i ≡ Some C →
      IsAble p (component_of C)
  component_able i C at =
      let here = map_at plain_component p.components i C at in
      let P = plain_component C in
      let worded = component_worded p.names P
      (each_worded p.names component_parts plain.components parts_worded.1 i P here) in
      let values = all_at ComponentHasValues plain.components i P able.values.components here in
      record {
        sound = programs_begin_sound p able.checked i C at;
        map = programs_begin_with_maps C.initial;
        held = all_held p.names C.initial []
            (initials p.names C.initial worded.initial values.initial) (All-nil (IsHeld p.names));
        process =
            can_tell p.names P.run worded.run values.run
            (all_at (λ x. HasShortTuples x.run) plain.components i P able.short.components here)
            (λ q o. output_sendable q
            (inr (any_at (λ x. HasOutput x.run q) plain.components i P here o)));
      }

  pub start_able : All (IsAble p) (system_of p)
  start_able = All-map (IsAble p) component_of p.components
      (all_from (λ C. IsAble p (component_of C)) p.components component_able)

-- ---- environments at the end
-- a value that is kept is not none
not_none : (v : Value) → IsKept v → ¬ (v ≡ Nothing)
not_none Nothing h e = absurd h
not_none (value.Scalar x) h e = cc
not_none (value.Set s) h e = cc

entries_told : (words : List (List ℕ)) (low : ℕ) (es : Entries) → RisesFrom low es →
    All (IsHeld words) es → All (IsEntry words) es
entries_told words low [] h k = All-nil (IsEntry words)
entries_told words low (e ∷ es) h k =
    let here = All-head (IsHeld words) e es k in
    All-cons (IsEntry words) e es (here.0, here.1, not_none e.1 h.1)
    (entries_told words (e.0.0 + 1) es h.2 (All-tail (IsHeld words) e es k))

-- ---- a run
pub runs_are_told : RunsAreTold
runs_are_told p rows last able told =
    let goes = run_goes p (calls_tell p able) (system_of p) rows last
    (length-map p.components component_of) (start_able p able) told in
    record {
      each = goes.rows;
      ends = All-weaker (IsAble p) (EndIsTold p)
          (λ C a. record { entries = entries_told p.names 0 C.env a.map a.held; map = a.map }) last
          goes.able;
      count = goes.count;
    }
