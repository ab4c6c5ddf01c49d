-- Programs that differ at most in where they lie in memory are printed alike, and their runs have one trace.
use Rattle.std.proofs.Common.{◌≡◌, ◌∙◌, ℕ, List, [], ◌∷◌, ◌++◌, length, map, Option, Some, None, refl, ap, sym, subst, slice_get}
use Rattle.std.specs.Option.{option_map, option_map_or}
use Rattle.std.proofs.lemmas.List.{length-map}
use Rattle.std.proofs.lemmas.Option.{slice_get-map}
use Rattle.std.proofs.lemmas.Simd.{map-map}
use Rattle.abc_pred.specs.declared.names.Name.{Name}
use Rattle.abc_pred.specs.Maps.{Entries}
use Rattle.abc_term.specs.Processes as term
use Rattle.abc_term.specs.Speaking.{Label}
use Rattle.abc_term.specs.Standing.{set_all, definitions_of, system_of}
use Rattle.abc_term.specs.declared.terms.Component.{Component}
use Rattle.abc_term.specs.declared.terms.Program.{Program}
use Rattle.abc_steps.specs.Rows.{Row, choice_of_row, TellRun}
use Rattle.abc_steps.specs.Turns.{RunsByTurns}
use Rattle.abc_steps.proofs.OneRun.{turns_are_determined}
use Rattle.abc_steps.proofs.Rows.{rows_are_determined}
use Rattle.abc_grammar.specs.Plain.{PlainComponent, PlainProgram, plain_component}
use Rattle.abc_grammar.specs.TextLaws.{AreAlike}
use Rattle.abc_printed.specs.Parts.{bytes_of}
use Rattle.abc_printed.specs.Forms.{program_parts}
use Rattle.abc_printed.specs.Printed.{program_text}
use Rattle.abc_moves.specs.declared.label.Label as moves
use Rattle.abc_net.specs.declared.record.Record.{Record}
use Rattle.abc_trace.specs.declared.trace.Head.{Head}
use Rattle.abc_trace.specs.declared.trace.Head.TheVariants.{Solo}
use Rattle.abc_trace.specs.Lines.{head_text, said_text, empty_text, env_text, node_text, end_text}
use Rattle.abc_trace.specs.Texts.{numbered, limit_of}
use Rattle.abc_run_text.specs.TextOf.{name_at, step_text, row_text, envs_text, text_of}
use Rattle.abc_run_text.specs.SoloTexts.{IsSoloText}
use Rattle.abc_system.specs.Systems.{choice_of}
use Rattle.abc_record_text.specs.RecordTexts.{IsRecordText, head_in, handled_in}
use Rattle.abc_runner.proofs.OneNumbering.{one_numbering}

-- ---- what the plain components give
-- a component at the beginning of a run
abbrev begun : PlainComponent → term.Component
begun C = record { env = set_all C.initial []; interface = C.show; process = C.run }

-- the names of components
abbrev names_in : List Component → List Name
names_in Cs = map (λ C. C.name) Cs

abbrev no_name : Name
no_name = record { 0 = 0 }

-- the name of a component that is looked up is the name that is looked up
name_of : (o : Option Component) →
    option_map_or (λ C. C.name) o no_name ≡ option_map_or (λ n. n) (option_map (λ C. C.name) o) no_name
name_of None = refl
name_of (Some C) = refl

-- the name at a number, from the names alone
name_among : (p : Program) (i : ℕ) → name_at p i ≡ option_map_or (λ n. n) (slice_get (names_in p.components) i) no_name
name_among p i =
    name_of (slice_get p.components i)
    ∙ ap (λ (o : Option Name). option_map_or (λ n. n) o no_name) (sym (slice_get-map (λ C. C.name) p.components i))

-- the lines of environments, from the names alone
abbrev envs_by : List (List ℕ) → List Name → List Entries → List ℕ
envs_by words (n ∷ ns) (env ∷ envs) = env_text words n env ++ envs_by words ns envs
envs_by words _ _ = []

envs_among : (words : List (List ℕ)) (Cs : List Component) (envs : List Entries) →
    envs_text words Cs envs ≡ envs_by words (names_in Cs) envs
envs_among words [] [] = refl
envs_among words [] (env ∷ envs) = refl
envs_among words (C ∷ Cs) [] = refl
envs_among words (C ∷ Cs) (env ∷ envs) = ap (λ (text : List ℕ). env_text words C.name env ++ text) (envs_among words Cs envs)

-- ---- two programs
module _ (p q : Program) (alike : AreAlike p q) where
  -- they have as many components,
  pub same_count : length p.components ≡ length q.components
  same_count =
      sym (length-map p.components plain_component) ∙ ap (λ (x : PlainProgram). length x.components) alike.terms
      ∙ length-map q.components plain_component

  -- the same definitions,
  pub same_definitions : definitions_of p.definitions ≡ definitions_of q.definitions
  same_definitions = ap (λ (x : PlainProgram). x.definitions) alike.terms

  -- the same first system,
  pub same_system : system_of p ≡ system_of q
  same_system =
      sym (map-map begun plain_component p.components) ∙ ap (λ (x : PlainProgram). map begun x.components) alike.terms
      ∙ map-map begun plain_component q.components

  -- the same names of components,
  same_names : names_in p.components ≡ names_in q.components
  same_names =
      sym (map-map (λ (C : PlainComponent). C.name) plain_component p.components)
      ∙ ap (λ (x : PlainProgram). map (λ (C : PlainComponent). C.name) x.components) alike.terms
      ∙ map-map (λ (C : PlainComponent). C.name) plain_component q.components

  same_name : (i : ℕ) → name_at p i ≡ name_at q i
  same_name i =
      name_among p i ∙ ap (λ (names : List Name). option_map_or (λ n. n) (slice_get names i) no_name) same_names ∙ sym (name_among q i)

  -- the same canonical text,
  pub same_print : program_text p ≡ program_text q
  same_print = λ t. bytes_of (alike.names t) (program_parts (alike.terms t))

  -- the same line of a step,
  same_step : (n sender : ℕ) (spoke : Option (ℕ × Label)) (heard : List (ℕ × ℕ)) →
      step_text p n sender spoke heard ≡ step_text q n sender spoke heard
  same_step n sender None heard = λ t. empty_text (alike.names t) n (same_name sender t)
  same_step n sender (Some s) heard =
      λ t. said_text (alike.names t) n (same_name sender t) s.0 s.1.values s.1.pred (map (λ h. (same_name h.0 t, h.1)) heard)

  same_row : (n : ℕ) (r : Row) → row_text p n r ≡ row_text q n r
  same_row n r = same_step n r.sender r.spoke r.heard

  same_envs : (envs : List Entries) → envs_text p.names p.components envs ≡ envs_text q.names q.components envs
  same_envs envs =
      envs_among p.names p.components envs ∙ (λ t. envs_by (alike.names t) (same_names t) envs) ∙ sym (envs_among q.names q.components envs)

  -- the same trace of rows,
  pub same_trace : (head : Head) (rows : List Row) (last : term.System) (handled : List ℕ) →
      text_of p head rows last handled ≡ text_of q head rows last handled
  same_trace head rows last handled =
      λ t.
      head_text head ++ numbered (λ n r. same_row n r t) 1 rows ++ same_envs (map (λ C. C.env) last) t
      ++ numbered node_text 0 handled ++ end_text (limit_of head) (length rows)

  -- the same runs told by rows,
  same_run : (rows : List Row) (last : term.System) → TellRun (definitions_of p.definitions) (system_of p) rows last →
      TellRun (definitions_of q.definitions) (system_of q) rows last
  same_run rows last told =
      subst (λ (S : term.System). TellRun (definitions_of q.definitions) S rows last) same_system
      (subst (λ (d : term.Definitions). TellRun d (system_of p) rows last) same_definitions told)

  -- one trace of the run by the rule of places,
  pub one_solo : (limit pick : ℕ) (text text' : List ℕ) → IsSoloText p limit pick text → IsSoloText q limit pick text' → text ≡ text'
  one_solo limit pick text text' h k =
      let defs = definitions_of q.definitions in
      let told = same_run h.rows h.last h.run.told in
      let ruled : RunsByTurns defs limit pick (system_of q) (map choice_of_row h.rows) h.last =
      subst (λ (S : term.System). RunsByTurns defs limit pick S (map choice_of_row h.rows) h.last) same_system
      (subst (λ (d : term.Definitions). RunsByTurns d limit pick (system_of p) (map choice_of_row h.rows) h.last) same_definitions h.run.ruled) in
      let choices =
      turns_are_determined defs limit pick (system_of q) (map choice_of_row h.rows) (map choice_of_row k.rows) h.last k.last ruled k.run.ruled in
      let rows = rows_are_determined defs (system_of q) h.rows k.rows h.last k.last told k.run.told choices.0 in
      h.written ∙ same_trace (Solo limit pick) h.rows h.last [] ∙ (λ t. text_of q (Solo limit pick) (rows.0 t) (rows.1 t) [])
      ∙ sym k.written

  -- and one trace of a record, which tells one run.
  pub one_record : (ran ran' : Record moves.Label) (text text' : List ℕ) → ran ≡ ran' → IsRecordText p ran text → IsRecordText q ran' text' →
      text ≡ text'
  one_record ran ran' text text' same h k =
      let defs = definitions_of q.definitions in
      let choices = one_numbering ran ran' h.choices k.choices same h.numbering k.numbering in
      let chosen : map choice_of_row h.rows ≡ map choice_of_row k.rows = h.chosen ∙ ap (λ cs. map choice_of cs) choices ∙ sym k.chosen in
      let rows = rows_are_determined defs (system_of q) h.rows k.rows h.last k.last (same_run h.rows h.last h.run) k.run chosen in
      h.written ∙ same_trace (head_in ran) h.rows h.last (handled_in ran)
      ∙ (λ t. text_of q (head_in (same t)) (rows.0 t) (rows.1 t) (handled_in (same t))) ∙ sym k.written
