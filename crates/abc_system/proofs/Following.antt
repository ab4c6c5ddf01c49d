-- Runs that are made step by step.
use Rattle.std.proofs.Common.{◌≡◌, ◌⊎◌, ◌∙◌, inl, inr, ℕ, ◌+◌, ◌<◌, ◌≤◌, List, [], ◌∷◌, ◌++◌, length, map, take, drop, get_or, refl, ap, sym, subst}
use Rattle.std.specs.Prelude.{Bool, true, false, IsTrue, ◌↔◌}
use Rattle.std.proofs.lemmas.List.{map-append, length-map, take_more, drop_more, take-append-drop}
use Rattle.std.proofs.lemmas.Option.{slice_get_within, get_or_from_slice_get}
use Rattle.std.proofs.Common.{length-append}
use Rattle.abc_term.specs.Processes as term
use Rattle.abc_term.specs.Systems.{Choice, Step, Runs, IsSilent}
use Rattle.abc_packet.specs.declared.choice.Choice as packet
use Rattle.abc_steps.specs.Rows.{Row, choice_of_row, TellsStep, TellRun, TellsTurn, TellTurns}
use Rattle.abc_term.proofs.Steps.{run_is_determined}
use Rattle.abc_term.specs.declared.terms.Program.{Program}
use Rattle.abc_term.specs.Standing.{definitions_of, system_of}
use Rattle.abc_steps.specs.Alike.{IsAlike, AreAlike}
use Rattle.abc_steps.proofs.AlikeSteps.{alike_silent}
use Rattle.abc_steps.proofs.Rows.{tell_more, turns_more, rows_tell_runs, runs_have_rows, turns_tell_runs, rows_are_determined, runs_apart, row_of_step, step_of_row}
use Rattle.abc_steps.proofs.RowTurns.{turn_rows_are_turns, alike_rows, alike_turn_rows}
use Rattle.abc_system.specs.declared.row.StepRow.{StepRow}
use Rattle.abc_system.specs.declared.system.System.{System}
use Rattle.abc_system.specs.Systems.{choice_of, row_of}
use Rattle.abc_system.specs.Running.{system_in, definitions_in, envs_of, StepsBy, StepsAt}
use Rattle.abc_system.specs.declared.run.Run.{Run}
use Rattle.abc_system.specs.declared.by_choices.ReplayRefusal.{ReplayRefusal}
use Rattle.abc_system.specs.declared.by_choices.ReplayRefusal.TheVariants as refusal
use Rattle.abc_system.specs.Runs.{rows_of, EndsIn, IsSolo, IsReplay, IsFirstBad, IsStopped, Refuses}
use Rattle.abc_system.specs.RunLaws.{SoloIsARun, SoloReplays, SoloIsNotRefused}

-- ---- by the rule of places
pub record TakenSoFar (pick : ℕ) (before : System) (made : ℕ) (steps : List StepRow) (now : System) : Type 0 where
  pub turns : TellTurns (definitions_in before) pick (system_in before) (map row_of steps) (system_in now)
  pub count : length steps ≡ made
  pub program : definitions_in now ≡ definitions_in before

-- one turn more
pub taken_more : (pick : ℕ) (before : System) (made : ℕ) (steps : List StepRow) (now : System) (row : StepRow) (next : System) →
    TakenSoFar pick before made steps now → StepsAt now (pick + made) row next → definitions_in next ≡ definitions_in now →
    TakenSoFar pick before (made + 1) (steps ++ row ∷ []) next
taken_more pick before made steps now row next so step same =
    let defs = definitions_in before in
    let rows = map row_of steps in
    let many : made ≡ length rows = sym so.count ∙ sym (length-map steps row_of) in
    let told : TellsTurn defs (system_in now) (pick + length rows) (row_of row) (system_in next) =
    subst (λ (n : ℕ). TellsTurn defs (system_in now) (pick + n) (row_of row) (system_in next)) many
    (subst (λ (d : term.Definitions). TellsTurn d (system_in now) (pick + made) (row_of row) (system_in next)) so.program step) in
    record {
      turns =
          subst (λ (rs : List Row). TellTurns defs pick (system_in before) rs (system_in next)) (sym (map-append row_of steps (row ∷ [])))
          (turns_more defs pick (system_in before) rows (system_in now) (row_of row) (system_in next) so.turns told);
      count = length-append steps (row ∷ []) ∙ ap (λ (n : ℕ). n + 1) so.count;
      program = same ∙ so.program;
    }

-- ---- by choices
pub record ChosenSoFar (choices : List packet.Choice) (before : System) (k : ℕ) (steps : List StepRow) (now : System) : Type 0 where
  pub run : TellRun (definitions_in before) (system_in before) (map row_of steps) (system_in now)
  pub chosen : map choice_of_row (map row_of steps) ≡ map choice_of (take k choices)
  pub program : definitions_in now ≡ definitions_in before

-- one choice more
pub chosen_more : (choices : List packet.Choice) (before : System) (k : ℕ) (steps : List StepRow) (now : System) (choice : packet.Choice)
    (row : StepRow) (next : System) → k < length choices → choice ≡ get_or choices k choice → ChosenSoFar choices before k steps now →
    StepsBy now choice row next → definitions_in next ≡ definitions_in now →
    ChosenSoFar choices before (k + 1) (steps ++ row ∷ []) next
chosen_more choices before k steps now choice row next lt is so step same =
    let defs = definitions_in before in
    let rows = map row_of steps in
    let told : TellsStep defs (system_in now) (row_of row) (system_in next) =
    subst (λ (d : term.Definitions). TellsStep d (system_in now) (row_of row) (system_in next)) so.program step.1 in
    record {
      run =
          subst (λ (rs : List Row). TellRun defs (system_in before) rs (system_in next)) (sym (map-append row_of steps (row ∷ [])))
          (tell_more defs (system_in before) rows (system_in now) (row_of row) (system_in next) so.run told);
      chosen =
          ap (map choice_of_row) (map-append row_of steps (row ∷ [])) ∙ map-append choice_of_row rows (row_of row ∷ [])
          ∙ (λ i. so.chosen i ++ (step.0 ∙ ap choice_of is) i ∷ [])
          ∙ sym (map-append choice_of (take k choices) (get_or choices k choice ∷ []))
          ∙ ap (map choice_of) (sym (take_more choices k choice lt));
      program = same ∙ so.program;
    }

-- ---- a run from what a program begins with is one from its first system
-- one component
alike_back : (C D : term.Component) → IsAlike C D → IsAlike D C
alike_back C D a = record { env = sym a.env; interface = λ n. sym (a.interface n); process = sym a.process }

-- likeness goes both ways
pub alike_both : (S T : term.System) → AreAlike S T → AreAlike T S
alike_both [] [] a = tt
alike_both [] (D ∷ T) a = elim a [ ]
alike_both (C ∷ S) [] a = elim a [ ]
alike_both (C ∷ S) (D ∷ T) a = (alike_back C D a.0, alike_both S T a.1)

-- alike systems have the same environments
alike_envs : (S T : term.System) → AreAlike S T → envs_of S ≡ envs_of T
alike_envs [] [] a = refl
alike_envs [] (D ∷ T) a = elim a [ ]
alike_envs (C ∷ S) [] a = elim a [ ]
alike_envs (C ∷ S) (D ∷ T) a = λ i. a.0.env i ∷ alike_envs S T a.1 i

-- so a run that ends in the one ends in the other
alike_end : (defs : term.Definitions) (r : Run) (S T : term.System) → AreAlike S T → EndsIn defs r S → EndsIn defs r T
alike_end defs r S T a e = record {
  finals = e.finals ∙ alike_envs S T a;
  silent = (λ s. alike_silent defs S T a (e.silent.0 s), λ s. e.silent.1 (alike_silent defs T S (alike_both S T a) s));
}

-- a run by the rule
pub solo_from : (p : Program) (limit pick : ℕ) (S T : term.System) (r : Run) → AreAlike S (system_of p) →
    TellTurns (definitions_of p.definitions) pick S (rows_of r) T → length r.steps ≤ limit →
    (length r.steps ≡ limit) ⊎ IsSilent (definitions_of p.definitions) T → EndsIn (definitions_of p.definitions) r T → IsSolo p limit pick r
solo_from p limit pick S T r a told most ends end =
    let defs = definitions_of p.definitions in
    let there = alike_turn_rows defs pick S (system_of p) (rows_of r) T a told in
    let U = there.0 in
    let many : length (rows_of r) ≡ length r.steps = length-map r.steps row_of in
    let ended : (length (rows_of r) ≡ limit) ⊎ IsSilent defs U =
    elim ends [ inl e ↦ inl (many ∙ e) | inr s ↦ inr (alike_silent defs T U there.1 s) ] in
    record {
      run = record {
        last = U;
        told = turns_tell_runs defs pick (system_of p) (rows_of r) U there.2;
        ends = alike_end defs r T U there.1 end;
      };
      ruled =
          turn_rows_are_turns defs limit pick (system_of p) (rows_of r) U there.2 (subst (λ (n : ℕ). n ≤ limit) (sym many) most) ended;
    }

-- a run by choices
pub replay_from : (p : Program) (choices : List packet.Choice) (S T : term.System) (r : Run) → AreAlike S (system_of p) →
    TellRun (definitions_of p.definitions) S (rows_of r) T → map choice_of_row (rows_of r) ≡ map choice_of choices →
    EndsIn (definitions_of p.definitions) r T → IsReplay p choices r
replay_from p choices S T r a told chosen end =
    let defs = definitions_of p.definitions in
    let there = alike_rows defs S (system_of p) (rows_of r) T a told in
    record {
      run = record { last = there.0; told = there.2; ends = alike_end defs r T there.0 there.1 end };
      chosen = chosen;
    }

-- a step of one of two alike systems is a step of the other
step_back : (defs : term.Definitions) (S T : term.System) (c : Choice) (U : term.System) → AreAlike S T → Step defs S c U →
    (V : term.System) × AreAlike U V × Step defs T c V
step_back defs S T c U a step =
    let r = row_of_step defs S c U step in
    let there = alike_rows defs S T (r.0 ∷ []) U a (U, r.1, refl) in
    let V = there.0 in
    let told = subst (λ (X : term.System). TellsStep defs T r.0 X) (sym there.2.2) there.2.1 in
    (V, there.1, subst (λ (d : Choice). Step defs T d V) r.2 (step_of_row defs T r.0 V told))

-- a choice that is no step
pub bad_from : (p : Program) (choices : List packet.Choice) (index : ℕ) (S : term.System) → AreAlike S (system_of p) →
    IsFirstBad (definitions_of p.definitions) S choices index → IsFirstBad (definitions_of p.definitions) (system_of p) choices index
bad_from p choices index S a bad =
    let defs = definitions_of p.definitions in
    let rows = runs_have_rows defs S (map choice_of (take index choices)) bad.before bad.run in
    let there = alike_rows defs S (system_of p) rows.0 bad.before a rows.1 in
    let V = there.0 in
    record {
      choice = bad.choice;
      at = bad.at;
      before = V;
      run =
          subst (λ (cs : List Choice). Runs defs (system_of p) cs V) rows.2 (rows_tell_runs defs (system_of p) rows.0 V there.2);
      none = λ T step.
          bad.none (step_back defs V bad.before (choice_of bad.choice) T (alike_both bad.before V there.1) step).0
          (step_back defs V bad.before (choice_of bad.choice) T (alike_both bad.before V there.1) step).2;
    }

-- a refusal
pub stopped_from : (p : Program) (choices : List packet.Choice) (S : term.System) (e : ReplayRefusal) → AreAlike S (system_of p) →
    IsStopped (definitions_of p.definitions) S choices e → Refuses p choices e
stopped_from p choices S (refusal.NotAStep index) a bad = bad_from p choices index S a bad
stopped_from p choices S refusal.NoMemory a bad = tt

-- ---- the choices of a run by the rule replay to it
-- two truth values that tell the same are the same
same_truth : (a b : Bool) (P : Type 0) → IsTrue a ↔ P → IsTrue b ↔ P → a ≡ b
same_truth true true P f g = refl
same_truth true false P f g = let no = g.1 (f.0 refl) in sym no
same_truth false true P f g = f.1 (g.0 refl)
same_truth false false P f g = refl

pub solo_is_a_run : SoloIsARun
solo_is_a_run p limit pick r solo =
    rows_tell_runs (definitions_of p.definitions) (system_of p) (rows_of r) solo.run.last solo.run.told

pub solo_replays : SoloReplays
solo_replays p limit pick r q choices solo is replay =
    let defs = definitions_of p.definitions in
    let both = rows_are_determined defs (system_of p) (rows_of q) (rows_of r) replay.run.last solo.run.last replay.run.told solo.run.told
    (replay.chosen ∙ is) in
    let end = subst (λ (T : term.System). EndsIn defs q T) both.1 replay.run.ends in (
      both.0,
      end.finals ∙ sym solo.run.ends.finals,
      same_truth q.silent r.silent (IsSilent defs solo.run.last) end.silent solo.run.ends.silent,
    )

pub solo_is_not_refused : SoloIsNotRefused
solo_is_not_refused p limit pick r choices index solo is bad =
    let defs = definitions_of p.definitions in
    let lt = slice_get_within choices index bad.choice bad.at in
    let split : map choice_of choices ≡ map choice_of (take index choices) ++ choice_of bad.choice ∷ map choice_of (drop (index + 1) choices) =
    ap (map choice_of) (sym (take-append-drop index choices) ∙ ap (λ (cs : List packet.Choice). take index choices ++ cs) (drop_more choices index bad.choice lt))
    ∙ map-append choice_of (take index choices) (get_or choices index bad.choice ∷ drop (index + 1) choices)
    ∙ ap (λ (c : packet.Choice). map choice_of (take index choices) ++ choice_of c ∷ map choice_of (drop (index + 1) choices))
    (get_or_from_slice_get choices index bad.choice bad.choice bad.at) in
    let whole = subst (λ (cs : List Choice). Runs defs (system_of p) cs solo.run.last) (sym is ∙ split) (solo_is_a_run p limit pick r solo) in
    let parts = runs_apart defs (system_of p) (map choice_of (take index choices)) (choice_of bad.choice ∷ map choice_of (drop (index + 1) choices))
    solo.run.last whole in
    let same = run_is_determined defs (system_of p) (map choice_of (take index choices)) parts.0 bad.before parts.1 bad.run in
    bad.none parts.2.0 (subst (λ (T : term.System). Step defs T (choice_of bad.choice) parts.2.0) same parts.2.1)
