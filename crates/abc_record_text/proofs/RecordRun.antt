-- The text of a record's run that is made from what a program begins with is that of the run from its first system.
use Rattle.std.proofs.Common.{◌≡◌, ◌∙◌, ◌⊎◌, inl, inr, ℕ, List, ◌++◌, length, map, refl, ap, sym, subst, arith}
use Rattle.std.specs.Prelude.{Bool, true, false, IsTrue, ◌↔◌}
use Rattle.std.proofs.lemmas.List.{length-map}
use Rattle.abc_packet.specs.declared.choice.Choice.{Choice}
use Rattle.abc_pred.specs.Maps.{Entries}
use Rattle.abc_term.specs.Processes as term
use Rattle.abc_term.specs.Systems as systems
use Rattle.abc_term.specs.Standing.{definitions_of, system_of}
use Rattle.abc_term.specs.declared.terms.Program.{Program}
use Rattle.abc_moves.specs.declared.label.Label.{Label}
use Rattle.abc_steps.specs.Alike.{AreAlike}
use Rattle.abc_steps.specs.Rows.{choice_of_row, TellRun}
use Rattle.abc_steps.proofs.Rows.{rows_tell_runs, runs_have_rows}
use Rattle.abc_steps.proofs.RowTurns.{alike_rows}
use Rattle.abc_steps.proofs.Turns.{silent_or_not, silent_has_none}
use Rattle.abc_system.specs.declared.run.Run.{Run}
use Rattle.abc_system.specs.declared.system.System.{System}
use Rattle.abc_system.specs.Systems.{choice_of, row_of}
use Rattle.abc_system.specs.Running.{system_in, definitions_in, envs_of}
use Rattle.abc_system.proofs.Following.{alike_both, replay_from}
use Rattle.abc_trace.specs.Lines.{head_text, node_text, end_text}
use Rattle.abc_trace.specs.Texts.{numbered}
use Rattle.abc_run_text.specs.TextOf.{row_text, envs_text, run_text}
use Rattle.abc_net.specs.declared.record.Record.{Record}
use Rattle.abc_record_text.proofs.LegalTells.{EndsWell}
use Rattle.abc_record_text.specs.RecordTexts.{CanRun, WritesRun, AreChoicesOf, IsRecordText, head_in, handled_in}

-- what is a run from a system is one from each that is alike
pub can-run-alike : (defs : term.Definitions) (S S' : term.System) (choices : List Choice) → AreAlike S' S → CanRun defs S choices
    → CanRun defs S' choices
can-run-alike defs S S' choices alike can =
    let told = runs_have_rows defs S (map choice_of choices) can.0 can.1 in
    let there = alike_rows defs S S' told.0 can.0 (alike_both S' S alike) told.1 in (
      there.0,
      subst (λ (cs : List systems.Choice). systems.Runs defs S' cs there.0) told.2 (rows_tell_runs defs S' told.0 there.0 there.2),
    )

-- whether no component can speak, as a truth value
silence : (defs : term.Definitions) (S : term.System) → (b : Bool) × (IsTrue b ↔ systems.IsSilent defs S)
silence defs S =
    elim (silent_or_not defs S) [
      | inl silent ↦ (true, (λ _. silent, λ _. refl))
      | inr some ↦ (false, (λ no. absurd (grind (arith, no)), λ silent. let none = silent_has_none defs S silent in absurd (omega (arith, none, some))))
    ]

-- the first line, the lines of the steps, those of the environments and of the nodes, and the last line
pub record WritesRecord (p : Program) (ran : Record Label) (choices : List Choice) (first now : System) (envs : List Entries)
    (out₀ out₁ out₂ out₃ out₄ : List ℕ) : Type 0 where
  pub head : out₀ ≡ head_text (head_in ran)
  pub run : WritesRun p choices first now out₀ out₁
  pub envs_now : envs ≡ envs_of (system_in now)
  pub envs_text : out₂ ≡ out₁ ++ envs_text p.names p.components envs
  pub nodes : out₃ ≡ out₂ ++ numbered node_text 0 (handled_in ran)
  pub end : out₄ ≡ out₃ ++ end_text ran.limit (length choices)

pub record_from :
    (p : Program) (ran : Record Label) (choices : List Choice) (first now : System) (envs : List Entries) (out₀ out₁ out₂ out₃ out₄ : List ℕ)
    → AreAlike (system_in first) (system_of p) → definitions_in first ≡ definitions_of p.definitions → AreChoicesOf ran choices
    → EndsWell p ran.limit choices → WritesRecord p ran choices first now envs out₀ out₁ out₂ out₃ out₄ → IsRecordText p ran out₄
record_from p ran choices first now envs out₀ out₁ out₂ out₃ out₄ alike program numbering well all =
    let defs = definitions_of p.definitions in
    let rows = map row_of all.run.steps in
    let truth = silence defs (system_in now) in
    let run : Run = record { steps = all.run.steps; finals = envs; silent = truth.0 } in
    let told = subst (λ (d : term.Definitions). TellRun d (system_in first) rows (system_in now)) program all.run.run in
    let replay =
    replay_from p choices (system_in first) (system_in now) run alike told all.run.chosen
    (record { finals = all.envs_now; silent = truth.1 }) in
    let many : length choices ≡ length rows =
    sym (length-map choices choice_of) ∙ ap (λ (cs : List systems.Choice). length cs) (sym all.run.chosen) ∙ length-map rows choice_of_row in
    let handled = handled_in ran in
    let lines = numbered (row_text p) 1 rows in
    record {
      choices = choices;
      numbering = numbering;
      rows = rows;
      last = replay.run.last;
      run = replay.run.told;
      chosen = replay.chosen;
      ends = subst (λ (n : ℕ). (n ≡ ran.limit) ⊎ systems.IsSilent defs replay.run.last) many (well replay.run.last
          (subst (λ (cs : List systems.Choice). systems.Runs defs (system_of p) cs replay.run.last) replay.chosen
          (rows_tell_runs defs (system_of p) rows replay.run.last replay.run.told)));
      written =
          all.end
          ∙ ap (λ (t : List ℕ). t ++ end_text ran.limit (length choices))
          (all.nodes
          ∙ ap (λ (t : List ℕ). t ++ numbered node_text 0 handled)
          (all.envs_text
          ∙ ap (λ (t : List ℕ). t ++ envs_text p.names p.components envs)
          (all.run.written ∙ ap (λ (t : List ℕ). t ++ lines) all.head)))
          ∙ ap (λ (n : ℕ). (((head_text (head_in ran) ++ lines) ++ envs_text p.names p.components envs) ++ numbered node_text 0 handled) ++ end_text ran.limit n) many
          ∙ ap (λ (es : List Entries). run_text p (head_in ran) rows es handled) replay.run.ends.finals;
    }
