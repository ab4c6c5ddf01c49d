use Rattle.std.proofs.Common.{◌≡◌, ◌∙◌, ◌<◌, ◌^◌, ℕ, List, ◌++◌, All, refl, ap, subst, arith}
use Rattle.std.proofs.lemmas.List.Elements.{All-from_get_or}
use Rattle.abc_pred.specs.Maps.{Entries}
use Rattle.abc_term.specs.declared.terms.Component.{Component}
use Rattle.abc_system.specs.declared.row.StepRow.{StepRow}
use Rattle.abc_system.specs.Runs.{rows_of}
use Rattle.abc_trace.specs.declared.trace.EnvLine.{EnvLine}
use Rattle.abc_trace.specs.declared.trace.Trace.{Trace}
use Rattle.abc_run_text.specs.TextOf.{run_text}
use Rattle.abc_run_trace.specs.Telling.{TellEach, finals_of}
use Rattle.abc_run_trace.proofs.Made.{IsMadeOf}
use Rattle.abc_run_trace.proofs.Written.{text_is}
use Rattle.abc_run_trace.proofs.Formed.{Conditions, is_formed}
use Rattle.abc_run_trace.proofs.making.trace_of.Goals as goal

pub returns : goal.returns
returns c =
    let p = c.args.program.now in
    let head = c.args.head.now in
    let r = c.args.steps.now in
    let handled = c.args.handled.now in
    let names : c.extend_from_slice.new.self ≡ p.names =
    c.in_ok-extend_from_slice.ensures.ok
    ∙ ap (λ (ws : List (List ℕ)). ws ++ c.as_slice.result.now) c.new-names.ensures
    ∙ c.as_slice.ensures in
    let lines : TellEach p r.steps c.in_ok-lines.lines =
    subst (λ (rs : List StepRow). TellEach p rs c.in_ok-lines.lines) c.as_slice-2.ensures
    c.in_ok-lines.ensures in
    let Cs = c.as_slice-components.result.now in
    let envs = c.as_slice-3.result.now in
    let finals : c.add_finals.new.finals ≡ finals_of p.components r.finals =
    c.in_ok-add_finals.ensures
    ∙ ap (λ (fs : List EnvLine). fs ++ finals_of Cs envs) c.new-finals.ensures
    ∙ ap (λ (Ds : List Component). finals_of Ds envs) c.as_slice-components.ensures
    ∙ ap (λ (es : List Entries). finals_of p.components es) c.as_slice-3.ensures in
    let packets : c.extend_from_slice-2.new.self ≡ handled =
    c.in_ok-extend_from_slice-2.ensures.ok
    ∙ ap (λ (ks : List ℕ). ks ++ handled) c.new-packets.ensures in
    let t : Trace =
    record {
      names = c.extend_from_slice.new.self;
      head = head;
      lines = c.in_ok-lines.lines;
      finals = c.add_finals.new.finals;
      handled = c.extend_from_slice-2.new.self;
    } in
    let made : IsMadeOf p head r.steps r.finals handled t =
    record { names = names; head = refl; lines = lines; finals = finals; handled = packets } in
    let small : All (λ n. n < 2 ^ 64) handled =
    All-from_get_or (λ n. n < 2 ^ 64) handled 0
    (λ i lt. let fits = c.type_inv.handled i in omega arith) in
    let asked : Conditions p head r handled =
    record {
      able = c.requires.program;
      run = c.requires.run;
      head = c.requires.head;
      count = c.requires.count;
      said = c.requires.said;
      nodes = c.requires.handled;
      handled = small;
    } in
    record {
      formed = is_formed p head r handled t asked made;
      names = names;
      last = c.requires.run.last;
      told = c.requires.run.told;
      written =
          text_is p head r.steps r.finals handled t made
          ∙ ap (λ (es : List Entries). run_text p head (rows_of r) es handled)
          c.requires.run.ends.finals;
    }
