use Rattle.std.proofs.Common.{◌≡◌, ◌∙◌, ℕ, ◌++◌, List, length, ap, sym, subst, arith}
use Rattle.abc_packet.specs.declared.choice.Choice.{Choice}
use Rattle.abc_pred.specs.Maps.{Entries}
use Rattle.abc_term.specs.Processes as term
use Rattle.abc_term.specs.Standing.{definitions_of, system_of}
use Rattle.abc_term.specs.declared.terms.Component.{Component}
use Rattle.abc_system.specs.Running.{system_in}
use Rattle.abc_trace.specs.Lines.{head_text, end_text}
use Rattle.abc_run_text.specs.TextOf.{envs_text}
use Rattle.abc_record_text.specs.RecordTexts.{CanRun, WritesRun, head_in}
use Rattle.abc_record_text.proofs.LegalTells.{record_tells}
use Rattle.abc_record_text.proofs.RecordRun.{can-run-alike, record_from}
use Rattle.abc_record_text.proofs.told.record_text.Goals as goal

pub choices-requires-clause-logs : goal.choices-requires-clause-logs
choices-requires-clause-logs c =
    let many = (record_tells c.args.program.now c.args.ran.now c.requires.legal).many in omega (arith, many)

pub choices-requires-clause-numbered : goal.choices-requires-clause-numbered
choices-requires-clause-numbered c =
    let tells = record_tells c.args.program.now c.args.ran.now c.requires.legal in (tells.count, tells.numbered)

pub write_steps-requires : goal.write_steps-requires
write_steps-requires c =
    let program = c.args.program.now in let told = c.in_ok-told.told in let system = c.in_ok-system.system in
    let defs = definitions_of program.definitions in
    let tells = record_tells program c.args.ran.now c.requires.legal in
    let can =
    can-run-alike defs (system_of program) (system_in system) told c.in_ok-system.ensures.system
    (tells.runs told c.in_ok-told.ensures.count c.in_ok-told.ensures.choices) in
    subst (λ (d : term.Definitions). CanRun d (system_in system) c.as_slice.result.now) (sym c.in_ok-system.ensures.program)
    (subst (λ (cs : List Choice). CanRun defs (system_in system) cs) (sym c.as_slice.ensures) can)

pub write_nodes-requires : goal.write_nodes-requires
write_nodes-requires c = (record_tells c.args.program.now c.args.ran.now c.requires.legal).many

pub returns : goal.returns
returns c =
    let program = c.args.program.now in let ran = c.args.ran.now in
    let told = c.in_ok-told.told in let envs = c.in_ok-envs.envs in
    let first = c.in_ok-system.system in let last = c.write_steps.new.system in
    let head : c.write_head.new.out ≡ head_text (head_in ran) =
    c.in_ok-write_head.ensures ∙ ap (λ (t : List ℕ). t ++ head_text (head_in ran)) c.new-out.ensures in
    let run =
    subst (λ (cs : List Choice). WritesRun program cs first last c.write_head.new.out c.write_steps.new.out) c.as_slice.ensures
    c.in_ok-write_steps.ensures in
    let env_lines : c.write_envs.new.out ≡ c.write_steps.new.out ++ envs_text program.names program.components envs =
    c.in_ok-write_envs.ensures
    ∙ ap (λ (Cs : List Component). c.write_steps.new.out ++ envs_text program.names Cs c.as_slice-2.result.now) c.as_slice-components.ensures
    ∙ ap (λ (es : List Entries). c.write_steps.new.out ++ envs_text program.names program.components es) c.as_slice-2.ensures in
    let end : c.write_end.new.out ≡ c.write_nodes.new.out ++ end_text ran.limit (length told) =
    c.in_ok-write_end.ensures
    ∙ ap (λ (n : ℕ). c.write_nodes.new.out ++ end_text n c.len.result) c.from.ensures
    ∙ ap (λ (n : ℕ). c.write_nodes.new.out ++ end_text ran.limit n) c.len.ensures in
    record_from program ran told first last envs c.write_head.new.out c.write_steps.new.out c.write_envs.new.out c.write_nodes.new.out
    c.write_end.new.out c.in_ok-system.ensures.system c.in_ok-system.ensures.program
    (record { numbered = c.in_ok-told.ensures.count; told = c.in_ok-told.ensures.choices })
    ((record_tells program ran c.requires.legal).ends told c.in_ok-told.ensures.count c.in_ok-told.ensures.choices)
    (record {
      head = head;
      run = run;
      envs_now = c.in_ok-envs.ensures;
      envs_text = env_lines;
      nodes = c.in_ok-write_nodes.ensures;
      end = end;
    })
