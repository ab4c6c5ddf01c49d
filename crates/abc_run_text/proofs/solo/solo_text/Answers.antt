use Rattle.std.proofs.Common.{◌≡◌, ◌∙◌, ℕ, List, ◌++◌, ap}
use Rattle.abc_pred.specs.Maps.{Entries}
use Rattle.abc_term.specs.declared.terms.Component.{Component}
use Rattle.abc_trace.specs.declared.trace.Head.TheVariants.{Solo}
use Rattle.abc_trace.specs.Lines.{head_text, end_text}
use Rattle.abc_run_text.specs.TextOf.{envs_text}
use Rattle.abc_run_text.proofs.SoloRun.{solo_from}
use Rattle.abc_run_text.proofs.solo.solo_text.Goals as goal

pub returns : goal.returns
returns c =
    let program = c.args.program.now in
    let made = c.in_ok-made.made in let envs = c.in_ok-envs.envs in
    let head : c.write_head.new.out ≡ head_text (Solo c.args.limit c.args.pick) =
    c.in_ok-write_head.ensures ∙ ap (λ (t : List ℕ). t ++ head_text (Solo c.args.limit c.args.pick)) c.new-out.ensures in
    let env_lines : c.write_envs.new.out ≡ c.write_steps.new.out ++ envs_text program.names program.components envs =
    c.in_ok-write_envs.ensures
    ∙ ap (λ (Cs : List Component). c.write_steps.new.out ++ envs_text program.names Cs c.as_slice-2.result.now) c.as_slice.ensures
    ∙ ap (λ (es : List Entries). c.write_steps.new.out ++ envs_text program.names program.components es) c.as_slice-2.ensures in
    let end : c.write_end.new.out ≡ c.write_envs.new.out ++ end_text c.args.limit made =
    c.in_ok-write_end.ensures
    ∙ ap (λ (n : ℕ). c.write_envs.new.out ++ end_text n c.from-2.result) c.from.ensures
    ∙ ap (λ (n : ℕ). c.write_envs.new.out ++ end_text c.args.limit n) c.from-2.ensures in
    solo_from program c.args.limit c.args.pick made c.in_ok-system.system c.write_steps.new.system envs
    c.write_head.new.out c.write_steps.new.out c.write_envs.new.out c.write_end.new.out
    c.in_ok-system.ensures.system c.in_ok-system.ensures.program
    (record {
      head = head;
      steps = c.in_ok-made.ensures.steps;
      ends = c.in_ok-made.ensures.ends;
      envs_now = c.in_ok-envs.ensures;
      envs_text = env_lines;
      end = end;
    })
