use Rattle.std.proofs.Common.{◌∙◌, List, ℕ, ◌++◌, ap}
use Rattle.std.proofs.lemmas.Result.{on_ok_weaker}
use Rattle.abc_run_text.proofs.solo.write_row.Goals as goal

pub returns : goal.returns
returns c =
    on_ok_weaker c.write_line.result
    (λ e. e ∙ ap (λ (t : List ℕ). c.args.out.now ++ t) (c.in_ok-line.ensures c.args.number)) c.write_line.ensures
