use Rattle.std.proofs.Common.{◌∙◌, [], ◌∷◌, ◌++◌, codes, decimal, ap}
use Rattle.std.proofs.lemmas.Result.{on_ok_weaker}
use Rattle.abc_trace.specs.Lines.{shape_word, spaced}
use Rattle.abc_trace.proofs.Appended.{appended-five}
use Rattle.abc_trace.proofs.lines.write_net_head.Goals as goal

pub returns : goal.returns
returns c =
    on_ok_weaker c.push-2.result
    (appended-five c.args.out.now _ _ _ _ _ (codes "abc-trace 1 ") (shape_word c.args.shape) (32 ∷ [])
    (spaced (decimal c.args.limit) (spaced (decimal c.args.nodes) (decimal c.args.pick))) (10 ∷ [])
    c.in_ok-extend_from_slice.ensures.ok
    (c.in_ok-extend_from_slice-2.ensures.ok ∙ ap (λ word. c.extend_from_slice.new.self ++ word) c.shape_word.ensures)
    c.in_ok-push.ensures.ok c.in_ok-write_three.ensures)
    c.push-2.ensures.ok
