use Rattle.std.proofs.Common.{[], ◌∷◌, codes, decimal}
use Rattle.std.proofs.lemmas.Result.{on_ok_weaker}
use Rattle.abc_trace.proofs.Appended.{appended-five}
use Rattle.abc_trace.proofs.lines.write_solo_head.Goals as goal

pub returns : goal.returns
returns c =
    on_ok_weaker c.push-2.result
    (appended-five c.args.out.now _ _ _ _ _ (codes "abc-trace 1 solo ") (decimal c.args.limit) (32 ∷ []) (decimal c.args.pick) (10 ∷ [])
    c.in_ok-extend_from_slice.ensures.ok c.in_ok-write_number.ensures c.in_ok-push.ensures.ok c.in_ok-write_number-2.ensures)
    c.push-2.ensures.ok
