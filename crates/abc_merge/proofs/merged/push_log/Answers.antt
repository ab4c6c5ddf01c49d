use Rattle.std.proofs.Common.{◌++◌, ◌∷◌, [], ap, ◌∙◌}
use Rattle.abc_merge.proofs.Sorted.{push_step}
use Rattle.abc_merge.proofs.merged.push_log.Goals as goal

pub loop-place-preserved : goal.loop-place-preserved
loop-place-preserved g c =
    push_step c.args.keys.now.items c.loop-place.keys.items c.push.new.self.items c.args.actor
    c.loop-place.place c.args.entries.now c.index-entries-place.result c.loop-place-test.true
    c.loop-place.invariant (c.in_ok-push.ensures.items
    ∙ ap (λ e. c.loop-place.keys.items ++ (e.clock, c.args.actor, c.loop-place.place) ∷ []) c.index-entries-place.is)
