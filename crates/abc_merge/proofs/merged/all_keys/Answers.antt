use Rattle.std.proofs.Common.{◌++◌, ap, ◌∙◌, map}
use Rattle.abc_merge.specs.Keys.{entry_keys}
use Rattle.abc_merge.proofs.Sorted.{all_step}
use Rattle.abc_merge.proofs.merged.all_keys.Goals as goal

pub loop-actor-preserved : goal.loop-actor-preserved
loop-actor-preserved g c =
    all_step c.loop-actor.keys.items c.push_log.new.keys.items c.loop-actor.actor c.args.logs.now
    c.index-logs-actor.result c.loop-actor-test.true c.index-logs-actor.is c.loop-actor.invariant
    (c.in_ok-push_log.ensures
    ∙ ap (λ l. c.loop-actor.keys.items ++ entry_keys c.loop-actor.actor 0 (map (λ e. e.clock) l))
    c.entries.ensures.value)
