use Rattle.abc_checks.proofs.Leveling.{off_cycles}
use Rattle.abc_checks.proofs.levels.only_falls.Goals as goal

pub returns-then-level-gt0 : goal.returns-then-level-gt0
returns-then-level-gt0 c =
    off_cycles c.args.graph.now c.args.levels.now c.args.node c.level_of-level.result c.arrows_of.result.now c.any_above.result
    c.level_of-level.ensures c.arrows_of.ensures c.if-level-gt0.true c.any_above.ensures
