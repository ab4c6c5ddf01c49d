use Rattle.std.proofs.Common.{arith}
use Rattle.abc_checks.proofs.Leveling.{none_rise}
use Rattle.abc_checks.proofs.levels.none_rises.Goals as goal

pub returns : goal.returns
returns c _ = none_rise c.args.graph.now c.args.levels.now c.loop-node.node (omega arith) c.loop-node.invariant
