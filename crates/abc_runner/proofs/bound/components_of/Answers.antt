use Rattle.std.proofs.Common.{arith}
use Rattle.abc_runner.proofs.Texts.{few_components}
use Rattle.abc_runner.proofs.bound.components_of.Goals as goal

pub overflow_cast-result : goal.overflow_cast-result
overflow_cast-result c = let few = few_components c.args.program.now c.requires.checked in omega (arith, few, c.len.ensures)
