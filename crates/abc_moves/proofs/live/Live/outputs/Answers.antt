use Rattle.std.proofs.Common.{arith}
use Rattle.abc_moves.specs.Lives.{component_in}
use Rattle.abc_moves.proofs.Sounding.{few_outputs}
use Rattle.abc_moves.proofs.live.Live.outputs.Goals as goal

pub returns-clause-few : goal.returns-clause-few
returns-clause-few c =
    let self = c.args.self.now in let few = few_outputs self.definitions.now (component_in self) self.sound in
    let same = self.counted in omega arith
