use Rattle.abc_shape.proofs.Ended.{between-actors}
use Rattle.abc_shape.proofs.numbers.number_between.Goals as goal

pub returns-in-false-false : goal.returns-in-false-false
returns-in-false-false c = between-actors _ _ _ _ c.in-false-false.is-0 c.in-false-false.is-1 c.node_number.ensures
