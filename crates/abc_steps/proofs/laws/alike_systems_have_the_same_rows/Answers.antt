use Rattle.abc_steps.proofs.RowTurns.{alike_rows, alike_turn_rows}
use Rattle.abc_steps.proofs.laws.alike_systems_have_the_same_rows.Goals as goal

pub returns : goal.returns
returns c = record { rows = alike_rows; turns = alike_turn_rows }
