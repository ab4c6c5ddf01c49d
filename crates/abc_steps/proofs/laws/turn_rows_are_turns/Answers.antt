use Rattle.abc_steps.proofs.Rows.{turns_tell_runs}
use Rattle.abc_steps.proofs.RowTurns.{turn_rows_are_turns, turns_have_rows}
use Rattle.abc_steps.proofs.laws.turn_rows_are_turns.Goals as goal

pub returns : goal.returns
returns c = record { rows = turns_tell_runs; turns = turn_rows_are_turns; exist = turns_have_rows }
