use Rattle.abc_steps.proofs.Rows.{rows_tell_runs, runs_have_rows, rows_are_determined}
use Rattle.abc_steps.proofs.laws.rows_are_runs.Goals as goal

pub returns : goal.returns
returns c = record { runs = rows_tell_runs; exist = runs_have_rows; determined = rows_are_determined }
