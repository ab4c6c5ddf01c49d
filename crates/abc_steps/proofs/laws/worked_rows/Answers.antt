use Rattle.abc_steps.proofs.RowExamples.{passed_then_said, not_said, two_turn_rows}
use Rattle.abc_steps.proofs.laws.worked_rows.Goals as goal

pub returns : goal.returns
returns c = record { passed_then_said = passed_then_said; not_said = not_said; two_turns = two_turn_rows }
