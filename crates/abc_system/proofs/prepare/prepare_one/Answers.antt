use Rattle.std.proofs.Common.{inr, Some}
use Rattle.abc_moves.specs.Labels.{label_of}
use Rattle.abc_system.proofs.prepare.prepare_one.Goals as goal

pub returns-in_ok-prepare_input-in-Some-clause-ready : goal.returns-in_ok-prepare_input-in-Some-clause-ready
returns-in_ok-prepare_input-in-Some-clause-ready c = inr (label_of c.args.label.now, Some c.in-Some.place, c.in_ok-prepare_input-in-Some.ensures)
