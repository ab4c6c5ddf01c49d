use Rattle.abc_checks.proofs.checking.unguarded.Goals as goal

pub returns : goal.returns
returns c = c.first_bad_cycle.ensures
