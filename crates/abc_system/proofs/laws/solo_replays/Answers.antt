use Rattle.abc_system.proofs.Following.{solo_is_a_run, solo_replays, solo_is_not_refused}
use Rattle.abc_system.proofs.laws.solo_replays.Goals as goal

pub returns-clause-run : goal.returns-clause-run
returns-clause-run c = solo_is_a_run

pub returns-clause-same : goal.returns-clause-same
returns-clause-same c = solo_replays

pub returns-clause-not_refused : goal.returns-clause-not_refused
returns-clause-not_refused c = solo_is_not_refused
