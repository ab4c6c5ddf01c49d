use Rattle.std.proofs.Common.{refl}
use Rattle.abc_network_runs.proofs.LateEnds.{late-run, late-quiet, late-calculus, no-turn-yet}
use Rattle.abc_network_runs.proofs.LateEnds.{not-silent, not-stale}
use Rattle.abc_network_runs.proofs.worked.a_late_output.Goals as goal

pub returns : goal.returns
returns c = record {
  run = late-run;
  quiet = late-quiet;
  fronts = refl;
  environments = refl;
  turns = refl;
  choices = refl;
  calculus = late-calculus;
  no_turn_yet = no-turn-yet;
  not_silent = not-silent;
  not_stale = not-stale;
}
