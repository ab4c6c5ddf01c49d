use Rattle.std.proofs.Common.{refl}
use Rattle.abc_network_runs.proofs.EarlyEnds.{early-run, early-start, early-quiet, early-calculus}
use Rattle.abc_network_runs.proofs.EarlyEnds.{not-twice, not-yet, not-own, not-as-it-comes}
use Rattle.abc_network_runs.proofs.worked.an_early_number.Goals as goal

pub returns : goal.returns
returns c = record {
  run = early-run;
  quiet = early-quiet;
  comes_early = early-start;
  early_fronts = refl;
  stored = refl;
  fronts = refl;
  environments = refl;
  turns = refl;
  choices = refl;
  calculus = early-calculus;
  not_twice = not-twice;
  not_yet = not-yet;
  not_own = not-own;
  not_as_it_comes = not-as-it-comes;
}
