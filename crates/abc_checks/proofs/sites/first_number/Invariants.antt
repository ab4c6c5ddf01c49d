use Rattle.std.proofs.Common.{ℕ, ◌<◌}
use Rattle.abc_checks.proofs.sites.first_number.Given as goal

abbrev pub invariant-loop-i : goal.invariant-loop-i
invariant-loop-i g l = (k : ℕ) → k < l.i → ¬ g.N.Numbered.holds l.fact k
