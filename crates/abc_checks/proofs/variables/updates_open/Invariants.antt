use Rattle.std.proofs.Common.{◌≡◌, drop}
use Rattle.abc_term.specs.Standing.{updates_of}
use Rattle.abc_checks.specs.Variables.{updates_open}
use Rattle.abc_checks.specs.Scopes.{bound_in}
use Rattle.abc_checks.proofs.variables.updates_open.Given as goal

abbrev pub invariant-loop-update : goal.invariant-loop-update
invariant-loop-update l =
    updates_open (bound_in l.scope) (updates_of l.updates)
    ≡ updates_open (bound_in l.scope) (updates_of (drop l.update-index l.updates))
