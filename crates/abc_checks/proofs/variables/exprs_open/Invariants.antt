use Rattle.std.proofs.Common.{◌≡◌, drop}
use Rattle.abc_term.specs.Standing.{exprs_of}
use Rattle.abc_checks.specs.Variables.{exprs_open}
use Rattle.abc_checks.specs.Scopes.{bound_in}
use Rattle.abc_checks.proofs.variables.exprs_open.Given as goal

abbrev pub invariant-loop-expr : goal.invariant-loop-expr
invariant-loop-expr l =
    exprs_open (bound_in l.scope) (exprs_of l.exprs) ≡ exprs_open (bound_in l.scope) (exprs_of (drop l.expr-index l.exprs))
