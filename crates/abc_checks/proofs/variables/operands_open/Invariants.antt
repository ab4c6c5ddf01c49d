use Rattle.std.proofs.Common.{◌≡◌, drop, map}
use Rattle.std.specs.List.{list_any}
use Rattle.abc_pred.specs.Standing.{operand_of}
use Rattle.abc_checks.specs.Variables.{operand_open}
use Rattle.abc_checks.specs.Scopes.{bound_in}
use Rattle.abc_checks.proofs.variables.operands_open.Given as goal

abbrev pub invariant-loop-operand : goal.invariant-loop-operand
invariant-loop-operand l =
    list_any (operand_open (bound_in l.scope)) (map operand_of l.operands)
    ≡ list_any (operand_open (bound_in l.scope)) (map operand_of (drop l.operand-index l.operands))
