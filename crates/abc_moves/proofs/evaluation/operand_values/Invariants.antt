use Rattle.std.proofs.Common.{◌≡◌, ◌++◌, drop, map}
use Rattle.abc_pred.specs.Meaning.{val}
use Rattle.abc_pred.specs.Standing.{operand_of}
use Rattle.abc_moves.proofs.evaluation.operand_values.Given as goal

abbrev pub invariant-loop-operand : goal.invariant-loop-operand
invariant-loop-operand g l =
    l.values ++ map (λ o. val (operand_of o) l.own l.own (g.V.Variables.bound l.vars)) (drop l.operand-index l.operands)
    ≡ map (λ o. val (operand_of o) l.own l.own (g.V.Variables.bound l.vars)) l.operands
