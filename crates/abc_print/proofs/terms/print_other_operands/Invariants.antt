use Rattle.std.proofs.Common.{◌≡◌, ◌++◌, take, flat_map}
use Rattle.abc_pred.specs.Standing.{operand_of}
use Rattle.abc_print.specs.Bytes.{next_operand}
use Rattle.abc_print.proofs.terms.print_other_operands.Given as goal

abbrev pub invariant-loop-other : goal.invariant-loop-other
invariant-loop-other l = l.out ≡ l.initial.out ++ flat_map (λ o. next_operand l.names (operand_of o)) (take l.other-index l.others)
