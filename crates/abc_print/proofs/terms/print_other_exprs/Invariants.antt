use Rattle.std.proofs.Common.{◌≡◌, ◌++◌, take, flat_map}
use Rattle.abc_pred.specs.Standing.{expr_of}
use Rattle.abc_print.specs.Bytes.{next_expr}
use Rattle.abc_print.proofs.terms.print_other_exprs.Given as goal

abbrev pub invariant-loop-other : goal.invariant-loop-other
invariant-loop-other l = l.out ≡ l.initial.out ++ flat_map (λ e. next_expr l.names (expr_of e)) (take l.other-index l.others)
