use Rattle.std.proofs.Common.{◌≡◌, ◌++◌, take, flat_map}
use Rattle.abc_pred.specs.Standing.{expr_of}
use Rattle.abc_print.specs.Bytes.{update_bytes}
use Rattle.abc_print.proofs.processes.print_updates.Given as goal

abbrev pub invariant-loop-update : goal.invariant-loop-update
invariant-loop-update l = l.out ≡ l.initial.out ++ flat_map (λ u. update_bytes l.names (u.name, expr_of u.value)) (take l.update-index l.updates)
