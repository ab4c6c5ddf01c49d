use Rattle.std.proofs.Common.{◌≡◌, ◌++◌, take, flat_map}
use Rattle.abc_print.specs.Bytes.{next_variable}
use Rattle.abc_print.proofs.words.print_other_variables.Given as goal

abbrev pub invariant-loop-other : goal.invariant-loop-other
invariant-loop-other l = l.out ≡ l.initial.out ++ flat_map (next_variable l.names) (take l.other-index l.others)
