use Rattle.std.proofs.Common.{◌≡◌, ◌++◌, take, flat_map}
use Rattle.abc_print.specs.Bytes.{next_name}
use Rattle.abc_print.proofs.words.print_other_names.Given as goal

abbrev pub invariant-loop-other : goal.invariant-loop-other
invariant-loop-other l = l.out ≡ l.initial.out ++ flat_map (next_name l.names) (take l.other-index l.others)
