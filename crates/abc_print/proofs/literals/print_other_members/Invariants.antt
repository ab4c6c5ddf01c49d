use Rattle.std.proofs.Common.{◌≡◌, ◌++◌, take, flat_map}
use Rattle.abc_value.specs.Literals.{next_text}
use Rattle.abc_print.proofs.literals.print_other_members.Given as goal

abbrev pub invariant-loop-other : goal.invariant-loop-other
invariant-loop-other l = l.out ≡ l.initial.out ++ flat_map next_text (take l.other-index l.others)
