use Rattle.std.proofs.Common.{◌≡◌, ◌++◌, take, flat_map}
use Rattle.abc_value.specs.Literals.{literal}
use Rattle.abc_trace.specs.Lines.{behind_comma}
use Rattle.abc_trace.proofs.lines.write_other_values.Given as goal

abbrev pub invariant-loop-other : goal.invariant-loop-other
invariant-loop-other l = l.out ≡ l.initial.out ++ flat_map (behind_comma literal) (take l.other-index l.others)
