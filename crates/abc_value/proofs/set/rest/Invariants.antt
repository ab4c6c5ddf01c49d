use Rattle.std.proofs.Common.{◌≡◌, take}
use Rattle.abc_value.specs.Sets.{difference_of}
use Rattle.abc_value.proofs.set.rest.Given as goal

abbrev pub invariant-loop-x : goal.invariant-loop-x
invariant-loop-x l = l.kept.items ≡ difference_of (take l.x-index l.a) l.b
