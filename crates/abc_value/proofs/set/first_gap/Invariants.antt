use Rattle.std.proofs.Common.{◌≡◌, ◌≤◌, drop}
use Rattle.abc_value.proofs.Gap.{passed}
use Rattle.abc_value.proofs.set.first_gap.Given as goal

abbrev pub invariant-loop-member : goal.invariant-loop-member
invariant-loop-member l = (l.free ≤ l.member-index) × (passed l.free (drop l.member-index l.members) ≡ passed 0 l.members)
