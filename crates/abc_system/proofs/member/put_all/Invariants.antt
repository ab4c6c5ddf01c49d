use Rattle.abc_system.specs.Members.{now_in, then_in, program_of}
use Rattle.abc_system.proofs.Changing.{ChangedSoFar}
use Rattle.abc_system.proofs.member.put_all.Given as goal
use Rattle.std.proofs.Common.{◌≡◌, map}

abbrev pub invariant-loop-member : goal.invariant-loop-member
invariant-loop-member l =
    ChangedSoFar now_in then_in l.member-index l.initial.members l.members
    × (map program_of l.members ≡ map program_of l.initial.members)
