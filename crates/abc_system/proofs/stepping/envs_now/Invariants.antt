use Rattle.std.proofs.Common.{◌≡◌, map, take}
use Rattle.abc_system.specs.Members.{now_in}
use Rattle.abc_system.specs.Running.{envs_of}
use Rattle.abc_system.proofs.stepping.envs_now.Given as goal

abbrev pub invariant-loop-member : goal.invariant-loop-member
invariant-loop-member l = l.envs ≡ envs_of (map now_in (take l.member-index l.members))
