use Rattle.std.proofs.Common.{◌≡◌, map}
use Rattle.abc_system.specs.Members.{live_of}
use Rattle.abc_system.proofs.stepping.members_of.Given as goal

abbrev pub invariant-loop-live : goal.invariant-loop-live
invariant-loop-live l = map live_of l.members.items ≡ l.yielded
