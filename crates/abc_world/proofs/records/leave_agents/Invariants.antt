use Rattle.std.proofs.Common.{length, vec_len}
use Rattle.std.specs.Prelude.{map, vec_capacity}
use Rattle.std.proofs.Common.{◌≡◌, ◌+◌}
use Rattle.abc_net.specs.Records.{entries_of}
use Rattle.abc_schedule.specs.Schedules.{log_in}
use Rattle.abc_world.specs.Teams.{actor_in}
use Rattle.abc_world.proofs.Left.{LeftSoFar}
use Rattle.abc_world.proofs.records.leave_agents.Given as goal

abbrev pub invariant-leaving : goal.invariant-leaving
invariant-leaving g l =
    LeftSoFar (λ a. log_in (actor_in a)) (entries_of l.initial.logs.items) (map (λ a. log_in (actor_in a)) l.initial.left.items)
    (vec_len l.initial.logs + length l.initial.left.items) (vec_len l.logs) l.logs.items l.left.items
    × (vec_capacity l.logs ≡ vec_capacity l.initial.logs)

abbrev pub decreases-leaving : goal.decreases-leaving
decreases-leaving g l = length l.left.items
