use Rattle.std.proofs.Common.{◌≡◌}
use Rattle.abc_world.proofs.started.Started.first_awake.Given as goal

abbrev pub invariant-looking : goal.invariant-looking
invariant-looking g l = l.self ≡ l.initial.self
