use Rattle.std.proofs.Common.{◌≡◌, [], replicate}
use Rattle.abc_world.proofs.in_links.empty_lists.Given as goal

abbrev pub invariant-filling : goal.invariant-filling
invariant-filling l = l.lists.items ≡ replicate l.counter []
