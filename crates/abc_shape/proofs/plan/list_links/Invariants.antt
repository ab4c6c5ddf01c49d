use Rattle.std.proofs.Common.{◌≡◌, length}
use Rattle.abc_shape.proofs.Listed.{HasRows}
use Rattle.abc_shape.proofs.plan.list_links.Given as goal

abbrev pub invariant-loop-number : goal.invariant-loop-number
invariant-loop-number l = (length l.links ≡ l.number) × HasRows l.layout l.links
