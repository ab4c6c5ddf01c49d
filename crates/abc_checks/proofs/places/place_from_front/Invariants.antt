use Rattle.std.proofs.Common.{◌≡◌, ◌+◌, ◌-◌, ◌≤◌, drop, length}
use Rattle.abc_checks.specs.Firsts.{first_place}
use Rattle.abc_checks.proofs.places.place_from_front.Given as goal

abbrev pub invariant-loop-i : goal.invariant-loop-i
invariant-loop-i l = (l.i ≤ length l.names) × (first_place l.names l.name ≡ l.i + first_place (drop l.i l.names) l.name)

abbrev pub decreases-loop-i : goal.decreases-loop-i
decreases-loop-i l = length l.names - l.i
