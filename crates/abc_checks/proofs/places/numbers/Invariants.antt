use Rattle.std.proofs.Common.{ℕ, ◌≡◌, ◌+◌, ◌<◌, ◌≤◌, drop, length, get_or, vec_len}
use Rattle.abc_checks.specs.Firsts.{first_place}
use Rattle.abc_checks.proofs.places.numbers.Given as goal

abbrev pub invariant-loop-i : goal.invariant-loop-i
invariant-loop-i l =
    (l.i ≤ length l.names) × (vec_len l.numbers ≡ l.count)
    × ((k : ℕ) → k < l.count → get_or l.numbers.items k 0 ≡ l.i + first_place (drop l.i l.names) (record { 0 = k }))

abbrev pub decreases-loop-i : goal.decreases-loop-i
decreases-loop-i l = l.i
