use Rattle.std.proofs.Common.{◌≡◌, ◌≤◌, take}
use Rattle.abc_history.specs.Histories.{arrivals_in}
use Rattle.abc_merge.proofs.arrivals.count_arrivals.Given as goal

-- The arrivals so far are counted, and they are no more than the entries so far.
abbrev pub invariant-loop-entry : goal.invariant-loop-entry
invariant-loop-entry g l =
    (l.count ≡ arrivals_in (take l.entry-index l.entries)) × (l.count ≤ l.entry-index)
