use Rattle.std.proofs.Common.{◌≡◌, ◌≤◌, length, take}
use Rattle.abc_network.specs.Numbering.{taken_numbers}
use Rattle.abc_merge.proofs.told.count_taken.Given as goal

-- The numbers so far are counted, and they are no more than the entries so far.
abbrev pub invariant-loop-entry : goal.invariant-loop-entry
invariant-loop-entry g l =
    (l.count ≡ length (taken_numbers (take l.entry-index l.entries))) × (l.count ≤ l.entry-index)
