use Rattle.std.proofs.Common.{◌≡◌, replicate}
use Rattle.abc_merge.specs.Telling.{blank}
use Rattle.abc_merge.proofs.told.blank_rows.Given as goal

-- So many blank choices stand so far.
abbrev pub invariant-loop : goal.invariant-loop
invariant-loop l = l.rows.items ≡ replicate l.counter blank
