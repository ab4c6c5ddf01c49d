use Rattle.std.proofs.Common.{◌≡◌, take}
use Rattle.abc_merge.specs.Keys.{keys_of, clocks_of}
use Rattle.abc_merge.proofs.merged.all_keys.Given as goal

-- The keys of the logs so far.
abbrev pub invariant-loop-actor : goal.invariant-loop-actor
invariant-loop-actor g l = l.keys.items ≡ keys_of 0 (clocks_of (take l.actor l.logs))
