use Rattle.std.proofs.Common.{◌≡◌, ◌++◌, take, map}
use Rattle.abc_merge.specs.Keys.{entry_keys}
use Rattle.abc_merge.proofs.merged.push_log.Given as goal

-- The keys of the entries so far.
abbrev pub invariant-loop-place : goal.invariant-loop-place
invariant-loop-place g l = l.keys.items ≡ l.fn.keys.items ++ entry_keys l.actor 0 (map (λ e. e.clock) (take l.place l.entries))
