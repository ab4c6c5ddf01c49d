use Rattle.std.proofs.Common.{◌≡◌, length, map}
use Rattle.abc_term.specs.Standing.{process_of}
use Rattle.abc_processes.specs.Processes.{head_of, under_all}
use Rattle.abc_processes.proofs.heads.under_all.Given as goal

abbrev pub invariant-loop-head : goal.invariant-loop-head
invariant-loop-head l =
    under_all (map head_of l.left) (process_of l.made.value) ≡ under_all (map head_of l.fn.heads) (process_of l.fn.inner.value)

abbrev pub decreases-loop-head : goal.decreases-loop-head
decreases-loop-head l = length l.left
