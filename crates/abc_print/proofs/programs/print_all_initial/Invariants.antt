use Rattle.std.proofs.Common.{◌≡◌, ◌++◌, take, flat_map}
use Rattle.abc_print.specs.Bytes.{initial_bytes}
use Rattle.abc_print.proofs.programs.print_all_initial.Given as goal

abbrev pub invariant-loop-entry : goal.invariant-loop-entry
invariant-loop-entry l = l.out ≡ l.initial.out ++ flat_map (initial_bytes l.names) (take l.entry-index l.entries)
