use Rattle.std.proofs.Common.{◌≡◌, ◌++◌, take, flat_map}
use Rattle.abc_trace.specs.Lines.{entry_text}
use Rattle.abc_trace.proofs.lines.write_each_entry.Given as goal

abbrev pub invariant-loop-entry : goal.invariant-loop-entry
invariant-loop-entry l = l.out ≡ l.initial.out ++ flat_map (entry_text l.names) (take l.entry-index l.entries)
