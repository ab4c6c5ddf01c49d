use Rattle.std.proofs.Common.{◌≡◌, ◌++◌, take, flat_map}
use Rattle.abc_trace.specs.Texts.{final_text}
use Rattle.abc_trace.proofs.texts.write_finals.Given as goal

abbrev pub invariant-loop-line : goal.invariant-loop-line
invariant-loop-line l = l.out ≡ l.initial.out ++ flat_map (final_text l.names) (take l.line-index l.finals)
