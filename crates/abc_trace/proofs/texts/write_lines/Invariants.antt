use Rattle.abc_trace.specs.Texts.{line_text}
use Rattle.abc_trace.proofs.Numbered.{NumberedTo}
use Rattle.abc_trace.proofs.texts.write_lines.Given as goal

abbrev pub invariant-loop-line : goal.invariant-loop-line
invariant-loop-line l = NumberedTo (line_text l.names) 1 l.lines l.line-index l.number l.initial.out l.out
