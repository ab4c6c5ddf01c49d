use Rattle.abc_trace.specs.Lines.{node_text}
use Rattle.abc_trace.proofs.Numbered.{NumberedTo}
use Rattle.abc_trace.proofs.texts.write_nodes.Given as goal

abbrev pub invariant-loop-packets : goal.invariant-loop-packets
invariant-loop-packets l = NumberedTo node_text 0 l.handled l.packets-index l.node l.initial.out l.out
