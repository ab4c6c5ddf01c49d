use Rattle.abc_trace.specs.Lines.{node_text}
use Rattle.abc_trace.proofs.Numbered.{NumberedTo}
use Rattle.abc_record_text.specs.RecordTexts.{handled_in}
use Rattle.abc_record_text.proofs.told.write_nodes.Given as goal

abbrev pub invariant-loop-node : goal.invariant-loop-node
invariant-loop-node l = NumberedTo node_text 0 (handled_in l.ran) l.node l.node l.initial.out l.out
