use Rattle.abc_trace.specs.Lines.{node_text}
use Rattle.abc_trace.proofs.Numbered.{numbered_on}
use Rattle.abc_trace.proofs.texts.write_nodes.Goals as goal

pub loop-packets-preserved : goal.loop-packets-preserved
loop-packets-preserved c =
    numbered_on node_text 0 c.args.handled.now c.loop-packets.packets-index c.loop-packets.node c.args.out.now c.loop-packets.out
    c.write_node.new.out 0 c.loop-packets-test.true c.loop-packets.invariant c.in_ok-write_node.ensures
