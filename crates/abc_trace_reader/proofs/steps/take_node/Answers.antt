use Rattle.abc_trace_order.proofs.Growth.{node_grows}
use Rattle.abc_trace_reader.proofs.Stepping.{node_late, node_comes, refuted, confirmed}
use Rattle.abc_trace_reader.proofs.steps.take_node.Goals as goal

pub returns-then-not-may_be_node : goal.returns-then-not-may_be_node
returns-then-not-may_be_node c =
    node_late c.lines_are_one.ensures c.args.reading.now c.requires.read c.args.node c.args.handled c.requires.spelled
    (refuted c.may_be_node.result c.may_be_node.ensures c.if-not-may_be_node.true)

pub returns : goal.returns
returns c =
    node_grows c.args.reading.now c.requires.read c.args.node c.args.handled c.push.new.self
    (node_comes c.args.reading.now c.args.node (confirmed c.may_be_node.result c.may_be_node.ensures c.if-not-may_be_node.false))
    c.requires.spelled.1 c.in_ok-push.ensures.ok
