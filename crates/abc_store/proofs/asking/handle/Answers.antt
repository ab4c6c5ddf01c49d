use Rattle.abc_history.specs.Nodes.{Drew}
use Rattle.abc_store.proofs.Making.{on_ok_both, arrives-answered, arrives-sent_on, arrives-not_handled}
use Rattle.std.proofs.Common.{refl}
use Rattle.abc_store.proofs.asking.handle.Goals as goal

-- it drew and replied
pub returns-in_ok-answer-in-Answers-clause-made : goal.returns-in_ok-answer-in-Answers-clause-made
returns-in_ok-answer-in-Answers-clause-made g c = λ s.
    let n = g.N.Numbers in
    let done = c.in_ok-answer-in-Answers in
    arrives-answered (g.R.Rows.kind c.args.rows.now) (g.R.Rows.node c.args.rows.now) c.args.link c.args.stamped
    c.args.packet s c.args.history.now c.answer.new.history c.in-Answers.agent c.in-Answers.back done.field-0
    (g.O.Outlet.lists c.args.outlet.now) (g.O.Outlet.lists c.answer.new.outlet)
    (λ d. Drew n.limit n.drawn n.closed n.stays d c.args.numbers.now c.answer.new.numbers)
    c.requires.packet c.requires.asking c.in-Answers.ensures.handled done.ensures.noted done.ensures.sent
    done.ensures.drew

-- it sent the packet on
pub returns-in-SendsOn-clause-made : goal.returns-in-SendsOn-clause-made
returns-in-SendsOn-clause-made g c =
    let n = g.N.Numbers in
    on_ok_both c.send_packet.result (λ noted sent s.
    arrives-sent_on (g.R.Rows.kind c.args.rows.now) (g.R.Rows.node c.args.rows.now) c.args.link c.args.stamped
    c.args.packet s c.args.history.now c.send_packet.new.history c.in-SendsOn.on
    (g.O.Outlet.lists c.args.outlet.now) (g.O.Outlet.lists c.send_packet.new.outlet)
    (λ d. Drew n.limit n.drawn n.closed n.stays d c.args.numbers.now c.args.numbers.now)
    c.requires.packet c.requires.asking c.in-SendsOn.ensures.handled noted sent refl)
    c.send_packet.ensures.noted c.send_packet.ensures.sent

-- it took it for a stray
pub returns-in-Nothing-clause-made : goal.returns-in-Nothing-clause-made
returns-in-Nothing-clause-made g c = λ s.
    let n = g.N.Numbers in
    arrives-not_handled (g.R.Rows.kind c.args.rows.now) (g.R.Rows.node c.args.rows.now) c.args.link c.args.stamped
    c.args.packet s c.args.history.now c.log_stray.new.history
    (g.O.Outlet.lists c.args.outlet.now) (g.O.Outlet.lists c.args.outlet.now)
    (λ d. Drew n.limit n.drawn n.closed n.stays d c.args.numbers.now c.args.numbers.now)
    c.requires.packet c.requires.asking c.in-Nothing.ensures.handled c.log_stray.ensures (λ link. refl) refl
