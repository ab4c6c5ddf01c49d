use Rattle.std.proofs.Common.{subst, sym, arith}
use Rattle.abc_network.specs.Stores.{blank_store}
use Rattle.abc_world.proofs.Made.{AreMade, made-none, made-next, made-nodes, made-blank}
use Rattle.abc_world.proofs.crew.ring_nodes.Goals as goal

pub making-init : goal.making-init
making-init g c =
    subst (λ v. AreMade blank_store c.args.plan.now v 0) (sym c.in_ok-nodes.ensures.items) (made-none blank_store c.args.plan.now)

pub making-preserved : goal.making-preserved
making-preserved g c =
    made-next blank_store c.args.plan.now c.making.nodes.items c.push.new.self.items c.making.number c.new.result c.making.invariant
    c.new.ensures.plan c.new.ensures.number c.new.ensures.actor c.in_ok-push.ensures.items

pub returns-clause-nodes : goal.returns-clause-nodes
returns-clause-nodes g c =
    let most = c.making.auto.number-end in
    let least = c.making-test.false in
    let all = c.nodes-count.ensures.number in
    made-nodes blank_store c.args.plan.now c.making.nodes.items c.making.number (omega arith) c.making.invariant

pub returns-clause-blank : goal.returns-clause-blank
returns-clause-blank g c =
    let most = c.making.auto.number-end in
    let least = c.making-test.false in
    let all = c.nodes-count.ensures.number in
    made-blank blank_store c.args.plan.now c.making.nodes.items c.making.number (omega arith) c.making.invariant
