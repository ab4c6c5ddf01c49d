use Rattle.abc_record_run.proofs.Legally.{legal-record}
use Rattle.abc_record_run.proofs.network.run_bodies.Goals as goal

pub returns-clause-legal : goal.returns-clause-legal
returns-clause-legal g c =
    (legal-record g.B.Body.meaning c.args.plan.now c.args.limit c.args.pick c.args.bodies.items c.in_ok-world.world
    c.run_to_quiet.new.self c.into_record.result c.requires.many c.in_ok-world.ensures c.in_ok-run_to_quiet.ensures.same
    c.in_ok-run_to_quiet.ensures.ran c.in_ok-run_to_quiet.ensures.still c.into_record.ensures.record c.into_record.ensures.legal).0

pub returns-clause-network : goal.returns-clause-network
returns-clause-network g c =
    (legal-record g.B.Body.meaning c.args.plan.now c.args.limit c.args.pick c.args.bodies.items c.in_ok-world.world
    c.run_to_quiet.new.self c.into_record.result c.requires.many c.in_ok-world.ensures c.in_ok-run_to_quiet.ensures.same
    c.in_ok-run_to_quiet.ensures.ran c.in_ok-run_to_quiet.ensures.still c.into_record.ensures.record c.into_record.ensures.legal).1
