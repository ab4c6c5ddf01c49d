use Rattle.std.proofs.Common.{◌+◌, ◌*◌, ◌<◌, sym, subst, arith}
use Rattle.std.specs.Prelude.{IfSome}
use Rattle.abc_world.specs.Listing.{CanMake}
use Rattle.abc_world.specs.Runnings.{SameNetwork, Answers, Running}
use Rattle.abc_world.proofs.Ran.{RanSoFar, ran-next, ran-all}
use Rattle.abc_world.proofs.started.Started.run_to_quiet.Goals as goal

-- one event more was made
pub running-preserved : goal.running-preserved
running-preserved g c =
    let m = g.B.Body.meaning in
    let machine = g.M.Node.machine in
    let blank = g.M.Node.blank in
    let e = c.in-Some.event in
    let new = c.step.new.self in
    let same = c.in_ok-event.ensures.same in
    let Told : Running g.row.B.Denot g.row.B-Label.Denot g.row.M-State.Denot → Type 0 =
    λ v. Answers m machine blank e.actor e.kind v c.in_ok-step.field-0 new in
    ran-next m machine blank c.args.self.now c.running.self new c.running.counter e c.in_ok-step.field-0 c.running.invariant
    (subst (λ o. IfSome o (λ x. CanMake m machine blank c.running.self x)) c.in-Some.is c.in_ok-event.ensures.some)
    (subst (λ v. SameNetwork v new) same c.step.ensures.same) (subst Told same c.in_ok-step.ensures.answers)

-- no run is so long
pub returns-clause-still : goal.returns-clause-still
returns-clause-still g c =
    let m = g.B.Body.meaning in
    let machine = g.M.Node.machine in
    let blank = g.M.Node.blank in
    let n = c.self.inside.network in
    let past = c.running-test.false in
    let most = c.most_events-most.ensures in
    let Ran : Running g.row.B.Denot g.row.B-Label.Denot g.row.M-State.Denot → Type 0 =
    λ v. RanSoFar m machine blank v c.running.counter c.running.self in
    let much : 15 * (n.limit + n.plan.agents) + n.limit * (2 * n.plan.agents + 2 * n.plan.nodes) < c.running.counter = omega arith in
    absurd (ran-all m machine blank n c.running.self c.running.counter c.self.invariant.0 much
    (subst Ran (sym c.self.view_is) c.running.invariant))
