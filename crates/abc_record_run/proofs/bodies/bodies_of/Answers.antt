use Rattle.std.proofs.Common.{length, ap, sym, subst, arith}
use Rattle.abc_shape.specs.declared.shape.Shape.TheVariants.{Ring}
use Rattle.abc_record_run.proofs.Begun.{Begun, plan-of, begun-none, begun-next, begun-all}
use Rattle.abc_record_run.proofs.bodies.bodies_of.Goals as goal

pub starting-init : goal.starting-init
starting-init c =
    subst (λ v. Begun c.args.program.now v 0) (sym c.in_ok-bodies.ensures.items) (begun-none c.args.program.now)

-- there are at most 256 components
pub overflow_cast-component : goal.overflow_cast-component
overflow_cast-component c =
    let plan = plan-of c.args.program.now Ring 1 c.requires (omega arith) (omega arith) in
    let few = plan.most_agents in
    let all = ap (λ v. length v) c.as_slice-components.ensures in
    let below = c.starting-test.true in
    omega arith

pub starting-preserved : goal.starting-preserved
starting-preserved c =
    begun-next c.args.program.now c.starting.bodies.items c.push.new.self.items c.starting.component c.in_ok-start.field-0
    c.starting.invariant c.in_ok-start.ensures.component c.in_ok-start.ensures.program c.in_ok-start.ensures.sound
    c.in_ok-push.ensures.items

pub returns-clause-started : goal.returns-clause-started
returns-clause-started c =
    let all = ap (λ v. length v) c.as_slice-components.ensures in
    let most = c.starting.auto.component-end in
    let least = c.starting-test.false in
    begun-all c.args.program.now c.starting.bodies.items c.starting.component (omega arith) c.starting.invariant

pub returns-clause-sound : goal.returns-clause-sound
returns-clause-sound c = c.starting.invariant.sound
