use Rattle.std.proofs.Common.{◌≡◌, ap, sym, ◌∙◌, length, subst, arith}
use Rattle.abc_network_laws.specs.Kept.{Each}
use Rattle.abc_world.proofs.Seated.{Seated, seated-none, seat-there, seat-sound, seated-next, seated-all}
use Rattle.abc_world.proofs.team.team.Goals as goal

pub seating-init : goal.seating-init
seating-init g c =
    subst (λ v. Seated c.args.plan.now c.args.pick c.from-left.result.items v c.from-left.result.items)
    (sym c.in_ok-agents.ensures.items) (seated-none c.args.plan.now c.args.pick c.from-left.result.items)

-- there are as many bodies as agents in the plan
pub overflow_cast-number : goal.overflow_cast-number
overflow_cast-number g c =
    let s = subst (λ v. Seated c.args.plan.now c.args.pick c.from-left.result.items c.seating.agents.items v) c.in-Some.ensures.items
    c.seating.invariant in
    let there = seat-there c.args.plan.now c.args.pick c.from-left.result.items c.seating.agents.items c.in-Some.body
    c.pop_front.new.self.items s in
    let same : length c.from-left.result.items ≡ length c.args.bodies.items = ap (λ v. length v) c.from-left.ensures.0 in
    let many = c.requires.many in
    let most = c.agents-limits.ensures.limits.most_agents in
    let len = c.len-number.ensures in
    let ok = c.seating.agents.ok in
    omega arith

pub new-requires-clause-agent : goal.new-requires-clause-agent
new-requires-clause-agent g c κs within =
    let s = subst (λ v. Seated c.args.plan.now c.args.pick c.from-left.result.items c.seating.agents.items v) c.in-Some.ensures.items
    c.seating.invariant in
    let there = seat-there c.args.plan.now c.args.pick c.from-left.result.items c.seating.agents.items c.in-Some.body
    c.pop_front.new.self.items s in
    let same : length c.from-left.result.items ≡ length c.args.bodies.items = ap (λ v. length v) c.from-left.ensures.0 in
    let many = c.requires.many in
    let len = c.len-number.ensures in
    let ok = c.seating.agents.ok in
    omega arith

pub new-requires-clause-sound : goal.new-requires-clause-sound
new-requires-clause-sound g c κs within =
    let s = subst (λ v. Seated c.args.plan.now c.args.pick c.from-left.result.items c.seating.agents.items v) c.in-Some.ensures.items
    c.seating.invariant in
    seat-sound g.B.Body.meaning.sound c.args.plan.now c.args.pick c.from-left.result.items c.seating.agents.items c.in-Some.body
    c.pop_front.new.self.items s (subst (Each g.B.Body.meaning.sound) (sym c.from-left.ensures.0) c.requires.sound)

pub seating-preserved : goal.seating-preserved
seating-preserved g c =
    let s = subst (λ v. Seated c.args.plan.now c.args.pick c.from-left.result.items c.seating.agents.items v) c.in-Some.ensures.items
    c.seating.invariant in
    let len = c.len-number.ensures in
    let ok = c.seating.agents.ok in
    let number = c.new.ensures.number in
    let is : c.new.result.number ≡ length c.seating.agents.items = omega arith in
    seated-next c.args.plan.now c.args.pick c.from-left.result.items c.seating.agents.items c.push.new.self.items c.in-Some.body
    c.pop_front.new.self.items c.new.result s c.new.ensures.plan is c.new.ensures.pick c.new.ensures.actor c.in_ok-push.ensures.items

-- all are seated
pub returns-clause-agents : goal.returns-clause-agents
returns-clause-agents g c =
    let ok = c.seating.left.ok in
    let none : length c.seating.left.items ≡ 0 = omega (arith, c.in_default.ensures.cases.0) in
    let same : length c.from-left.result.items ≡ length c.args.bodies.items = ap (λ v. length v) c.from-left.ensures.0 in
    seated-all c.args.plan.now c.args.pick c.from-left.result.items c.seating.agents.items c.seating.left.items none
    (same ∙ c.requires.many) c.seating.invariant
