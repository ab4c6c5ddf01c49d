use Rattle.std.proofs.Common.{◌<◌, ◌≤◌, length, refl, subst, arith}
use Rattle.abc_world.specs.Fronts.{IsLeastFront}
use Rattle.abc_world.specs.Runnings.{Running}
use Rattle.abc_world.proofs.Quieting.{found-there}
use Rattle.abc_world.proofs.Fronted.{least-none, least-next, least-all}
use Rattle.abc_world.proofs.network.Network.least_front.Goals as goal

pub comparing-init : goal.comparing-init
comparing-init g c =
    let agents = c.self.inside.agents.items in
    let many = c.self.invariant.0.many in
    let some = c.agents-agents.ensures.limits.some_agents in
    let below : 0 < length agents = omega arith in
    least-none agents c.index.result.now c.front-least.result (found-there agents 0 c.index.result.now below c.index.ensures)
    c.front-least.ensures

pub comparing-preserved : goal.comparing-preserved
comparing-preserved g c =
    let agents = c.self.inside.agents.items in
    let i = c.comparing.i in
    let a = c.index-in-comparing.result.now in
    let ok = c.self.inside.agents.ok in
    let len = c.len-i-end.ensures in
    let there = c.comparing-test.true in
    let below : i < length agents = omega arith in
    least-next agents i c.comparing.least c.min-least.result a c.comparing.invariant
    (found-there agents i a below c.index-in-comparing.ensures) (let e = c.min-least.ensures in let f = c.front.ensures in cc)

pub returns : goal.returns
returns g c =
    let agents = c.self.inside.agents.items in
    let ok = c.self.inside.agents.ok in
    let len = c.len-i-end.ensures in
    let past = c.comparing-test.false in
    let all : length agents ≤ c.comparing.i = omega arith in
    let Least : Running g.row.B.Denot g.row.B-Label.Denot g.row.M-State.Denot → Type 0 =
    λ v. IsLeastFront v c.comparing.least in
    subst Least c.self.view_is (least-all _ agents c.comparing.i c.comparing.least refl all c.comparing.invariant)
