use Rattle.std.proofs.Common.{subst}
use Rattle.std.specs.Prelude.{MatchBool}
use Rattle.abc_network.specs.Quiets.{IsStill, IsQuiet}
use Rattle.abc_world.specs.Runnings.{Running, rules_of}
use Rattle.abc_world.proofs.Quieting.{told-by}
use Rattle.abc_world.proofs.started.Started.is_quiet.Goals as goal

-- where a started network is still it is quiet
pub returns : goal.returns
returns g c =
    let m = g.B.Body.meaning in
    let machine = g.M.Node.machine in
    let blank = g.M.Node.blank in
    let n = c.self.inside.network in
    let is = c.self.invariant.0 in
    let r = rules_of machine blank n.plan n.limit n.pick in
    let settled = is.laws.settles is.bodies is.events n.net is.many is.run in
    let Told : Running g.row.B.Denot g.row.B-Label.Denot g.row.M-State.Denot → Type 0 =
    λ v. let q = rules_of machine blank v.plan v.limit v.pick in
    MatchBool c.is_still.result (IsQuiet m q v.net) (IsQuiet m q v.net → ⊥) in
    subst Told c.self.view_is (told-by c.is_still.result (IsStill m r n.net) (IsQuiet m r n.net) settled.quiet
    (λ quiet. quiet.still) c.is_still.ensures)
