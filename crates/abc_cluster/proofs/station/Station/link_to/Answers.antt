use Rattle.std.proofs.Common.{◌+◌, refl, ap}
use Rattle.abc_shape.specs.Plans.{cluster_down}
use Rattle.abc_cluster.proofs.station.Station.link_to.Goals as goal

-- It is the link of the plan's table.
pub returns-clause-leads : goal.returns-clause-leads
returns-clause-leads c =
    let station = c.link_from.ensures.station in
    cluster_down c.args.agent c.args.self.now.number station.shape c.requires station.there refl refl
    (ap (λ link. link + 1) c.link_from.ensures.number)
