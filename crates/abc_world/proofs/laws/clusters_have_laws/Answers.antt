use Rattle.std.proofs.Common.{sym, subst}
use Rattle.abc_shape.specs.declared.shape.Shape.TheVariants.{Cluster}
use Rattle.abc_shape.specs.declared.layout.Layout.{Layout}
use Rattle.abc_shape.specs.Plans.{IsLayout, layout_of}
use Rattle.abc_network.specs.Nodes.{cluster_machine}
use Rattle.abc_world.specs.Runnings.{rules_of}
use Rattle.abc_world.specs.Starting.{HasLaws}
use Rattle.abc_world.proofs.Shaped.{of-shape}
use Rattle.abc_world.proofs.laws.clusters_have_laws.Goals as goal

pub returns : goal.returns
returns g c = λ p limit pick limits shape.
    let is = of-shape p Cluster shape in
    let layout = subst IsLayout is limits in
    let laws : HasLaws g.B.Body.meaning (rules_of (λ (q : Layout). cluster_machine q.agents q.nodes) tt (layout_of Cluster p.agents p.nodes) limit pick) =
    record {
      bounded = c.cluster_is_bounded.ensures p.agents p.nodes limit pick layout.some_nodes;
      settles = c.cluster_settles.ensures p.agents p.nodes limit pick layout.some_nodes;
      keeps = c.cluster_keeps_records.ensures p.agents p.nodes limit pick layout;
    } in
    subst (λ v. HasLaws g.B.Body.meaning (rules_of (λ (q : Layout). cluster_machine q.agents q.nodes) tt v limit pick)) (sym is) laws
