use Rattle.std.proofs.Common.{sym, subst}
use Rattle.abc_shape.specs.declared.shape.Shape.TheVariants.{Ring}
use Rattle.abc_shape.specs.declared.layout.Layout.{Layout}
use Rattle.abc_shape.specs.Plans.{IsLayout, layout_of}
use Rattle.abc_network.specs.Stores.{store_machine, blank_store}
use Rattle.abc_network.specs.Rings.{ring_kind}
use Rattle.abc_world.specs.Runnings.{rules_of}
use Rattle.abc_world.specs.Starting.{HasLaws}
use Rattle.abc_world.proofs.Shaped.{of-shape}
use Rattle.abc_world.proofs.laws.rings_have_laws.Goals as goal

pub returns : goal.returns
returns g c = λ p limit pick limits shape.
    let is = of-shape p Ring shape in
    let layout = subst IsLayout is limits in
    let laws : HasLaws g.B.Body.meaning (rules_of (λ (q : Layout). store_machine (ring_kind q)) blank_store (layout_of Ring p.agents p.nodes) limit pick) =
    record {
      bounded = c.ring_is_bounded.ensures p.agents p.nodes limit pick layout.some_nodes;
      settles = c.ring_settles.ensures p.agents p.nodes limit pick layout.some_nodes;
      keeps = c.ring_keeps_records.ensures p.agents p.nodes limit pick layout;
    } in
    subst (λ v. HasLaws g.B.Body.meaning (rules_of (λ (q : Layout). store_machine (ring_kind q)) blank_store v limit pick)) (sym is) laws
