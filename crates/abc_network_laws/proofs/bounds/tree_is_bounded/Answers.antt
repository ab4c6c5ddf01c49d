use Rattle.std.proofs.Common.{◌+◌, ◌*◌, refl}
use Rattle.abc_shape.specs.declared.shape.Shape.TheVariants.{Tree}
use Rattle.abc_shape.specs.Plans.{layout_of}
use Rattle.abc_network.specs.Links.{to_home}
use Rattle.abc_network.specs.Shapes.{tree_rules}
use Rattle.abc_network_laws.specs.StoreFlows.{store_flow}
use Rattle.abc_network_laws.specs.StoreCharges.{store_charge}
use Rattle.abc_network_laws.specs.TreeFlows.{tree}
use Rattle.abc_network_laws.specs.TreeDepths.{tree_request_hops, tree_reply_hops}
use Rattle.abc_network_laws.proofs.Events.{bounded}
use Rattle.abc_network_laws.proofs.StoreLaws.{store-relays, store-carries, store-ends}
use Rattle.abc_network_laws.proofs.StorePays.{store-pays}
use Rattle.abc_network_laws.proofs.TreeRows.{tree-laws, tree-ways}
use Rattle.abc_network_laws.proofs.TreePays.{tree-hops}
use Rattle.abc_network_laws.proofs.bounds.tree_is_bounded.Goals as goal

pub returns : goal.returns
returns g c = λ agents nodes limit pick some most bodies es w many run.
    let laws = tree-laws agents nodes some in
    bounded _ (tree_rules agents nodes limit pick) (store_flow (tree agents nodes))
    (tree-ways agents nodes limit pick)
    (store-carries (tree agents nodes) (layout_of Tree agents nodes) laws limit pick
    (λ i packets. to_home i))
    (store-ends (tree agents nodes) (layout_of Tree agents nodes) laws limit pick
    (λ i packets. to_home i))
    (store-relays (tree agents nodes) (layout_of Tree agents nodes) laws) bodies
    (15 + 2 * agents + 2 * nodes)
    (store_charge (tree agents nodes) (tree_request_hops agents nodes)
    (tree_reply_hops agents nodes) (15 + 2 * agents + 2 * nodes) limit)
    (store-pays _ (tree agents nodes) (layout_of Tree agents nodes) limit pick
    (λ i packets. to_home i) laws (tree-ways agents nodes limit pick)
    (tree_request_hops agents nodes) (tree_reply_hops agents nodes)
    (15 + 2 * agents + 2 * nodes) refl
    (tree-hops agents nodes (15 + 2 * agents + 2 * nodes) some most))
    many refl es w run
