use Rattle.abc_shape.specs.declared.shape.Shape.TheVariants.{Tree}
use Rattle.abc_shape.specs.Plans.{layout_of}
use Rattle.abc_network.specs.Links.{to_home}
use Rattle.abc_network.specs.Shapes.{tree_rules}
use Rattle.abc_network_laws.specs.StoreFlows.{store_flow}
use Rattle.abc_network_laws.specs.TreeFlows.{tree}
use Rattle.abc_network_laws.proofs.Settles.{settled}
use Rattle.abc_network_laws.proofs.StoreLaws.{store-relays, store-carries, store-ends}
use Rattle.abc_network_laws.proofs.TreeRows.{tree-laws, tree-ways}
use Rattle.abc_network_laws.proofs.settling.tree_settles.Goals as goal

pub returns : goal.returns
returns g c = λ agents nodes limit pick some bodies es w many run.
    let laws = tree-laws agents nodes some in
    settled _ (tree_rules agents nodes limit pick) (store_flow (tree agents nodes))
    (tree-ways agents nodes limit pick)
    (store-carries (tree agents nodes) (layout_of Tree agents nodes) laws limit pick
    (λ i packets. to_home i))
    (store-ends (tree agents nodes) (layout_of Tree agents nodes) laws limit pick
    (λ i packets. to_home i))
    (store-relays (tree agents nodes) (layout_of Tree agents nodes) laws) bodies many es w run
