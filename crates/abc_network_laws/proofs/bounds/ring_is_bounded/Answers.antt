use Rattle.std.proofs.Common.{◌+◌, ◌*◌, refl}
use Rattle.abc_shape.specs.declared.shape.Shape.TheVariants.{Ring}
use Rattle.abc_shape.specs.Plans.{layout_of}
use Rattle.abc_network.specs.Links.{to_home}
use Rattle.abc_network.specs.Shapes.{ring_rules}
use Rattle.abc_network_laws.specs.StoreFlows.{store_flow}
use Rattle.abc_network_laws.specs.StoreCharges.{store_charge}
use Rattle.abc_network_laws.specs.RingFlows.{ring}
use Rattle.abc_network_laws.proofs.Events.{bounded}
use Rattle.abc_network_laws.proofs.StoreLaws.{store-relays, store-carries, store-ends}
use Rattle.abc_network_laws.proofs.StorePays.{store-pays}
use Rattle.abc_network_laws.proofs.RingRows.{ring-laws, ring-ways}
use Rattle.abc_network_laws.proofs.RingPays.{ring-hops}
use Rattle.abc_network_laws.proofs.bounds.ring_is_bounded.Goals as goal

pub returns : goal.returns
returns g c = λ agents nodes limit pick some bodies es w many run.
    let laws = ring-laws agents nodes some in
    bounded _ (ring_rules agents nodes limit pick) (store_flow (ring agents nodes))
    (ring-ways agents nodes limit pick)
    (store-carries (ring agents nodes) (layout_of Ring agents nodes) laws limit pick
    (λ i packets. to_home i))
    (store-ends (ring agents nodes) (layout_of Ring agents nodes) laws limit pick
    (λ i packets. to_home i))
    (store-relays (ring agents nodes) (layout_of Ring agents nodes) laws) bodies
    (15 + 2 * agents + 2 * nodes)
    (store_charge (ring agents nodes) (λ l a. 2) (λ l a. 1) (15 + 2 * agents + 2 * nodes) limit)
    (store-pays _ (ring agents nodes) (layout_of Ring agents nodes) limit pick
    (λ i packets. to_home i) laws (ring-ways agents nodes limit pick)
    (λ l a. 2) (λ l a. 1) (15 + 2 * agents + 2 * nodes) refl
    (ring-hops agents nodes (15 + 2 * agents + 2 * nodes)))
    many refl es w run
