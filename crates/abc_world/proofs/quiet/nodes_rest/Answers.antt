use Rattle.std.proofs.Common.{◌≡◌, ◌∙◌, sym, subst, ap, arith}
use Rattle.std.proofs.lemmas.Option.{slice_get_within}
use Rattle.abc_network.specs.Networks.{Actor}
use Rattle.abc_shape.specs.declared.layout.Layout.{Layout}
use Rattle.abc_world.specs.Runnings.{node_in}
use Rattle.abc_world.proofs.Lacking.{from-map}
use Rattle.abc_world.proofs.Networked.{map-there}
use Rattle.abc_world.proofs.Quieting.{first-none, first-next, found-there, only-there}
use Rattle.abc_world.proofs.quiet.nodes_rest.Goals as goal

pub asking-init : goal.asking-init
asking-init g c = first-none _ c.args.nodes.now

pub asking-preserved : goal.asking-preserved
asking-preserved g c =
    let node = g.M.Node.node in
    let machine = g.M.Node.machine in
    let Rests : g.row.M.Denot → Type 0 = λ n. (machine (node n).plan).can_pass (node n).actor.state → ⊥ in
    first-next Rests c.args.nodes.now c.asking.k c.asking.invariant
    (λ x stands. subst Rests
    (only-there c.args.nodes.now c.asking.k x c.index-nodes-k.result c.asking-test.true c.index-nodes-k.is stands)
    c.if-can_pass.ensures)

-- one can
pub returns-then-can_pass : goal.returns-then-can_pass
returns-then-can_pass g c =
    let node = g.M.Node.node in
    let machine = g.M.Node.machine in
    let n = c.index-nodes-k.result in
    let k = c.asking.k in
    let found = found-there c.args.nodes.now k n c.asking-test.true c.index-nodes-k.is in
    λ p same all.
    let Can : Layout → Type 0 = λ q. (machine q).can_pass (node n).actor.state in
    all k (node n).actor (map-there node_in _ k (node n) (map-there node c.args.nodes.now k n found))
    (subst Can (same k n found) c.if-can_pass.ensures)

pub returns : goal.returns
returns g c =
    let node = g.M.Node.node in
    let machine = g.M.Node.machine in
    λ p same k a stands can.
    let one = from-map node_in _ k a stands in
    let two = from-map node c.args.nodes.now k one.0 one.1 in
    let n = two.0 in
    let actor : (node n).actor ≡ a = ap (λ v. v.actor) two.2 ∙ one.2 in
    let inside = slice_get_within c.args.nodes.now k n two.1 in
    let least = c.asking-test.false in
    let Can : Layout → Type 0 = λ q. (machine q).can_pass (node n).actor.state in
    let So : Actor g.row.M-State.Denot g.row.L.Denot → Type 0 = λ v. (machine p).can_pass v.state in
    c.asking.invariant k n (omega arith) two.1 (subst Can (sym (same k n two.1)) (subst So (sym actor) can))
