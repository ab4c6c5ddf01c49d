use Rattle.std.proofs.Common.{◌≡◌, refl, sym, subst}
use Rattle.std.specs.Prelude.{map, false, true, MatchBool, Some, slice_get}
use Rattle.abc_network.specs.Quiets.{IsStill}
use Rattle.abc_world.specs.Fronts.{AllAgentsRest, AllNodesRest}
use Rattle.abc_world.specs.Listing.{IsStillIn}
use Rattle.abc_world.specs.Runnings.{Running, rules_of, net_of, node_in}
use Rattle.abc_world.specs.Teams.{actor_in}
use Rattle.abc_world.proofs.Networked.{map-there}
use Rattle.abc_world.proofs.Quieting.{told-by}
use Rattle.abc_world.proofs.Stilled.{still-parts, still-empty}
use Rattle.abc_world.proofs.network.Network.is_still.Goals as goal

-- something is on a link
pub returns-then-not-are_empty : goal.returns-then-not-are_empty
returns-then-not-are_empty g c =
    let s = c.self.inside in
    let Still : Running g.row.B.Denot g.row.B-Label.Denot g.row.M-State.Denot → Type 0 =
    IsStillIn g.B.Body.meaning g.M.Node.machine g.M.Node.blank in
    λ still.
    let none : false ≡ true = c.if-not-are_empty.ensures.1 (still-empty g.B.Body.meaning g.M.Node.machine g.M.Node.blank s.plan.now
    s.numbers.limit s.pick s.agents.items (map g.M.Node.node s.nodes.items) s.links.queues s.numbers
    (subst Still (sym c.self.view_is) still)) in
    absurd (cc)

-- an agent can go on
pub returns-then-not-agents_rest : goal.returns-then-not-agents_rest
returns-then-not-agents_rest g c =
    let Still : Running g.row.B.Denot g.row.B-Label.Denot g.row.M-State.Denot → Type 0 =
    IsStillIn g.B.Body.meaning g.M.Node.machine g.M.Node.blank in
    λ still.
    let so = subst Still (sym c.self.view_is) still in
    c.if-not-agents_rest.ensures (subst (λ v. AllAgentsRest g.B.Body.meaning (map actor_in v)) (sym c.as_slice.ensures.value) so.agents)

-- the nodes decide
pub returns : goal.returns
returns g c =
    let m = g.B.Body.meaning in
    let machine = g.M.Node.machine in
    let node = g.M.Node.node in
    let blank = g.M.Node.blank in
    let s = c.self.inside in
    let p = s.plan.now in
    let nodes = s.nodes.items in
    let seen = map node nodes in
    let rules = rules_of machine blank p s.numbers.limit s.pick in
    let net = net_of s.agents.items seen s.links.queues s.numbers in
    let rest = subst (λ v. AllAgentsRest m (map actor_in v)) c.as_slice.ensures.value c.if-not-agents_rest.ensures in
    let told = subst (λ v. MatchBool c.nodes_rest.result (AllNodesRest (machine p) (map node_in (map node v)))
    (AllNodesRest (machine p) (map node_in (map node v)) → ⊥)) c.as_slice-2.ensures.value (c.nodes_rest.ensures p
    (λ k n stands. (c.self.invariant.1.each k (node n) (map-there node nodes k n
    (subst (λ v. slice_get v k ≡ Some n) c.as_slice-2.ensures.value stands))).0)) in
    let Told : Running g.row.B.Denot g.row.B-Label.Denot g.row.M-State.Denot → Type 0 =
    λ v. MatchBool c.nodes_rest.result (IsStillIn m machine blank v) (IsStillIn m machine blank v → ⊥) in
    subst Told c.self.view_is (told-by c.nodes_rest.result (AllNodesRest (machine p) (map node_in seen)) (IsStill m rules net)
    (still-parts m machine blank p s.numbers.limit s.pick s.agents.items seen s.links.queues s.numbers
    (c.if-not-are_empty.ensures.0 refl) rest) (λ still. still.nodes) told)
