use Rattle.std.proofs.Common.{ℕ, List, [], ◌∷◌, sym, subst}
use Rattle.std.specs.Prelude.{Option, None}
use Rattle.abc_value.specs.declared.grant.Grant.{Grant}
use Rattle.abc_packet.specs.declared.packets.Packet.{Packet}
use Rattle.abc_network.specs.Trees.{TreeAsks}
use Rattle.abc_tree.proofs.Linked.{route-leaves}
use Rattle.abc_tree.proofs.Asked.{no-request, no-reply, reply-on}
use Rattle.abc_tree.proofs.rows.TreeRowsRows.handling.Goals as goal

-- a request that doesn't come from where its agent is
pub returns-in-None-clause-handled : goal.returns-in-None-clause-handled
returns-in-None-clause-handled g c =
    let p = c.args.self.now.plan in
    let k = c.args.self.now.node in
    subst (λ (x : Packet g.row.L.Denot). (drew : Option Grant) (out : List (ℕ × Packet g.row.L.Denot)) → TreeAsks p k c.args.link x drew out → ⊥)
    (sym c.in-Request.is) (no-request p k c.args.link c.in-Request.agent c.in-None.ensures)

-- a reply that comes down, to its agent, goes on on the route,
pub returns-in-Some-route_down-clause-handled : goal.returns-in-Some-route_down-clause-handled
returns-in-Some-route_down-clause-handled g c =
    let p = c.args.self.now.plan in
    let k = c.args.self.now.node in
    let on = c.in-Some-route_down.on in
    subst (λ (x : Packet g.row.L.Denot). TreeAsks p k c.args.link x None ((on, x) ∷ [])) (sym c.in-Reply.is)
    (reply-on p k c.args.link c.in-Reply.agent on c.in-Reply.grant c.in-Some-route_down.ensures)

-- which leads from the node,
pub returns-in-Some-route_down-clause-leaves : goal.returns-in-Some-route_down-clause-leaves
returns-in-Some-route_down-clause-leaves g c =
    let down = c.in-Some-route_down.ensures in
    route-leaves c.args.self.now.plan c.args.self.now.node c.in-Reply.agent c.in-Some-route_down.on down.2

-- and any other goes nowhere
pub returns-in-None-route_down-clause-handled : goal.returns-in-None-route_down-clause-handled
returns-in-None-route_down-clause-handled g c =
    let p = c.args.self.now.plan in
    let k = c.args.self.now.node in
    subst (λ (x : Packet g.row.L.Denot). (drew : Option Grant) (out : List (ℕ × Packet g.row.L.Denot)) → TreeAsks p k c.args.link x drew out → ⊥)
    (sym c.in-Reply.is) (no-reply p k c.args.link c.in-Reply.agent c.in-Reply.grant c.in-None-route_down.ensures)
