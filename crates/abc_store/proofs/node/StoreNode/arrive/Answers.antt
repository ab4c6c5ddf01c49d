use Rattle.std.proofs.Common.{◌≡◌, ap, subst}
use Rattle.std.specs.Prelude.{Option, None}
use Rattle.abc_value.specs.declared.grant.Grant.{Grant}
use Rattle.std.proofs.lemmas.Result.{on_ok_weaker}
use Rattle.abc_network.specs.Stores.{Item}
use Rattle.abc_history.specs.Nodes.{acting, Drew}
use Rattle.abc_store.specs.Storing.{ArrivesBy}
use Rattle.abc_store.proofs.Making.{arrives-with_room, none_drawn}
use Rattle.abc_store.proofs.node.StoreNode.arrive.Goals as goal

-- it was a message, of which nothing is drawn
pub returns-in-Message-clause-made : goal.returns-in-Message-clause-made
returns-in-Message-clause-made g c =
    let a = c.self.inside in
    let n = g.N.Numbers in
    let kind = g.R.Rows.kind a.rows in
    let node = g.R.Rows.node a.rows in
    let lists = g.O.Outlet.lists c.args.outlet.now in
    let new = acting c.keep.new.stock c.keep.new.history in
    let came = ap (λ (p : Item g.row.L.Denot). p.came) c.new-parcel.ensures in
    rw (← c.self.view_is) (
    on_ok_weaker c.keep.result (λ kept.
    arrives-with_room kind node c.args.link c.args.stamped a.stock a.history c.make_room.new.self new lists lists
    (λ d. d ≡ None) (λ d. Drew n.limit n.drawn n.closed n.stays d c.args.numbers.now c.args.numbers.now)
    c.make_room.ensures.clock c.make_room.ensures.log
    (none_drawn n.limit n.drawn n.closed n.stays c.args.numbers.now)
    (subst (λ l. ArrivesBy kind node l c.args.stamped (acting a.stock c.make_room.new.self) new lists lists (λ d. d ≡ None))
    came (kept lists))) c.keep.ensures.made
    )

-- it was a request
pub returns-in-Request-clause-made : goal.returns-in-Request-clause-made
returns-in-Request-clause-made g c =
    let a = c.self.inside in
    let n = g.N.Numbers in
    rw (← c.self.view_is) (
    on_ok_weaker c.handle.result (λ made.
    let drew = λ (d : Option Grant). Drew n.limit n.drawn n.closed n.stays d c.args.numbers.now c.handle.new.numbers in
    arrives-with_room (g.R.Rows.kind a.rows) (g.R.Rows.node a.rows) c.args.link c.args.stamped a.stock a.history
    c.make_room.new.self (acting a.stock c.handle.new.history) (g.O.Outlet.lists c.args.outlet.now)
    (g.O.Outlet.lists c.handle.new.outlet) drew drew c.make_room.ensures.clock c.make_room.ensures.log (λ d x. x)
    (made a.stock)) c.handle.ensures.made
    )

-- it was a reply
pub returns-in-Reply-clause-made : goal.returns-in-Reply-clause-made
returns-in-Reply-clause-made g c =
    let a = c.self.inside in
    let n = g.N.Numbers in
    rw (← c.self.view_is) (
    on_ok_weaker c.handle-in-Reply.result (λ made.
    let drew = λ (d : Option Grant). Drew n.limit n.drawn n.closed n.stays d c.args.numbers.now c.handle-in-Reply.new.numbers in
    arrives-with_room (g.R.Rows.kind a.rows) (g.R.Rows.node a.rows) c.args.link c.args.stamped a.stock a.history
    c.make_room.new.self (acting a.stock c.handle-in-Reply.new.history) (g.O.Outlet.lists c.args.outlet.now)
    (g.O.Outlet.lists c.handle-in-Reply.new.outlet) drew drew c.make_room.ensures.clock c.make_room.ensures.log (λ d x. x)
    (made a.stock)) c.handle-in-Reply.ensures.made
    )
