use Rattle.std.proofs.Common.{◌+◌, sym, subst, arith}
use Rattle.abc_store.specs.Storing.{Storer, HasAll}
use Rattle.abc_store.proofs.Readying.{few_to_pass, on_all_links}
use Rattle.abc_store.proofs.Making.{passes-next}
use Rattle.abc_store.proofs.node.StoreNode.pass.Goals as goal

-- the copies go on links that the outlet has
pub send_all-requires-clause-links : goal.send_all-requires-clause-links
send_all-requires-clause-links g c =
    let has = g.O.Outlet.has_link in
    let leave : Storer g.row.R.Denot g.row.L.Denot → Type 0 =
    λ n. HasAll (g.R.Rows.leaves n.rows) (has c.args.outlet.now) in
    on_all_links (g.R.Rows.leaves c.self.inside.rows) (has c.args.outlet.now) (has c.make_room-2.new.self)
    c.in_ok-ready.ready.items (subst leave (sym c.self.view_is) c.requires.leave) c.make_room-2.ensures.links
    c.in_ok-ready.ensures.leave

-- there is room for them
pub send_all-requires-clause-room : goal.send_all-requires-clause-room
send_all-requires-clause-room g c =
    let a = c.self.inside in
    let few = few_to_pass (g.R.Rows.kind a.rows) (g.R.Rows.node a.rows) a.stock (c.clock-clock.result + 1) c.degree.result
    c.in_ok-ready.ready.items c.in_ok-ready.ensures.ready c.degree.ensures.most in
    let room = c.in_ok-make_room-2.ensures.ok in
    omega (arith, few, room)

-- the row, the entry and what was sent
pub returns-clause-made : goal.returns-clause-made
returns-clause-made g c =
    let a = c.self.inside in
    let lists = g.O.Outlet.lists in
    rw (← c.self.view_is) (
    passes-next (g.R.Rows.kind a.rows) (g.R.Rows.node a.rows) a.stock c.take-number.new.self a.history
    c.make_room.new.self c.note.new.self (c.clock-clock.result + 1) c.take-number.result c.in_ok-ready.ready.items
    (lists c.args.outlet.now) (lists c.make_room-2.new.self) (lists c.send_all.new.outlet) c.make_room.ensures.clock
    c.make_room.ensures.log c.in_ok-ready.ensures.ready c.take-number.ensures.number c.take-number.ensures.next
    c.take-number.ensures.loses (omega (arith, c.note.ensures.noted.clock, c.clock-clock.ensures)) c.note.ensures.noted
    c.make_room-2.ensures.lists c.send_all.ensures.lists
    )
