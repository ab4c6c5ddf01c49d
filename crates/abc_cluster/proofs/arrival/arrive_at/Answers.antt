use Rattle.std.proofs.lemmas.Result.{on_ok_weaker}
use Rattle.abc_history.specs.Nodes.{Drew}
use Rattle.abc_cluster.proofs.Arriving.{arrives-after_room}
use Rattle.abc_cluster.proofs.arrival.arrive_at.Goals as goal

-- The outlet has the same links once it has room.
pub take_in-requires-clause-from : goal.take_in-requires-clause-from
take_in-requires-clause-from g c = λ link to leads.
    (c.make_room-2.ensures.links link).0 (c.requires.from link to leads)

-- Room is no change.
pub returns-clause-ok : goal.returns-clause-ok
returns-clause-ok g c =
    let s = c.args.station.now in
    let n = g.N.Numbers in
    let lists = g.O.Outlet.lists in
    on_ok_weaker c.take_in.result
    (arrives-after_room s c.args.link c.args.stamped c.args.history.now c.make_room.new.self
    c.take_in.new.history (lists c.args.outlet.now) (lists c.make_room-2.new.self) (lists c.take_in.new.outlet)
    (λ d. Drew n.limit n.drawn n.closed n.stays d c.args.numbers.now c.take_in.new.numbers)
    c.make_room.ensures.clock c.make_room.ensures.log c.make_room-2.ensures.lists)
    c.take_in.ensures.ok
