use Rattle.std.proofs.Common.{refl, subst}
use Rattle.std.proofs.lemmas.Result.{on_ok_weaker}
use Rattle.abc_history.specs.Nodes.{Drew}
use Rattle.abc_cluster.specs.declared.station.Row.TheVariants.{Other}
use Rattle.abc_cluster.specs.Rows.{IsRow}
use Rattle.abc_cluster.proofs.Arriving.{strayed, arrives-undrawn}
use Rattle.abc_cluster.proofs.arrival.take_in.Goals as goal

-- A message is spread, and nothing is drawn.
pub returns-in-Says-clause-ok : goal.returns-in-Says-clause-ok
returns-in-Says-clause-ok g c =
    let s = c.args.station.now in
    let n = g.N.Numbers in
    on_ok_weaker c.spread.result
    (arrives-undrawn s c.args.link c.args.stamped c.args.history.now c.spread.new.history
    (g.O.Outlet.lists c.args.outlet.now) (g.O.Outlet.lists c.spread.new.outlet)
    (λ d. Drew n.limit n.drawn n.closed n.stays d c.args.numbers.now c.args.numbers.now) refl)
    c.spread.ensures.ok

-- A stray is logged alone.
pub returns-in-Other-clause-ok : goal.returns-in-Other-clause-ok
returns-in-Other-clause-ok g c =
    let s = c.args.station.now in
    let n = g.N.Numbers in
    let row = subst (IsRow s c.args.link c.args.stamped.packet)
    {x = c.in_ok-row.row} {y = Other} c.in-Other.is c.in_ok-row.ensures in
    strayed s c.args.link c.args.stamped c.args.history.now c.note_stray.new.history
    (g.O.Outlet.lists c.args.outlet.now)
    (λ d. Drew n.limit n.drawn n.closed n.stays d c.args.numbers.now c.args.numbers.now) row c.note_stray.ensures refl
