use Rattle.std.proofs.Common.{List, sym, subst}
use Rattle.abc_packet.specs.declared.log.Entry.{Entry}
use Rattle.abc_world.specs.Starting.{LeavesLegal}
use Rattle.abc_world.proofs.Legally.{leaves-legal}
use Rattle.abc_world.proofs.started.Started.into_record.Goals as goal

pub returns-clause-legal : goal.returns-clause-legal
returns-clause-legal g c =
    let m = g.B.Body.meaning in
    let machine = g.M.Node.machine in
    let blank = g.M.Node.blank in
    let Legal : List (List (Entry g.row.B-Label.Denot)) → Type 0 = LeavesLegal m machine blank c.self.inside.network in
    rw (← c.self.view_is) (subst Legal (sym c.into_record.ensures.logs)
    (leaves-legal m machine blank c.self.inside.network c.self.invariant.0))
