use Rattle.std.proofs.Common.{arith}
use Rattle.abc_counter.proofs.Tables.{join_allowed}
use Rattle.abc_counter.proofs.counter.SharedCounter.take_in.Goals as goal

pub join_seat-requires : goal.join_seat-requires
join_seat-requires c =
    let terms = c.args.self.now.table.shared.key in
    let whole = c.args.whole.now in
    let seat = c.args.seat.seat in
    let allowed = join_allowed terms whole.id whole.me.0 seat.id seat.me.0 c.requires.some in
    (c.requires.table, c.requires.seat.table, c.args.seat.bare, omega arith, allowed)
