use Rattle.std.proofs.Common.{arith}
use Rattle.abc_counter.proofs.Tables.{draw_allowed}
use Rattle.abc_counter.proofs.drawer.add_one.Goals as goal

pub fetch_add-requires : goal.fetch_add-requires
fetch_add-requires c =
    let table = c.args.counter.now.table.shared in
    let seat = c.args.seat.now in
    (c.requires.table, omega arith, draw_allowed table.key seat.id table.table_id.slots seat.me c.requires.is_open)
