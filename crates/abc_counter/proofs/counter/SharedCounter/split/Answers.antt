use Rattle.std.proofs.Common.{◌<◌, length, arith}
use Rattle.abc_counter.proofs.Tables.{split_allowed}
use Rattle.abc_counter.proofs.counter.SharedCounter.split.Goals as goal

pub split_seat-seat-requires : goal.split_seat-seat-requires
split_seat-seat-requires c =
    let terms = c.args.self.now.table.shared.key in
    let first = c.args.first.now in
    let some : 0 < length first.me.0.seats = omega arith in
    let allowed = split_allowed terms first.id first.me.0 (some, c.requires.first.closings) c.requires.more in
    (c.requires.first.table, omega arith, allowed)
