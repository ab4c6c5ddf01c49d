use Rattle.std.proofs.Common.{refl}
use Rattle.abc_counter.proofs.Tables.{undealt}
use Rattle.abc_counter.proofs.counter.SharedCounter.new.Goals as goal

pub deal-requires-clause-first : goal.deal-requires-clause-first
deal-requires-clause-first c =
    let made = c.in_ok-table.ensures in
    undealt _ c.in_ok-table.first (record { limit = c.args.limit; seats = c.args.seats }) refl made.2 made.4
