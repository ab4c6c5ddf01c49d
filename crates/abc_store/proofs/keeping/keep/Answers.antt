use Rattle.std.proofs.Common.{subst}
use Rattle.std.specs.Prelude.{None}
use Rattle.abc_packet.specs.declared.log.Deed.TheVariants.{Arrived, Stray}
use Rattle.abc_history.specs.Histories.{Noted}
use Rattle.abc_store.specs.Storing.{IsTaken}
use Rattle.abc_store.proofs.Making.{arrives-stored, arrives-not_stored}
use Rattle.abc_store.proofs.keeping.keep.Goals as goal

-- there was no row
pub returns-then-not-is_taken-clause-made : goal.returns-then-not-is_taken-clause-made
returns-then-not-is_taken-clause-made g c = λ lists.
    let kind = g.R.Rows.kind c.args.rows.now in
    let node = g.R.Rows.node c.args.rows.now in
    let not_taken = c.if-not-is_taken.ensures in
    let not_there = subst (λ l. IsTaken kind node c.args.stock.now l c.args.number c.sender.result → ⊥)
    c.came-link.ensures not_taken in
    let not_so = subst (λ s. IsTaken kind node c.args.stock.now c.args.parcel.came c.args.number s → ⊥)
    c.sender.ensures not_there in
    let noted = subst (λ l. Noted c.args.history.now (Stray l c.args.stamped) c.log_stray.new.history)
    c.came-link.ensures c.log_stray.ensures in
    arrives-not_stored kind node c.args.stamped c.args.stock.now c.args.history.now c.log_stray.new.history
    c.args.number c.args.parcel lists c.requires.packet not_so noted

-- it was stored
pub returns-clause-made : goal.returns-clause-made
returns-clause-made g c = λ lists.
    let kind = g.R.Rows.kind c.args.rows.now in
    let node = g.R.Rows.node c.args.rows.now in
    let taken = c.if-not-is_taken.ensures in
    let there = subst (λ l. IsTaken kind node c.args.stock.now l c.args.number c.sender.result)
    c.came-link.ensures taken in
    let so = subst (λ s. IsTaken kind node c.args.stock.now c.args.parcel.came c.args.number s) c.sender.ensures there in
    let noted = subst (λ l. Noted c.args.history.now (Arrived l c.args.stamped None) c.log_arrival.new.history)
    c.came-link.ensures c.log_arrival.ensures in
    arrives-stored kind node c.args.stamped c.args.stock.now c.store.new.self c.args.history.now
    c.log_arrival.new.history c.args.number c.args.parcel lists c.requires.packet so c.in_ok-store.ensures.ok
    c.in_ok-store.ensures.next noted
