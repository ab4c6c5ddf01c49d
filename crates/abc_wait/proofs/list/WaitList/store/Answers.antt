use Rattle.std.proofs.Common.{◌-◌, ap, arith}
use Rattle.std.specs.Prelude.{Some, slice_set}
use Rattle.abc_wait.specs.Waits.{Waits}
use Rattle.abc_wait.proofs.Places.{RisesFrom-items_from, length-items_from-le}
use Rattle.abc_wait.proofs.Calls.{filled-window, filled-changes}
use Rattle.abc_wait.proofs.list.WaitList.store.Goals as goal

pub returns-in_err-widen-clause-in_order : goal.returns-in_err-widen-clause-in_order
returns-in_err-widen-clause-in_order g c =
    RisesFrom-items_from c.self.inside.first c.widen.new.places.items

pub overflow_add-self : goal.overflow_add-self
overflow_add-self g c =
    let few = length-items_from-le c.self.inside.first c.self.inside.places.items in
    let counted = c.self.invariant.counted in
    let bounded = c.self.invariant.bounded in
    omega arith

pub returns-clause-in_order : goal.returns-clause-in_order
returns-clause-in_order g c =
    let first = c.self.inside.first in
    RisesFrom-items_from first (slice_set c.widen.new.places.items (c.from.result - first) (Some c.args.item))

pub invariant_of-self-2 : goal.invariant_of-self-2
invariant_of-self-2 g c =
    let before = c.self.inside in
    let place = c.from.result - before.first in
    let heads = ap (λ (w : Waits g.row.T.Denot). w.first) c.self.view_is in
    filled-window c.args.self.now before.first c.args.number place (omega arith)
    before.places.items c.widen.new.places.items c.self.view_is c.in_ok-widen.ensures.ok
    c.args.item before.stored (omega arith) c.requires.free c.self.invariant

pub returns-clause-ok : goal.returns-clause-ok
returns-clause-ok g c =
    let before = c.self.inside in
    let place = c.from.result - before.first in
    let heads = ap (λ (w : Waits g.row.T.Denot). w.first) c.self.view_is in
    filled-changes c.args.self.now before.first c.args.number place (omega arith)
    before.places.items c.widen.new.places.items c.self.view_is c.in_ok-widen.ensures.ok
    c.args.item c.requires.free
