use Rattle.abc_wait.proofs.Places.{RisesFrom-items_from}
use Rattle.abc_wait.proofs.Calls.{taken-item, taken-changes}
use Rattle.abc_wait.proofs.list.WaitList.take.Goals as goal

pub returns-clause-in_order : goal.returns-clause-in_order
returns-clause-in_order g c =
    RisesFrom-items_from c.take_first.new.first c.take_first.new.places.items

pub returns-clause-item : goal.returns-clause-item
returns-clause-item g c =
    let before = c.self.inside in
    let after = c.take_first.new in
    let some = c.has.ensures.stored.0 c.if-not-has.false in
    taken-item c.args.self.now before.first after.first c.args.number before.places.items after.places.items
    c.self.view_is c.take_first.result c.take_first.ensures.none c.take_first.ensures.taken
    (c.requires.lowest, some)

pub returns-clause-taken : goal.returns-clause-taken
returns-clause-taken g c =
    let before = c.self.inside in
    let after = c.take_first.new in
    let some = c.has.ensures.stored.0 c.if-not-has.false in
    taken-changes c.args.self.now before.first after.first c.args.number before.places.items after.places.items
    c.self.view_is c.take_first.result c.take_first.ensures.rises c.take_first.ensures.taken
    (c.requires.lowest, some)
