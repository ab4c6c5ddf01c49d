use Rattle.std.proofs.Common.{◌≡◌, ◌<◌, ◌∙◌, arith}
use Rattle.std.specs.Prelude.{IfNone, [], None}
use Rattle.abc_pool.specs.Queues.{items_in}
use Rattle.abc_pool.proofs.Pools.{some-read, first-inside, free_last-inside, popped-all, seen, IfNone-never}
use Rattle.abc_pool.proofs.pool.Pool.pop.Goals as goal

pub move_first-requires-clause-first_in : goal.move_first-requires-clause-first_in
move_first-requires-clause-first_in g c =
    let pool = c.self.inside in
    let queue = c.index_mut.result.now in
    let some = some-read c.args.self.now pool.cells.items pool.free c.index.result.now queue pool.queues.items c.args.queue
    c.self.view_is c.requires.exists c.index.ensures c.index_mut.ensures.value c.if-index-eq0.false in
    let within = first-inside c.args.self.now pool.cells.items pool.free queue pool.queues.items c.args.queue
    c.self.view_is c.self.invariant c.requires.exists c.index_mut.ensures.value some in
    omega (arith, pool.cells.ok.0)

pub move_first-requires-clause-last_in : goal.move_first-requires-clause-last_in
move_first-requires-clause-last_in g c = λ some.
    let pool = c.self.inside in
    let within = free_last-inside pool.cells.items pool.free pool.queues.items c.self.invariant some in
    omega (arith, pool.cells.ok.0)

pub invariant_of-self : goal.invariant_of-self
invariant_of-self g c =
    let pool = c.self.inside in
    let queue = c.index_mut.result.now in
    let some = some-read c.args.self.now pool.cells.items pool.free c.index.result.now queue pool.queues.items c.args.queue
    c.self.view_is c.requires.exists c.index.ensures c.index_mut.ensures.value c.if-index-eq0.false in
    let moves = c.move_first.ensures in
    let done = popped-all c.args.self.now pool.cells.items c.move_first.new.cells.items pool.free c.move_first.new.to queue
    c.move_first.new.from pool.queues.items c.args.queue c.move_first.result c.self.view_is c.self.invariant c.requires.exists
    c.index_mut.ensures.value some moves.item moves.cells moves.from moves.to in
    done.pool

pub returns : goal.returns
returns g c =
    let pool = c.self.inside in
    let queue = c.index_mut.result.now in
    let some = some-read c.args.self.now pool.cells.items pool.free c.index.result.now queue pool.queues.items c.args.queue
    c.self.view_is c.requires.exists c.index.ensures c.index_mut.ensures.value c.if-index-eq0.false in
    let moves = c.move_first.ensures in
    let done = popped-all c.args.self.now pool.cells.items c.move_first.new.cells.items pool.free c.move_first.new.to queue
    c.move_first.new.from pool.queues.items c.args.queue c.move_first.result c.self.view_is c.self.invariant c.requires.exists
    c.index_mut.ensures.value some moves.item moves.cells moves.from moves.to in
    record {
      first = done.some;
      number = done.number;
      empty = IfNone-never c.move_first.result _ done.never_none;
      same = IfNone-never c.move_first.result _ done.never_none;
      cells = done.as_many;
    }
