use Rattle.std.proofs.Common.{◌≡◌, ◌<◌, ◌∙◌, ap, arith}
use Rattle.abc_pool.specs.Queues.{Queues}
use Rattle.abc_pool.proofs.Pools.{last-inside, free_first-inside, pushed-all}
use Rattle.abc_pool.proofs.pool.Pool.push.Goals as goal

pub move_first-none-requires-clause-first_in : goal.move_first-none-requires-clause-first_in
move_first-none-requires-clause-first_in g c =
    let pool = c.self.inside in
    let spare = ap (λ (w : Queues g.row.T.Denot). w.spare) c.self.view_is in
    let within = free_first-inside pool.cells.items pool.free pool.queues.items c.self.invariant (omega arith) in
    omega (arith, pool.cells.ok.0)

pub move_first-none-requires-clause-last_in : goal.move_first-none-requires-clause-last_in
move_first-none-requires-clause-last_in g c = λ some.
    let pool = c.self.inside in
    let within = last-inside c.args.self.now pool.cells.items pool.free c.index_mut-queue.result.now pool.queues.items c.args.queue
    c.self.view_is c.self.invariant c.requires.exists c.index_mut-queue.ensures.value some in
    omega (arith, pool.cells.ok.0)

pub invariant_of-self : goal.invariant_of-self
invariant_of-self g c =
    let pool = c.self.inside in
    let spare = ap (λ (w : Queues g.row.T.Denot). w.spare) c.self.view_is in
    let moves = c.move_first-none.ensures in
    let done = pushed-all c.args.self.now pool.cells.items c.move_first-none.new.cells.items pool.free c.move_first-none.new.from
    c.index_mut-queue.result.now c.move_first-none.new.to pool.queues.items c.args.queue c.args.item c.self.view_is c.self.invariant
    c.requires.exists c.index_mut-queue.ensures.value (omega arith) moves.cells moves.from moves.to in
    done.pool

pub returns-clause-queues : goal.returns-clause-queues
returns-clause-queues g c =
    let pool = c.self.inside in
    let spare = ap (λ (w : Queues g.row.T.Denot). w.spare) c.self.view_is in
    let moves = c.move_first-none.ensures in
    let done = pushed-all c.args.self.now pool.cells.items c.move_first-none.new.cells.items pool.free c.move_first-none.new.from
    c.index_mut-queue.result.now c.move_first-none.new.to pool.queues.items c.args.queue c.args.item c.self.view_is c.self.invariant
    c.requires.exists c.index_mut-queue.ensures.value (omega arith) moves.cells moves.from moves.to in
    done.queue_items

pub returns-clause-cells : goal.returns-clause-cells
returns-clause-cells g c =
    let pool = c.self.inside in
    let spare = ap (λ (w : Queues g.row.T.Denot). w.spare) c.self.view_is in
    let moves = c.move_first-none.ensures in
    let done = pushed-all c.args.self.now pool.cells.items c.move_first-none.new.cells.items pool.free c.move_first-none.new.from
    c.index_mut-queue.result.now c.move_first-none.new.to pool.queues.items c.args.queue c.args.item c.self.view_is c.self.invariant
    c.requires.exists c.index_mut-queue.ensures.value (omega arith) moves.cells moves.from moves.to in
    done.as_many

pub returns-clause-number : goal.returns-clause-number
returns-clause-number g c =
    let pool = c.self.inside in
    let spare = ap (λ (w : Queues g.row.T.Denot). w.spare) c.self.view_is in
    let moves = c.move_first-none.ensures in
    let done = pushed-all c.args.self.now pool.cells.items c.move_first-none.new.cells.items pool.free c.move_first-none.new.from
    c.index_mut-queue.result.now c.move_first-none.new.to pool.queues.items c.args.queue c.args.item c.self.view_is c.self.invariant
    c.requires.exists c.index_mut-queue.ensures.value (omega arith) moves.cells moves.from moves.to in
    done.number
