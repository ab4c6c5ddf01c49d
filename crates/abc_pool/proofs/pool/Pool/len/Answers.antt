use Rattle.std.proofs.Common.{◌∙◌, sym, ap, arith}
use Rattle.abc_pool.proofs.Pools.{count-within}
use Rattle.abc_pool.proofs.pool.Pool.len.Goals as goal

pub returns-clause-within : goal.returns-clause-within
returns-clause-within g c =
    let pool = c.self.inside in
    count-within c.args.self.now pool.cells.items pool.free c.index.result.now pool.queues.items c.args.queue
    c.self.view_is c.self.invariant c.requires.exists c.index.ensures
