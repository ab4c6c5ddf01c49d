use Rattle.std.proofs.Common.{◌≡◌, arith}
use Rattle.abc_pool.proofs.Pools.{new-pool, new-queues}
use Rattle.abc_pool.proofs.pool.Pool.with_queues.Goals as goal

pub invariant_of-result : goal.invariant_of-result
invariant_of-result g c =
    new-pool c.new-cells.result.items c.adding.chains.items c.adding.added c.new-cells.ensures.items c.adding.invariant.chains

pub returns-clause-queues : goal.returns-clause-queues
returns-clause-queues g c =
    let all : c.adding.added ≡ c.args.queues = omega arith in
    new-queues c.new-cells.result.items c.adding.chains.items c.adding.added c.args.queues c.new-cells.ensures.items
    c.adding.invariant.chains all
