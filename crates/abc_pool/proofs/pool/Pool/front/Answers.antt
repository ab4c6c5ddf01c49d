use Rattle.std.proofs.Common.{◌≡◌, ◌<◌, ◌∙◌, length, sym, ap, arith}
use Rattle.std.specs.Prelude.{slice_get}
use Rattle.abc_pool.specs.Queues.{Queues, items_in}
use Rattle.abc_pool.proofs.Pools.{first-inside, front-read}
use Rattle.abc_pool.proofs.pool.Pool.front.Goals as goal

pub index-requires : goal.index-requires
index-requires g c =
    let pool = c.self.inside in
    let within = first-inside c.args.self.now pool.cells.items pool.free c.index-chain.result.now pool.queues.items c.args.queue
    c.self.view_is c.self.invariant c.requires.exists c.index-chain.ensures (omega arith) in
    omega (arith, pool.cells.ok.0)

pub returns : goal.returns
returns g c =
    let pool = c.self.inside in
    c.as_ref.ensures.value
    ∙ front-read c.args.self.now pool.cells.items pool.free c.index-chain.result.now pool.queues.items c.args.queue c.index.result.now
    c.self.view_is c.self.invariant c.requires.exists c.index-chain.ensures (omega arith) c.index.ensures
