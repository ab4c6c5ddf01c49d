use Rattle.std.proofs.Common.{◌∙◌, sym, ap, arith}
use Rattle.abc_pool.specs.Queues.{Queues, cells_of}
use Rattle.abc_pool.proofs.Pools.{seen-cells}
use Rattle.abc_pool.proofs.pool.Pool.cells.Goals as goal

pub returns : goal.returns
returns g c =
    let pool = c.self.inside in
    let all = seen-cells pool.cells.items pool.free pool.queues.items c.self.invariant in
    let same = ap (λ (w : Queues g.row.T.Denot). cells_of w) c.self.view_is in
    omega (arith, pool.cells.ok.0)
