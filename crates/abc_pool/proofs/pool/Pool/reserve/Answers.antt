use Rattle.std.proofs.Common.{◌≡◌, ◌<◌, ◌∙◌, length, ap, arith}
use Rattle.std.specs.Vec.{vec_len}
use Rattle.abc_pool.specs.declared.cells.Chain.{Chain}
use Rattle.abc_pool.proofs.Pools.{free_last-inside, grown-all}
use Rattle.abc_pool.proofs.pool.Pool.reserve.Goals as goal

pub add_cell-requires-clause-last_in : goal.add_cell-requires-clause-last_in
add_cell-requires-clause-last_in g c = λ some.
    let pool = c.adding.self-inside in
    let within = free_last-inside pool.cells.items pool.free pool.queues.items c.adding.invariant.pool some in
    omega (arith, pool.cells.ok.0)

pub adding-preserved : goal.adding-preserved
adding-preserved g c =
    let pool = c.adding.self-inside in
    let size : vec_len pool.cells ≡ length pool.cells.items = omega (arith, pool.cells.ok.0) in
    let more = ap (λ (h : Chain). h.count) c.add_cell.ensures.chain in
    let done = grown-all pool.cells.items c.add_cell.new.cells.items pool.free c.add_cell.new.chain pool.queues.items (vec_len pool.cells)
    c.adding.invariant.pool size c.add_cell.ensures.cells c.add_cell.ensures.chain in
    record {
      pool = done.pool;
      chains = c.adding.invariant.chains;
      queue_items = done.queue_items ∙ c.adding.invariant.queue_items;
      spare = let s = c.adding.invariant.spare in omega arith;
      size = let s = c.adding.invariant.size in omega arith;
      space = let s = c.adding.invariant.space in omega arith;
    }
