use Rattle.std.proofs.Common.{◌≡◌, ◌+◌, ◌-◌, ◌≤◌, map}
use Rattle.std.specs.Vec.{vec_len, vec_capacity}
use Rattle.abc_pool.specs.Tables.{items_of, IsPool}
use Rattle.abc_pool.proofs.pool.Pool.reserve.Given as goal

abbrev pub invariant-adding : goal.invariant-adding
invariant-adding g l = record {
  pool : IsPool l.self-inside.cells.items l.self-inside.free l.self-inside.queues.items;
  chains : l.self-inside.queues ≡ l.initial.self-inside.queues;
  queue_items : map (items_of l.self-inside.cells.items) l.self-inside.queues.items
      ≡ map (items_of l.initial.self-inside.cells.items) l.initial.self-inside.queues.items;
  spare : l.self-inside.free.count ≡ l.initial.self-inside.free.count + l.added;
  size : vec_len l.self-inside.cells ≡ vec_len l.initial.self-inside.cells + l.added;
  space : vec_len l.self-inside.cells + (l.missing - l.added) ≤ vec_capacity l.self-inside.cells;
}
