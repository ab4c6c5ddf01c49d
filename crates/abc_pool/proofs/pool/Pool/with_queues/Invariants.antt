use Rattle.std.proofs.Common.{◌≡◌, ◌+◌, ◌-◌, ◌≤◌, replicate}
use Rattle.std.specs.Vec.{vec_len, vec_capacity}
use Rattle.abc_pool.specs.Tables.{no_chain}
use Rattle.abc_pool.proofs.pool.Pool.with_queues.Given as goal

abbrev pub invariant-adding : goal.invariant-adding
invariant-adding g l = record {
  chains : l.chains.items ≡ replicate l.added no_chain;
  space : vec_len l.chains + (l.count - l.added) ≤ vec_capacity l.chains;
}
