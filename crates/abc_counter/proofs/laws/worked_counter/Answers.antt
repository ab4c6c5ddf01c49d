use Rattle.std.proofs.Common.{refl, arith}
use Rattle.abc_counter.specs.Steps.Steps.{draws, closes, splits, joins}
use Rattle.abc_counter.specs.Worked.{at_start, when_split, with_one, with_two, once_closed, twice_closed}
use Rattle.abc_counter.proofs.laws.worked_counter.Goals as goal

pub returns : goal.returns
returns c = record {
  split = splits 0 at_start 0 _ refl (omega arith, refl) (omega arith);
  draw_one = draws 0 when_split 0 _ refl (omega arith, refl) (omega arith);
  draw_two = draws 1 with_one 1 _ refl (omega arith, refl) (omega arith);
  close = closes 2 with_two 0 _ refl (omega arith, refl) (omega arith);
  close_again = closes 3 once_closed 1 _ refl (omega arith, refl) (omega arith);
  join = joins 4 twice_closed 0 1 _ _ refl refl (λ e. omega arith) (omega arith);
}
