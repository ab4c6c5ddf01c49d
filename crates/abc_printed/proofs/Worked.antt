-- The worked examples compute.
use Rattle.std.proofs.Common.{refl}
use Rattle.std.specs.Fmt.{digits}
use Rattle.abc_printed.specs.Examples.{WorkedOperands, WorkedPreds, WorkedProcesses, WorkedProgram}

pub operands : WorkedOperands
unfolding digits
operands = record {
  to_the_left = refl;
  to_the_right = refl;
  sum_to_the_right = refl;
  product_in_sum = refl;
  sum_in_product = refl;
  product_to_the_right = refl;
  negative = refl;
  own_and_variable = refl;
  size_and_free = refl;
  set_of_all_kinds = refl;
  empty_set_and_none = refl;
  union_and_without = refl;
}

pub preds : WorkedPreds
unfolding digits
preds = record { and_in_or = refl; or_in_and = refl; to_the_right = refl; not_all = refl; not_one = refl }

pub processes : WorkedProcesses
unfolding digits
processes = record { par_in_choice = refl; choice_in_par = refl; guards = refl; output = refl; empty_tuple = refl; input = refl; no_variables = refl }

pub program : WorkedProgram
unfolding digits
program = refl
