use Rattle.abc_grammar.proofs.Worked as worked
use Rattle.abc_grammar.proofs.examples.worked_terms.Goals as goal

pub returns : goal.returns
returns c = record {
  minus_minus_one = worked.minus_minus_one;
  to_the_left = worked.to_the_left;
  sum_times_size = worked.sum_times_size;
  least_number = worked.least_number;
  precedence = worked.precedence;
  choice_and_par = worked.choice_and_par;
  small_program = worked.small_program;
}
