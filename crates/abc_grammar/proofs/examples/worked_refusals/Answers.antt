use Rattle.abc_grammar.proofs.Worked as worked
use Rattle.abc_grammar.proofs.examples.worked_refusals.Goals as goal

pub returns : goal.returns
returns c = record {
  brackets_of_101 = worked.brackets_of_101;
  brackets_of_100 = worked.brackets_of_100;
  ninth_expr = worked.ninth_expr;
  ninth_variable = worked.ninth_variable;
  extra_scalar = worked.extra_scalar;
  extra_token = worked.extra_token;
  size_five = worked.size_five;
  front_of_one = worked.front_of_one;
  no_front = worked.no_front;
  header_of_three = worked.header_of_three;
  arrow = worked.arrow;
}
