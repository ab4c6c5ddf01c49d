use Rattle.abc_grammar.proofs.Worked as worked
use Rattle.abc_grammar.proofs.examples.what_is_no_term.Goals as goal

pub returns : goal.returns
returns c = record {
  not_to_the_right = worked.not_to_the_right;
  two_signs = worked.two_signs;
  plus_nothing = worked.plus_nothing;
  size_of_union = worked.size_of_union;
  too_great = worked.too_great;
  round_brackets = worked.round_brackets;
  one_is_none = worked.one_is_none;
}
