use Rattle.abc_grammar.proofs.WorkedLimits as worked
use Rattle.abc_grammar.proofs.examples.worked_limits.Goals as goal

pub returns : goal.returns
returns c = record {
  brackets = worked.bracket_limits;
  tokens = worked.token_limits;
  parts = worked.part_limits;
}
