use Rattle.abc_grammar.proofs.Worked as worked
use Rattle.abc_grammar.proofs.examples.worked_lexemes.Goals as goal

pub returns : goal.returns
returns c = record {
  in_in = worked.in_in;
  becomes_007 = worked.becomes_007;
}
