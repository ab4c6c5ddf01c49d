use Rattle.abc_grammar_laws.proofs.MarksFound.{marks_stand}
use Rattle.abc_grammar_laws.proofs.laws.marks_stand.Goals as goal

pub returns : goal.returns
returns c = marks_stand
