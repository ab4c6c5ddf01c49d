use Rattle.abc_grammar.proofs.OneRefusal.{causes_in_order}
use Rattle.abc_grammar.proofs.laws.causes_in_order.Goals as goal

pub returns : goal.returns
returns c = causes_in_order
