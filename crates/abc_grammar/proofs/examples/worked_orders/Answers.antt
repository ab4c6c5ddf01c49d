use Rattle.abc_grammar.proofs.WorkedOrder as worked
use Rattle.abc_grammar.proofs.examples.worked_orders.Goals as goal

pub returns : goal.returns
returns c = record { two_of_each = worked.two_of_each; name_places = worked.name_places }
