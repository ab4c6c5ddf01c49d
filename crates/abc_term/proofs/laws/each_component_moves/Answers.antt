use Rattle.abc_term.proofs.ByNumber.{multicast_by_number}
use Rattle.abc_term.proofs.laws.each_component_moves.Goals as goal

pub returns : goal.returns
returns c = multicast_by_number
