use Rattle.abc_value.proofs.Members.{has_set, rises_set}
use Rattle.abc_value.proofs.laws.sets_of_lists.Goals as goal

pub returns : goal.returns
returns c = λ xs. record { in_order = rises_set xs; members = has_set xs }
