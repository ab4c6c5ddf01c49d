use Rattle.std.proofs.Common.{not}
use Rattle.abc_value.specs.Sets.{has}
use Rattle.abc_value.proofs.Members.{has_filter, difference_set}
use Rattle.abc_value.proofs.laws.differences.Goals as goal

pub returns : goal.returns
returns c = λ a b s. record { is_set = difference_set a b s; members = has_filter (λ x. not (has b x)) a }
