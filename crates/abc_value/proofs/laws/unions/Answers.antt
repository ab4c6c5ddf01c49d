use Rattle.std.proofs.Common.{◌++◌, ◌∙◌}
use Rattle.abc_value.proofs.Members.{has_set, rises_set, has_append}
use Rattle.abc_value.proofs.laws.unions.Goals as goal

pub returns : goal.returns
returns c = λ a b. record { in_order = rises_set (a ++ b); members = λ x. has_set (a ++ b) x ∙ has_append a b x }
