use Rattle.std.proofs.Common.{ap}
use Rattle.abc_value.specs.Sets.{has}
use Rattle.abc_value.proofs.Members.{same_members}
use Rattle.abc_value.proofs.laws.sets_are_their_members.Goals as goal

pub returns : goal.returns
returns c = λ a b p q. (same_members a b p.rises q.rises, λ e x. ap (λ s. has s x) e)
