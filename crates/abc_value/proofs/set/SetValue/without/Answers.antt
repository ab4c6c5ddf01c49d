use Rattle.std.proofs.Common.{sym, subst}
use Rattle.abc_value.specs.Sets.{IsSet}
use Rattle.abc_value.proofs.Members.{rest_is_set}
use Rattle.abc_value.proofs.set.SetValue.without.Goals as goal

pub invariant_of-result : goal.invariant_of-result
invariant_of-result c =
    rest_is_set _ _ _ (subst (λ s. IsSet s) (sym c.members.ensures.members) c.members.ensures.set) c.in_ok-items.ensures
