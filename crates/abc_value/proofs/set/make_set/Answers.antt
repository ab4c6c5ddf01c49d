use Rattle.std.proofs.Common.{sym, subst}
use Rattle.abc_value.specs.Sets.{Rises}
use Rattle.abc_value.proofs.Members.{rises_set}
use Rattle.abc_value.proofs.Made.{made_set}
use Rattle.abc_value.proofs.set.make_set.Goals as goal

pub returns : goal.returns
returns c =
    let is = made_set _ _ _ c.sort_unstable.ensures.permutation c.sort_unstable.ensures.sorted c.dedup.ensures.filtered in
    record { set = is; rises = subst (λ s. Rises s) (sym is) (rises_set c.args.scalars.now.items) }
