use Rattle.std.proofs.Common.{subst}
use Rattle.abc_value.specs.Sets.{MayFollow}
use Rattle.abc_value.proofs.Steps.{passed_none, passed_more, passed_refused, passed_wrong, passed_end, member_shrinks}
use Rattle.abc_value.proofs.read.has_set.Goals as goal

pub members-init : goal.members-init
members-init c = passed_none _ c.requires

pub returns-in-Close : goal.returns-in-Close
returns-in-Close c = passed_end _ _ _ _ c.members.invariant c.in-Close.ensures

pub returns-in-Wrong : goal.returns-in-Wrong
returns-in-Wrong c = passed_wrong _ _ _ _ c.members.invariant c.in-Wrong.ensures

pub members-smaller : goal.members-smaller
members-smaller c = member_shrinks _ _ _ _ _ c.members.invariant.so_far.within c.in-Member.ensures

pub members-preserved : goal.members-preserved
members-preserved c = passed_more _ _ _ _ _ _ c.members.invariant c.in-Member.ensures (subst (λ l. MayFollow c.members.count l c.in-Member.x) c.as_ref.ensures.value c.if-not-may_follow.ensures)

pub returns-then-not-may_follow : goal.returns-then-not-may_follow
returns-then-not-may_follow c = passed_refused _ _ _ _ _ _ c.members.invariant c.in-Member.ensures
    (subst (λ l. ¬ (MayFollow c.members.count l c.in-Member.x)) c.as_ref.ensures.value c.if-not-may_follow.ensures)
