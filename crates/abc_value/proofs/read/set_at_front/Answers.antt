use Rattle.std.proofs.Common.{drop, subst}
use Rattle.abc_value.specs.Reading.{IsMemberFront, NoMember}
use Rattle.abc_value.proofs.Steps.{set_begins, set_more, set_next, set_wrong, set_close, member_shrinks}
use Rattle.abc_value.proofs.read.set_at_front.Goals as goal

pub members-init : goal.members-init
members-init c = rw c.empty-set.ensures (set_begins _ c.requires.first)

pub returns-in-Close : goal.returns-in-Close
returns-in-Close c = set_close _ _ _ c.members.invariant c.in-Close.ensures

pub append-requires : goal.append-requires
append-requires c =
    set_next _ _ _ _ _ c.members.invariant (subst (λ b. IsMemberFront b (drop c.members.at c.args.bytes.now) c.in-Member.x c.in-Member.width) c.is_empty.ensures c.in-Member.ensures) c.requires.literal

pub members-smaller : goal.members-smaller
members-smaller c = member_shrinks _ _ _ _ _ c.members.invariant.within c.in-Member.ensures

pub unreachable-requires : goal.unreachable-requires
unreachable-requires c =
    set_wrong _ _ _ c.members.invariant (subst (λ b. NoMember b (drop c.members.at c.args.bytes.now)) c.is_empty.ensures c.in-Wrong.ensures) c.requires.literal

pub members-preserved : goal.members-preserved
members-preserved c =
    rw c.in_ok-append-in-Member.ensures.ok
    (set_more _ _ _ _ _ c.members.invariant (subst (λ b. IsMemberFront b (drop c.members.at c.args.bytes.now) c.in-Member.x c.in-Member.width) c.is_empty.ensures c.in-Member.ensures)
    (set_next _ _ _ _ _ c.members.invariant (subst (λ b. IsMemberFront b (drop c.members.at c.args.bytes.now) c.in-Member.x c.in-Member.width) c.is_empty.ensures c.in-Member.ensures) c.requires.literal))
