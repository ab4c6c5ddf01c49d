use Rattle.std.proofs.Common.{◌∙◌, ◌<◌, ◌^◌, ◌+◌, ℕ, List, length, map, ap, sym, subst}
use Rattle.abc_term.specs.declared.terms.Definition.{Definition}
use Rattle.abc_term.specs.Standing.{definitions_of}
use Rattle.abc_term.specs.Systems.{IsSilent}
use Rattle.abc_system.specs.declared.member.Member.{Member}
use Rattle.abc_system.specs.Members.{now_in, RunUnder}
use Rattle.abc_system.specs.Casts.{IsCastAt, IsCast}
use Rattle.abc_system.proofs.Casting.{all_written}
use Rattle.abc_system.proofs.Choosing.{at_some}
use Rattle.abc_system.proofs.system.System.take_turn.Goals as goal

pub multicast-requires-clause-cast : goal.multicast-requires-clause-cast
multicast-requires-clause-cast c =
    let defs = definitions_of c.as_slice-definitions.result.now in
    let turn = c.args.pick + c.args.made in
    let at =
    at_some (IsSilent defs (map now_in c.as_slice.result.now)) (IsCastAt defs c.as_slice.result.now turn) c.in_ok-cast.field-0
    c.in-Some.cast c.in-Some.is c.in_ok-cast.ensures in
    subst (λ (ms : List Member). IsCast defs ms c.in-Some.cast) (c.as_slice.ensures.value ∙ sym c.as_mut_slice.ensures.value) at.0

pub invariant_of-self-clause-under : goal.invariant_of-self-clause-under
invariant_of-self-clause-under c =
    let s = c.args.self.now in
    let many = c.multicast.ensures.count ∙ ap length c.as_mut_slice.ensures.value ∙ sym s.members.ok.0 in
    subst (RunUnder s.program.now.definitions) (sym (all_written s.members.len c.multicast.new.members s.members.items many (sym s.members.ok.0)))
    (subst (λ (ds : List Definition). RunUnder ds c.multicast.new.members) c.as_slice-definitions.ensures c.multicast.ensures.program)

pub invariant_of-self-clause-few : goal.invariant_of-self-clause-few
invariant_of-self-clause-few c =
    let s = c.args.self.now in
    let many = c.multicast.ensures.count ∙ ap length c.as_mut_slice.ensures.value ∙ sym s.members.ok.0 in
    subst (λ (ms : List Member). length ms < 2 ^ 32)
    (sym (all_written s.members.len c.multicast.new.members s.members.items many (sym s.members.ok.0)))
    (subst (λ (n : ℕ). n < 2 ^ 32) (sym (many ∙ s.members.ok.0)) s.few)
