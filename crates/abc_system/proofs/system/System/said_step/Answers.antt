use Rattle.std.proofs.Common.{◌∙◌, ◌<◌, ◌^◌, ℕ, List, length, map, ap, sym, subst}
use Rattle.abc_term.specs.declared.terms.Definition.{Definition}
use Rattle.abc_term.specs.Standing.{definitions_of}
use Rattle.abc_system.specs.declared.member.Member.{Member}
use Rattle.abc_system.specs.Members.{now_in, RunUnder}
use Rattle.abc_system.specs.Casts.{IsNoCast, IsCastBy}
use Rattle.abc_system.proofs.Casting.{all_written}
use Rattle.abc_system.proofs.Choosing.{no_choice, at_none}
use Rattle.abc_system.proofs.system.System.said_step.Goals as goal

pub returns-in_default-clause-step : goal.returns-in_default-clause-step
returns-in_default-clause-step c =
    let s = c.args.self.now in let choice = c.args.choice.now in
    let defs = definitions_of c.as_slice-definitions.result.now in let members = c.as_slice.result.now in
    let none =
    at_none (IsNoCast defs (map now_in members) choice c.args.place) (IsCastBy defs members choice c.args.place) c.in_ok-cast.field-0
    c.in_default.is c.in_ok-cast.ensures in
    no_choice (definitions_of s.program.now.definitions) (map now_in s.members.items) choice c.args.place c.requires
    (subst (λ (ms : List Member). IsNoCast (definitions_of s.program.now.definitions) (map now_in ms) choice c.args.place)
    c.as_slice.ensures.value
    (subst (λ (ds : List Definition). IsNoCast (definitions_of ds) (map now_in members) choice c.args.place)
    c.as_slice-definitions.ensures none))

pub invariant_of-self-clause-under : goal.invariant_of-self-clause-under
invariant_of-self-clause-under c =
    let s = c.args.self.now in
    let many = c.multicast.ensures.count ∙ ap length c.as_mut_slice.ensures.value ∙ sym s.members.ok.0 in
    subst (RunUnder s.program.now.definitions) (sym (all_written s.members.len c.multicast.new.members s.members.items many (sym s.members.ok.0)))
    (subst (λ (ds : List Definition). RunUnder ds c.multicast.new.members) c.as_slice-definitions.ensures c.multicast.ensures.program)

pub invariant_of-self-clause-few : goal.invariant_of-self-clause-few
invariant_of-self-clause-few c =
    let s = c.args.self.now in
    let many = c.multicast.ensures.count ∙ ap length c.as_mut_slice.ensures.value ∙ sym s.members.ok.0 in
    subst (λ (ms : List Member). length ms < 2 ^ 32)
    (sym (all_written s.members.len c.multicast.new.members s.members.items many (sym s.members.ok.0)))
    (subst (λ (n : ℕ). n < 2 ^ 32) (sym (many ∙ s.members.ok.0)) s.few)
