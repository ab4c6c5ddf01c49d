use Rattle.std.proofs.Common.{refl, arith}
use Rattle.abc_term.specs.Standing.{definitions_of}
use Rattle.abc_moves.specs.Labels.{label_of}
use Rattle.abc_system.proofs.Hearing.{listed_member}
use Rattle.abc_system.proofs.hearers.+can_hear.Goals as goal

pub returns-then-place-inputs : goal.returns-then-place-inputs
returns-then-place-inputs t c =
    let both = listed_member (definitions_of c.args.definitions.now) c.args.sender (label_of c.args.label.now) c.args.definitions.now
    c.args.number c.in-Some-listed.place c.inputs-inputs.result c.in-Some.member.now c.args.members.now c.in-Some.more.now
    c.args.heard.now c.in-Some-listed.rest.now refl c.requires.under c.in-Some.ensures.cases.0 c.if-number-sender.false
    c.in-Some-listed.ensures c.inputs-inputs.ensures.count in
    let rest = c.can_hear-then-place-inputs.ensures in
    (λ h. both.1 (c.if-place-inputs.true, rest.0 h), λ h. rest.1 (both.0 h).1)

pub returns-else-place-inputs : goal.returns-else-place-inputs
returns-else-place-inputs t c =
    let both = listed_member (definitions_of c.args.definitions.now) c.args.sender (label_of c.args.label.now) c.args.definitions.now
    c.args.number c.in-Some-listed.place c.inputs-inputs.result c.in-Some.member.now c.args.members.now c.in-Some.more.now
    c.args.heard.now c.in-Some-listed.rest.now refl c.requires.under c.in-Some.ensures.cases.0 c.if-number-sender.false
    c.in-Some-listed.ensures c.inputs-inputs.ensures.count in
    let above = c.if-place-inputs.false in
    (λ h. absurd (grind arith), λ h. let below = (both.0 h).0 in absurd (omega arith))
