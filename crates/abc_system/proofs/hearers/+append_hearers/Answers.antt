use Rattle.std.proofs.Common.{refl, append_assoc, arith}
use Rattle.abc_term.specs.Standing.{definitions_of}
use Rattle.abc_moves.specs.Labels.{label_of}
use Rattle.abc_system.specs.Turns.{turn_of}
use Rattle.abc_system.proofs.Hearing.{hearers_with_member}
use Rattle.abc_system.proofs.hearers.+append_hearers.Goals as goal

pub returns : goal.returns
returns t c =
    let step = hearers_with_member (definitions_of c.args.definitions.now) c.args.sender (label_of c.args.label.now) c.args.definitions.now
    (turn_of c.args.turn) c.args.number c.inputs-inputs.result c.in-Some.member.now c.args.members.now c.in-Some.more.now refl
    c.requires.under c.in-Some.ensures.cases.0 c.if-number-sender.false c.inputs-inputs.ensures.count in
    grind (arith, append_assoc, step)
