use Rattle.std.proofs.Common.{◌∙◌, ◌-◌, ◌<◌, ◌^◌, ap, sym, subst, ℕ, rules}
use Rattle.abc_term.specs.Standing.{process_of}
use Rattle.abc_moves.specs.Arounds.{definitions_around}
use Rattle.abc_moves.specs.Labels.{label_of}
use Rattle.abc_moves.specs.Walks.{parts_at}
use Rattle.abc_moves.proofs.Unfolded.{ins_called, parts_called}
use Rattle.abc_moves.proofs.walk.+inputs.Goals as goal

pub inputs-requires-in-Some : goal.inputs-requires-in-Some
inputs-requires-in-Some t c =
    let at = c.args.at.now in let defs = definitions_around at in let e = c.in-Some.ensures in
    let called = ap process_of c.in-Call.is in
    let falls : parts_at (c.args.depth - 1) defs (process_of c.in-Some.body.now) < parts_at c.args.depth defs (process_of c.args.p.now) =
    parts_called c.args.depth defs c.in-Call.c (process_of c.args.p.now) (process_of c.in-Some.body.now) e.0 e.1 called in
    let same = ins_called c.args.depth defs (label_of c.args.label.now) at.env.now at.interface.now c.in-Call.c c.args.scope.now at.unbound (process_of c.args.p.now) (process_of c.in-Some.body.now) e.0 e.1 at.binds_nothing called in
    (search (rules, falls), (c.requires.meant, subst (λ (n : ℕ). n < 2 ^ 32) same c.requires.fits))

pub returns-in-Some : goal.returns-in-Some
returns-in-Some t c =
    let at = c.args.at.now in let defs = definitions_around at in let e = c.in-Some.ensures in
    c.inputs-in-Some.ensures
    ∙ sym (ins_called c.args.depth defs (label_of c.args.label.now) at.env.now at.interface.now c.in-Call.c c.args.scope.now at.unbound (process_of c.args.p.now) (process_of c.in-Some.body.now) e.0 e.1 at.binds_nothing (ap process_of c.in-Call.is))
