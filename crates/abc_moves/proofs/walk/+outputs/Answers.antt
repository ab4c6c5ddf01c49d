use Rattle.std.proofs.Common.{◌∙◌, ◌-◌, ◌<◌, ◌^◌, ap, sym, subst, ℕ, rules}
use Rattle.abc_term.specs.Standing.{process_of}
use Rattle.abc_moves.specs.Arounds.{definitions_around}
use Rattle.abc_moves.specs.Walks.{parts_at}
use Rattle.abc_moves.proofs.Unfolded.{outs_called, parts_called}
use Rattle.abc_moves.proofs.walk.+outputs.Goals as goal

pub outputs-requires-in-Some : goal.outputs-requires-in-Some
outputs-requires-in-Some t c =
    let at = c.args.at.now in let defs = definitions_around at in let e = c.in-Some.ensures in
    let called = ap process_of c.in-Call.is in
    let falls : parts_at (c.args.depth - 1) defs (process_of c.in-Some.body.now) < parts_at c.args.depth defs (process_of c.args.p.now) =
    parts_called c.args.depth defs c.in-Call.c (process_of c.args.p.now) (process_of c.in-Some.body.now) e.0 e.1 called in
    let same = outs_called c.args.depth defs at.env.now c.in-Call.c c.args.scope.now at.unbound (process_of c.args.p.now) (process_of c.in-Some.body.now) e.0 e.1 at.binds_nothing called in
    (search (rules, falls), subst (λ (n : ℕ). n < 2 ^ 32) same c.requires)

pub returns-in-Some : goal.returns-in-Some
returns-in-Some t c =
    let at = c.args.at.now in let defs = definitions_around at in let e = c.in-Some.ensures in
    c.outputs-in-Some.ensures
    ∙ sym (outs_called c.args.depth defs at.env.now c.in-Call.c c.args.scope.now at.unbound (process_of c.args.p.now) (process_of c.in-Some.body.now) e.0 e.1 at.binds_nothing (ap process_of c.in-Call.is))
