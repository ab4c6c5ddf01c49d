use Rattle.std.proofs.Common.{sym, ◌∙◌, ap}
use Rattle.abc_term.specs.Processes.{Process}
use Rattle.abc_checks.specs.Tables.{measure_of, number_of}
use Rattle.abc_checks.proofs.Solving.{body_found, body_missing, nil_asks_one}
use Rattle.abc_checks.proofs.measures.asked_for.Goals as goal

pub returns-in-Some : goal.returns-in-Some
returns-in-Some c =
    let ds = c.args.places.now.program.now.definitions in
    c.measured.ensures
    ∙ ap (λ (P : Process). measure_of c.args.measure (number_of ds c.args.table.now) P) (sym (body_found ds c.args.at c.in-Some.definition.now (sym c.in-Some.ensures)))

pub returns-in-None : goal.returns-in-None
returns-in-None c =
    let ds = c.args.places.now.program.now.definitions in
    nil_asks_one c.args.measure (number_of ds c.args.table.now)
    ∙ ap (λ (P : Process). measure_of c.args.measure (number_of ds c.args.table.now) P) (sym (body_missing ds c.args.at (sym c.in-None.ensures)))
