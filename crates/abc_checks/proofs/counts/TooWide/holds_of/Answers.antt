use Rattle.abc_term.specs.Standing.{process_of, definitions_of}
use Rattle.abc_checks.specs.Tables.{number_of}
use Rattle.abc_checks.proofs.Answering.{wide_answer}
use Rattle.abc_checks.proofs.counts.TooWide.holds_of.Goals as goal

pub returns : goal.returns
returns c =
    let ds = c.args.self.now.places.now.program.now.definitions in
    wide_answer (definitions_of ds) (number_of ds c.args.self.now.widths.now) (process_of c.args.process.now) c.width.result c.args.self.now.least c.width.ensures
