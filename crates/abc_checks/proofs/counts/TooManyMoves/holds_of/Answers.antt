use Rattle.abc_term.specs.Standing.{process_of, definitions_of}
use Rattle.abc_checks.specs.Tables.{number_of}
use Rattle.abc_checks.proofs.Answering.{broad_answer}
use Rattle.abc_checks.proofs.counts.TooManyMoves.holds_of.Goals as goal

pub returns : goal.returns
returns c =
    let ds = c.args.self.now.places.now.program.now.definitions in
    broad_answer (definitions_of ds) (number_of ds c.args.self.now.breadths.now) (process_of c.args.process.now) c.parts_of-broad.result.1 c.args.self.now.least c.parts_of-broad.ensures.broad
