use Rattle.abc_record_ends.proofs.BothRuns.{ends-both-ways}
use Rattle.abc_record_ends.proofs.laws.records_end_both_ways.Goals as goal

pub returns : goal.returns
returns c = ends-both-ways
