use Rattle.abc_counter.proofs.Kept.{begins, steps_keep}
use Rattle.abc_counter.proofs.laws.counters_keep_their_rule.Goals as goal

pub returns : goal.returns
returns c = record { begin = begins; kept = steps_keep }
