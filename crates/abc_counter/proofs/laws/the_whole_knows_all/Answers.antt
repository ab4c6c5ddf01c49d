use Rattle.abc_counter.proofs.Kept.{whole_knows_all}
use Rattle.abc_counter.proofs.laws.the_whole_knows_all.Goals as goal

pub returns : goal.returns
returns c = whole_knows_all
