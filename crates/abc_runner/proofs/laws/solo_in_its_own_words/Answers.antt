use Rattle.abc_runner.proofs.SoloTelling.{solo_tells, done_tells}
use Rattle.abc_runner.proofs.laws.solo_in_its_own_words.Goals as goal

pub returns : goal.returns
returns c = record { tells = solo_tells; done = done_tells }
