use Rattle.abc_packet.proofs.Sendings.{Sends-append}
use Rattle.abc_packet.proofs.laws.sendings_append.Goals as goal

pub returns-clause-many : goal.returns-clause-many
returns-clause-many g c = λ before mid after sends more first second. Sends-append before mid after sends more first second
