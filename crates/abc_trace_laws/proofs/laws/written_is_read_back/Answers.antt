use Rattle.abc_trace_laws.proofs.ReadBack.{written_is_read_back as the_law}
use Rattle.abc_trace_laws.proofs.laws.written_is_read_back.Goals as goal

pub returns : goal.returns
returns c = the_law
