use Rattle.abc_grammar.specs.Literals.{IsLiteral}
use Rattle.abc_reading.proofs.Exact.{exact}
use Rattle.abc_readers.specs.Operands.{literal}
use Rattle.abc_readers.specs.Laws.{EndsLiteral}
use Rattle.abc_readers.proofs.OperandReads.{literal_reads}
use Rattle.abc_readers.proofs.OperandWhole.{literal_ends, literal_reach}
use Rattle.abc_readers.proofs.laws.literals_are_read.Goals as goal

pub returns : goal.returns
returns c = exact IsLiteral EndsLiteral literal literal_reads (λ ts rest a h stops. literal_ends h rest) (λ ts rest a h. literal_reach h rest)
