use Rattle.abc_grammar.specs.Operands.{IsOperand}
use Rattle.abc_reading.proofs.Exact.{exact}
use Rattle.abc_readers.specs.Operands.{operand}
use Rattle.abc_readers.specs.Laws.{EndsOperand}
use Rattle.abc_readers.proofs.OperandReads.{operand_reads}
use Rattle.abc_readers.proofs.OperandWhole.{operand_ends, operand_reach}
use Rattle.abc_readers.proofs.laws.operands_are_read.Goals as goal

pub returns : goal.returns
returns c = exact IsOperand EndsOperand operand operand_reads (λ ts rest a h stops. operand_ends h rest stops) (λ ts rest a h. operand_reach h rest)
