-- What the loop over the operands of a set does, by the next token.
use Rattle.std.proofs.Common.{◌≡◌, List}
use Rattle.abc_pred.specs.Terms.{Operand}
use Rattle.abc_cause.specs.declared.Cause.TheVariants.{Syntax}
use Rattle.abc_grammar.specs.Operands.{IsOperand}
use Rattle.abc_reading.specs.Reading.{mapped, join, joined}
use Rattle.abc_reading.proofs.Chain.{Leaves, reads_leaves, joined-step}
use Rattle.abc_readers.specs.Operands.{Tokens, alone, commas}
use Rattle.abc_readers.specs.Exprs.{whole_operand}
use Rattle.abc_readers.proofs.OperandReads.{Alone, alone_reads}
use Rattle.abc_readers.proofs.ExprReads.{whole_operand_reads, expr-eq}

item_leaves : Leaves (λ us. mapped alone (whole_operand us))
item_leaves = reads_leaves (Alone IsOperand whole_operand whole_operand_reads) (λ us. mapped alone (whole_operand us)) (alone_reads IsOperand whole_operand whole_operand_reads)

pub items-step : (a : List Operand) (ts : Tokens) → joined Syntax (λ us. mapped alone (whole_operand us)) commas a ts
    ≡ join (λ us. mapped alone (whole_operand us)) commas (joined Syntax (λ us. mapped alone (whole_operand us)) commas) a ts
items-step = joined-step Syntax (λ us. mapped alone (whole_operand us)) commas item_leaves

pub ruleset item_steps = (items-step)

pub ruleset expr_steps = (expr-eq)
