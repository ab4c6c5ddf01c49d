use Rattle.abc_trace_lines.proofs.Numerals.{empty_no_number, zero_no_number, number_is}
use Rattle.abc_trace_lines.proofs.numbers.numeral.Goals as goal

pub returns-in-None : goal.returns-in-None
returns-in-None c = empty_no_number _ c.in-None.ensures.cases

pub returns-then-begin_with_zero : goal.returns-then-begin_with_zero
returns-then-begin_with_zero c =
    zero_no_number _ _ _ c.in-Some.ensures.cases.0 c.if-begin_with_zero.ensures.0
    c.if-begin_with_zero.ensures.1

pub returns-else-begin_with_zero : goal.returns-else-begin_with_zero
returns-else-begin_with_zero c =
    number_is _ _ _ _ c.in-Some.ensures.cases.0 c.requires c.if-begin_with_zero.ensures
    c.value_of.ensures
