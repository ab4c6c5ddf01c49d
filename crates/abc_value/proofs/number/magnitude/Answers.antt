use Rattle.std.proofs.Common.{arith, subst}
use Rattle.abc_value.specs.Reading.{IsDigitAt}
use Rattle.abc_value.proofs.Digits.{no_decimal, zero_front}
use Rattle.abc_value.proofs.number.magnitude.Goals as goal

pub returns-in-Some : goal.returns-in-Some
returns-in-Some c = zero_front _ _ (omega arith) (subst (λ d. IsDigitAt c.args.bytes.now 0 d) c.if-first-eq0.true c.in-Some.ensures)

pub returns-in-None : goal.returns-in-None
returns-in-None c = no_decimal _ c.in-None.ensures
