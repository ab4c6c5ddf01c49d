use Rattle.std.proofs.Common.{◌≡◌, ◌^◌, arith, subst, drop}
use Rattle.abc_value.specs.Reading.{IsDecimalFront, NoDecimal}
use Rattle.abc_value.proofs.Fronts.{negative_none, negative_some, negative_zero}
use Rattle.abc_value.proofs.number.negative.Goals as goal

pub returns-then-m-gt0 : goal.returns-then-m-gt0
returns-then-m-gt0 c =
    rw (c.below_zero.ensures.scalar, c.below_zero.ensures.length)
    (negative_some _ _ _ c.requires (omega arith) (subst (λ s. IsDecimalFront s (2 ^ 63) c.in-Some.m c.in-Some.n) c.behind_first.ensures c.in-Some.ensures))

pub returns-else-m-gt0 : goal.returns-else-m-gt0
returns-else-m-gt0 c = let zero : c.in-Some.m ≡ 0 = omega arith in
    negative_zero _ c.in-Some.n c.requires (subst (λ m. IsDecimalFront (drop 1 c.args.bytes.now) (2 ^ 63) m c.in-Some.n) zero (subst (λ s. IsDecimalFront s (2 ^ 63) c.in-Some.m c.in-Some.n) c.behind_first.ensures c.in-Some.ensures))

pub returns-in-None : goal.returns-in-None
returns-in-None c = negative_none _ c.requires (subst NoDecimal c.behind_first.ensures c.in-None.ensures)
