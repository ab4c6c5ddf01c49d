use Rattle.std.proofs.Common.{◌<◌, ◌^◌, arith}
use Rattle.abc_runner.proofs.Texts.{product_fits}
use Rattle.abc_runner.proofs.bound.is_too_much.Goals as goal

pub overflow_mul-result : goal.overflow_mul-result
overflow_mul-result c =
    let small : c.from.result < 2 ^ 32 = omega (arith, c.ranges.limit.fits, c.from.ensures) in
    let few : c.from-2.result < 2 ^ 32 = omega (arith, c.ranges.components.fits, c.from-2.ensures) in
    let product = product_fits c.from.result c.from-2.result small few in omega (arith, product)
