use Rattle.std.proofs.Common.{◌<◌, ◌≤◌, ◌++◌, length, take, refl, arith}
use Rattle.std.proofs.KnownBytes.{Consumes-trans}
use Rattle.abc_io.proofs.SoFar.{length-read}
use Rattle.abc_io.proofs.whole.read_all.Goals as goal

pub returns-then-n-max-clause-too_long : goal.returns-then-n-max-clause-too_long
returns-then-n-max-clause-too_long g c =
    let read = c.loop-n.bytes ++ take c.in-Ok.n c.read.new.into in
    let size = length-read c.loop-n.bytes c.read.new.into c.in-Ok.n c.in-Ok.ensures.within in
    let past : c.args.max < length read = omega (arith, size) in
    (read, Consumes-trans _ _ _ _ _ c.loop-n.invariant.consumed c.in-Ok.ensures.moved, ((λ _. past), (λ _. refl)))

pub returns-in-Err-append-clause-too_long : goal.returns-in-Err-append-clause-too_long
returns-in-Err-append-clause-too_long g c =
    let read = c.loop-n.bytes ++ take c.in-Ok.n c.read.new.into in
    let size = length-read c.loop-n.bytes c.read.new.into c.in-Ok.n c.in-Ok.ensures.within in
    let within : length read ≤ c.args.max = omega (arith, size, c.loop-n.invariant.within) in
    (read, Consumes-trans _ _ _ _ _ c.loop-n.invariant.consumed c.in-Ok.ensures.moved, ((λ e. cc), (λ h. absurd (omega arith))))
