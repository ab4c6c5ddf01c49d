use Rattle.std.proofs.Common.{◌<◌, arith}
use Rattle.abc_io.proofs.SoFar.{WrittenSoFar-more, some-rest}
use Rattle.abc_io.proofs.whole.write_whole.Goals as goal

pub loop-written-preserved : goal.loop-written-preserved
loop-written-preserved g c =
    let some : 0 < c.in-Ok.n = c.in-Ok.ensures.takes_some (some-rest _ c.args.bytes.now c.loop-written-test.true) in (
      WrittenSoFar-more _ _ _ _ _ _ _ _ _ c.loop-written.invariant.0 c.in-Ok.ensures.sound c.in-Ok.ensures.within c.in-Ok.ensures.appended,
      λ none. absurd (omega arith),
    )
