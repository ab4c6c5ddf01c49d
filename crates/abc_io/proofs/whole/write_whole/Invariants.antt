use Rattle.std.proofs.Common.{◌≡◌, ◌-◌, length}
use Rattle.abc_io.proofs.SoFar.{WrittenSoFar}
use Rattle.abc_io.proofs.whole.write_whole.Given as goal

abbrev pub invariant-loop-written : goal.invariant-loop-written
invariant-loop-written g l =
    WrittenSoFar (g.K.Sink.fault_count l.initial.sink) (g.K.Sink.fault_count l.sink) (g.K.Sink.told l.initial.sink) (g.K.Sink.told l.sink) l.bytes l.written
    × (l.written ≡ 0 → l.sink ≡ l.initial.sink)

abbrev pub decreases-loop-written : goal.decreases-loop-written
decreases-loop-written g l = length l.bytes - l.written
