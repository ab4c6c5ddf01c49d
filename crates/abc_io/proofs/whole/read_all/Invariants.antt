use Rattle.std.proofs.Common.{◌-◌, length}
use Rattle.abc_io.proofs.SoFar.{ReadSoFar}
use Rattle.abc_io.proofs.whole.read_all.Given as goal

abbrev pub invariant-loop-n : goal.invariant-loop-n
invariant-loop-n g l =
    ReadSoFar (g.S.Source.fault_count l.initial.source) (g.S.Source.fault_count l.source) (g.S.Source.left l.initial.source) (g.S.Source.left l.source) l.bytes l.max

abbrev pub decreases-loop-n : goal.decreases-loop-n
decreases-loop-n g l = l.max - length l.bytes
