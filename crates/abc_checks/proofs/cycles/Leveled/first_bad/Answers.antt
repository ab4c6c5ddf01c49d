use Rattle.std.proofs.Common.{length, arith}
use Rattle.abc_checks.specs.Graphs.{CyclesAt}
use Rattle.abc_checks.proofs.Cycling.{found_first, found_none}
use Rattle.abc_checks.proofs.cycles.Leveled.first_bad.Goals as goal

pub returns-then-bad : goal.returns-then-bad
returns-then-bad c =
    let p = c.args.self.now.places.now.program.now in
    found_first (CyclesAt c.args.self.now.counted p.definitions) (length p.definitions) (length p.components) c.loop-at.at (omega arith)
    (c.in_ok-bad.ensures.0 c.if-bad.true) c.loop-at.invariant

pub returns : goal.returns
returns c =
    let p = c.args.self.now.places.now.program.now in
    found_none (CyclesAt c.args.self.now.counted p.definitions) (length p.definitions) (length p.components)
    (λ k lt. c.loop-at.invariant k (omega arith))
