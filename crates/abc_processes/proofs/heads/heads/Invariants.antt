use Rattle.std.proofs.Common.{◌≡◌, ◌≤◌, length, map}
use Rattle.abc_reading.specs.Reading.{mapped}
use Rattle.abc_readers.specs.Processes.{prefix}
use Rattle.abc_processes.specs.Processes.{head_of, under_all}
use Rattle.abc_processes.proofs.heads.heads.Given as goal

abbrev pub invariant-heads : goal.invariant-heads
invariant-heads l = record {
  same : mapped (under_all (map head_of l.found)) (prefix l.parser.rest.lexemes.now) ≡ prefix l.fn.parser.rest.lexemes.now;
  leaves : length l.parser.rest.lexemes.now ≤ length l.fn.parser.rest.lexemes.now;
}

abbrev pub decreases-heads : goal.decreases-heads
decreases-heads l = length l.parser.rest.lexemes.now
