use Rattle.std.proofs.Common.{◌≡◌, ◌≤◌, length}
use Rattle.abc_term.specs.Standing.{updates_of}
use Rattle.abc_readers.specs.Combining.{repeated_on, repeated}
use Rattle.abc_readers.specs.Processes.{starts_update, update}
use Rattle.abc_processes.proofs.updates.updates.Given as goal

abbrev pub invariant-loop-more : goal.invariant-loop-more
invariant-loop-more l = record {
  same : repeated_on starts_update update (updates_of l.found) l.parser.rest.lexemes.now
      ≡ repeated starts_update update l.fn.parser.rest.lexemes.now;
  leaves : length l.parser.rest.lexemes.now ≤ length l.fn.parser.rest.lexemes.now;
}

abbrev pub decreases-loop-more : goal.decreases-loop-more
decreases-loop-more l = length l.parser.rest.lexemes.now
