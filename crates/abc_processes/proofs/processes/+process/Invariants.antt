use Rattle.std.proofs.Common.{◌≡◌, ◌<◌, length, ◌+◌, ◌*◌}
use Rattle.abc_term.specs.Standing.{process_of}
use Rattle.abc_readers.specs.Processes.{process}
use Rattle.abc_processes.specs.Processes.{whole_choice}
use Rattle.abc_processes.proofs.Steps.{choices, parallels}
use Rattle.abc_processes.proofs.processes.+process.Given as goal

abbrev pub decreases-bare : goal.decreases-bare
decreases-bare l = 4 * length l.parser.now.rest.lexemes.now

abbrev pub decreases-prefix : goal.decreases-prefix
decreases-prefix l = 4 * length l.parser.now.rest.lexemes.now + 1

abbrev pub decreases-choice : goal.decreases-choice
decreases-choice l = 4 * length l.parser.now.rest.lexemes.now + 2

abbrev pub decreases-boxed_process : goal.decreases-boxed_process
decreases-boxed_process l = 4 * length l.parser.now.rest.lexemes.now + 3

abbrev pub invariant-choice-loop-more : goal.invariant-choice-loop-more
invariant-choice-loop-more l = record {
  same : choices (process_of l.found.value) l.parser.rest.lexemes.now ≡ whole_choice l.fn.parser.rest.lexemes.now;
  shorter : length l.parser.rest.lexemes.now < length l.fn.parser.rest.lexemes.now;
}

abbrev pub decreases-choice-loop-more : goal.decreases-choice-loop-more
decreases-choice-loop-more l = length l.parser.rest.lexemes.now

abbrev pub invariant-boxed_process-loop-more : goal.invariant-boxed_process-loop-more
invariant-boxed_process-loop-more l = record {
  same : parallels (process_of l.found.value) l.parser.rest.lexemes.now ≡ process l.fn.parser.rest.lexemes.now;
  shorter : length l.parser.rest.lexemes.now < length l.fn.parser.rest.lexemes.now;
}

abbrev pub decreases-boxed_process-loop-more : goal.decreases-boxed_process-loop-more
decreases-boxed_process-loop-more l = length l.parser.rest.lexemes.now
