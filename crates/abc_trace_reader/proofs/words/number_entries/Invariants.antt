use Rattle.std.proofs.Common.{◌≤◌, ◌+◌, length, map}
use Rattle.abc_trace_order.specs.Reading.{AreNumbered}
use Rattle.abc_trace_reader.proofs.words.number_entries.Given as goal

abbrev pub invariant-loop-word : goal.invariant-loop-word
invariant-loop-word l = record {
  numbered : AreNumbered l.initial.names (map (λ e. (e.0.now, e.1)) l.yielded) l.names l.named;
  few : length l.names ≤ length l.initial.names + length l.yielded;
}
