use Rattle.abc_term.proofs.ExampleSteps.{cannot_be_discarded, new_is_not_shown, new_is_not_seen, not_both_hear}
use Rattle.abc_term.proofs.ExamplePlaces.{nobody_passes, nobody_speaks, nothing_is_heard}
use Rattle.abc_term.proofs.examples.what_is_no_step.Goals as goal

pub returns : goal.returns
returns c = record {
  discard_of_a_match = cannot_be_discarded;
  updated_label = new_is_not_shown;
  updated_heard = new_is_not_seen;
  both_branches = not_both_hear;
  nobody_passes = nobody_passes;
  nobody_speaks = nobody_speaks;
  nothing_is_heard = nothing_is_heard;
}
