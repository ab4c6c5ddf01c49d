use Rattle.abc_term.proofs.ExampleSteps.{greets, ends_silent, is_discarded, old_is_seen, is_closed, left_hears, right_hears, other_branch_opens, guarded_speaks, overflow_removes, none_is_not_less}
use Rattle.abc_term.proofs.ExampleValues.{old_is_read, value_is_put, is_passed_on, only_same_length, outer_stops_there, inner_is_its_own}
use Rattle.abc_term.proofs.ExamplePlaces.{left_speaks, right_speaks, left_tells_right, right_tells_left, passing_stays}
use Rattle.abc_term.proofs.ColouringSteps.{first_colour, second_colour, colouring_runs, colouring_ends}
use Rattle.abc_term.proofs.examples.worked_steps.Goals as goal

pub returns : goal.returns
returns c = record {
  greeting = greets;
  greeting_ends = ends_silent;
  hidden_attribute = is_discarded;
  label_before_update = old_is_seen;
  this_in_predicate = is_closed;
  interleaving_left = left_hears;
  interleaving_right = right_hears;
  interleaving_left_speaks = left_speaks;
  interleaving_right_speaks = right_speaks;
  reads_before_update = old_is_read;
  passed_on = value_is_put;
  passed_on_then = is_passed_on;
  other_length = only_same_length;
  bound_anew = outer_stops_there;
  bound_anew_then = inner_is_its_own;
  two_ways_left = left_tells_right;
  two_ways_right = right_tells_left;
  passing = passing_stays;
  guard_opened = other_branch_opens;
  guard_opened_then = guarded_speaks;
  overflow = overflow_removes;
  overflow_then = none_is_not_less;
  colouring = first_colour;
  colouring_then = second_colour;
  colouring_whole = colouring_runs;
  colouring_ends = colouring_ends;
}
