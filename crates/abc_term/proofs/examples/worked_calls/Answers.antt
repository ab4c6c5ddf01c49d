use Rattle.abc_term.proofs.ExampleCalls.{names_called, names_called_at_once, reached_by_calls, not_reached_at_once, k_ends, m_never_ends}
use Rattle.abc_term.proofs.examples.worked_calls.Goals as goal

pub returns : goal.returns
returns c = record {
  all = names_called;
  unguarded = names_called_at_once;
  reached = reached_by_calls;
  not_reached = not_reached_at_once;
  ends = k_ends;
  never_ends = m_never_ends;
}
