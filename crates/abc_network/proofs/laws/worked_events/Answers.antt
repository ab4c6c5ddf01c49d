use Rattle.abc_network.proofs.WorkedRuns.{worked-run, in-order, limited, sent-before}
use Rattle.abc_network.proofs.laws.worked_events.Goals as goal

pub returns : goal.returns
returns c = record {
  run = worked-run;
  in_order = in-order;
  limited = limited;
  sent_before = sent-before;
}
