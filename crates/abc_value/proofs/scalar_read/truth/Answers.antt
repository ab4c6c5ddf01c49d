use Rattle.std.proofs.Common.{true, false}
use Rattle.abc_value.proofs.Words.{truth_front, no_truth}
use Rattle.abc_value.proofs.scalar_read.truth.Goals as goal

pub returns-then-begins_with : goal.returns-then-begins_with
returns-then-begins_with c = truth_front _ true c.requires c.if-begins_with.ensures

pub returns-then-begins_with-2 : goal.returns-then-begins_with-2
returns-then-begins_with-2 c = truth_front _ false c.requires c.if-begins_with-2.ensures

pub returns : goal.returns
returns c = no_truth _ c.requires c.if-begins_with.ensures c.if-begins_with-2.ensures
