use Rattle.abc_value.proofs.Steps.{none_longest, none_bad}
use Rattle.abc_value.proofs.read.read_none.Goals as goal

pub returns-then-begins_with : goal.returns-then-begins_with
returns-then-begins_with c = none_longest _ c.if-begins_with.ensures

pub returns-else-begins_with : goal.returns-else-begins_with
returns-else-begins_with c = none_bad _ c.requires c.if-begins_with.ensures
