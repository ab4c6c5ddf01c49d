use Rattle.std.proofs.Common.{◌∙◌}
use Rattle.abc_value.proofs.Follow.{none_by_length}
use Rattle.abc_value.proofs.set.is_none.Goals as goal

pub returns : goal.returns
returns c = c.is_empty.ensures ∙ none_by_length c.args.members.now
