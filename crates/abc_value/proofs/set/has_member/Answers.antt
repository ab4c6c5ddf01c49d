use Rattle.std.proofs.Common.{◌∙◌}
use Rattle.abc_value.proofs.Made.{searched_members}
use Rattle.abc_value.proofs.set.has_member.Goals as goal

pub returns : goal.returns
returns c = c.is_ok.ensures.value ∙ searched_members _ _ _ c.requires c.binary_search.ensures.bound c.binary_search.ensures.position
