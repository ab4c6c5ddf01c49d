use Rattle.std.proofs.Common.{◌∷◌, ◌∙◌}
use Rattle.std.proofs.lemmas.Bool.{or_right}
use Rattle.abc_value.specs.Sets.{has}
use Rattle.abc_value.proofs.Members.{has_append, has_here}
use Rattle.abc_value.proofs.laws.members_stand.Goals as goal

pub returns : goal.returns
returns c = λ before after x. has_append before (x ∷ after) x ∙ or_right (has before x) (has (x ∷ after) x) (has_here x after)
