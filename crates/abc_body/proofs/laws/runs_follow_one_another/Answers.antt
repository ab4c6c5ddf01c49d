use Rattle.abc_body.proofs.Resting.{Runs-append}
use Rattle.abc_body.proofs.laws.runs_follow_one_another.Goals as goal

pub returns : goal.returns
returns g c = λ S T U cs ds first second. Runs-append _ S T U cs ds first second
