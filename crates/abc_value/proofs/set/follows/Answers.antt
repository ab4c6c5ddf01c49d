use Rattle.abc_value.proofs.Follow.{follow_answer}
use Rattle.abc_value.proofs.set.follows.Goals as goal

pub returns : goal.returns
returns c = follow_answer c.args.members.now c.args.x.now _ _ c.requires c.last.ensures.value c.may_follow.ensures
