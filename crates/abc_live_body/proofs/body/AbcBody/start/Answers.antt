use Rattle.abc_live_body.proofs.Bodies.{live_is_sound}
use Rattle.abc_live_body.proofs.body.AbcBody.start.Goals as goal

-- the component as it begins
pub returns-clause-sound : goal.returns-clause-sound
returns-clause-sound c = live_is_sound c.in_ok-live.live
