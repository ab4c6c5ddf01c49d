use Rattle.abc_live_body.proofs.Bodies.{live_is_sound}
use Rattle.abc_live_body.proofs.body.AbcBodyBody.hear.Goals as goal

-- the component as it was
pub returns-in_err-hear-clause-sound : goal.returns-in_err-hear-clause-sound
returns-in_err-hear-clause-sound c = live_is_sound c.hear.new.self

-- the component that has heard
pub returns-clause-sound : goal.returns-clause-sound
returns-clause-sound c = live_is_sound c.hear.new.self
