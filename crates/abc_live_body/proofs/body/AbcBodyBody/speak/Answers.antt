use Rattle.abc_live_body.proofs.Bodies.{live_is_sound, some_of_live}
use Rattle.abc_live_body.proofs.body.AbcBodyBody.speak.Goals as goal

-- who can speak has an output
pub place_among-place-requires : goal.place_among-place-requires
place_among-place-requires c =
    some_of_live c.self.inside.live c.args.self.now c.self.view_is c.requires.can c.outputs.result c.outputs.ensures.count

-- the component that has spoken
pub returns-clause-sound : goal.returns-clause-sound
returns-clause-sound c = live_is_sound c.put.new.self
