use Rattle.abc_live_body.proofs.Beginning.{bodies_begin_sound, programs_run_as_bodies}
use Rattle.abc_live_body.proofs.laws.program_bodies_begin_sound.Goals as goal

pub returns : goal.returns
returns c = record { sound = bodies_begin_sound; runs = programs_run_as_bodies }
