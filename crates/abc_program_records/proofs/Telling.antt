-- The choices of a legal record are a run of the bodies, which is one of the program.
use Rattle.abc_moves.specs.declared.label.Label.{Label}
use Rattle.abc_live_body.specs.AbcMeaning.{abc}
use Rattle.abc_live_body.proofs.Beginning.{programs_run_as_bodies}
use Rattle.std.proofs.Common.{map}
use Rattle.abc_network.specs.Networks.{Rules}
use Rattle.abc_network_laws.specs.Simulation.{body_at}
use Rattle.abc_schedule.specs.Legal.{KeepsRecords}
use Rattle.abc_program_records.specs.Tells.{TellsTheProgram}

pub tells-the-program : {N : Type 0} (r : Rules Label N) → KeepsRecords abc r → TellsTheProgram r
tells-the-program r keeps = λ p bodies logs l choices started same are.
    (programs_run_as_bodies p bodies choices started).0 (map body_at l.last.agents)
    (keeps.choices bodies logs l choices same are)
