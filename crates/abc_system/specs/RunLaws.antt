-- Laws of the runs that are handed out.
use Rattle.std.specs.Prelude.{◌≡◌, ℕ, List, map}
use Rattle.abc_term.specs.declared.terms.Program.{Program}
use Rattle.abc_term.specs.Standing.{definitions_of, system_of}
use Rattle.abc_term.specs.Systems.{Runs}
use Rattle.abc_packet.specs.declared.choice.Choice.{Choice}
use Rattle.abc_steps.specs.Rows.{choice_of_row}
use Rattle.abc_system.specs.declared.run.Run.{Run}
use Rattle.abc_system.specs.Systems.{choice_of}
use Rattle.abc_system.specs.Runs.{rows_of, IsSolo, IsReplay, IsFirstBad}

-- The choices of a run by the rule of places are a run of the calculus.
abbrev pub SoloIsARun : Type 0
SoloIsARun =
    (p : Program) (limit pick : ℕ) (r : Run) (solo : IsSolo p limit pick r) →
    Runs (definitions_of p.definitions) (system_of p) (map choice_of_row (rows_of r)) solo.run.last

-- What they replay to is that run,
abbrev pub SoloReplays : Type 0
SoloReplays =
    (p : Program) (limit pick : ℕ) (r q : Run) (choices : List Choice) →
    IsSolo p limit pick r → map choice_of choices ≡ map choice_of_row (rows_of r) → IsReplay p choices q →
    (rows_of q ≡ rows_of r) × (q.finals ≡ r.finals) × (q.silent ≡ r.silent)

-- and they are refused nowhere.
abbrev pub SoloIsNotRefused : Type 0
SoloIsNotRefused =
    (p : Program) (limit pick : ℕ) (r : Run) (choices : List Choice) (index : ℕ) →
    IsSolo p limit pick r → map choice_of choices ≡ map choice_of_row (rows_of r) →
    ¬ IsFirstBad (definitions_of p.definitions) (system_of p) choices index
