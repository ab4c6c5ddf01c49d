-- The soundness of a component, said of the definitions alone under which it runs.
use Rattle.std.specs.Prelude.{◌≡◌, List}
use Rattle.abc_term.specs.declared.terms.Definition.{Definition}
use Rattle.abc_term.specs.declared.terms.Program.{Program}
use Rattle.abc_term.specs.Processes as term
use Rattle.abc_sound.specs.Sound.{IsSound}

-- It is a sound component of a checked program with these definitions.
abbrev pub IsSoundUnder : List Definition → term.Component → Type 0
IsSoundUnder ds C = (p : Program) × (p.definitions ≡ ds) × IsSound p C
