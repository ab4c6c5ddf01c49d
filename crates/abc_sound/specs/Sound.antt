-- The components that a checked program can have as it runs.
use Rattle.std.specs.Prelude.{not, IsTrue, []}
use Rattle.abc_term.specs.declared.terms.Program.{Program}
use Rattle.abc_term.specs.Processes as term
use Rattle.abc_term.specs.Standing.{definitions_of}
use Rattle.abc_checks.specs.Variables.{process_open}
use Rattle.abc_checks.specs.Measures.{IsTooWide}
use Rattle.abc_checks.specs.Facts.{IsChecked}
use Rattle.abc_sound.specs.Built.{IsBuilt}

-- The program is checked, the component's process is built from it, no variable in it is open, and its width is at most 64.
pub record IsSound (p : Program) (C : term.Component) : Type 0 where
  pub checked : IsChecked p
  pub built : IsBuilt p C.process
  pub closed : IsTrue (not (process_open [] C.process))
  pub narrow : ¬ IsTooWide (definitions_of p.definitions) C.process
