-- What the processes of a running program are made of.
use Rattle.std.specs.Prelude.{◌≡◌, ℕ, List, Some, slice_get}
use Rattle.abc_pred.specs.declared.names.Name.{Name}
use Rattle.abc_pred.specs.Terms.{Expr, Pred}
use Rattle.abc_term.specs.declared.terms.Definition.{Definition}
use Rattle.abc_term.specs.declared.terms.Component.{Component}
use Rattle.abc_term.specs.declared.terms.Program.{Program}
use Rattle.abc_term.specs.Processes.{Process, Output, Input, When, Choice, Par, Update}
use Rattle.abc_term.specs.Substitution.{Values, put}
use Rattle.abc_term.specs.Standing.{process_of}

-- The parts of a process: itself, what follows an action, what a guard guards, and the sides of `+` and `|`.
pub data IsPart (whole : Process) : Process → Type 0 where
  itself : IsPart whole whole
  after_output : {es : List Expr} {p : Pred} {us : List Update} {P : Process} → IsPart whole (Output es p us P) → IsPart whole P
  after_input : {p : Pred} {xs : List Name} {us : List Update} {P : Process} → IsPart whole (Input p xs us P) → IsPart whole P
  guarded : {g : Pred} {P : Process} → IsPart whole (When g P) → IsPart whole P
  left_choice : {P Q : Process} → IsPart whole (Choice P Q) → IsPart whole P
  right_choice : {P Q : Process} → IsPart whole (Choice P Q) → IsPart whole Q
  left_side : {P Q : Process} → IsPart whole (Par P Q) → IsPart whole P
  right_side : {P Q : Process} → IsPart whole (Par P Q) → IsPart whole Q

-- The parts of a program: those of its definitions' bodies and of its components' processes.
pub data IsPartOf (p : Program) (P : Process) : Type 0 where
  of_definition : (i : ℕ) (d : Definition) → slice_get p.definitions i ≡ Some d → IsPart (process_of d.body) P → IsPartOf p P
  of_component : (i : ℕ) (C : Component) → slice_get p.components i ≡ Some C → IsPart (process_of C.run) P → IsPartOf p P

-- A process is built from the program: it is a part of the program with values put for variables, or two that are built so side by side.
pub data IsBuilt (p : Program) : Process → Type 0 where
  leaf : (bs : Values) (P : Process) {R : Process} → IsPartOf p P → R ≡ put bs P → IsBuilt p R
  beside : {P Q : Process} → IsBuilt p P → IsBuilt p Q → IsBuilt p (Par P Q)
