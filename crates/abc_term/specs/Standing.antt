-- The plain terms that a program's values stand for: boxes and allocators are gone.
use Rattle.std.specs.Prelude.{List, [], ◌∷◌, map}
use Rattle.abc_value.specs.declared.value.Value.{Value}
use Rattle.abc_pred.specs.declared.names.Name.{Name}
use Rattle.abc_pred.specs.declared.syntax.Expr.{Expr}
use Rattle.abc_pred.specs.Terms.{Expr as TermExpr}
use Rattle.abc_pred.specs.Maps.{Entries, set_to}
use Rattle.abc_pred.specs.Standing.{expr_of, pred_of}
use Rattle.abc_term.specs.declared.terms.Update.{Update}
use Rattle.abc_term.specs.declared.terms.Process.{Process}
use Rattle.abc_term.specs.declared.terms.Process as held
use Rattle.abc_term.specs.declared.terms.Definition.{Definition}
use Rattle.abc_term.specs.declared.terms.Component.{Component}
use Rattle.abc_term.specs.declared.terms.Program.{Program}
use Rattle.abc_term.specs.Processes as term

abbrev pub exprs_of : List Expr → List TermExpr
exprs_of es = map expr_of es

abbrev pub updates_of : List Update → List term.Update
updates_of us = map (λ u. (u.name, expr_of u.value)) us

abbrev pub process_of : Process → term.Process
process_of held.Nil = term.Nil
process_of (held.Output' es p us b P) = term.Output (exprs_of es) (pred_of p) (updates_of us) (process_of P)
process_of (held.Input' p xs us b P) = term.Input (pred_of p) xs (updates_of us) (process_of P)
process_of (held.When' g b P) = term.When (pred_of g) (process_of P)
process_of (held.Choice' b P c Q) = term.Choice (process_of P) (process_of Q)
process_of (held.Par' b P c Q) = term.Par (process_of P) (process_of Q)
process_of (held.Call c) = term.Call c

abbrev pub definitions_of : List Definition → term.Definitions
definitions_of ds = map (λ d. (d.name, process_of d.body)) ds

-- The environment of a component's first values, set one after another. A value none sets nothing.
abbrev pub set_all : List (Name × Value) → Entries → Entries
set_all [] env = env
set_all (a ∷ more) env = set_all more (set_to a.1 a.0 env)

abbrev pub component_of : Component → term.Component
component_of C = record { env = set_all C.initial []; interface = C.show; process = process_of C.run }

-- The first system of a program.
abbrev pub system_of : Program → term.System
system_of p = map component_of p.components
