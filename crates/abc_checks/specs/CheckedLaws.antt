-- What a checked program gives to those that run it.
use Rattle.std.specs.Prelude.{◌≡◌, ◌≤◌, ℕ, IsTrue, Some, slice_get}
use Rattle.abc_pred.specs.declared.names.Name.{Name}
use Rattle.abc_pred.specs.Maps.{lists}
use Rattle.abc_term.specs.declared.terms.Definition.{Definition}
use Rattle.abc_term.specs.declared.terms.Component.{Component}
use Rattle.abc_term.specs.declared.terms.Program.{Program}
use Rattle.abc_term.specs.Standing.{process_of, definitions_of}
use Rattle.abc_term.specs.Calls.{calls}
use Rattle.abc_term.specs.Guarded.{AreGuarded, defines}
use Rattle.abc_checks.specs.Measures.{width_of, IsLeastSolution}
use Rattle.abc_checks.specs.Facts.{IsChecked}
use Rattle.abc_checks.specs.declared.limits.TheConstants.{WIDEST}

-- Each name that a definition or a component calls, behind actions or not, has a definition.
abbrev pub CallsHaveBodies : Type 0
CallsHaveBodies =
    (p : Program) → IsChecked p →
    ((i : ℕ) (d : Definition) → slice_get p.definitions i ≡ Some d →
    (c : Name) → IsTrue (lists (calls (process_of d.body)) c) → IsTrue (defines (definitions_of p.definitions) c))
    × ((i : ℕ) (C : Component) → slice_get p.components i ≡ Some C →
    (c : Name) → IsTrue (lists (calls (process_of C.run)) c) → IsTrue (defines (definitions_of p.definitions) c))

-- No definition reaches itself by unguarded calls, so unguarded calls end within as many bodies as there are definitions.
abbrev pub CheckedCallsEnd : Type 0
CheckedCallsEnd = (p : Program) → IsChecked p → AreGuarded (definitions_of p.definitions)

-- A component's process has a width of at most 64.
abbrev pub WidthsAreSmall : Type 0
WidthsAreSmall =
    (p : Program) → IsChecked p → (i : ℕ) (C : Component) → slice_get p.components i ≡ Some C →
    (of_call : Name → ℕ) → IsLeastSolution width_of (definitions_of p.definitions) of_call → width_of of_call (process_of C.run) ≤ WIDEST
