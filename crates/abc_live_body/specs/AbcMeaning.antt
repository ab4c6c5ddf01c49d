-- What a component does as a body, by the calculus's rules.
use Rattle.std.specs.Prelude.{◌≡◌, ℕ, ◌%◌, ◌==◌, Option, Some, None, if◌then◌else◌}
use Rattle.abc_term.specs.declared.terms.Program.{Program}
use Rattle.abc_term.specs.Standing.{definitions_of}
use Rattle.abc_term.specs.Speaking.{Speaks, outs}
use Rattle.abc_term.specs.Hearing.{Hears, ins}
use Rattle.abc_sound.specs.Sound.{IsSound}
use Rattle.abc_moves.specs.declared.label.Label.{Label}
use Rattle.abc_moves.specs.Labels.{label_of}
use Rattle.abc_body.specs.Meanings.{Meaning}
use Rattle.abc_live_body.specs.Running.{RunningComponent}

-- It is a sound component of a checked program with these definitions.
abbrev pub IsSoundBody : RunningComponent → Type 0
IsSoundBody b = ∥ ((p : Program) × (definitions_of p.definitions ≡ b.definitions) × IsSound p b.component) ∥₁

-- It speaks by the calculus's rules, and hears by them. Its definitions stay.
abbrev pub AbcSpeaks : RunningComponent → ℕ → Label → RunningComponent → Type 0
AbcSpeaks b place l b' =
    Speaks b.definitions b.component place (label_of l) b'.component × (b'.definitions ≡ b.definitions)

abbrev pub AbcHears : RunningComponent → Label → Option ℕ → RunningComponent → Type 0
AbcHears b l place b' =
    Hears b.definitions b.component (label_of l) place b'.component × (b'.definitions ≡ b.definitions)

-- How many moves there are to pick from: the outputs, or the inputs that take the label.
abbrev pub moves_of : RunningComponent → Option Label → ℕ
moves_of b None = outs b.definitions b.component
moves_of b (Some l) = ins b.definitions b.component (label_of l)

-- The turn picks the place `turn mod` their number, and none where there are none.
abbrev pub picked : ℕ → ℕ → Option ℕ
picked turn count = if count == 0 then None else Some (turn % count)

abbrev pub abc : Meaning RunningComponent Label
abc = record {
  sound = IsSoundBody;
  speaks = AbcSpeaks;
  hears = AbcHears;
  placed = λ b label turn place. place ≡ picked turn (moves_of b label);
}
