-- What a component says, and the row of the step in which it does.
use Rattle.std.specs.Prelude.{◌≡◌, ℕ, ◌≤◌, ◌<◌, ◌%◌, List, Some, slice_get}
use Rattle.abc_term.specs.Processes.{Definitions, Component, System}
use Rattle.abc_term.specs.Speaking.{Speaks, outs}
use Rattle.abc_moves.specs.Labels.{label_of}
use Rattle.abc_moves.specs.Moves.{moved}
use Rattle.abc_system.specs.declared.member.Member.{Member}
use Rattle.abc_system.specs.declared.multicast.Said.{Said}
use Rattle.abc_system.specs.Members.{now_in}

-- The component of this number is there, and this is its output at the place.
abbrev pub IsSaidBy : Definitions → List Member → ℕ → ℕ → Said → Type 0
IsSaidBy defs members sender place s =
    (m : Member) × (slice_get members sender ≡ Some m) × (s.place ≡ place)
    × Speaks defs (now_in m) place (label_of s.label) (moved m.live s.made)

-- No component of this number has an output at the place.
abbrev pub CannotSay : Definitions → System → ℕ → ℕ → Type 0
CannotSay defs S sender place = (C : Component) → slice_get S sender ≡ Some C → outs defs C ≤ place

-- It is there, and this is its output at the place of the turn.
abbrev pub IsSaidAtTurn : Definitions → List Member → ℕ → ℕ → Said → Type 0
IsSaidAtTurn defs members sender turn s =
    (m : Member) × (slice_get members sender ≡ Some m) × (s.place ≡ turn % outs defs (now_in m))
    × Speaks defs (now_in m) s.place (label_of s.label) (moved m.live s.made)

-- It is there, and has an output.
abbrev pub CanSay : Definitions → System → ℕ → Type 0
CanSay defs S sender = (C : Component) × (slice_get S sender ≡ Some C) × (0 < outs defs C)
