-- The turns of the rule of places.
use Rattle.std.specs.Prelude.{ℕ, ◌+◌, ◌%◌, ◌==◌, List, [], ◌∷◌, if◌then◌else◌}
use Rattle.abc_system.specs.declared.turn.Turn.{Turn}

abbrev pub turn_of : Turn → ℕ
turn_of t = t.pick + t.made

-- How a component is listed as a hearer at a turn, where so many of its inputs take the message.
abbrev pub heard_here : ℕ → ℕ → ℕ → List (ℕ × ℕ)
heard_here turn number inputs = if inputs == 0 then [] else (number, turn % inputs) ∷ []
