-- A worked example of the steps at a counter: limit 2 and two seats, which draw in turn.
use Rattle.std.specs.Prelude.{ℕ, List, [], ◌∷◌}
use Rattle.abc_counter.specs.declared.views.SeatView.{SeatView}
use Rattle.abc_counter.specs.Steps.{Steps, spent}

-- A view of a counter with limit 2.
abbrev pub seen : List ℕ → List ℕ → ℕ → SeatView
seen seats drawn closings = record { limit = 2; seats = seats; drawn = drawn; closings = closings }

-- The views of two seats.
abbrev pub two : SeatView → SeatView → List SeatView
two v w = v ∷ w ∷ []

-- The views at the start, and after each step but the last.
abbrev pub at_start : List SeatView
at_start = seen (0 ∷ 1 ∷ []) [] 0 ∷ []

abbrev pub when_split : List SeatView
when_split = two (seen (1 ∷ []) [] 0) (seen (0 ∷ []) [] 0)

abbrev pub with_one : List SeatView
with_one = two (seen (1 ∷ []) (1 ∷ []) 0) (seen (0 ∷ []) [] 0)

abbrev pub with_two : List SeatView
with_two = two (seen (1 ∷ []) (1 ∷ []) 0) (seen (0 ∷ []) (2 ∷ []) 0)

abbrev pub once_closed : List SeatView
once_closed = two (seen (1 ∷ []) (1 ∷ []) 1) (seen (0 ∷ []) (2 ∷ []) 0)

abbrev pub twice_closed : List SeatView
twice_closed = two (seen (1 ∷ []) (1 ∷ []) 1) (seen (0 ∷ []) (2 ∷ []) 1)

-- The first seat is split, one seat draws 1, the other draws 2, both are closed, and then joined.
pub record TwoSeatsDrawTwo : Type 0 where
  pub split : Steps 2 0 at_start 0 when_split
  pub draw_one : Steps 2 0 when_split 1 with_one
  pub draw_two : Steps 2 1 with_one 2 with_two
  pub close : Steps 2 2 with_two 3 once_closed
  pub close_again : Steps 2 3 once_closed 4 twice_closed
  pub join : Steps 2 4 twice_closed 4 (two (seen (1 ∷ 0 ∷ []) (1 ∷ 2 ∷ []) 2) spent)
