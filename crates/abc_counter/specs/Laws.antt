-- Laws of the rule of a shared counter.
use Rattle.std.specs.Prelude.{◌≡◌, ℕ, ◌^◌, ◌<◌, min, List, [], ◌∷◌, length, Some, slice_get, IsPermutation}
use Rattle.abc_number.specs.Draws.{first_numbers}
use Rattle.abc_counter.specs.declared.views.SeatView.{SeatView}
use Rattle.abc_counter.specs.declared.views.CounterTerms.{CounterTerms}
use Rattle.abc_counter.specs.Steps.{Steps}
use Rattle.abc_counter.specs.Rule.{Keeps, first_view}

-- The rule holds at the start, where one seat stands for all and nothing is drawn.
abbrev pub BeginsByTheRule : Type 0
BeginsByTheRule = (terms : CounterTerms) → terms.limit < 2 ^ 32 → terms.seats < 2 ^ 32
    → Keeps terms 0 (first_view terms ∷ [])

-- Every step keeps it.
abbrev pub StepsKeepTheRule : Type 0
StepsKeepTheRule = (terms : CounterTerms) (n m : ℕ) (views views' : List SeatView)
    → Keeps terms n views → Steps terms.limit n views m views' → Keeps terms m views'

-- What a seat that stands for all seat numbers knows: all numbers that were drawn, and that where
-- it was closed the word is above the limit.
abbrev pub WholeKnowsAll : Type 0
WholeKnowsAll = (terms : CounterTerms) (n i : ℕ) (v : SeatView) (views : List SeatView)
    → Keeps terms n views → slice_get views i ≡ Some v → length v.seats ≡ terms.seats
    → IsPermutation (first_numbers (min n terms.limit)) v.drawn
    × (0 < v.closings → terms.limit < n)
