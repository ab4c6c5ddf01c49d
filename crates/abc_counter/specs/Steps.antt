-- The kinds of atomic step at a shared counter, and what each does to the word and to the views.
use Rattle.std.specs.Prelude.{◌≡◌, ◌≢◌, ℕ, ◌+◌, ◌<◌, ◌≤◌, List, [], ◌∷◌, ◌++◌, length, take, drop}
use Rattle.std.specs.Prelude.{Some, slice_get, slice_set}
use Rattle.abc_counter.specs.declared.views.SeatView.{SeatView}

-- An open seat stands for a seat number, and wasn't closed.
abbrev pub IsOpen : SeatView → Type 0
IsOpen v = (0 < length v.seats) × (v.closings ≡ 0)

-- A view that gained a number.
abbrev pub with_number : SeatView → ℕ → SeatView
with_number v n = record v { drawn = v.drawn ++ n ∷ [] }

-- A view that was closed once more.
abbrev pub closed_again : SeatView → SeatView
closed_again v = record v { closings = v.closings + 1 }

-- The old seat after a split: it gave its first seat number up, and keeps its draws.
abbrev pub without_first : SeatView → SeatView
without_first v = record v { seats = drop 1 v.seats }

-- The new seat: it has that seat number, drew nothing, and is open.
abbrev pub first_alone : SeatView → SeatView
first_alone v = record { limit = v.limit; seats = take 1 v.seats; drawn = []; closings = 0 }

-- The seat that was kept at a join has what both had.
abbrev pub joined : SeatView → SeatView → SeatView
joined v w = record {
  limit = v.limit;
  seats = v.seats ++ w.seats;
  drawn = v.drawn ++ w.drawn;
  closings = v.closings + w.closings;
}

-- The other one is left with nothing.
abbrev pub spent : SeatView
spent = record { limit = 0; seats = []; drawn = []; closings = 0 }

-- One step of a counter with this limit: from its word and all views, to its word and all views.
pub data Steps (limit : ℕ) : ℕ → List SeatView → ℕ → List SeatView → Type 0 where
  -- A load of the word: the seat's view stays.
  loads : (n : ℕ) (views : List SeatView) → Steps limit n views n views
  -- One is added to a word below the limit, by an open seat: its view gains the number.
  draws : (n : ℕ) (views : List SeatView) (i : ℕ) (v : SeatView)
      → slice_get views i ≡ Some v → IsOpen v → n < limit
      → Steps limit n views (n + 1) (slice_set views i (with_number v (n + 1)))
  -- One is added to a word at or above the limit, by an open seat: its view is closed.
  closes : (n : ℕ) (views : List SeatView) (i : ℕ) (v : SeatView)
      → slice_get views i ≡ Some v → IsOpen v → limit ≤ n
      → Steps limit n views (n + 1) (slice_set views i (closed_again v))
  -- A split of an open seat with two seat numbers or more.
  splits : (n : ℕ) (views : List SeatView) (i : ℕ) (v : SeatView)
      → slice_get views i ≡ Some v → IsOpen v → 1 < length v.seats
      → Steps limit n views n (slice_set views i (without_first v) ++ first_alone v ∷ [])
  -- A join of two seats, of which the first stands for a seat number.
  joins : (n : ℕ) (views : List SeatView) (i j : ℕ) (v w : SeatView)
      → slice_get views i ≡ Some v → slice_get views j ≡ Some w → i ≢ j → 0 < length v.seats
      → Steps limit n views n (slice_set (slice_set views i (joined v w)) j spent)
