-- What contracts see of a shared counter and of its seats.
use Rattle.std.specs.Prelude.{◌≡◌, ℕ, ◌+◌, ◌<◌, List, [], ◌++◌, Bool, false, length, sum_by, IsPermutation}
use Rattle.std.specs.List.{flat_map}
use Rattle.atomic_table.specs.declared.shared.Seat.{Seat}
use Rattle.abc_counter.specs.declared.views.SeatView.{SeatView}
use Rattle.abc_counter.specs.declared.counter.CounterSeat.{CounterSeat}
use Rattle.abc_counter.specs.declared.counter.SharedCounter.{SharedCounter}

-- The greatest number that may be drawn.
abbrev pub limit_of : SharedCounter → ℕ
limit_of c = c.limit

-- How many seats the counter was made with.
abbrev pub seats_of : SharedCounter → ℕ
seats_of c = c.table.shared.key.seats

-- The numbers that a seat drew, in order.
abbrev pub drawn_by : CounterSeat → List ℕ
drawn_by s = s.seat.me.0.drawn

-- Whether a draw of the seat was answered by Closed.
abbrev pub is_closed : CounterSeat → Bool
is_closed s = s.closed

-- The seat is one of this counter.
pub record IsSeatOf (c : SharedCounter) (s : CounterSeat) : Type 0 where
  pub table : s.seat.table_id ≡ c.table.shared.table_id
  pub limit : s.seat.me.0.limit ≡ c.limit

-- A seat of this counter that has drawn nothing.
pub record IsFreshSeatOf (c : SharedCounter) (s : CounterSeat) : Type 0 where
  pub of : IsSeatOf c s
  pub drawn : drawn_by s ≡ []
  pub not_closed : is_closed s ≡ false

-- The numbers that all these seats drew.
abbrev pub drawn_by_all : List CounterSeat → List ℕ
drawn_by_all seats = flat_map drawn_by seats

-- How often all these seats were closed.
abbrev pub closings_of_all : List CounterSeat → ℕ
closings_of_all seats = sum_by (λ s. s.seat.me.0.closings) seats

-- The first seat, while so many seat numbers are left with it and nothing is drawn.
pub record IsUndealt (c : SharedCounter) (s : Seat ℕ SeatView) (left : ℕ) : Type 0 where
  pub table : s.table_id ≡ c.table.shared.table_id
  pub seats : length s.me.0.seats ≡ left
  pub limit : s.me.0.limit ≡ c.limit
  pub drawn : s.me.0.drawn ≡ []
  pub closings : s.me.0.closings ≡ 0
  pub slots : s.me.1 ≡ []

-- A seat that took in all of these but the rest.
pub record HasTaken (c : SharedCounter) (whole : Seat ℕ SeatView) (rest all : List CounterSeat)
    : Type 0 where
  pub table : whole.table_id ≡ c.table.shared.table_id
  pub slots : whole.me.1 ≡ []
  pub some : 0 < length whole.me.0.seats
  pub counted : length whole.me.0.seats + length rest ≡ length all
  pub drawn : IsPermutation (drawn_by_all all) (whole.me.0.drawn ++ drawn_by_all rest)
  pub closings : whole.me.0.closings + closings_of_all rest ≡ closings_of_all all
