-- The rule of a shared counter, which holds between any two steps.
use Rattle.std.specs.Prelude.{◌≡◌, ℕ, ◌+◌, ◌^◌, ◌<◌, ◌≤◌, min, List, [], length, nat_lt, if◌then◌else◌}
use Rattle.std.specs.Prelude.{All, IsPermutation, sum_by, slice_index}
use Rattle.std.specs.List.{range_with_len, flat_map}
use Rattle.atomic_table.specs.Table.{State, Step, Me}
use Rattle.abc_number.specs.Draws.{first_numbers}
use Rattle.abc_counter.specs.declared.views.SeatView.{SeatView}
use Rattle.abc_counter.specs.declared.views.CounterTerms.{CounterTerms}
use Rattle.abc_counter.specs.Steps.{with_number, closed_again}

-- The seat numbers of all views, the numbers that all drew, and how often all were closed.
abbrev pub all_seats : List SeatView → List ℕ
all_seats views = flat_map (λ v. v.seats) views

abbrev pub all_drawn : List SeatView → List ℕ
all_drawn views = flat_map (λ v. v.drawn) views

abbrev pub all_closings : List SeatView → ℕ
all_closings views = sum_by (λ v. v.closings) views

-- What holds of each view beside the rule: it has the limit, and was closed at most once a seat.
pub record IsViewOf (terms : CounterTerms) (v : SeatView) : Type 0 where
  pub limited : 0 < length v.seats → v.limit ≡ terms.limit
  pub once : v.closings ≤ length v.seats

-- A view without a seat number has no draw and no closing.
abbrev pub IsNothingWithoutSeat : SeatView → Type 0
IsNothingWithoutSeat v = v.seats ≡ [] → (v.drawn ≡ []) × (v.closings ≡ 0)

-- The rule, of a counter's terms, its word and all views.
pub record Keeps (terms : CounterTerms) (word : ℕ) (views : List SeatView) : Type 0 where
  -- The seat numbers of all views are those below the number of seats, each once.
  pub seats : IsPermutation (range_with_len 0 terms.seats) (all_seats views)
  -- A view without a seat number has no draw and no closing.
  pub seatless : All IsNothingWithoutSeat views
  -- The drawn numbers of all views are 1 to the lesser of word and limit, each once.
  pub drawn : IsPermutation (first_numbers (min word terms.limit)) (all_drawn views)
  -- The word is at most the limit and the closings.
  pub bound : word ≤ terms.limit + all_closings views
  -- A closing stands only where the word is above the limit.
  pub above : 0 < all_closings views → terms.limit < word
  -- Beside these, what holds of each view, and that the word is far from wrapping.
  pub each : All (IsViewOf terms) views
  pub narrow : (terms.limit < 2 ^ 32) × (terms.seats < 2 ^ 32)

-- At the start one seat stands for all seat numbers.
abbrev pub first_view : CounterTerms → SeatView
first_view terms = record {
  limit = terms.limit;
  seats = range_with_len 0 terms.seats;
  drawn = [];
  closings = 0;
}

-- A table with one word keeps the rule.
pub record KeepsTable {S : Type 0} (terms : CounterTerms) (s : State S SeatView) : Type 0 where
  pub one_word : length s.words ≡ 1
  pub rule : Keeps terms (slice_index s.words 0) s.views

-- What a draw that found the word at n leaves of its seat's view.
abbrev pub after_draw : SeatView → ℕ → SeatView
after_draw v n = if nat_lt n v.limit then with_number v (n + 1) else closed_again v

-- What a draw tells: the seat's view after it.
abbrev pub DrawTells : {S : Type 0} → Step S → Me S SeatView → ℕ → Me S SeatView → Type 0
DrawTells step me n me' = me' ≡ (after_draw me.0 n, me.1)
