-- Each kind of step keeps the rule.
use Rattle.std.proofs.Common.{◌≡◌, ◌≢◌, ⊎_elim, ℕ, ◌+◌, ◌^◌, ◌<◌, ◌≤◌, min, List, [], ◌∷◌, ◌++◌, length}
use Rattle.std.proofs.Common.{take, drop, set, refl, sym, ap, ◌∙◌, subst, arith}
use Rattle.std.specs.Prelude.{All, Some, slice_get, sum_by, IsPermutation}
use Rattle.std.specs.List.{range_with_len}
use Rattle.std.proofs.lemmas.Bool.{cases_lt}
use Rattle.std.proofs.lemmas.List.{length-append, append-nil, nil_from_length}
use Rattle.std.proofs.lemmas.List.Concat.{length-flat_map}
use Rattle.std.proofs.lemmas.List.Elements.{All-set, All-push}
use Rattle.std.proofs.lemmas.List.FromFn.{length-range_with_len}
use Rattle.std.proofs.lemmas.List.Sorted.{IsPermutation-refl, sum_by-IsPermutation}
use Rattle.abc_number.specs.Draws.{first_numbers}
use Rattle.abc_number.proofs.FirstNumbers.{first_numbers-more}
use Rattle.abc_counter.specs.declared.views.SeatView.{SeatView}
use Rattle.abc_counter.specs.declared.views.CounterTerms.{CounterTerms}
use Rattle.abc_counter.specs.Steps.{IsOpen, with_number, closed_again, without_first, first_alone, joined, spent}
use Rattle.abc_counter.specs.Steps.Steps.{loads, draws, closes, splits, joins}
use Rattle.abc_counter.specs.Rule.{Keeps, IsViewOf, IsNothingWithoutSeat, all_seats, all_closings, first_view}
use Rattle.abc_counter.specs.Laws.{BeginsByTheRule, StepsKeepTheRule, WholeKnowsAll}
use Rattle.abc_counter.proofs.Times.{times, times-append, times-flat_map, times-cut, times-IsPermutation, IsPermutation-times}
use Rattle.abc_counter.proofs.Sums.{All-slice_get, sum_by-set, sum_by-split, sum_by-join}
use Rattle.abc_counter.proofs.Sums.{sum_by-le-sum_by, sum_by-one, sum_by-sole}

-- how many seat numbers a view has, how often it was closed, and how often it has a number
abbrev seats_in : SeatView → ℕ
seats_in v = length v.seats

abbrev closings_in : SeatView → ℕ
closings_in v = v.closings

abbrev seat_times : ℕ → SeatView → ℕ
seat_times x v = times x v.seats

abbrev drawn_times : ℕ → SeatView → ℕ
drawn_times x v = times x v.drawn

-- the numbers that may be drawn at a word
abbrev given : CounterTerms → ℕ → List ℕ
given terms n = first_numbers (min n terms.limit)

-- a list of two or more, cut behind its first
cut_lengths : (ys : List ℕ) → 1 < length ys → (length (take 1 ys) ≡ 1) × (length (drop 1 ys) + 1 ≡ length ys)
cut_lengths [] more = absurd (omega arith)
cut_lengths (y ∷ ys) more = (refl, omega arith)

module _ (terms : CounterTerms) (n : ℕ) (views : List SeatView) (kept : Keeps terms n views) where
  -- how often a seat number stands in all views
  seats_kept : (x : ℕ) → times x (range_with_len 0 terms.seats) ≡ sum_by (seat_times x) views
  seats_kept x = times-IsPermutation _ _ kept.seats x ∙ times-flat_map (λ (v : SeatView). v.seats) x views

  -- how often a number was drawn
  drawn_kept : (x : ℕ) → times x (given terms n) ≡ sum_by (drawn_times x) views
  drawn_kept x = times-IsPermutation _ _ kept.drawn x ∙ times-flat_map (λ (v : SeatView). v.drawn) x views

  -- the views have as many seat numbers as there are seats
  counted : sum_by seats_in views ≡ terms.seats
  counted =
      let a = sum_by-one (range_with_len 0 terms.seats) in
      let b = sum_by-one (all_seats views) in
      let c = sum_by-IsPermutation (λ (y : ℕ). 1) _ _ kept.seats in
      let d = length-range_with_len 0 terms.seats in
      let e = length-flat_map (λ (v : SeatView). v.seats) views in
      omega arith

  -- there are no more closings than seats
  few_closings : all_closings views ≤ terms.seats
  few_closings =
      let c = counted in
      let each : All (λ (v : SeatView). closings_in v ≤ seats_in v) views = λ k d l. (kept.each k d l).once in
      let s = sum_by-le-sum_by closings_in seats_in views each in
      omega arith

  -- the word is far from wrapping
  pub narrow_word : n + 1 < 2 ^ 64
  narrow_word = let b = kept.bound in let c = few_closings in let w = kept.narrow in omega arith

  -- where the word is below the limit, nothing is closed
  none_closed : n < terms.limit → all_closings views ≡ 0
  none_closed below = ⊎_elim
      (λ (some : 0 < all_closings views). let a = kept.above some in absurd (omega arith))
      (λ (none : all_closings views ≤ 0). omega arith)
      (cases_lt 0 (all_closings views))

  module _ (i : ℕ) (v : SeatView) (at : slice_get views i ≡ Some v) where
    -- a view at a place is one of this counter
    pub view_at : IsViewOf terms v
    view_at = All-slice_get (IsViewOf terms) views i v kept.each at

    -- the word and one view change, whose seat numbers stay
    changed : (w : SeatView) (m : ℕ) → w.seats ≡ v.seats
        → ((x : ℕ) → times x (given terms n) + drawn_times x w ≡ times x (given terms m) + drawn_times x v)
        → m + v.closings ≤ terms.limit + (all_closings views + w.closings)
        → (0 < all_closings (set views i w) → terms.limit < m)
        → IsViewOf terms w → IsNothingWithoutSeat w → Keeps terms m (set views i w)
    changed w m same drawn bound above of seatless = record {
      seats = IsPermutation-times _ _ (λ x.
          let k = seats_kept x in
          let t = sum_by-set (seat_times x) views i v w at in
          let e = ap (times x) same in
          let f = times-flat_map (λ (u : SeatView). u.seats) x (set views i w) in
          omega arith);
      seatless = All-set IsNothingWithoutSeat views i w seatless kept.seatless;
      drawn = IsPermutation-times _ _ (λ x.
          let k = drawn_kept x in
          let t = sum_by-set (drawn_times x) views i v w at in
          let d = drawn x in
          let f = times-flat_map (λ (u : SeatView). u.drawn) x (set views i w) in
          omega arith);
      bound = let t = sum_by-set closings_in views i v w at in omega arith;
      above = above;
      each = All-set (IsViewOf terms) views i w of kept.each;
      narrow = kept.narrow;
    }

    module _ (is_open : IsOpen v) where
      -- a draw below the limit
      draw_kept : n < terms.limit → Keeps terms (n + 1) (set views i (with_number v (n + 1)))
      draw_kept below =
          let w = with_number v (n + 1) in
          let none = none_closed below in
          let t = sum_by-set closings_in views i v w at in
          let of = view_at in
          let here : min n terms.limit ≡ n = omega arith in
          let next : min (n + 1) terms.limit ≡ n + 1 = omega arith in
          let drawn : (x : ℕ) → times x (given terms n) + drawn_times x w ≡ times x (given terms (n + 1)) + drawn_times x v =
          λ x.
          let a = ap (λ k. times x (first_numbers k)) here in
          let b = ap (λ k. times x (first_numbers k)) next in
          let c = ap (times x) (first_numbers-more n) in
          let d = times-append x (first_numbers n) ((n + 1) ∷ []) in
          let e = times-append x v.drawn ((n + 1) ∷ []) in
          omega arith in
          changed w (n + 1) refl drawn
          (omega arith)
          (λ some. absurd (omega arith))
          (record { limited = of.limited; once = of.once })
          (λ none. let e = ap length none in absurd (omega arith))

      -- a draw at or above the limit
      close_kept : terms.limit ≤ n → Keeps terms (n + 1) (set views i (closed_again v))
      close_kept past =
          let w = closed_again v in
          let of = view_at in
          let b = kept.bound in
          let here : min n terms.limit ≡ terms.limit = omega arith in
          let next : min (n + 1) terms.limit ≡ terms.limit = omega arith in
          let drawn : (x : ℕ) → times x (given terms n) + drawn_times x w ≡ times x (given terms (n + 1)) + drawn_times x v =
          λ x.
          let a = ap (λ k. times x (first_numbers k)) here in
          let b = ap (λ k. times x (first_numbers k)) next in
          omega arith in
          changed w (n + 1) refl drawn
          (omega arith)
          (λ some. omega arith)
          (record { limited = of.limited; once = omega arith })
          (λ none. let e = ap length none in absurd (omega arith))

      -- a split
      split_kept : 1 < length v.seats → Keeps terms n (set views i (without_first v) ++ first_alone v ∷ [])
      split_kept more =
          let w = without_first v in
          let u = first_alone v in
          let of = view_at in
          let lens = cut_lengths v.seats more in
          let limited = of.limited (omega arith) in
          let later = set views i w ++ u ∷ [] in
          record {
            seats = IsPermutation-times _ _ (λ x.
                let k = seats_kept x in
                let t = sum_by-split (seat_times x) views i v w u at in
                let c = times-cut x v.seats in
                let f = times-flat_map (λ (y : SeatView). y.seats) x later in
                omega arith);
            seatless = All-push IsNothingWithoutSeat (set views i w) u
                (All-set IsNothingWithoutSeat views i w (λ none. let e = ap length none in absurd (omega arith)) kept.seatless)
                (λ none. (refl, refl));
            drawn = IsPermutation-times _ _ (λ x.
                let k = drawn_kept x in
                let t = sum_by-split (drawn_times x) views i v w u at in
                let f = times-flat_map (λ (y : SeatView). y.drawn) x later in
                omega arith);
            bound = let t = sum_by-split closings_in views i v w u at in let b = kept.bound in omega arith;
            above = λ some. let t = sum_by-split closings_in views i v w u at in kept.above (omega arith);
            each = All-push (IsViewOf terms) (set views i w) u
                (All-set (IsViewOf terms) views i w (record { limited = λ _. limited; once = omega arith }) kept.each)
                (record { limited = λ _. limited; once = omega arith });
            narrow = kept.narrow;
          }

    -- a join
    join_kept : (j : ℕ) (w : SeatView) → slice_get views j ≡ Some w → i ≢ j → 0 < length v.seats
        → Keeps terms n (set (set views i (joined v w)) j spent)
    join_kept j w there apart some =
        let b = joined v w in
        let of = view_at in
        let theirs = All-slice_get (IsViewOf terms) views j w kept.each there in
        let lens = length-append v.seats w.seats in
        let later = set (set views i b) j spent in
        record {
          seats = IsPermutation-times _ _ (λ x.
              let k = seats_kept x in
              let t = sum_by-join (seat_times x) views i j v w b spent at there apart in
              let a = times-append x v.seats w.seats in
              let f = times-flat_map (λ (y : SeatView). y.seats) x later in
              omega arith);
          seatless = All-set IsNothingWithoutSeat (set views i b) j spent (λ none. (refl, refl))
              (All-set IsNothingWithoutSeat views i b (λ none. let e = ap length none in absurd (omega arith)) kept.seatless);
          drawn = IsPermutation-times _ _ (λ x.
              let k = drawn_kept x in
              let t = sum_by-join (drawn_times x) views i j v w b spent at there apart in
              let a = times-append x v.drawn w.drawn in
              let f = times-flat_map (λ (y : SeatView). y.drawn) x later in
              omega arith);
          bound = let t = sum_by-join closings_in views i j v w b spent at there apart in let k = kept.bound in omega arith;
          above = λ some. let t = sum_by-join closings_in views i j v w b spent at there apart in kept.above (omega arith);
          each = All-set (IsViewOf terms) (set views i b) j spent (record { limited = λ none. absurd (omega arith); once = omega arith })
              (All-set (IsViewOf terms) views i b
              (record { limited = λ _. of.limited some; once = let o = of.once in let p = theirs.once in omega arith }) kept.each);
          narrow = kept.narrow;
        }

    -- who has all seat numbers has all that was drawn
    whole : length v.seats ≡ terms.seats → IsPermutation (given terms n) v.drawn × (0 < v.closings → terms.limit < n)
    whole all =
        let c = counted in
        let nobody : (f : SeatView → ℕ) → ((u : SeatView) → IsNothingWithoutSeat u → u.seats ≡ [] → f u ≡ 0)
        → All (λ (u : SeatView). seats_in u ≡ 0 → f u ≡ 0) views =
        λ f none k d l e. none _ (kept.seatless k d l) (nil_from_length _ e) in
        let closings = sum_by-sole seats_in closings_in views i v at (omega arith) (nobody closings_in (λ u h z. (h z).1)) in (
          IsPermutation-times _ _ (λ x.
              drawn_kept x
              ∙ sum_by-sole seats_in (drawn_times x) views i v at (omega arith) (nobody (drawn_times x) (λ u h z. ap (times x) (h z).0))),
          (λ some. kept.above (omega arith)),
        )

-- the rule holds at the start
pub begins : BeginsByTheRule
begins terms limit seats =
    let first = first_view terms in
    let all = append-nil (range_with_len 0 terms.seats) in
    let one : (P : SeatView → Type 0) → P first → All P (first ∷ []) =
    λ P p. All-push P [] first (λ k d l. absurd (omega arith)) p in
    record {
      seats = subst (IsPermutation (range_with_len 0 terms.seats)) (sym all) (IsPermutation-refl (range_with_len 0 terms.seats));
      seatless = one IsNothingWithoutSeat (λ none. (refl, refl));
      drawn = let z : min 0 terms.limit ≡ 0 = omega arith in
          subst (λ k. IsPermutation (first_numbers k) []) (sym z) (IsPermutation-refl []);
      bound = omega arith;
      above = λ some. absurd (omega arith);
      each = one (IsViewOf terms) (record { limited = λ _. refl; once = omega arith });
      narrow = (limit, seats);
    }

-- every step keeps it
pub steps_keep : StepsKeepTheRule
steps_keep terms n m views views' kept (loads _ _) = kept
steps_keep terms n m views views' kept (draws _ _ i v at is_open below) = draw_kept terms n views kept i v at is_open below
steps_keep terms n m views views' kept (closes _ _ i v at is_open past) = close_kept terms n views kept i v at is_open past
steps_keep terms n m views views' kept (splits _ _ i v at is_open more) = split_kept terms n views kept i v at is_open more
steps_keep terms n m views views' kept (joins _ _ i j v w at there apart seated) =
    join_kept terms n views kept i v at j w there apart seated

-- the whole knows all
pub whole_knows_all : WholeKnowsAll
whole_knows_all terms n i v views kept at all = whole terms n views kept i v at all
