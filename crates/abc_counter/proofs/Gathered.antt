-- Seats that are taken back, and what is known when one seat has taken all in.
use Rattle.std.proofs.Common.{◌≡◌, ℕ, ◌+◌, ◌<◌, min, List, [], ◌∷◌, ◌++◌, length, true, refl, sym, ap, ◌∙◌, subst, arith}
use Rattle.std.specs.Prelude.{Any, IsPermutation, slice_index}
use Rattle.std.proofs.lemmas.Bool.{ltb-true}
use Rattle.std.proofs.lemmas.List.{length-append, append-nil}
use Rattle.std.proofs.lemmas.List.Sums.{sum_by_push}
use Rattle.std.proofs.lemmas.List.Sorted.{IsPermutation-sym, IsPermutation-trans}
use Rattle.std.proofs.lemmas.Option.{slice_get_read}
use mathlib.Core.Option.{some, some-injective, some-ne-none}
use lib.ListN.{get_elem?}
use Rattle.atomic_table.specs.Table.{Me, Final, Seen}
use Rattle.atomic_table.specs.declared.shared.Seat.{Seat}
use Rattle.abc_number.specs.Draws.{first_numbers}
use Rattle.abc_counter.specs.declared.views.SeatView.{SeatView}
use Rattle.abc_counter.specs.declared.counter.CounterSeat.{CounterSeat}
use Rattle.abc_counter.specs.declared.counter.SharedCounter.{SharedCounter}
use Rattle.abc_counter.specs.Steps.{joined}
use Rattle.abc_counter.specs.Rule.{KeepsTable}
use Rattle.abc_counter.specs.Counters.{limit_of, seats_of, drawn_by, is_closed, drawn_by_all, closings_of_all, IsSeatOf, HasTaken}
use Rattle.abc_counter.proofs.Times.{times, times-append, times-flat_map, IsPermutation-times, times-IsPermutation}
use Rattle.abc_counter.proofs.Sums.{slice_get-get_elem, le-sum_by}
use Rattle.abc_counter.proofs.Kept.{whole_knows_all}

-- how often a seat was closed
abbrev closings_of : CounterSeat → ℕ
closings_of s = s.seat.me.0.closings

-- how often a number was drawn by these seats, with one seat more
times-drawn_by_all : (x : ℕ) (rest : List CounterSeat) (s : CounterSeat)
    → times x (drawn_by_all (rest ++ s ∷ [])) ≡ times x (drawn_by_all rest) + times x (drawn_by s)
times-drawn_by_all x rest s =
    let a = times-flat_map drawn_by x (rest ++ s ∷ []) in
    let b = times-flat_map drawn_by x rest in
    let c = sum_by_push (λ (y : CounterSeat). times x (drawn_by y)) rest s in
    omega arith

-- the last seat is the first that is taken
pub starts : (c : SharedCounter) (s : CounterSeat) (rest all : List CounterSeat) → all ≡ rest ++ s ∷ [] → IsSeatOf c s
    → HasTaken c s.seat rest all
starts c s rest all is of = record {
  table = of.table;
  slots = s.bare;
  some = let p = s.one_seat in omega arith;
  counted = let p = s.one_seat in let e = ap length is in let l = length-append rest (s ∷ []) in omega arith;
  drawn = IsPermutation-times _ _ (λ x.
      let e = ap (λ (l : List CounterSeat). times x (drawn_by_all l)) is in
      let a = times-drawn_by_all x rest s in
      let b = times-append x (drawn_by s) (drawn_by_all rest) in
      omega arith);
  closings = let e = ap closings_of_all is in let t = sum_by_push closings_of rest s in omega arith;
}

-- and then each other one
pub takes_in : (c : SharedCounter) (whole whole' : Seat ℕ SeatView) (s : CounterSeat) (rest more all : List CounterSeat)
    → more ≡ rest ++ s ∷ [] → HasTaken c whole more all → whole'.table_id ≡ whole.table_id
    → whole'.me ≡ (joined whole.me.0 s.seat.me.0, whole.me.1) → HasTaken c whole' rest all
takes_in c whole whole' s rest more all is taken table me =
    let view = ap (λ (y : Me ℕ SeatView). y.0) me in
    let p = s.one_seat in
    let seats = ap (λ (v : SeatView). length v.seats) view ∙ length-append whole.me.0.seats s.seat.me.0.seats in
    let closings = ap (λ (v : SeatView). v.closings) view in record {
      table = table ∙ taken.table;
      slots = ap (λ (y : Me ℕ SeatView). y.1) me ∙ taken.slots;
      some = omega arith;
      counted = let a = taken.counted in let e = ap length is in let b = length-append rest (s ∷ []) in omega arith;
      drawn = IsPermutation-times _ _ (λ x.
          let a = times-IsPermutation _ _ taken.drawn x in
          let b = times-append x whole.me.0.drawn (drawn_by_all more) in
          let e = ap (λ (l : List CounterSeat). times x (drawn_by_all l)) is in
          let d = times-drawn_by_all x rest s in
          let f = ap (λ (v : SeatView). times x v.drawn) view ∙ times-append x whole.me.0.drawn (drawn_by s) in
          let g = times-append x whole'.me.0.drawn (drawn_by_all rest) in
          omega arith);
      closings = let a = taken.closings in let e = ap closings_of_all is in let t = sum_by_push closings_of rest s in omega arith;
    }

-- a closed seat among them was closed at least once
closed_counts : (all : List CounterSeat) → Any (λ (s : CounterSeat). is_closed s ≡ true) all → 0 < closings_of_all all
closed_counts all any =
    let s = any.1 in
    let at = slice_get_read all _ any.0 s refl any.2 (sym any.3) in
    let once = ltb-true 0 (closings_of s) (sym s.shut ∙ any.4) in
    let most = le-sum_by closings_of all any.0 s at in
    omega arith

-- the first word, read in two ways
first_word : (words : List ℕ) (word : ℕ) → get_elem? words 0 ≡ some word → slice_index words 0 ≡ word
first_word [] word e = absurd (some-ne-none word (sym e))
first_word (x ∷ xs) word e = some-injective x word e

-- what all seats drew, once one has taken all in and the table is closed
pub settled : (c : SharedCounter) (whole : Seat ℕ SeatView) (all : List CounterSeat) (words slots : List ℕ) (word : ℕ)
    → HasTaken c whole [] all → length all ≡ seats_of c
    → Final (Seen (KeepsTable c.table.shared.key) whole.id whole.me.0) words slots → get_elem? words 0 ≡ some word
    → IsPermutation (first_numbers (min word (limit_of c))) (drawn_by_all all)
    × (Any (λ (s : CounterSeat). is_closed s ≡ true) all → limit_of c < word)
settled c whole all words slots word taken count final is =
    let s = final.0 in
    let kept = final.1.0 in
    let terms = c.table.shared.key in
    let view = whole.me.0 in
    let n : ℕ = slice_index s.words 0 in
    let at = slice_get-get_elem s.views whole.id view final.1.1 in
    let same : n ≡ word = ap (λ (l : List ℕ). slice_index l 0) final.2 ∙ first_word words word is in
    let counted = taken.counted in
    let knows = whole_knows_all terms n whole.id view s.views kept.rule at (omega arith) in
    let limit = c.terms in
    let most : min n terms.limit ≡ min word (limit_of c) = omega arith in
    let drawn = subst (λ k. IsPermutation (first_numbers k) view.drawn) most knows.0 in
    let back = subst (λ (l : List ℕ). IsPermutation (drawn_by_all all) l) (append-nil view.drawn) taken.drawn in (
      IsPermutation-trans _ _ _ drawn (IsPermutation-sym _ _ back),
      (λ any.
          let once = closed_counts all any in
          let closings = taken.closings in
          let past = knows.1 (omega arith) in
          omega arith),
    )
