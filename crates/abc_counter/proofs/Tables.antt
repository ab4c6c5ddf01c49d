-- What a step at the table of a counter asks, from the steps of the rule.
use Rattle.std.proofs.Common.{◌≡◌, ⊎_elim, ℕ, ◌+◌, ◌%◌, ◌^◌, ◌<◌, ◌≤◌, List, [], ◌∷◌, length, nat_lt, true, false}
use Rattle.std.proofs.Common.{refl, sym, ap, ◌∙◌, subst, arith}
use Rattle.std.specs.Prelude.{Some, slice_get, slice_index, slice_set}
use Rattle.std.proofs.Common.{length-set}
use Rattle.std.proofs.lemmas.List.{get_or-set_same}
use Rattle.std.proofs.lemmas.List.FromFn.{length-range_with_len}
use Rattle.std.proofs.lemmas.Bool.{cases_lt, lt-ltb, le-ltb}
use Rattle.std.proofs.Math.Nat.{mod-eq_of_lt}
use mathlib.Core.Option.{Option, none}
use Rattle.atomic_table.specs.Table.{step, Me, Allows, Splits, Joins, opening}
use Rattle.atomic_table.specs.Table.Act.{keeps}
use Rattle.atomic_table.specs.declared.shared.Seat.{Seat}
use Rattle.atomic_table.proofs.Lists.{at_set}
use Rattle.abc_counter.specs.declared.views.SeatView.{SeatView}
use Rattle.abc_counter.specs.declared.views.CounterTerms.{CounterTerms}
use Rattle.abc_counter.specs.declared.counter.SharedCounter.{SharedCounter}
use Rattle.abc_counter.specs.Steps.{IsOpen, without_first, first_alone, joined, spent}
use Rattle.abc_counter.specs.Steps.Steps.{draws, closes, splits, joins}
use Rattle.abc_counter.specs.Rule.{Keeps, KeepsTable, first_view, after_draw, DrawTells}
use Rattle.abc_counter.specs.Counters.{IsUndealt}
use Rattle.abc_counter.proofs.Sums.{slice_get-get_elem}
use Rattle.abc_counter.proofs.Kept.{begins, steps_keep, narrow_word, view_at}

-- the table at the start keeps the rule
pub opens : (terms : CounterTerms) → terms.limit < 2 ^ 32 → terms.seats < 2 ^ 32
    → KeepsTable {S = ℕ} terms (opening (0 ∷ []) [] (first_view terms))
opens terms limit seats = record { one_word = refl; rule = begins terms limit seats }

-- the first seat, before any other is split off it
pub undealt : (c : SharedCounter) (s : Seat ℕ SeatView) (terms : CounterTerms) → terms.limit ≡ c.limit
    → s.table_id ≡ c.table.shared.table_id → s.me ≡ (first_view terms, []) → IsUndealt c s terms.seats
undealt c s terms limit table me =
    let view = ap (λ (y : Me ℕ SeatView). y.0) me in record {
      table = table;
      seats = ap (λ (v : SeatView). length v.seats) view ∙ length-range_with_len 0 terms.seats;
      limit = ap (λ (v : SeatView). v.limit) view ∙ limit;
      drawn = ap (λ (v : SeatView). v.drawn) view;
      closings = ap (λ (v : SeatView). v.closings) view;
      slots = ap (λ (y : Me ℕ SeatView). y.1) me;
    }

-- a table whose word changed keeps the rule at the new word
word_now : (terms : CounterTerms) (words : List ℕ) (homes : List (Option ℕ)) (m : ℕ) (views : List SeatView) → length words ≡ 1
    → Keeps terms m views → KeepsTable {S = ℕ} terms record { words = slice_set words 0 m; homes = homes; views = views }
word_now terms words homes m views one kept = record {
  one_word = length-set words 0 m ∙ one;
  rule = subst (λ k. Keeps terms k views) (sym (get_or-set_same words 0 m 0 (omega arith))) kept;
}

module _ (terms : CounterTerms) (id : ℕ) where
  -- an open seat may add one to the word
  pub draw_allowed : (slots : ℕ) (me : Me ℕ SeatView) → IsOpen me.0
      → Allows (KeepsTable terms) slots id me 0 (λ n. (n + 1) % 2 ^ 64) (DrawTells (step slots 0 1 0 none) me)
  draw_allowed slots me is_open s kept homes at small =
      let n : ℕ = slice_index s.words 0 in
      let v = me.0 in
      let here = slice_get-get_elem s.views id v at in
      let plus : (n + 1) % 2 ^ 64 ≡ n + 1 = mod-eq_of_lt (narrow_word terms n s.views kept.rule) in
      let limit : v.limit ≡ terms.limit = (view_at terms n s.views kept.rule id v here).limited is_open.0 in
      let after : Keeps terms (n + 1) (slice_set s.views id (after_draw v n)) =
      ⊎_elim
      (λ (below : n < terms.limit).
      let test : nat_lt n v.limit ≡ true = lt-ltb n v.limit (omega arith) in
      rw test (steps_keep terms n (n + 1) s.views _ kept.rule (draws n s.views id v here is_open below)))
      (λ (past : terms.limit ≤ n).
      let test : nat_lt n v.limit ≡ false = le-ltb n v.limit (omega arith) in
      rw test (steps_keep terms n (n + 1) s.views _ kept.rule (closes n s.views id v here is_open past)))
      (cases_lt n terms.limit) in
      (after_draw v n, keeps, tt, word_now terms s.words s.homes _ _ kept.one_word (rw plus after), refl)

  -- an open seat with two seat numbers or more may be split
  pub split_allowed : (v : SeatView) → IsOpen v → 1 < length v.seats → Splits {S = ℕ} (KeepsTable terms) id v (without_first v) (first_alone v)
  split_allowed v is_open more s kept at =
      let n : ℕ = slice_index s.words 0 in
      let here = slice_get-get_elem s.views id v at in record {
        one_word = kept.one_word;
        rule = steps_keep terms n n s.views _ kept.rule (splits n s.views id v here is_open more);
      }

  -- a seat with a seat number may take another in
  pub join_allowed : (v : SeatView) (other : ℕ) (w : SeatView) → 0 < length v.seats
      → Joins {S = ℕ} (KeepsTable terms) id v other w (joined v w) spent
  join_allowed v other w seated s kept at apart there =
      let n : ℕ = slice_index s.words 0 in
      let here = slice_get-get_elem s.views id v at in
      let theirs : slice_get s.views other ≡ Some w =
      ⊎_elim (λ h. absurd (apart h.0)) (λ h. slice_get-get_elem s.views other w h.1) (at_set s.views id other (joined v w) w there) in record {
        one_word = kept.one_word;
        rule = steps_keep terms n n s.views _ kept.rule (joins n s.views id other v w here theirs (λ e. apart (sym e)) seated);
      }
