-- What the state of the walk over a program's tokens says of the tokens before one.
use Rattle.std.proofs.Common.{◌≡◌, ℕ, zero, suc, ◌+◌, ◌-◌, ◌<◌, ◌≤◌, ◌⊎◌, inl, inr, Bool, true, false, List, [], ◌∷◌, length, take, Option, Some, None, refl, sym, ap, ◌∙◌, subst, arith}
use Rattle.std.specs.Prelude.{fold, slice_get, ◌==◌, ◌&&◌, not, if◌then◌else◌}
use Rattle.std.proofs.lemmas.Bool.{cases_lt}
use Rattle.std.proofs.lemmas.Bool.Decides.{nat_tests}
use Rattle.std.proofs.lemmas.List.Sums.{fold-append}
use Rattle.std.proofs.lemmas.Option.{slice_get_within}
use Rattle.abc_grammar.specs.declared.lexemes.Lexeme.{Lexeme}
use Rattle.abc_grammar.specs.declared.limits.TheConstants.{MOST_TOKENS}
use Rattle.abc_grammar.specs.Limits.{At, opens, closes, open_behind, starts_item, IsTooLarge}
use Rattle.abc_limits.specs.Written.{written_behind}
use Rattle.abc_limits.specs.Rooms.{Rooms, entered, left_into, parted, is_comma, room_in}
use Rattle.abc_limits.specs.Walking.{State, start, step, counted_on, is_whole}
use Rattle.abc_limits.proofs.Passing.{not_both, and_true, both_true, got, take_none, take_more, at_is, is_at}

-- before token k
abbrev pub state_at : List Lexeme → ℕ → State
state_at ts k = fold step start (take k ts)

pub state_none : (ts : List Lexeme) → state_at ts 0 ≡ start
state_none ts = ap (fold step start) (take_none ts)

pub state_more : (ts : List Lexeme) (k : ℕ) (t : Lexeme) → slice_get ts k ≡ Some t →
    state_at ts (suc k) ≡ step (state_at ts k) t
state_more ts k t e = ap (fold step start) (take_more ts k t e) ∙ fold-append step start (take k ts) (t ∷ [])

-- ---- open brackets
left_long : (rs : List (Option ℕ)) → length (left_into rs).around ≡ length rs - 1
left_long [] = refl
left_long (r ∷ rs) = omega arith

around_long :
    (opens closes comma : Bool) (r : Option ℕ) (b : Rooms) →
    length (if opens then entered r b else (if closes then left_into b.around else
    (if comma then parted b else b))).around
    ≡ (if opens then length b.around + 1 else (if closes then length b.around - 1 else length b.around))
around_long true closes comma r b = omega arith
around_long false true comma r b = left_long b.around
around_long false false true r b = refl
around_long false false false r b = refl

pub depth_behind : (s : State) (ts : List Lexeme) → length (fold step s ts).rooms.around ≡ open_behind
    (length s.rooms.around) ts
depth_behind s [] = refl
depth_behind s (t ∷ ts) =
    depth_behind (step s t) ts
    ∙ ap (λ (n : ℕ). open_behind n ts) (around_long (opens t) (closes t) (is_comma t) (room_in t s.word) s.rooms)

-- ---- scalars of a set literal
pub written_is : (s : State) (ts : List Lexeme) → (fold step s ts).written ≡ fold written_behind s.written ts
written_is s [] = refl
written_is s (t ∷ ts) = written_is (step s t) ts

-- ---- tokens of a definition or a component
-- so many tokens before token k, from the last word on that starts one
pub record IsSince (ts : List Lexeme) (k n : ℕ) : Type 0 where
  pub start : ℕ
  pub long : start + n ≡ k
  pub some : 0 < n
  pub starts : At ts start starts_item
  pub last : (i : ℕ) → start < i → i < k → ¬ At ts i starts_item

abbrev pub Since : List Lexeme → ℕ → Option ℕ → Type 0
Since ts k None = (i : ℕ) → i < k → ¬ At ts i starts_item
Since ts k (Some n) = IsSince ts k n

pub below_more : (P : ℕ → Type 0) (k : ℕ) → ((i : ℕ) → i < k → P i) → P k → (i : ℕ) → i < suc k → P i
below_more P k below here i lt = by (cases_lt i k)
  where
    by : (i < k) ⊎ (k ≤ i) → P i
    by (inl less) = below i less
    by (inr le) = subst P (omega (arith, lt, le)) here

since_more : (ts : List Lexeme) (k : ℕ) (t : Lexeme) → slice_get ts k ≡ Some t → (b : Bool) → starts_item t ≡ b →
    (o : Option ℕ) →
    Since ts k o → Since ts (suc k) (if b then Some 1 else counted_on o)
since_more ts k t stands true e o h = record {
  start = k;
  long = omega arith;
  some = omega arith;
  starts = at_is ts k t starts_item stands e;
  last = λ i lt below a. omega (arith, lt, below);
}
since_more ts k t stands false e None h =
    below_more (λ (i : ℕ). ¬ At ts i starts_item) k h (λ a. not_both (starts_item t)
    (is_at ts k t starts_item stands a) e)
since_more ts k t stands false e (Some n) h =
    let long = h.long in
    let some = h.some in
    record {
      start = h.start;
      long = omega (arith, long);
      some = omega (arith, some);
      starts = h.starts;
      last = λ i lt below a. below_more (λ (j : ℕ). h.start < j → ¬ At ts j starts_item) k
          (λ j less after. h.last j after less) (λ after b. not_both (starts_item t)
          (is_at ts k t starts_item stands b) e) i below lt a;
    }

pub since_at : (ts : List Lexeme) (k : ℕ) → k ≤ length ts → Since ts k (state_at ts k).item
since_at ts zero h = subst (λ (s : State). Since ts 0 s.item) (sym (state_none ts)) (λ i lt a. omega (arith, lt))
since_at ts (suc k) h =
    let g = got ts k (omega arith) in
    subst (λ (s : State). Since ts (suc k) s.item) (sym (state_more ts k g.0 g.1))
    (since_more ts k g.0 g.1 (starts_item g.0) refl (state_at ts k).item (since_at ts k (omega arith)))

module _ (ts : List Lexeme) (k : ℕ) (t : Lexeme) (stands : slice_get ts k ≡ Some t) where
  here : Since ts k (state_at ts k).item
  here = since_at ts k (let lt = slice_get_within ts k t stands in omega arith)

  whole_large : (o : Option ℕ) → Since ts k o → (not (starts_item t) && is_whole o) ≡ true → IsTooLarge ts k
  whole_large None h e = let p = and_true (not (starts_item t)) false e in absurd (not_both false p.1 refl)
  whole_large (Some n) h e =
      let p = and_true (not (starts_item t)) (n == MOST_TOKENS) e in
      let full : n ≡ MOST_TOKENS = let q = p.1 in grind (arith, nat_tests) in
      let long = h.long in
      record {
        exists = slice_get_within ts k t stands;
        start = h.start;
        starts = h.starts;
        last = λ i lt le a. below_more (λ (j : ℕ). h.start < j → ¬ At ts j starts_item) k
            (λ j less after. h.last j after less)
            (λ after b. starts_none (is_at ts k t starts_item stands b) p.0) i (omega (arith, le)) lt a;
        counted = omega (arith, long, full);
      }
    where
      starts_none : starts_item t ≡ true → not (starts_item t) ≡ true → ⊥
      starts_none a b = by (starts_item t) a b
        where
          by : (x : Bool) → x ≡ true → not x ≡ true → ⊥
          by true a b = cc
          by false a b = cc

  pub large_is : (not (starts_item t) && is_whole (state_at ts k).item) ≡ true → IsTooLarge ts k
  large_is = whole_large (state_at ts k).item here

  large_whole : (o : Option ℕ) → Since ts k o → IsTooLarge ts k → (not (starts_item t) && is_whole o) ≡ true
  large_whole None h large =
      let counted = large.counted in
      absurd (h large.start (omega (arith, counted)) large.starts)
  large_whole (Some n) h large =
      both_true (not (starts_item t)) (n == MOST_TOKENS) (no_start (starts_item t) refl)
      (let full : n ≡ MOST_TOKENS = by (cases_lt h.start large.start) (cases_lt large.start h.start) in grind
      (arith, nat_tests))
    where
      no_start : (b : Bool) → starts_item t ≡ b → not b ≡ true
      no_start true e =
          let counted = large.counted in
          absurd (large.last k (omega (arith, counted)) (omega arith) (at_is ts k t starts_item stands e))
      no_start false e = refl

      by : (h.start < large.start) ⊎ (large.start ≤ h.start) → (large.start < h.start) ⊎ (h.start ≤ large.start) →
          n ≡ MOST_TOKENS
      by (inl lt) o =
          let counted = large.counted in
          absurd (h.last large.start lt (omega (arith, counted)) large.starts)
      by (inr le) (inl lt) =
          let long = h.long in
          let some = h.some in
          absurd (large.last h.start lt (omega (arith, long)) h.starts)
      by (inr le) (inr ge) =
          let counted = large.counted in
          let long = h.long in
          omega (arith, counted, long, le, ge)

  pub is_large : IsTooLarge ts k → (not (starts_item t) && is_whole (state_at ts k).item) ≡ true
  is_large = large_whole (state_at ts k).item here
