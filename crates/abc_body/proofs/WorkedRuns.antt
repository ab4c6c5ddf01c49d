-- Runs of three tallies.
use Rattle.std.proofs.Common.{◌≢◌, ℕ, ◌≤◌, List, [], ◌∷◌, refl, lit<, lit≤, arith}
use Rattle.abc_body.specs.Multicasts.{EachMoves, Step, Runs}
use Rattle.abc_body.specs.Tallies.{tally}
use Rattle.abc_body.specs.Laws.{one_tells_two, two_passes, two_passes_heard, nought_tells_one, tells, IsNoStep}
use Rattle.abc_body.proofs.Resting.{AllRest-same}

-- Three counts.
abbrev counts : ℕ → ℕ → ℕ → List ℕ
counts a b c = a ∷ b ∷ c ∷ []

nought-one : ◌≢◌ {A = ℕ} 0 1
nought-one e = cc

two-one : ◌≢◌ {A = ℕ} 2 1
two-one e = cc

one-nought : ◌≢◌ {A = ℕ} 1 0
one-nought e = cc

first_step : Step tally (counts 0 4 8) one_tells_two (counts 1 5 9)
first_step = (
  4,
  record {
    exists = lit< tt;
    hearers = (lit≤ tt, lit< tt, nought-one, (lit≤ tt, lit< tt, two-one, tt));
    moves = ((lit< tt, lit< tt, refl), ((lit< tt, lit< tt, refl, refl), ((lit< tt, lit< tt, refl), tt)));
  },
)

second_step : Step tally (counts 1 5 9) two_passes (counts 1 5 9)
second_step = (lit< tt, refl, refl)

third_step : Step tally (counts 1 5 9) nought_tells_one (counts 2 6 9)
third_step = (
  1,
  record {
    exists = lit< tt;
    hearers = (lit≤ tt, lit< tt, one-nought, tt);
    moves = ((lit< tt, lit< tt, refl, refl), ((lit< tt, lit< tt, refl), ((lit≤ tt, refl), tt)));
  },
)

pub worked_run : Runs tally (counts 0 4 8) (one_tells_two ∷ two_passes ∷ nought_tells_one ∷ []) (counts 2 6 9)
worked_run = (
  counts 0 4 8,
  counts 1 5 9,
  AllRest-same (counts 0 4 8),
  first_step,
  (
    counts 1 5 9,
    counts 1 5 9,
    AllRest-same (counts 1 5 9),
    second_step,
    (counts 1 5 9, counts 2 6 9, AllRest-same (counts 1 5 9), third_step, AllRest-same (counts 2 6 9)),
  ),
)

-- Tally 2 of 0, 4, 8 would have to be full.
not_heard : (l : ℕ) (S : List ℕ) → EachMoves tally 0 1 ((1, 0) ∷ []) l 0 (counts 0 4 8) S → 9 ≤ 8
not_heard l [] moves = absurd moves
not_heard l (a ∷ []) moves = absurd moves.1
not_heard l (a ∷ b ∷ []) moves = absurd moves.1.1
not_heard l (a ∷ b ∷ c ∷ S) moves = moves.1.1.0.0

pub left_out : IsNoStep nought_tells_one
left_out = λ S step. let full = not_heard step.0 S step.1.moves in omega arith

-- Body 1 would have to be another than the sender.
pub itself : IsNoStep (tells 1 ((0, 0) ∷ (1, 0) ∷ (2, 0) ∷ []))
itself = λ S step. step.1.hearers.3.2 refl

-- Body 0 would have to stand behind body 2.
pub falling : IsNoStep (tells 1 ((2, 0) ∷ (0, 0) ∷ []))
falling = λ S step. let behind = step.1.hearers.3.0 in omega arith

-- Body 3 would have to be one of three.
pub nobody : IsNoStep (tells 1 ((0, 0) ∷ (2, 0) ∷ (3, 0) ∷ []))
nobody = λ S step. let there = step.1.hearers.3.3.1 in omega arith

pub no_sender : IsNoStep (tells 3 ((0, 0) ∷ (1, 0) ∷ (2, 0) ∷ []))
no_sender = λ S step. let there = step.1.exists in omega arith

-- The hearers would have to be none.
pub heard_nothing : IsNoStep two_passes_heard
heard_nothing = λ S step. let none = step.1 in cc
