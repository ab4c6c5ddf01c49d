-- Rows by the rule of places, and rows of systems that are alike.
use Rattle.std.proofs.Common.{◌≡◌, inl, inr, ℕ, zero, suc, ◌+◌, ◌<◌, List, [], ◌∷◌, length, Option, Some, None, refl, ap, sym, subst, arith}
use Rattle.std.specs.Prelude.{◌⊎◌, ◌≤◌, map}
use Rattle.abc_term.specs.Processes.{Definitions, System}
use Rattle.abc_term.specs.Speaking.{Label}
use Rattle.abc_term.specs.Systems.{Choice, IsSilent}
use Rattle.abc_steps.specs.Alike.{AreAlike}
use Rattle.abc_steps.specs.Turns.{IsTurn, SaysStep}
use Rattle.abc_steps.specs.Rows.{Row, choice_of_row, place_said, IsToldBy, TellsTurn, TellTurns}
use Rattle.abc_steps.specs.RowLaws.{TurnRowsAreTurns, TurnsHaveRows, AlikeRows, AlikeTurnRows}
use Rattle.abc_steps.proofs.OneRun.{turns_are_determined}
use Rattle.abc_steps.proofs.Rows.{rows_are_determined, turns_tell_runs}
use Rattle.abc_steps.proofs.AlikeSteps.{alike_length, alike_multicasts, turn_alike}

-- ---- the rule of places
-- what a row by the rule tells is the step of its choice, with its label
pub says_of_turn : (defs : Definitions) (S : System) (turn : ℕ) (r : Row) (T : System) (t : TellsTurn defs S turn r T) →
    SaysStep defs S (choice_of_row r) t.0.1 T
says_of_turn defs S turn r T t =
    let s = t.0 in
    (s.0, ap place_said t.1, subst (λ (spoke : Option (ℕ × Label)). IsToldBy defs S r.sender spoke r.heard T) t.1 t.2)

pub turn_rows_are_turns : TurnRowsAreTurns
turn_rows_are_turns defs limit turn S [] T h le end =
    (h, elim end [ inl e ↦ inl (sym e) | inr q ↦ inr (subst (λ (X : System). IsSilent defs X) h q) ])
turn_rows_are_turns defs zero turn S (r ∷ rs) T h le end = absurd (omega arith)
turn_rows_are_turns defs (suc limit) turn S (r ∷ rs) T h le end = (
  h.1.0.1,
  h.0,
  says_of_turn defs S turn r h.0 h.1,
  h.1.3,
  turn_rows_are_turns defs limit (turn + 1) h.0 rs T h.2 (omega arith) (elim end [ inl e ↦ inl (omega arith) | inr q ↦ inr q ]),
)

pub turns_have_rows : TurnsHaveRows
turns_have_rows defs limit turn S [] T h = ([], h.0, refl)
turns_have_rows defs zero turn S (c ∷ cs) T h = elim h [ ]
turns_have_rows defs (suc limit) turn S (c ∷ cs) T h =
    let row : Row = record { sender = c.sender; spoke = Some (h.2.0, h.0); heard = c.heard } in
    let same : choice_of_row row ≡ c = λ i. record { sender = c.sender; place = sym h.2.1 i; heard = c.heard } in
    let rest = turns_have_rows defs limit (turn + 1) h.1 cs T h.4 in (
      row ∷ rest.0,
      (h.1, ((h.2.0, h.0), refl, h.2.2, subst (λ (d : Choice). IsTurn defs S turn d h.0) (sym same) h.3), rest.1),
      λ i. same i ∷ rest.2 i,
    )

-- two lists of rows by the rule that end as it does are the same
pub turn_rows_are_determined : (defs : Definitions) (limit turn : ℕ) (S : System) (rs qs : List Row) (T U : System) →
    TellTurns defs turn S rs T → length rs ≤ limit → (length rs ≡ limit) ⊎ IsSilent defs T →
    TellTurns defs turn S qs U → length qs ≤ limit → (length qs ≡ limit) ⊎ IsSilent defs U → (rs ≡ qs) × (T ≡ U)
turn_rows_are_determined defs limit turn S rs qs T U h few end k as_few ends =
    let one = turn_rows_are_turns defs limit turn S rs T h few end in
    let other = turn_rows_are_turns defs limit turn S qs U k as_few ends in
    let choices = (turns_are_determined defs limit turn S (map choice_of_row rs) (map choice_of_row qs) T U one other).0 in
    rows_are_determined defs S rs qs T U (turns_tell_runs defs turn S rs T h) (turns_tell_runs defs turn S qs U k) choices

-- ---- systems that are alike
-- one row more: it tells a step from the other system too
told_alike : (defs : Definitions) (S S' : System) (sender : ℕ) (spoke : Option (ℕ × Label)) (heard : List (ℕ × ℕ)) (T : System) → AreAlike S S' →
    IsToldBy defs S sender spoke heard T → (T' : System) × AreAlike T T' × IsToldBy defs S' sender spoke heard T'
told_alike defs S S' sender None heard T a h =
    (S', subst (λ (X : System). AreAlike X S') (sym h.2) a, (subst (λ (k : ℕ). sender < k) (alike_length S S' a) h.0, h.1, refl))
told_alike defs S S' sender (Some s) heard T a h = alike_multicasts defs S S' sender s.0 heard s.1 T a h

pub alike_rows : AlikeRows
alike_rows defs S S' [] T a h = (S', subst (λ (X : System). AreAlike X S') (sym h) a, refl)
alike_rows defs S S' (r ∷ rs) T a h =
    let first = told_alike defs S S' r.sender r.spoke r.heard h.0 a h.1 in
    let rest = alike_rows defs h.0 first.0 rs T first.1 h.2 in
    (rest.0, rest.1, (first.0, first.2, rest.2))

pub alike_turn_rows : AlikeTurnRows
alike_turn_rows defs turn S S' [] T a h = (S', subst (λ (X : System). AreAlike X S') (sym h) a, refl)
alike_turn_rows defs turn S S' (r ∷ rs) T a h =
    let first = told_alike defs S S' r.sender r.spoke r.heard h.0 a h.1.2 in
    let rest = alike_turn_rows defs (turn + 1) h.0 first.0 rs T first.1 h.2 in
    (rest.0, rest.1, (first.0, (h.1.0, h.1.1, first.2, turn_alike defs turn S S' (choice_of_row r) h.1.0.1 a h.1.3), rest.2))
