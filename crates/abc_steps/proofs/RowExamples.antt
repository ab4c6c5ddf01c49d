-- The worked rows, computed.
use Rattle.std.proofs.Common.{◌≡◌, [], ◌∷◌, lit<, refl, ap, subst}
use Rattle.abc_pred.specs.Terms.{True}
use Rattle.abc_term.specs.Processes.{System, Nil, Par}
use Rattle.abc_term.specs.Speaking.{Label}
use Rattle.abc_term.specs.Systems.{Multicasts}
use Rattle.abc_term.specs.Examples.Writing.{number, label}
use Rattle.abc_term.specs.Examples.Colouring as colouring
use Rattle.abc_term.specs.Examples.Interleaving as branches
use Rattle.abc_term.proofs.ColouringSteps.{first_colour, second_colour}
use Rattle.abc_term.proofs.ExampleSteps.{right_hears}
use Rattle.abc_term.proofs.Steps.{multicast_is_determined}
use Rattle.abc_steps.specs.RowExamples.{PassedThenSaid, NotSaid, TwoTurnRows}
use Rattle.abc_steps.proofs.TurnExamples.{by_rule}

abbrev taken : System
taken = branches.after ((branches.right, number 4) ∷ []) (Par (branches.branch branches.left) Nil)

pub passed_then_said : PassedThenSaid
passed_then_said = (branches.before, (lit< tt, refl, refl), (taken, right_hears, refl))

pub not_said : NotSaid
not_said S h =
    let four = label [] True (number 4 ∷ []) in
    let five = label [] True (number 5 ∷ []) in
    let moved = subst (λ (X : System). Multicasts [] X 0 0 ((1, 1) ∷ []) five h.2.0) h.1.2 h.2.1 in
    let same = (multicast_is_determined [] branches.before 0 0 ((1, 1) ∷ []) four five taken h.2.0 right_hears moved).0 in
    let values : number 4 ∷ [] ≡ number 5 ∷ [] = ap (λ (l : Label). l.values) same in
    cc

pub two_turn_rows : TwoTurnRows
two_turn_rows = (
  colouring.one_coloured,
  (
    (0, colouring.told 0 0 (1 ∷ 3 ∷ 5 ∷ [])),
    refl,
    first_colour,
    by_rule colouring.defs colouring.none_coloured 0 0 0 (colouring.plain 0 [] (1 ∷ 3 ∷ 5 ∷ [])) (colouring.told 0 0 (1 ∷ 3 ∷ 5 ∷ [])) refl refl refl,
  ),
  (
    colouring.two_coloured,
    (
      (0, colouring.told 2 0 (1 ∷ 3 ∷ [])),
      refl,
      second_colour,
      by_rule colouring.defs colouring.one_coloured 1 2 0 (colouring.plain 2 [] (1 ∷ 3 ∷ [])) (colouring.told 2 0 (1 ∷ 3 ∷ [])) refl refl refl,
    ),
    refl,
  ),
)
