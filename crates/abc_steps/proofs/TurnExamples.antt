-- The worked runs, computed.
use Rattle.std.proofs.Common.{◌≡◌, ◌∙◌, ℕ, ◌%◌, [], ◌∷◌, length, All, Some, inl, inr, refl, ap, slice_get, arith}
use Rattle.std.proofs.lemmas.List.Elements.{All-nil, All-cons}
use Rattle.abc_pred.specs.Terms.{True}
use Rattle.abc_term.specs.Processes.{Definitions, Component, System, Nil, Par}
use Rattle.abc_term.specs.Speaking.{Label, outs}
use Rattle.abc_term.specs.Examples.Writing.{number, label, component, choice}
use Rattle.abc_term.specs.Examples.Colouring as colouring
use Rattle.abc_term.specs.Examples.Interleaving as branches
use Rattle.abc_term.proofs.ColouringSteps.{first_colour, second_colour}
use Rattle.abc_term.proofs.ExamplePlaces.{right_speaks}
use Rattle.abc_term.proofs.ExampleSteps.{right_hears}
use Rattle.abc_steps.specs.Hearers.{hearers_from}
use Rattle.abc_steps.specs.Turns.{IsTurn, speakers}
use Rattle.abc_steps.specs.TurnExamples.{TwoTurns, SecondBranch, SecondOutput}
use Rattle.abc_steps.proofs.Hearers.{rule_placed}
use Rattle.abc_steps.proofs.Turns.{one_item}

-- a choice that computes to the one by the rule
pub by_rule : (defs : Definitions) (S : System) (turn sender place : ℕ) (C : Component) (l : Label) → slice_get (speakers defs S) (turn % length (speakers defs S)) ≡ Some sender →
    slice_get S sender ≡ Some C → place ≡ turn % outs defs C → IsTurn defs S turn (choice sender place (hearers_from defs sender l turn 0 S)) l
by_rule defs S turn sender place C l speaks at is = record {
  speaker = speaks;
  output = λ D e. ap (λ (k : ℕ). Some k) is ∙ ap (λ (X : Component). Some (turn % outs defs X)) (one_item (slice_get S sender) C D at e);
  inputs = λ i D p e f. rule_placed defs sender l turn 0 i i S D p (omega arith) e f;
}

pub two_turns : TwoTurns
two_turns = (
  colouring.told 0 0 (1 ∷ 3 ∷ 5 ∷ []),
  colouring.one_coloured,
  (0, refl, first_colour),
  by_rule colouring.defs colouring.none_coloured 0 0 0 (colouring.plain 0 [] (1 ∷ 3 ∷ 5 ∷ [])) (colouring.told 0 0 (1 ∷ 3 ∷ 5 ∷ [])) refl refl refl,
  (
    colouring.told 2 0 (1 ∷ 3 ∷ []),
    colouring.two_coloured,
    (0, refl, second_colour),
    by_rule colouring.defs colouring.one_coloured 1 2 0 (colouring.plain 2 [] (1 ∷ 3 ∷ [])) (colouring.told 2 0 (1 ∷ 3 ∷ [])) refl refl refl,
    (refl, inl refl),
  ),
)

silent : (C D : Component) → outs [] C ≡ 0 → outs [] D ≡ 0 → All (λ E. outs [] E ≡ 0) (C ∷ D ∷ [])
silent C D c d = All-cons (λ E. outs [] E ≡ 0) C (D ∷ []) c (All-cons (λ E. outs [] E ≡ 0) D [] d (All-nil (λ E. outs [] E ≡ 0)))

pub second_branch : SecondBranch
second_branch = (
  label [] True (number 4 ∷ []),
  branches.after ((branches.right, number 4) ∷ []) (Par (branches.branch branches.left) Nil),
  (0, refl, right_hears),
  by_rule [] branches.before 1 0 0 (component [] [] (branches.tells 4)) (label [] True (number 4 ∷ [])) refl refl refl,
  (refl, inr (silent (component [] [] Nil) (component ((branches.right, number 4) ∷ []) [] (Par (branches.branch branches.left) Nil)) refl refl)),
)

pub second_output : SecondOutput
second_output = (
  label [] True (number 5 ∷ []),
  component [] [] (Par (branches.tells 4) Nil) ∷ [],
  (1, refl, right_speaks),
  by_rule [] (component [] [] (Par (branches.tells 4) (branches.tells 5)) ∷ []) 1 0 1 (component [] [] (Par (branches.tells 4) (branches.tells 5)))
      (label [] True (number 5 ∷ [])) refl refl refl,
  (refl, inl refl),
)
