-- Worked runs by the rule of places.
use Rattle.std.specs.Prelude.{[], ◌∷◌}
use Rattle.abc_term.specs.Processes.{Nil, Par}
use Rattle.abc_term.specs.Examples.Writing.{number, component, choice}
use Rattle.abc_term.specs.Examples.Colouring as colouring
use Rattle.abc_term.specs.Examples.Interleaving as branches
use Rattle.abc_steps.specs.Turns.{RunsByTurns}

-- Of six vertices that can speak the one at place 0 does, and then of five the one at place 1, which is vertex 2. Two steps are
-- the limit.
abbrev pub TwoTurns : Type 0
TwoTurns =
    RunsByTurns colouring.defs 2 0 colouring.none_coloured
    (choice 0 0 ((1, 0) ∷ (3, 0) ∷ (5, 0) ∷ []) ∷ choice 2 0 ((1, 0) ∷ (3, 0) ∷ []) ∷ [])
    colouring.two_coloured

-- At turn 1 the one speaker speaks, and of the two inputs that are ready the one at place 1 hears. Then nobody can speak, before
-- the limit is reached.
abbrev pub SecondBranch : Type 0
SecondBranch =
    RunsByTurns [] 10 1 branches.before (choice 0 0 ((1, 1) ∷ []) ∷ [])
    (branches.after ((branches.right, number 4) ∷ []) (Par (branches.branch branches.left) Nil))

-- At turn 1 the output at place 1 of two is made, and no more than that within a limit of 1.
abbrev pub SecondOutput : Type 0
SecondOutput =
    RunsByTurns [] 1 1 (component [] [] (Par (branches.tells 4) (branches.tells 5)) ∷ []) (choice 0 1 [] ∷ [])
    (component [] [] (Par (branches.tells 4) Nil) ∷ [])
