use Rattle.std.proofs.Common.{◌≡◌, length, All}
use Rattle.abc_moves.specs.Lives.{StartAs, program_in}
use Rattle.abc_moves.proofs.live.Live.start_all.Given as goal

abbrev pub invariant-loop-component : goal.invariant-loop-component
invariant-loop-component l = record {
  count : length l.lives ≡ l.component;
  start : StartAs l.program l.lives;
  text : All (λ x. program_in x ≡ l.program.definitions) l.lives;
}
