use Rattle.std.proofs.Common.{◌≡◌, drop}
use Rattle.abc_moves.specs.Sites.{joined}
use Rattle.abc_moves.specs.Trees.{process_in}
use Rattle.abc_moves.proofs.site.joined.Given as goal

abbrev pub invariant-loop-stays : goal.invariant-loop-stays
invariant-loop-stays l =
    joined (drop l.stays-index l.beside) (process_in l.tree) ≡ joined l.beside (process_in l.initial.tree)
