use Rattle.std.proofs.Common.{◌≡◌, ◌++◌, drop, map}
use Rattle.abc_term.specs.Standing.{exprs_of}
use Rattle.abc_term.specs.Substitution.{put_expr}
use Rattle.abc_term.specs.Speaking.{values_of}
use Rattle.abc_moves.proofs.speaking.values.Given as goal

abbrev pub invariant-loop-e : goal.invariant-loop-e
invariant-loop-e l = l.values ++ values_of (map (put_expr l.scope) (exprs_of (drop l.e-index l.es))) l.env ≡ values_of (map (put_expr l.scope) (exprs_of l.es)) l.env
