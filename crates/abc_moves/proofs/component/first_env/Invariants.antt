use Rattle.std.proofs.Common.{◌≡◌, [], drop}
use Rattle.abc_term.specs.Standing.{set_all}
use Rattle.abc_moves.proofs.component.first_env.Given as goal

abbrev pub invariant-loop-attribute : goal.invariant-loop-attribute
invariant-loop-attribute l = set_all (drop l.attribute-index l.attributes) l.env ≡ set_all l.attributes []
