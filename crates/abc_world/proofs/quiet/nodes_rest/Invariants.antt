use Rattle.abc_world.proofs.Quieting.{FirstAre}
use Rattle.abc_world.proofs.quiet.nodes_rest.Given as goal

abbrev pub invariant-asking : goal.invariant-asking
invariant-asking g l =
    FirstAre (λ n. (g.M.Node.machine (g.M.Node.node n).plan).can_pass (g.M.Node.node n).actor.state → ⊥) l.nodes l.k
