use Rattle.std.proofs.Common.{◌∙◌}
use Rattle.abc_moves.proofs.Scoped.{scope_copied, values_copied}
use Rattle.abc_moves.proofs.scope.Scope.copy.Goals as goal

pub scope_of-requires : goal.scope_of-requires
scope_of-requires c =
    scope_copied c.self.inside.bound c.in_ok-bound.bound c.self.inside.vars c.in_ok-vars.vars c.self.invariant
    (cc (c.in_ok-bound.ensures, c.as_slice.ensures)) c.in_ok-vars.ensures

pub returns : goal.returns
returns c =
    c.scope_of.ensures
    ∙ values_copied c.self.inside.bound c.in_ok-bound.bound c.self.inside.vars c.in_ok-vars.vars
    (cc (c.in_ok-bound.ensures, c.as_slice.ensures)) c.in_ok-vars.ensures
    ∙ c.self.view_is
