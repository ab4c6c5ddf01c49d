use Rattle.std.proofs.Common.{◌≡◌, ◌++◌, subst, sym}
use Rattle.abc_moves.specs.Scopes.{bind_all, PutsInside, values_in}
use Rattle.abc_moves.proofs.Scoped.{scope_bound, values_bound}
use Rattle.abc_moves.proofs.scope.Scope.inside.Goals as goal

pub scope_of-requires : goal.scope_of-requires
scope_of-requires c =
    let b : c.extend_from_slice.new.self ≡ c.self.inside.bound ++ c.args.xs.now = cc (c.in_ok-extend_from_slice.ensures.ok, c.in_ok-bound.ensures, c.as_slice.ensures) in
    let v : c.bind_each.new.vars ≡ bind_all c.args.xs.now c.args.values.now c.self.inside.vars = cc (c.in_ok-bind_each.ensures, c.in_ok-vars.ensures) in
    scope_bound c.self.inside.bound c.extend_from_slice.new.self c.args.xs.now c.args.values.now c.self.inside.vars c.bind_each.new.vars c.self.invariant c.requires b v

pub returns : goal.returns
returns c =
    let b : c.extend_from_slice.new.self ≡ c.self.inside.bound ++ c.args.xs.now = cc (c.in_ok-extend_from_slice.ensures.ok, c.in_ok-bound.ensures, c.as_slice.ensures) in
    let v : c.bind_each.new.vars ≡ bind_all c.args.xs.now c.args.values.now c.self.inside.vars = cc (c.in_ok-bind_each.ensures, c.in_ok-vars.ensures) in
    let p = values_bound c.self.inside.bound c.extend_from_slice.new.self c.args.xs.now c.args.values.now c.self.inside.vars c.bind_each.new.vars c.self.invariant c.requires b v in
    let q = subst (λ w. PutsInside c.args.xs.now c.args.values.now w (values_in c.extend_from_slice.new.self c.bind_each.new.vars)) c.self.view_is p in
    subst (λ w. PutsInside c.args.xs.now c.args.values.now c.args.self.now w) (sym c.scope_of.ensures) q
