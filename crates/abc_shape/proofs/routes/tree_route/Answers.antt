use Rattle.std.proofs.Common.{arith, ap, sym, refl}
use Rattle.std.proofs.lemmas.Nat.{mod_below}
use Rattle.abc_shape.specs.Plans.{actor_of, tree_up, tree_down}
use Rattle.abc_shape.specs.Routes.{direct, down, up}
use Rattle.abc_shape.proofs.Steps.{away-from_root, not-under}
use Rattle.abc_shape.proofs.routes.tree_route.Goals as goal

pub returns-then-node-home : goal.returns-then-node-home
returns-then-node-home c = direct (c.agent_number.ensures.down (λ other. c.if-node-home.true))

pub overflow_sub-result-in-None : goal.overflow_sub-result-in-None
overflow_sub-result-in-None c = away-from_root c.args.node _ (λ e. c.if-node-home.false (sym e)) c.in-None.ensures

pub returns-in-Some : goal.returns-in-Some
returns-in-Some c =
    let child = c.in-Some.ensures.0 in
    let some = child.0 in
    let low = c.in-Some.ensures.2 in
    let in_tree = mod_below c.args.agent c.args.layout.nodes (omega (arith, c.requires.layout.some_nodes)) in
    down c.in-Some.child c.requires.tree child c.in-Some.ensures.1
    (tree_down c.in-Some.child c.requires.tree some (omega arith) (ap (actor_of c.args.layout) (sym child.1)) refl refl)

pub returns-in-None : goal.returns-in-None
returns-in-None c =
    let some = away-from_root c.args.node _ (λ e. c.if-node-home.false (sym e)) c.in-None.ensures in
    up c.requires.tree (not-under c.args.node _ (λ e. c.if-node-home.false (sym e)) c.in-None.ensures)
    (tree_up c.args.node c.requires.tree (omega arith) c.requires.node refl refl refl)
