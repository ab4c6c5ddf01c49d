use Rattle.std.proofs.Common.{◌+◌, ◌-◌, ◌*◌, ◌<◌, ◌++◌, sym, ap, ◌∙◌, subst, arith}
use Rattle.std.specs.List.{All}
use Rattle.std.proofs.lemmas.List.Elements.{All-push}
use Rattle.abc_network.specs.Trees.{agents_of}
use Rattle.abc_tree.specs.Seats.{LeavesFrom}
use Rattle.abc_tree.proofs.Homed.{agents-taken, agents-skipped, leaves-homed}
use Rattle.abc_tree.proofs.ways.links_to_homed.Goals.{then-goes_on_to+in_ok-push, else-goes_on_to}
use Rattle.abc_tree.proofs.ways.links_to_homed.Goals as goal

-- one agent more has its link, or is passed over
pub looking-preserved : goal.looking-preserved
looking-preserved c =
    let p = c.args.plan.now in
    let i = c.looking.agent in
    let n = c.agents-agents.result in
    let all = agents_of p c.args.node c.args.came 0 n in
    let so_far = c.looking.invariant in
    let there : i < p.agents = omega (arith, c.looking-test.true, c.agents-agents.ensures.number) in
    elim c.if-goes_on_to.branch [
      | then-goes_on_to+in_ok-push w ↦ (
          let push = w.links-is ∙ w.in_ok-push.ensures.ok in
          let leaves = leaves-homed p c.args.node i c.requires there w.if-goes_on_to.ensures.homed in
          record {
            links = agents-taken p c.args.node c.args.came i n c.goes_on_to.result c.looking.links c.if-goes_on_to.links all
                c.looking-test.true c.goes_on_to.ensures.value w.if-goes_on_to.true so_far.links push;
            leave = subst (All (LeavesFrom p c.args.node)) (sym push)
                (All-push (LeavesFrom p c.args.node) c.looking.links (2 * i + 1) so_far.leave leaves);
          })
      | else-goes_on_to w ↦ record {
        links = ap (λ l. l ++ agents_of p c.args.node c.args.came (i + 1) (n - (i + 1))) w.links-is
            ∙ agents-skipped p c.args.node c.args.came i n c.goes_on_to.result c.looking.links all
            c.looking-test.true c.goes_on_to.ensures.value w.if-goes_on_to.false so_far.links;
        leave = subst (All (LeavesFrom p c.args.node)) (sym w.links-is) so_far.leave;
      }
    ]
