use Rattle.std.proofs.Common.{sym, subst}
use Rattle.std.specs.List.{All}
use Rattle.std.proofs.lemmas.Result.{IfOk-weaker}
use Rattle.abc_history.specs.Outs.{AreOnLinks}
use Rattle.abc_store.proofs.Readying.{on_links}
use Rattle.abc_store.proofs.passing.copies_to_pass.Goals as goal

-- the links that were answered lead from the node
pub returns-clause-leave : goal.returns-clause-leave
returns-clause-leave g c =
    let leaves = g.R.Rows.leaves c.args.rows.now in
    let leave = subst (All leaves) (sym c.as_slice.ensures) c.in_ok-links.ensures.leave in
    IfOk-weaker c.copies.result _ (λ q. AreOnLinks leaves q.items)
    (λ q are. subst (AreOnLinks leaves) (sym are) (on_links leaves c.args.clock c.as_slice.result.now _ leave)) c.copies.ensures
