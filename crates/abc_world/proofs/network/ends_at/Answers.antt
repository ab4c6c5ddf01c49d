use Rattle.std.proofs.Common.{sym, arith}
use Rattle.std.proofs.lemmas.Option.{slice_get-get_or}
use Rattle.abc_world.proofs.Ending.{ends-told, ends-past}
use Rattle.abc_world.proofs.network.ends_at.Goals as goal

pub returns-then-link-links : goal.returns-then-link-links
returns-then-link-links c =
    ends-told c.args.plan.now c.links-links.result.now c.args.link c.args.actor _ c.links-links.ensures
    (sym (slice_get-get_or c.links-links.result.now c.args.link (record { from = 0; to = 0 }) c.if-link-links.true))

pub returns-else-link-links : goal.returns-else-link-links
returns-else-link-links c =
    let past = c.if-link-links.false in
    ends-past c.args.plan.now c.links-links.result.now c.args.link c.args.actor c.links-links.ensures
    (λ there. absurd (omega arith))
