use Rattle.std.proofs.Common.{◌+◌, length, refl, sym, ap}
use Rattle.std.proofs.lemmas.Option.{slice_get_read}
use Rattle.abc_tree.proofs.Linked.{ends-tested}
use Rattle.abc_tree.proofs.ways.ends_at.Goals as goal

-- its entry says where it ends
pub returns-in-Some : goal.returns-in-Some
returns-in-Some c =
    let es = c.links.result.now in
    let read = c.in-Some.ensures.lookup in
    ends-tested c.args.plan.now es c.args.node c.args.link (c.agents.result + c.args.node) c.in-Some.ends.now c.links.ensures
    (sym (slice_get_read es (length es) c.args.link c.in-Some.ends.now refl read.3.0 read.1))
    (ap (λ n. n + c.args.node) c.agents.ensures.number)
