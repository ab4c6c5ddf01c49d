use Rattle.std.proofs.Common.{◌≡◌, ◌+◌, ap, ◌∙◌, [], get_or, length, arith}
use Rattle.std.proofs.lemmas.Option.{slice_get-get_or}
use Rattle.std.proofs.lemmas.List.{length-replicate}
use Rattle.abc_shape.proofs.Ended.{ends-below}
use Rattle.abc_world.proofs.in_links.links_by_end.Goals as goal

-- a link ends at an actor of the plan
pub index_mut-requires : goal.index_mut-requires
index_mut-requires c =
    let p = c.args.plan.now in
    let ends = c.links-links.result.now in
    let e = get_or ends c.linking.link (record { from = 0; to = 0 }) in
    let stands = slice_get-get_or ends c.linking.link (record { from = 0; to = 0 }) c.linking-test.true in
    let is = (c.links-links.ensures.rows c.linking.link e).0 stands in
    let below = (ends-below p c.linking.link e.from e.to c.agents.ensures.limits is).1 in
    let many : length c.in_ok-lists.lists.items ≡ c.agents.result + c.nodes.result =
    ap (λ v. length v) c.in_ok-lists.ensures ∙ length-replicate (c.agents.result + c.nodes.result) [] in
    let same = c.linking.invariant.many in
    let len = c.linking.lists.ok in
    let a = c.agents.ensures.number in
    let n = c.nodes.ensures.number in
    omega arith
