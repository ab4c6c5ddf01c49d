use Rattle.std.proofs.Common.{◌≡◌, [], length, sym, ◌∙◌, subst, arith, ◌<◌}
use Rattle.std.proofs.lemmas.List.{get_or_default}
use Rattle.abc_world.specs.InLinks.{links_into}
use Rattle.abc_world.specs.Listing.{AreLinksInto}
use Rattle.abc_world.proofs.InLinked.{into-are}
use Rattle.abc_world.proofs.network.Network.add_of.Goals as goal

-- the list of the actor has its links
pub add_of_agent-requires-clause-into : goal.add_of_agent-requires-clause-into
add_of_agent-requires-clause-into g c κs within =
    let p = c.args.self.now.plan in
    let lists = c.args.in_links.now in
    let actor = c.args.actor in
    let ends = c.requires.links.ends in
    let many = c.requires.links.many in
    let there = c.requires.there in
    let inside : actor < length lists = omega arith in
    let is : c.as_slice-links.result.now ≡ links_into ends actor (length ends) =
    c.as_slice-links.ensures ∙ (c.index-in_links-actor.is
    ∙ (get_or_default lists actor c.index-in_links-actor.result [] inside ∙ c.requires.links.each actor there)) in
    subst (λ v. AreLinksInto p actor v) (sym is) (into-are p ends actor c.requires.links.are)

pub add_of_node-requires-clause-into : goal.add_of_node-requires-clause-into
add_of_node-requires-clause-into g c κs within =
    let p = c.args.self.now.plan in
    let lists = c.args.in_links.now in
    let actor = c.args.actor in
    let ends = c.requires.links.ends in
    let many = c.requires.links.many in
    let there = c.requires.there in
    let inside : actor < length lists = omega arith in
    let is : c.as_slice-links.result.now ≡ links_into ends actor (length ends) =
    c.as_slice-links.ensures ∙ (c.index-in_links-actor.is
    ∙ (get_or_default lists actor c.index-in_links-actor.result [] inside ∙ c.requires.links.each actor there)) in
    subst (λ v. AreLinksInto p actor v) (sym is) (into-are p ends actor c.requires.links.are)
