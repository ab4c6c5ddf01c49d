use Rattle.std.proofs.Common.{ap, sym, ◌∙◌, Some}
use Rattle.std.proofs.lemmas.Option.{slice_get-get_or}
use Rattle.abc_world.proofs.Crewed.{passed-or-not, stays-seen, refused-seen}
use Rattle.abc_world.proofs.passing.pass.Goals as goal

pub pass-requires-clause-leads : goal.pass-requires-clause-leads
pass-requires-clause-leads g c =
    c.requires.leads _ (slice_get-get_or c.args.nodes.now.items c.args.k c.index_mut.result.now c.requires.there
    ∙ ap Some (sym c.index_mut.ensures.value))

pub pass-requires-clause-clock : goal.pass-requires-clause-clock
pass-requires-clause-clock g c =
    c.requires.clock _ (slice_get-get_or c.args.nodes.now.items c.args.k c.index_mut.result.now c.requires.there
    ∙ ap Some (sym c.index_mut.ensures.value))

pub returns-clause-made : goal.returns-clause-made
returns-clause-made g c =
    passed-or-not g.M.Node.node g.M.Node.machine c.args.k c.pass.result c.index_mut.result.now c.pass.new.self c.index_mut.result.now
    c.args.nodes.now.items c.args.links.now.queues c.pass.new.links.queues c.requires.there c.index_mut.ensures.value c.pass.ensures.same
    c.pass.ensures.links c.pass.ensures.made

pub returns-clause-stays : goal.returns-clause-stays
returns-clause-stays g c =
    stays-seen g.M.Node.node c.args.k c.pass.result c.index_mut.result.now c.pass.new.self c.index_mut.result.now c.args.nodes.now.items
    c.args.links.now.queues c.pass.new.links.queues c.index_mut.ensures.value c.pass.ensures.stays

pub returns-clause-err : goal.returns-clause-err
returns-clause-err g c =
    refused-seen g.M.Node.node c.args.k c.pass.result c.index_mut.result.now c.pass.new.self c.index_mut.result.now c.args.nodes.now.items
    c.args.links.now.queues c.pass.new.links.queues c.index_mut.ensures.value c.pass.ensures.err
