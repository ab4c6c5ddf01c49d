use Rattle.std.proofs.Common.{ap, sym, ◌∙◌, Some}
use Rattle.std.proofs.lemmas.Option.{slice_get-get_or}
use Rattle.abc_world.proofs.Crewed.{came-to, stays-first, refused-arrival}
use Rattle.abc_world.proofs.passing.receive.Goals as goal

pub arrive-requires-clause-leads : goal.arrive-requires-clause-leads
arrive-requires-clause-leads g c =
    c.requires.leads _ (slice_get-get_or c.args.nodes.now.items c.args.k c.index_mut.result.now c.requires.there
    ∙ ap Some (sym c.index_mut.ensures.value))

pub arrive-requires-clause-clock : goal.arrive-requires-clause-clock
arrive-requires-clause-clock g c =
    c.requires.clock _ (slice_get-get_or c.args.nodes.now.items c.args.k c.index_mut.result.now c.requires.there
    ∙ ap Some (sym c.index_mut.ensures.value))

pub returns-clause-made : goal.returns-clause-made
returns-clause-made g c =
    came-to g.M.Node.node g.M.Node.machine c.args.k c.args.link c.args.stamped c.arrive.result c.index_mut.result.now c.arrive.new.self
    c.index_mut.result.now c.args.nodes.now.items c.args.links.now.queues c.arrive.new.links.queues c.args.numbers.now
    c.arrive.new.numbers c.requires.there c.index_mut.ensures.value c.arrive.ensures.same c.arrive.ensures.links c.arrive.ensures.made

pub returns-clause-err : goal.returns-clause-err
returns-clause-err g c =
    refused-arrival g.M.Node.node c.args.k c.arrive.result c.index_mut.result.now c.arrive.new.self c.index_mut.result.now c.args.nodes.now.items
    c.args.numbers.now c.arrive.new.numbers c.args.links.now.queues c.arrive.new.links.queues c.index_mut.ensures.value c.arrive.ensures.err

pub returns-clause-first : goal.returns-clause-first
returns-clause-first g c =
    stays-first _ c.args.link c.args.stamped c.arrive.result _ _ c.args.links.now.queues c.arrive.new.links.queues _
    c.arrive.ensures.made
