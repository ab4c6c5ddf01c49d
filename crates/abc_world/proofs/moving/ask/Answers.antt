use Rattle.std.proofs.Common.{ap, sym, ◌∙◌, Some}
use Rattle.std.proofs.lemmas.Option.{slice_get-get_or}
use Rattle.abc_agent.specs.Members.{IsAsk}
use Rattle.abc_agent.specs.Conditions.{CanAsk}
use Rattle.abc_world.proofs.Among.{told-among, stays-among, refused-among}
use Rattle.abc_world.proofs.moving.ask.Goals as goal

pub ask-requires-clause-links : goal.ask-requires-clause-links
ask-requires-clause-links g c κs within =
    c.requires.links _ (slice_get-get_or c.args.agents.now.items c.args.i c.index_mut.result.now c.requires.there
    ∙ ap Some (sym c.index_mut.ensures.value))

pub ask-requires-clause-clock : goal.ask-requires-clause-clock
ask-requires-clause-clock g c κs within =
    c.requires.clock _ (slice_get-get_or c.args.agents.now.items c.args.i c.index_mut.result.now c.requires.there
    ∙ ap Some (sym c.index_mut.ensures.value))

pub returns-clause-made : goal.returns-clause-made
returns-clause-made g c =
    told-among g.B.Body.meaning c.args.i IsAsk (λ a. CanAsk g.B.Body.meaning a.actor.state → ⊥) c.ask.result c.index_mut.result.now c.ask.new.self
    c.index_mut.result.now c.args.agents.now.items c.args.links.now.queues c.ask.new.outlet.queues c.requires.there c.index_mut.ensures.value
    c.ask.ensures.member c.ask.ensures.links c.ask.ensures.made

pub returns-clause-stays : goal.returns-clause-stays
returns-clause-stays g c =
    stays-among c.ask.result c.args.i c.index_mut.result.now c.ask.new.self c.index_mut.result.now c.args.agents.now.items c.args.links.now.queues
    c.ask.new.outlet.queues c.index_mut.ensures.value c.ask.ensures.links c.ask.ensures.stays

pub returns-clause-err : goal.returns-clause-err
returns-clause-err g c =
    refused-among c.ask.result c.args.i c.index_mut.result.now c.ask.new.self c.index_mut.result.now c.args.agents.now.items c.args.links.now.queues
    c.ask.new.outlet.queues c.index_mut.ensures.value c.ask.ensures.links c.ask.ensures.err
