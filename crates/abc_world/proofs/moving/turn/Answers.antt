use Rattle.std.proofs.Common.{ap, sym, ◌∙◌, Some}
use Rattle.std.proofs.lemmas.Option.{slice_get-get_or}
use Rattle.abc_agent.specs.Members.{IsTurn}
use Rattle.abc_world.proofs.Among.{turned-among, refused-among}
use Rattle.abc_world.proofs.moving.turn.Goals as goal

pub turn-requires-clause-can : goal.turn-requires-clause-can
turn-requires-clause-can g c κs within =
    c.requires.can _ (slice_get-get_or c.args.agents.now.items c.args.i c.index_mut.result.now c.requires.there
    ∙ ap Some (sym c.index_mut.ensures.value))

pub turn-requires-clause-links : goal.turn-requires-clause-links
turn-requires-clause-links g c κs within =
    c.requires.links _ (slice_get-get_or c.args.agents.now.items c.args.i c.index_mut.result.now c.requires.there
    ∙ ap Some (sym c.index_mut.ensures.value))

pub turn-requires-clause-clock : goal.turn-requires-clause-clock
turn-requires-clause-clock g c κs within =
    c.requires.clock _ (slice_get-get_or c.args.agents.now.items c.args.i c.index_mut.result.now c.requires.there
    ∙ ap Some (sym c.index_mut.ensures.value))

pub returns-clause-made : goal.returns-clause-made
returns-clause-made g c =
    turned-among g.B.Body.meaning c.args.i IsTurn c.turn.result c.index_mut.result.now c.turn.new.self c.index_mut.result.now c.args.agents.now.items
    c.args.links.now.queues c.turn.new.outlet.queues c.requires.there c.index_mut.ensures.value c.turn.ensures.member c.turn.ensures.links
    c.turn.ensures.made

pub returns-clause-err : goal.returns-clause-err
returns-clause-err g c =
    refused-among c.turn.result c.args.i c.index_mut.result.now c.turn.new.self c.index_mut.result.now c.args.agents.now.items
    c.args.links.now.queues c.turn.new.outlet.queues c.index_mut.ensures.value c.turn.ensures.links c.turn.ensures.err
