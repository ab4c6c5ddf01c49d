use Rattle.std.proofs.Common.{ap, sym, ◌∙◌, Some}
use Rattle.std.proofs.lemmas.Option.{slice_get-get_or}
use Rattle.std.proofs.lemmas.Result.{on_err_weaker}
use Rattle.abc_agent.specs.Members.{IsTake}
use Rattle.abc_world.proofs.Among.{took-among, not-changed}
use Rattle.abc_world.proofs.moving.take.Goals as goal

pub take-requires-clause-can : goal.take-requires-clause-can
take-requires-clause-can g c κs within =
    c.requires.can _ (slice_get-get_or c.args.agents.now.items c.args.i c.index_mut.result.now c.requires.there
    ∙ ap Some (sym c.index_mut.ensures.value))

pub take-requires-clause-clock : goal.take-requires-clause-clock
take-requires-clause-clock g c κs within =
    c.requires.clock _ (slice_get-get_or c.args.agents.now.items c.args.i c.index_mut.result.now c.requires.there
    ∙ ap Some (sym c.index_mut.ensures.value))

pub returns-clause-made : goal.returns-clause-made
returns-clause-made g c =
    took-among g.B.Body.meaning c.args.i IsTake c.take.result c.index_mut.result.now c.take.new.self c.index_mut.result.now c.args.agents.now.items
    c.requires.there c.index_mut.ensures.value c.take.ensures.member c.take.ensures.made

pub returns-clause-err : goal.returns-clause-err
returns-clause-err g c =
    on_err_weaker c.take.result (not-changed c.args.i c.index_mut.result.now c.take.new.self c.index_mut.result.now c.args.agents.now.items
    c.index_mut.ensures.value)
    c.take.ensures.err
