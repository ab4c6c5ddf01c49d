use Rattle.std.proofs.Common.{ap, sym, ◌∙◌, Some}
use Rattle.std.proofs.lemmas.Option.{slice_get-get_or}
use Rattle.std.proofs.lemmas.Result.{on_err_weaker}
use Rattle.abc_world.proofs.Among.{came-among, not-changed}
use Rattle.abc_world.proofs.moving.arrive.Goals as goal

pub arrive-requires-clause-clock : goal.arrive-requires-clause-clock
arrive-requires-clause-clock g c κs within =
    c.requires.clock _ (slice_get-get_or c.args.agents.now.items c.args.i c.index_mut.result.now c.requires.there
    ∙ ap Some (sym c.index_mut.ensures.value))

pub returns-clause-made : goal.returns-clause-made
returns-clause-made g c =
    came-among g.B.Body.meaning c.args.i c.args.link c.args.stamped c.arrive.result c.index_mut.result.now c.arrive.new.self
    c.index_mut.result.now c.args.agents.now.items c.requires.there c.index_mut.ensures.value c.arrive.ensures.member c.arrive.ensures.made

pub returns-clause-err : goal.returns-clause-err
returns-clause-err g c =
    on_err_weaker c.arrive.result (not-changed c.args.i c.index_mut.result.now c.arrive.new.self c.index_mut.result.now
    c.args.agents.now.items c.index_mut.ensures.value)
    c.arrive.ensures.err
