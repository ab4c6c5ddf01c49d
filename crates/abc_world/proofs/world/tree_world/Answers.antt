use Rattle.abc_world.proofs.world.tree_world.Goals as goal

pub start-requires-clause-laws : goal.start-requires-clause-laws
start-requires-clause-laws g c κs within =
    c.trees_have_laws.ensures c.args.plan.now c.args.limit c.args.pick c.agents-limits.ensures.limits c.requires.shape
