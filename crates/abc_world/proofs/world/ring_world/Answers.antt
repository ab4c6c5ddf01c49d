use Rattle.abc_world.proofs.world.ring_world.Goals as goal

pub start-requires-clause-laws : goal.start-requires-clause-laws
start-requires-clause-laws g c κs within =
    c.rings_have_laws.ensures c.args.plan.now c.args.limit c.args.pick c.agents-limits.ensures.limits c.requires.shape
