use Rattle.abc_checks.proofs.Cycling.{unguarded_bad, parallel_bad}
use Rattle.abc_checks.proofs.cycles.Leveled.is_bad.Goals as goal

pub returns-in-Unguarded : goal.returns-in-Unguarded
returns-in-Unguarded c =
    unguarded_bad c.args.self.now.places.now.program.now.definitions c.args.definition.now c.cycles.result c.args.self.now.counted
    c.in-Unguarded.is c.cycles.ensures

pub returns-else-not-holds_par : goal.returns-else-not-holds_par
returns-else-not-holds_par c =
    parallel_bad c.args.self.now.places.now.program.now.definitions c.args.definition.now c.cycles-in-All.result c.args.self.now.counted
    c.in-All.is c.if-not-holds_par.ensures c.cycles-in-All.ensures
