use Rattle.abc_checks.proofs.Solving.{solved}
use Rattle.abc_checks.proofs.measures.table.Goals as goal

pub returns : goal.returns
returns c =
    solved c.args.measure c.args.places.now.program.now.definitions c.raise_all.new.table.items c.raise_all.ensures.rising
    (c.raise_all.ensures.settled c.loop-measure-test.false)
