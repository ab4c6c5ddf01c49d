use Rattle.abc_io.proofs.SoFar.{drop-split}
use Rattle.abc_io.proofs.memory.MemorySourceSource.read.Goals as goal

pub returns-clause-moved : goal.returns-clause-moved
returns-clause-moved c =
    let split = drop-split c.self.inside.at c.copy_front-n.result c.self.inside.bytes in
    rw (c.copy_front-n.ensures.copied, c.as_slice.ensures, ← c.self.view_is) split
