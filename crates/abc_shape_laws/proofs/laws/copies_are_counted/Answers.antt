use Rattle.abc_shape_laws.proofs.Counts.{tree-counts}
use Rattle.abc_shape_laws.proofs.Sent.{tree-sends}
use Rattle.abc_shape_laws.proofs.laws.copies_are_counted.Goals as goal

pub returns : goal.returns
returns c = record { sends = tree-sends; flow = tree-counts }
