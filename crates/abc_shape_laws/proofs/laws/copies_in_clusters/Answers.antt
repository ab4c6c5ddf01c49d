use Rattle.abc_shape_laws.proofs.Clusters.{cluster-copies}
use Rattle.abc_shape_laws.proofs.laws.copies_in_clusters.Goals as goal

pub returns : goal.returns
returns c = cluster-copies
