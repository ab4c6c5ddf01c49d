use Rattle.abc_live_body.specs.AbcMeaning.{abc}
use Rattle.abc_network.specs.Shapes.{cluster_rules, ring_rules, tree_rules}
use Rattle.abc_schedule.proofs.ByShape.{cluster-records, ring-records, tree-records}
use Rattle.abc_program_records.proofs.Telling.{tells-the-program}
use Rattle.abc_program_records.proofs.laws.program_records_are_runs.Goals as goal

pub returns : goal.returns
returns c = record {
  clusters = λ agents nodes limit pick layout.
      tells-the-program (cluster_rules agents nodes limit pick) (cluster-records abc agents nodes limit pick layout);
  rings = λ agents nodes limit pick layout.
      tells-the-program (ring_rules agents nodes limit pick) (ring-records abc agents nodes limit pick layout);
  trees = λ agents nodes limit pick layout.
      tells-the-program (tree_rules agents nodes limit pick) (tree-records abc agents nodes limit pick layout);
}
