use Rattle.abc_live_body.specs.AbcMeaning.{abc}
use Rattle.abc_network.specs.Shapes.{cluster_rules, ring_rules, tree_rules}
use Rattle.abc_schedule.proofs.ByShape.{cluster-records, ring-records, tree-records}
use Rattle.abc_record_ends.proofs.ByShape.{records-end-right}
use Rattle.abc_record_ends.proofs.Silence.{ends-the-program}
use Rattle.abc_record_ends.proofs.laws.program_records_end_right.Goals as goal

pub returns : goal.returns
returns c =
    let ends = records-end-right abc in
    record {
      clusters = λ agents nodes limit pick layout.
          ends-the-program (cluster_rules agents nodes limit pick) (cluster-records abc agents nodes limit pick layout)
          (ends.clusters agents nodes limit pick layout);
      rings = λ agents nodes limit pick layout.
          ends-the-program (ring_rules agents nodes limit pick) (ring-records abc agents nodes limit pick layout)
          (ends.rings agents nodes limit pick layout);
      trees = λ agents nodes limit pick layout.
          ends-the-program (tree_rules agents nodes limit pick) (tree-records abc agents nodes limit pick layout)
          (ends.trees agents nodes limit pick layout);
    }
