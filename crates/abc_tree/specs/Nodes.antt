-- A tree's node in code.
use Rattle.std.specs.Prelude.{◌≡◌}
use Rattle.abc_history.specs.Nodes.{SeenNode}

-- It is the same node of the same tree.
pub record SameNode {S L : Type 0} (old new : SeenNode S L) : Type 0 where
  pub number : new.number ≡ old.number
  pub plan : new.plan ≡ old.plan
