-- Which network a record is of.
use Rattle.std.specs.Prelude.{◌≡◌, ℕ}
use Rattle.abc_shape.specs.declared.shape.Shape.{Shape}
use Rattle.abc_net.specs.declared.record.Record.{Record}

-- The record is of a network of this shape, with so many agents and some nodes, whose numbers go up
-- to `most` and whose turns begin at `first`.
pub record IsOfNetwork {L : Type 0} (of : Shape) (many some most first : ℕ) (ran : Record L) :
    Type 0 where
  pub shape : ran.shape ≡ of
  pub agents : ran.agents ≡ many
  pub nodes : ran.nodes ≡ some
  pub limit : ran.limit ≡ most
  pub pick : ran.pick ≡ first
