-- The links that end at an actor.
use Rattle.std.specs.Prelude.{◌≡◌, ℕ, zero, suc, ◌+◌, ◌<◌, ◌==◌, List, [], ◌∷◌, ◌++◌, length}
use Rattle.std.specs.Prelude.{slice_index_or, if◌then◌else◌}
use Rattle.abc_shape.specs.declared.layout.Layout.{Layout}
use Rattle.abc_shape.specs.declared.layout.LinkEnds.{LinkEnds}
use Rattle.abc_shape.specs.Plans.{ListsLinks}

-- Where a link ends, by the list of all links' ends.
abbrev pub end_of : List LinkEnds → ℕ → ℕ
end_of ends link = (slice_index_or ends link (record { from = 0; to = 0 })).to

-- Of the first links, so many, those that end at an actor, in order.
abbrev pub links_into : List LinkEnds → ℕ → ℕ → List ℕ
links_into ends actor zero = []
links_into ends actor (suc link) =
    if end_of ends link == actor then links_into ends actor link ++ link ∷ []
    else links_into ends actor link

-- For each actor of a plan, the links that end at it.
pub record AreInLinks (p : Layout) (lists : List (List ℕ)) : Type 0 where
  pub ends : List LinkEnds
  pub are : ListsLinks p ends
  pub many : length lists ≡ p.agents + p.nodes
  pub each : (actor : ℕ) → actor < p.agents + p.nodes →
      slice_index_or lists actor [] ≡ links_into ends actor (length ends)
