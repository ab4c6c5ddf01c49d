-- The links on which an actor sends.
use Rattle.std.specs.Prelude.{ℕ, List, [], ◌∷◌}
use Rattle.abc_packet.specs.declared.stamped.Stamped.{Stamped}
use Rattle.abc_shape.specs.declared.layout.Layout.{Layout}
use Rattle.abc_shape.specs.Plans.{IsLink}

-- This set of links has each link that leads from an actor.
abbrev pub HasLinksFrom : Layout → ℕ → (ℕ → Type 0) → Type 0
HasLinksFrom p actor has = (link to : ℕ) → IsLink p link actor to → has link

-- Each of these packets is to be sent on a link of this set.
abbrev pub AreOnLinks : {L : Type 0} → (ℕ → Type 0) → List (ℕ × Stamped L) → Type 0
AreOnLinks has [] = Unit {0}
AreOnLinks has (s ∷ sends) = has s.0 × AreOnLinks has sends
