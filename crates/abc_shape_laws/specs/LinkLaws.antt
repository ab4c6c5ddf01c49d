-- Laws of links and their numbers.
use Rattle.std.specs.Prelude.{◌≡◌, ◌↔◌, ◌<◌, ℕ}
use Rattle.abc_shape.specs.declared.layout.Layout.{Layout}
use Rattle.abc_shape.specs.Plans.{IsLayout, IsLink, link_count}

-- A number is that of one link, which has these ends and no others.
abbrev pub NumbersHaveOneLink : Type 0
NumbersHaveOneLink =
    (p : Layout) (number from to from' to' : ℕ) →
    IsLink p number from to → IsLink p number from' to' → (from ≡ from') × (to ≡ to')

-- No two links have the same ends.
abbrev pub EndsHaveOneLink : Type 0
EndsHaveOneLink =
    (p : Layout) (number number' from to : ℕ) →
    IsLink p number from to → IsLink p number' from to → number ≡ number'

-- The numbers that links have are those below the count.
abbrev pub NumbersAreBelow : Type 0
NumbersAreBelow =
    (p : Layout) (number : ℕ) → IsLayout p →
    (number < link_count p) ↔ ((from : ℕ) × (to : ℕ) × IsLink p number from to)
