-- Sites, their order, and the first one at which a fact holds.
use Rattle.std.specs.Prelude.{ℕ, ◌<◌, Option, Some, None}
use Rattle.abc_checks.specs.declared.causes.Site.{Site}
use Rattle.abc_checks.specs.declared.causes.Site.TheVariants.{Definition, Component, Whole}

-- Definitions by number come first, then components by number.
abbrev pub ComesBefore : Site → Site → Type 0
ComesBefore (Definition i) (Definition j) = i < j
ComesBefore (Definition i) (Component j) = Unit {0}
ComesBefore (Definition i) Whole = Unit {0}
ComesBefore (Component i) (Definition j) = ⊥
ComesBefore (Component i) (Component j) = i < j
ComesBefore (Component i) Whole = Unit {0}
ComesBefore Whole s = ⊥

-- The site is the first at which a fact holds, or there is none.
module _ (Holds : Site → Type 0) where
  abbrev pub IsFirstSite : Option Site → Type 0
  IsFirstSite None = (s : Site) → ¬ Holds s
  IsFirstSite (Some s) = Holds s × ((t : Site) → ComesBefore t s → ¬ Holds t)

-- A fact of definitions and of components, as a fact of sites.
module _ (definitions components : ℕ) (OfDefinition OfComponent : ℕ → Type 0) where
  abbrev pub AtSite : Site → Type 0
  AtSite (Definition i) = (i < definitions) × OfDefinition i
  AtSite (Component i) = (i < components) × OfComponent i
  AtSite Whole = ⊥

-- The number is the first below a count at which a fact holds, or there is none.
module _ (Holds : ℕ → Type 0) (count : ℕ) where
  abbrev pub IsFirstNumber : Option ℕ → Type 0
  IsFirstNumber None = (k : ℕ) → k < count → ¬ Holds k
  IsFirstNumber (Some i) = (i < count) × Holds i × ((k : ℕ) → k < i → ¬ Holds k)
