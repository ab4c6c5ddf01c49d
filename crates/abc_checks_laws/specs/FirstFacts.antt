-- Of each program no fact of the checks holds, or a first one does.
use Rattle.std.specs.Prelude.{◌⊎◌, ◌<◌, length}
use Rattle.abc_term.specs.declared.terms.Program.{Program}
use Rattle.abc_cause.specs.declared.CheckCause.{CheckCause}
use Rattle.abc_checks.specs.declared.causes.Site.{Site}
use Rattle.abc_checks.specs.declared.causes.Site.TheVariants.{Definition, Component, Whole}
use Rattle.abc_checks.specs.Facts.{HasFact, IsChecked, IsFirstFact}

-- The program has a first fact: that of the first cause in order that applies, at the first site at which it does.
abbrev pub IsBad : Program → Type 0
IsBad p = (c : CheckCause) × (s : Site) × IsFirstFact p c s

-- Each program is checked or bad, however many definitions and components it has,
abbrev pub EachIsCheckedOrBad : Type 0
EachIsCheckedOrBad = (p : Program) → IsChecked p ⊎ IsBad p

-- and none is both.
abbrev pub NoneIsBoth : Type 0
NoneIsBoth = (p : Program) → IsChecked p → ¬ IsBad p

-- The site is a definition or a component that the program has, or the whole program.
abbrev pub IsSiteOf : Program → Site → Type 0
IsSiteOf p (Definition i) = i < length p.definitions
IsSiteOf p (Component i) = i < length p.components
IsSiteOf p Whole = Unit {0}

-- A fact holds only at a site of its program.
abbrev pub FactsHoldAtSites : Type 0
FactsHoldAtSites = (p : Program) (c : CheckCause) (s : Site) → HasFact c p s → IsSiteOf p s
