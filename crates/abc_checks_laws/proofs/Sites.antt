-- The first site at which a fact holds, over any facts of definitions and components, or of the whole program, that can
-- be decided; and that such facts hold only at sites of the program.
use Rattle.std.proofs.Common.{◌<◌, ℕ, Option, Some, None, length}
use Rattle.abc_term.specs.declared.terms.Program.{Program}
use Rattle.abc_checks.specs.Sites.{ComesBefore, IsFirstSite, AtSite, IsFirstNumber}
use Rattle.abc_checks.specs.Facts.{AtWhole}
use Rattle.abc_checks.specs.declared.causes.Site.{Site}
use Rattle.abc_checks.specs.declared.causes.Site.TheVariants.{Definition, Component, Whole}
use Rattle.abc_checks_laws.specs.FirstFacts.{IsSiteOf}
use Rattle.abc_checks_laws.proofs.Deciding.{first_number}

abbrev pub FirstSite : (Site → Type 0) → Type 0
FirstSite Holds = (o : Option Site) × IsFirstSite Holds o

-- whether a fact holds at any site
pub somewhere : (Holds : Site → Type 0) (o : Option Site) → IsFirstSite Holds o → Dec ((s : Site) × Holds s)
somewhere Holds (Some s) first = yes (s, first.0)
somewhere Holds None none = no (λ h. none h.0 h.1)

-- ---- Facts of definitions and components

module _ (definitions components : ℕ) (OfDefinition OfComponent : ℕ → Type 0) where
  abbrev Holds : Site → Type 0
  Holds s = AtSite definitions components OfDefinition OfComponent s

  before_definition : (i : ℕ) → ((k : ℕ) → k < i → ¬ OfDefinition k)
      → (t : Site) → ComesBefore t (Definition i) → ¬ Holds t
  before_definition i none (Definition k) lt h = none k lt h.1
  before_definition i none (Component k) lt h = lt
  before_definition i none Whole lt h = lt

  module _ (none : (k : ℕ) → k < definitions → ¬ OfDefinition k) where
    before_component : (i : ℕ) → ((k : ℕ) → k < i → ¬ OfComponent k)
        → (t : Site) → ComesBefore t (Component i) → ¬ Holds t
    before_component i too (Definition k) lt h = none k h.0 h.1
    before_component i too (Component k) lt h = too k lt h.1
    before_component i too Whole lt h = lt

    nowhere : ((k : ℕ) → k < components → ¬ OfComponent k) → (t : Site) → ¬ Holds t
    nowhere too (Definition k) h = none k h.0 h.1
    nowhere too (Component k) h = too k h.0 h.1
    nowhere too Whole h = h

  of_numbers : (o q : Option ℕ) → IsFirstNumber OfDefinition definitions o → IsFirstNumber OfComponent components q
      → FirstSite Holds
  of_numbers (Some i) q d c = (Some (Definition i), ((d.0, d.1), before_definition i d.2))
  of_numbers None (Some i) d c = (Some (Component i), ((c.0, c.1), before_component d i c.2))
  of_numbers None None d c = (None, nowhere d c)

  pub first_site : ((i : ℕ) → Dec (OfDefinition i)) → ((i : ℕ) → Dec (OfComponent i)) → FirstSite Holds
  first_site d c =
      let first = first_number OfDefinition d definitions in
      let other = first_number OfComponent c components in
      of_numbers first.0 other.0 first.1 other.1

pub inside : (p : Program) (OfDefinition OfComponent : ℕ → Type 0) (s : Site)
    → AtSite (length p.definitions) (length p.components) OfDefinition OfComponent s → IsSiteOf p s
inside p OfDefinition OfComponent (Definition i) h = h.0
inside p OfDefinition OfComponent (Component i) h = h.0
inside p OfDefinition OfComponent Whole h = tt

-- ---- Facts of the whole program

module _ (Holds : Type 0) where
  not_before_whole : (t : Site) → ComesBefore t Whole → ¬ AtWhole Holds t
  not_before_whole (Definition i) lt h = h
  not_before_whole (Component i) lt h = h
  not_before_whole Whole lt h = lt

  not_whole : ¬ Holds → (t : Site) → ¬ AtWhole Holds t
  not_whole none (Definition i) h = h
  not_whole none (Component i) h = h
  not_whole none Whole h = none h

  pub first_whole : Dec Holds → FirstSite (AtWhole Holds)
  first_whole (yes h) = (Some Whole, (h, not_before_whole))
  first_whole (no h) = (None, not_whole h)

  pub inside_whole : (p : Program) (s : Site) → AtWhole Holds s → IsSiteOf p s
  inside_whole p (Definition i) h = absurd h
  inside_whole p (Component i) h = absurd h
  inside_whole p Whole h = tt
