-- Each cause has a first site in a program or none, and so the program has a first fact or none. It is decided site by
-- site: the tests of names and variables compute, the ways of calls are by finitely many names, and a width or a breadth
-- is that under the least solution, which exists.
use Rattle.std.proofs.Common.{◌≡◌, ◌<◌, ◌⊎◌, ℕ, IsTrue, List, [], ◌∷◌, All, length, take, slice_get, Option, Some, None, refl, subst, inl, inr, le_antisymm, lit<}
use Rattle.std.proofs.Math.Decide.{dec_lt, ℕ_discrete}
use Rattle.abc_pred.specs.declared.names.Name.{Name}
use Rattle.abc_term.specs.declared.terms.Program.{Program}
use Rattle.abc_term.specs.Processes.{Process, Definitions}
use Rattle.abc_term.specs.Standing.{process_of, definitions_of}
use Rattle.abc_term.specs.Calls.{calls, unguarded_calls}
use Rattle.abc_checks.specs.Parts.{holds_par}
use Rattle.abc_checks.specs.Variables.{process_open}
use Rattle.abc_checks.specs.Measures.{width_of, breadth_of, has_broad_part, IsLeastSolution, IsTooWide, HasTooManyMoves}
use Rattle.abc_checks.specs.Sites.{IsFirstSite}
use Rattle.abc_checks.specs.Facts.{definition_doubles, component_doubles, calls_unknown, HasFact, rank, IsChecked}
use Rattle.abc_checks.specs.declared.limits.TheConstants.{WIDEST, MOST_COMPONENTS}
use Rattle.abc_checks.specs.declared.causes.Site.{Site}
use Rattle.abc_cause.specs.declared.CheckCause.{CheckCause}
use Rattle.abc_cause.specs.declared.CheckCause.TheVariants.{DoubleName, UnknownName, OpenVariable, Unguarded, ParallelCycle, TooWide, TooManyMoves, NoComponent, TooManyComponents}
use Rattle.abc_sound.proofs.Existing.{least_widths_exist, least_breadths_exist}
use Rattle.abc_checks_laws.specs.FirstFacts.{IsBad, EachIsCheckedOrBad, NoneIsBoth, FactsHoldAtSites}
use Rattle.abc_checks_laws.proofs.Deciding.{both, never, true_or_not, in_option, has_or_not, FirstByRank, first_by_rank}
use Rattle.abc_checks_laws.proofs.Sites.{FirstSite, first_site, first_whole, somewhere, inside, inside_whole}
use Rattle.abc_checks_laws.proofs.Reaching.{reaches_or_not}

-- what can be decided of any numbers can be of the least solution, since there is one
of_least : (measure : (Name → ℕ) → Process → ℕ) (defs : Definitions) (Q : (Name → ℕ) → Type 0)
    → ((v : Name → ℕ) → Dec (Q v)) → (w : Name → ℕ) → IsLeastSolution measure defs w
    → Dec ((v : Name → ℕ) × IsLeastSolution measure defs v × Q v)
of_least measure defs Q decide w least =
    elim (decide w) [
      | yes q ↦ yes (w, least, q)
      | no n ↦ no (λ t.
          let same : t.0 ≡ w = λ i c. le_antisymm (t.1.least w least.solution c) (least.least t.0 t.1.solution c) i in
          n (subst Q same t.2))
    ]

module _ (p : Program) where
  abbrev defs : Definitions
  defs = definitions_of p.definitions

  too_wide_or_not : (P : Process) → Dec (IsTooWide defs P)
  too_wide_or_not P =
      let least = least_widths_exist p.definitions in
      of_least width_of defs (λ v. WIDEST < width_of v P) (λ v. dec_lt WIDEST (width_of v P)) least.0 least.1

  too_many_or_not : (P : Process) → Dec (HasTooManyMoves defs P)
  too_many_or_not P =
      let least = least_breadths_exist p.definitions in
      of_least breadth_of defs (λ v. IsTrue (has_broad_part v P)) (λ v. true_or_not (has_broad_part v P)) least.0
      least.1

  first_of : (c : CheckCause) → FirstSite (HasFact c p)
  first_of DoubleName =
      first_site _ _ _ _
      (λ i. has_or_not (definition_doubles (take i p.definitions)) p.definitions i)
      (λ i. has_or_not (component_doubles (take i p.components)) p.components i)
  first_of UnknownName =
      first_site _ _ _ _
      (has_or_not (λ d. calls_unknown defs (process_of d.body)) p.definitions)
      (has_or_not (λ C. calls_unknown defs (process_of C.run)) p.components)
  first_of OpenVariable =
      first_site _ _ _ _
      (has_or_not (λ d. process_open [] (process_of d.body)) p.definitions)
      (has_or_not (λ C. process_open [] (process_of C.run)) p.components)
  first_of Unguarded =
      first_site _ _ _ _
      (λ i. in_option _ (λ d. reaches_or_not unguarded_calls refl defs d.name d.name) (slice_get p.definitions i))
      (λ i. never)
  first_of ParallelCycle =
      first_site _ _ _ _
      (λ i. in_option _
      (λ d. both (true_or_not (holds_par (process_of d.body))) (reaches_or_not calls refl defs d.name d.name))
      (slice_get p.definitions i))
      (λ i. never)
  first_of TooWide =
      first_site _ _ _ _
      (λ i. never)
      (λ i. in_option _ (λ C. too_wide_or_not (process_of C.run)) (slice_get p.components i))
  first_of TooManyMoves =
      first_site _ _ _ _
      (λ i. in_option _ (λ d. too_many_or_not (process_of d.body)) (slice_get p.definitions i))
      (λ i. in_option _ (λ C. too_many_or_not (process_of C.run)) (slice_get p.components i))
  first_of NoComponent = first_whole _ (ℕ_discrete (length p.components) 0)
  first_of TooManyComponents = first_whole _ (dec_lt MOST_COMPONENTS (length p.components))

  -- ---- The first cause

  abbrev Applies : CheckCause → Type 0
  Applies c = (s : Site) × HasFact c p s

  applies_or_not : (c : CheckCause) → Dec (Applies c)
  applies_or_not c = let first = first_of c in somewhere (HasFact c p) first.0 first.1

  at_first : (c : CheckCause) (o : Option Site) → IsFirstSite (HasFact c p) o → Applies c
      → ((d : CheckCause) → rank d < rank c → ¬ Applies d) → IsBad p
  at_first c (Some s) first here none = (
    c,
    s,
    record {
      holds = first.0;
      first_cause = λ d lt t h. none d lt (t, h);
      first_site = first.1;
    },
  )
  at_first c None nowhere here none = absurd (nowhere here.0 here.1)

abbrev causes : List CheckCause
causes =
    DoubleName ∷ UnknownName ∷ OpenVariable ∷ Unguarded ∷ ParallelCycle ∷ TooWide ∷ TooManyMoves ∷ NoComponent
    ∷ TooManyComponents ∷ []

each_cause : (P : CheckCause → Type 0) → All P causes → (c : CheckCause) → P c
each_cause P h DoubleName = h 0 DoubleName (lit< tt)
each_cause P h UnknownName = h 1 DoubleName (lit< tt)
each_cause P h OpenVariable = h 2 DoubleName (lit< tt)
each_cause P h Unguarded = h 3 DoubleName (lit< tt)
each_cause P h ParallelCycle = h 4 DoubleName (lit< tt)
each_cause P h TooWide = h 5 DoubleName (lit< tt)
each_cause P h TooManyMoves = h 6 DoubleName (lit< tt)
each_cause P h NoComponent = h 7 DoubleName (lit< tt)
each_cause P h TooManyComponents = h 8 DoubleName (lit< tt)

checked_or_bad : (p : Program) → FirstByRank rank (Applies p) causes → IsChecked p ⊎ IsBad p
checked_or_bad p (inl none) = inl (λ c s h. each_cause (λ d. ¬ Applies p d) none c (s, h))
checked_or_bad p (inr found) =
    let c : CheckCause = found.0 in
    let first = first_of p c in
    inr (at_first p c first.0 first.1 found.1 (each_cause (λ d. rank d < rank c → ¬ Applies p d) found.2))

pub each_is_checked_or_bad : EachIsCheckedOrBad
each_is_checked_or_bad p = checked_or_bad p (first_by_rank rank (Applies p) (applies_or_not p) causes)

pub none_is_both : NoneIsBoth
none_is_both p checked bad = checked bad.0 bad.1 bad.2.holds

pub facts_hold_at_sites : FactsHoldAtSites
facts_hold_at_sites p DoubleName s h = inside p _ _ s h
facts_hold_at_sites p UnknownName s h = inside p _ _ s h
facts_hold_at_sites p OpenVariable s h = inside p _ _ s h
facts_hold_at_sites p Unguarded s h = inside p _ _ s h
facts_hold_at_sites p ParallelCycle s h = inside p _ _ s h
facts_hold_at_sites p TooWide s h = inside p _ _ s h
facts_hold_at_sites p TooManyMoves s h = inside p _ _ s h
facts_hold_at_sites p NoComponent s h = inside_whole _ p s h
facts_hold_at_sites p TooManyComponents s h = inside_whole _ p s h
