-- The facts that a checked program is free of.
use Rattle.std.specs.Prelude.{◌≡◌, ◌<◌, ℕ, ◌||◌, Bool, not, IsTrue, List, [], length, map, take, slice_get, IsSomeAnd}
use Rattle.std.specs.List.{list_any}
use Rattle.abc_pred.specs.Maps.{lists}
use Rattle.abc_term.specs.declared.terms.Definition.{Definition}
use Rattle.abc_term.specs.declared.terms.Component.{Component}
use Rattle.abc_term.specs.declared.terms.Program.{Program}
use Rattle.abc_term.specs.Processes.{Process, Definitions}
use Rattle.abc_term.specs.Standing.{process_of, definitions_of}
use Rattle.abc_term.specs.Guarded.{defines}
use Rattle.abc_term.specs.Calls.{calls, unguarded_calls, Reaches}
use Rattle.abc_checks.specs.Parts.{repeats, repeats_variable, holds_par}
use Rattle.abc_checks.specs.Variables.{process_open}
use Rattle.abc_checks.specs.Sites.{AtSite, ComesBefore}
use Rattle.abc_checks.specs.Measures.{IsTooWide, HasTooManyMoves}
use Rattle.abc_checks.specs.declared.limits.TheConstants.{MOST_COMPONENTS}
use Rattle.abc_cause.specs.declared.CheckCause.{CheckCause}
use Rattle.abc_cause.specs.declared.CheckCause.TheVariants as cause
use Rattle.abc_checks.specs.declared.causes.CheckRefusal.{CheckRefusal}
use Rattle.abc_checks.specs.declared.causes.CheckRefusal.TheVariants as refusal
use Rattle.abc_checks.specs.declared.causes.CheckRefusal.TheVariants.{Bad}
use Rattle.abc_checks.specs.declared.causes.Site.TheVariants.{Whole}
use Rattle.abc_checks.specs.declared.causes.Site.{Site}

-- A fact of the item at a number.
abbrev pub Has : {A : Type 0} → (A → Bool) → List A → ℕ → Type 0
Has has xs i = IsSomeAnd (slice_get xs i) (λ x. IsTrue (has x))

-- ---- DoubleName: the definition has the name of an earlier one, or an input of its body lists a variable twice. The component has the name of an earlier one, or an attribute twice in its initial list, or twice in its show list, or such an input.
abbrev pub definition_doubles : List Definition → Definition → Bool
definition_doubles earlier d = lists (map (λ e. e.name) earlier) d.name || repeats_variable (process_of d.body)

abbrev pub component_doubles : List Component → Component → Bool
component_doubles earlier C =
    lists (map (λ D. D.name) earlier) C.name || repeats (map (λ a. a.0) C.initial) || repeats C.show || repeats_variable (process_of C.run)

abbrev pub DoubleName : Program → Site → Type 0
DoubleName p =
    AtSite (length p.definitions) (length p.components)
    (λ i. Has (definition_doubles (take i p.definitions)) p.definitions i)
    (λ i. Has (component_doubles (take i p.components)) p.components i)

-- ---- UnknownName: a call of a name that no definition has.
abbrev pub calls_unknown : Definitions → Process → Bool
calls_unknown defs P = list_any (λ c. not (defines defs c)) (calls P)

abbrev pub UnknownName : Program → Site → Type 0
UnknownName p =
    AtSite (length p.definitions) (length p.components)
    (Has (λ d. calls_unknown (definitions_of p.definitions) (process_of d.body)) p.definitions)
    (Has (λ C. calls_unknown (definitions_of p.definitions) (process_of C.run)) p.components)

-- ---- OpenVariable: a variable that no enclosing input of the same definition or component binds.
abbrev pub OpenVariable : Program → Site → Type 0
OpenVariable p =
    AtSite (length p.definitions) (length p.components)
    (Has (λ d. process_open [] (process_of d.body)) p.definitions)
    (Has (λ C. process_open [] (process_of C.run)) p.components)

-- ---- Unguarded: the definition reaches itself by one or more unguarded calls.
abbrev pub Unguarded : Program → Site → Type 0
Unguarded p =
    AtSite (length p.definitions) (length p.components)
    (λ i. IsSomeAnd (slice_get p.definitions i) (λ d. Reaches unguarded_calls (definitions_of p.definitions) d.name d.name))
    (λ i. ⊥)

-- ---- ParallelCycle: the definition reaches itself by calls, and its body holds `|` anywhere.
abbrev pub ParallelCycle : Program → Site → Type 0
ParallelCycle p =
    AtSite (length p.definitions) (length p.components)
    (λ i. IsSomeAnd (slice_get p.definitions i)
    (λ d. IsTrue (holds_par (process_of d.body)) × Reaches calls (definitions_of p.definitions) d.name d.name))
    (λ i. ⊥)

-- ---- TooWide: the component's process has a width above 64.
abbrev pub TooWide : Program → Site → Type 0
TooWide p =
    AtSite (length p.definitions) (length p.components)
    (λ i. ⊥)
    (λ i. IsSomeAnd (slice_get p.components i) (λ C. IsTooWide (definitions_of p.definitions) (process_of C.run)))

-- ---- TooManyMoves: a process of the definition or component, the whole or a part, has a breadth above 2,048.
abbrev pub TooManyMoves : Program → Site → Type 0
TooManyMoves p =
    AtSite (length p.definitions) (length p.components)
    (λ i. IsSomeAnd (slice_get p.definitions i) (λ d. HasTooManyMoves (definitions_of p.definitions) (process_of d.body)))
    (λ i. IsSomeAnd (slice_get p.components i) (λ C. HasTooManyMoves (definitions_of p.definitions) (process_of C.run)))

-- ---- Facts of the whole program.
abbrev pub AtWhole : Type 0 → Site → Type 0
AtWhole Holds Whole = Holds
AtWhole Holds _ = ⊥

abbrev pub NoComponent : Program → Site → Type 0
NoComponent p = AtWhole (length p.components ≡ 0)

abbrev pub TooManyComponents : Program → Site → Type 0
TooManyComponents p = AtWhole (MOST_COMPONENTS < length p.components)

-- The fact of a cause.
abbrev pub HasFact : CheckCause → Program → Site → Type 0
HasFact cause.DoubleName = DoubleName
HasFact cause.UnknownName = UnknownName
HasFact cause.OpenVariable = OpenVariable
HasFact cause.Unguarded = Unguarded
HasFact cause.ParallelCycle = ParallelCycle
HasFact cause.TooWide = TooWide
HasFact cause.TooManyMoves = TooManyMoves
HasFact cause.NoComponent = NoComponent
HasFact cause.TooManyComponents = TooManyComponents

-- The order in which causes are taken.
abbrev pub rank : CheckCause → ℕ
rank cause.DoubleName = 0
rank cause.UnknownName = 1
rank cause.OpenVariable = 2
rank cause.Unguarded = 3
rank cause.ParallelCycle = 4
rank cause.TooWide = 5
rank cause.TooManyMoves = 6
rank cause.NoComponent = 7
rank cause.TooManyComponents = 8

-- No fact holds of the program anywhere.
abbrev pub IsChecked : Program → Type 0
IsChecked p = (c : CheckCause) (s : Site) → ¬ HasFact c p s

-- The fact of a cause holds at a site, none of an earlier cause holds anywhere, and this one nowhere before the site.
pub record IsFirstFact (p : Program) (c : CheckCause) (s : Site) : Type 0 where
  pub holds : HasFact c p s
  pub first_cause : (d : CheckCause) → rank d < rank c → (t : Site) → ¬ HasFact d p t
  pub first_site : (t : Site) → ComesBefore t s → ¬ HasFact c p t

-- What a refusal says: the first fact, or only that there was no memory.
abbrev pub IsRefusal : Program → CheckRefusal → Type 0
IsRefusal p (Bad c s) = IsFirstFact p c s
IsRefusal p refusal.NoMemory = Unit {0}
