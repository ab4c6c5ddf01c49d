-- The names of a traceable program's components are NAMEs, and have different words.
use Rattle.std.proofs.Common.{◌≡◌, ◌≢◌, ◌<◌, ◌∙◌, ℕ, zero, suc, Bool, true, false, List, [], ◌∷◌, length, map, take, slice_get, Option, Some, IsTrue, refl, sym, ap, subst, arith}
use Rattle.std.specs.Prelude.{◌||◌, IsSomeAnd}
use Rattle.std.proofs.lemmas.Bool.{eq-eqb}
use Rattle.std.proofs.lemmas.List.Elements.{All-map}
use Rattle.abc_pred.specs.declared.names.Name.{Name}
use Rattle.abc_pred.specs.Maps.{same_name, lists}
use Rattle.abc_term.specs.declared.terms.Component.{Component}
use Rattle.abc_term.specs.declared.terms.Program.{Program}
use Rattle.abc_term.specs.Standing.{process_of}
use Rattle.abc_cause.specs.declared.CheckCause.TheVariants as cause
use Rattle.abc_checks.specs.declared.causes.Site.TheVariants as site
use Rattle.abc_checks.specs.Parts.{repeats, repeats_variable}
use Rattle.abc_checks.specs.Facts.{component_doubles, IsChecked}
use Rattle.abc_traceable.proofs.Different.{AreApart}
use Rattle.abc_traceable.proofs.Running.{all_from}

-- ---- a name that stands twice
-- A name among the first items of a list is listed.
listed_before : (Cs : List Component) (i j : ℕ) (C : Component) (n : Name) → i < j →
    slice_get Cs i ≡ Some C → C.name.0 ≡ n.0 →
    lists (map (λ D. D.name) (take j Cs)) n ≡ true
listed_before [] i j C n lt at e = cc
listed_before (D ∷ Cs) i zero C n lt at e = absurd (omega (arith, lt))
listed_before (D ∷ Cs) zero (suc j) C n lt at e =
    let same : D ≡ C = cc in
    ap (λ (b : Bool). b || lists (map (λ D. D.name) (take j Cs)) n)
    (eq-eqb D.name.0 n.0 (ap (λ (X : Component). X.name.0) same ∙ e))
listed_before (D ∷ Cs) (suc i) (suc j) C n lt at e =
    by (same_name D.name n) (listed_before Cs i j C n (omega (arith, lt)) at e)
  where
    by : (b : Bool) → lists (map (λ D. D.name) (take j Cs)) n ≡ true →
        (b || lists (map (λ D. D.name) (take j Cs)) n) ≡ true
    by true more = refl
    by false more = more

-- What stands at a place stands at one that there is.
place_below : {A : Type 0} (xs : List A) (i : ℕ) (x : A) → slice_get xs i ≡ Some x → i < length xs
place_below [] i x at = cc
place_below (y ∷ xs) zero x at = omega arith
place_below (y ∷ xs) (suc i) x at = let more = place_below xs i x at in omega (arith, more)

-- So no component of a checked program has the name of one before it.
names_differ : (p : Program) → IsChecked p → (i j : ℕ) (C D : Component) → i < j →
    slice_get p.components i ≡ Some C → slice_get p.components j ≡ Some D → C.name.0 ≢ D.name.0
names_differ p checked i j C D lt at at' e =
    let twice : component_doubles (take j p.components) D ≡ true =
    ap (λ (b : Bool). b || repeats (map (λ a. a.0) D.initial) || repeats D.show || repeats_variable
    (process_of D.run))
    (listed_before p.components i j C D.name lt at e) in
    checked cause.DoubleName (site.Component j) (
      place_below p.components j D at',
      subst
          (λ (o : Option Component). IsSomeAnd o
          (λ x. IsTrue (component_doubles (take j p.components) x))) (sym at') twice,
    )

-- Items whose names differ by places have names that are apart.
apart_from : (Cs : List Component) →
    ((i j : ℕ) (C D : Component) → i < j → slice_get Cs i ≡ Some C → slice_get Cs j ≡ Some D →
    C.name.0 ≢ D.name.0) →
    AreApart (map (λ C. C.name) Cs)
apart_from [] h = tt
apart_from (C ∷ Cs) h = (
  All-map (λ m. m.0 ≢ C.name.0) (λ D. D.name) Cs
      (all_from (λ D. D.name.0 ≢ C.name.0) Cs
      (λ j D at e. h 0 (suc j) C D (omega arith) refl at (sym e))),
  apart_from Cs (λ i j D E lt at at'. h (suc i) (suc j) D E (omega (arith, lt)) at at'),
)

pub components_apart : (p : Program) → IsChecked p → AreApart (map (λ C. C.name) p.components)
components_apart p checked = apart_from p.components (names_differ p checked)
