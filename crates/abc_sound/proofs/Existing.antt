-- The equations of width and breadth have a least solution: a table is raised until no number is below what is asked for.
use Rattle.std.proofs.Common.{◌≡◌, ◌≢◌, ◌⊎◌, ◌≤◌, ◌<◌, ℕ, zero, suc, List, length, get_or, set, refl, sym, subst, inl, inr, arith, replicate}
use Rattle.abc_pred.specs.declared.names.Name.{Name}
use Rattle.abc_term.specs.declared.terms.Definition.{Definition}
use Rattle.abc_term.specs.Processes.{Nil}
use Rattle.abc_term.specs.Standing.{definitions_of}
use Rattle.abc_checks.specs.Measures.{IsLeastSolution}
use Rattle.abc_checks.specs.Tables.{measure_of, cap_of, number_of, bodies, room, IsRising, IsSettledAt}
use Rattle.abc_checks.specs.declared.measures.Measure.{Measure}
use Rattle.abc_checks.specs.declared.measures.Measure.TheVariants.{Width, Breadth}
use Rattle.abc_checks.proofs.Solving.{rising_from, rising_on, room_falls, solved}
use Rattle.abc_sound.specs.SoundLaws.{LeastWidthsExist, LeastBreadthsExist}

equal_or_not : (i j : ℕ) → (i ≡ j) ⊎ (i ≢ j)
equal_or_not i j = grind arith

pub below_or_not : (i j : ℕ) → (i < j) ⊎ (j ≤ i)
below_or_not i j = grind arith

module _ (m : Measure) (ds : List Definition) where
  abbrev asked : List ℕ → ℕ → ℕ
  asked t at = measure_of m (number_of ds t) (get_or (bodies ds) at Nil)

  abbrev AllSettled : List ℕ → ℕ → Type 0
  AllSettled t n = (i : ℕ) → i < n → IsSettledAt (measure_of m) ds t i

  abbrev SomeUnsettled : List ℕ → ℕ → Type 0
  SomeUnsettled t n = (at : ℕ) × (at < n) × (get_or t at 1 < asked t at)

  one_more : (t : List ℕ) (n : ℕ) → AllSettled t n → IsSettledAt (measure_of m) ds t n → AllSettled t (suc n)
  one_more t n all here i lt =
      elim (equal_or_not i n) [
        | inl e ↦ subst (IsSettledAt (measure_of m) ds t) (sym e) here
        | inr ne ↦ all i (omega (arith, lt, ne))
      ]

  look : (t : List ℕ) (n : ℕ) → AllSettled t n ⊎ SomeUnsettled t n
  look t zero = inl (λ i lt. absurd (omega (arith, lt)))
  look t (suc n) =
      elim (look t n) [
        | inr found ↦ inr (found.0, omega (arith, found.1), found.2)
        | inl all ↦
            elim (below_or_not (get_or t n 1) (asked t n)) [
              | inl more ↦ inr (n, omega arith, more)
              | inr settled ↦ inl (one_more t n all settled)
            ]
      ]

  abbrev Solution : Type 0
  Solution = (of_call : Name → ℕ) × IsLeastSolution (measure_of m) (definitions_of ds) of_call

  solve : (left : ℕ) (t : List ℕ) → room (cap_of m) t ≤ left → IsRising (measure_of m) ds t → Solution
  solve zero t h up =
      elim (look t (length ds)) [
        | inl all ↦ (number_of ds t, solved m ds t up all)
        | inr found ↦ let falls = room_falls m ds t found.0 (omega (arith, found.1, up.size)) found.2 in absurd (omega (arith, falls, h))
      ]
  solve (suc left) t h up =
      elim (look t (length ds)) [
        | inl all ↦ (number_of ds t, solved m ds t up all)
        | inr found ↦
            let lt : found.0 < length t = omega (arith, found.1, up.size) in
            let falls = room_falls m ds t found.0 lt found.2 in
            solve left (set t found.0 (asked t found.0)) (omega (arith, falls, h)) (rising_on m ds t found.0 lt up)
      ]

  pub least_exists : Solution
  least_exists = let first : List ℕ = replicate (length ds) 1 in solve (room (cap_of m) first) first (omega arith) (rising_from m ds first refl)

pub least_widths_exist : LeastWidthsExist
least_widths_exist ds = least_exists Width ds

pub least_breadths_exist : LeastBreadthsExist
least_breadths_exist ds = least_exists Breadth ds
