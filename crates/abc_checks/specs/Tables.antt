-- A table of numbers, one for each definition, on its way up to the least solution. The facts are not stated by these, but the code is.
use Rattle.std.specs.Prelude.{◌≡◌, ◌≤◌, ℕ, ◌+◌, ◌-◌, List, length, map, sum_by, slice_index_or}
use Rattle.abc_pred.specs.declared.names.Name.{Name}
use Rattle.abc_term.specs.declared.terms.Definition.{Definition}
use Rattle.abc_term.specs.Processes.{Process, Nil, body_of}
use Rattle.abc_term.specs.Standing.{process_of, definitions_of}
use Rattle.abc_checks.specs.Parts.{place_of}
use Rattle.abc_checks.specs.Measures.{width_of, breadth_of}
use Rattle.abc_checks.specs.declared.measures.Measure.{Measure}
use Rattle.abc_checks.specs.declared.measures.Measure.TheVariants.{Width, Breadth}
use Rattle.abc_checks.specs.declared.limits.TheConstants.{WIDEST, BROADEST}

abbrev pub measure_of : Measure → (Name → ℕ) → Process → ℕ
measure_of Width of_call P = width_of of_call P
measure_of Breadth of_call P = breadth_of of_call P

abbrev pub cap_of : Measure → ℕ
cap_of Width = WIDEST + 1
cap_of Breadth = BROADEST + 1

-- The table's number for a name: that of its definition, 1 where it has none.
abbrev pub number_of : List Definition → List ℕ → Name → ℕ
number_of ds table c = slice_index_or table (place_of (definitions_of ds) c) 1

abbrev pub bodies : List Definition → List Process
bodies ds = map (λ d. process_of d.body) ds

-- What may yet be added to the table.
abbrev pub room : ℕ → List ℕ → ℕ
room cap table = sum_by (λ n. cap - n) table

module _ (measure : (Name → ℕ) → Process → ℕ) (ds : List Definition) where
  -- Numbers that are nowhere below what the equations ask for.
  pub record IsEnough (of_call : Name → ℕ) : Type 0 where
    pub from_one : (c : Name) → 1 ≤ of_call c
    pub covers : (c : Name) → measure of_call (body_of (definitions_of ds) c) ≤ of_call c

  -- The table has a number from 1 for each definition, nowhere above any numbers that are enough.
  pub record IsRising (table : List ℕ) : Type 0 where
    pub size : length table ≡ length ds
    pub from_one : (i : ℕ) → 1 ≤ slice_index_or table i 1
    pub under : (other : Name → ℕ) → IsEnough other → (c : Name) → number_of ds table c ≤ other c

  -- The table's number of a definition covers what its equation asks for.
  abbrev pub IsSettledAt : List ℕ → ℕ → Type 0
  IsSettledAt table i = measure (number_of ds table) (slice_index_or (bodies ds) i Nil) ≤ slice_index_or table i 1
