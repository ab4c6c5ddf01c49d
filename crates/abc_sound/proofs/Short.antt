-- A part of a checked program is short, and so is the walk over it.
use Rattle.std.proofs.Common.{◌≡◌, ◌≤◌, ◌||◌, ℕ, zero, suc, ◌+◌, Bool, false, length, nat_lt, sym, subst, inl, inr, arith, slice_get, Option, Some}
use Rattle.std.proofs.lemmas.Bool.{cases_Bool, or_parts}
use Rattle.std.proofs.lemmas.Option.{slice_get_within}
use Rattle.std.specs.Prelude.{IsSomeAnd}
use Rattle.std.proofs.lemmas.Bool.Decides.{nat_tests}
use Rattle.abc_pred.specs.declared.names.Name.{Name}
use Rattle.abc_term.specs.declared.terms.Definition.{Definition}
use Rattle.abc_term.specs.declared.terms.Component.{Component}
use Rattle.abc_term.specs.declared.terms.Program.{Program}
use Rattle.abc_term.specs.Processes.{Process, Nil, Output, Input, When, Choice, Par, Call, Definitions, body_of}
use Rattle.abc_term.specs.Standing.{process_of, definitions_of}
use Rattle.abc_checks.specs.Measures.{breadth_of, IsSolution, IsLeastSolution, has_broad_part, HasTooManyMoves}
use Rattle.abc_checks.specs.Facts.{IsChecked}
use Rattle.abc_cause.specs.declared.CheckCause.TheVariants as cause
use Rattle.abc_checks.specs.declared.causes.Site.TheVariants as site
use Rattle.abc_sound.specs.Built.{IsPart, itself, after_output, after_input, guarded, left_choice, right_choice, left_side, right_side, IsPartOf, of_definition, of_component}
use Rattle.abc_sound.specs.Walks.{parts_of, actions_of, call_parts, call_actions, parts, actions}
use Rattle.abc_sound.specs.SoundLaws.{PartsAreShort, ActionsAreFew}
use Rattle.abc_sound.proofs.Existing.{least_breadths_exist}
use Rattle.abc_sound.proofs.Put.{parts_of-put, actions_of-put}

-- both sides of a false `||` are false
pub neither_left : (a b : Bool) → (a || b) ≡ false → a ≡ false
neither_left a b h = (or_parts a b h).0

pub neither_right : (a b : Bool) → (a || b) ≡ false → b ≡ false
neither_right a b h = (or_parts a b h).1

-- ---- No part of what has no broad part is broad
module _ (b : Name → ℕ) where
  none_broad : {whole P : Process} → has_broad_part b whole ≡ false → IsPart whole P → has_broad_part b P ≡ false
  none_broad h itself = h
  none_broad h (after_output {P = P} part) = none_broad h part
  none_broad h (after_input {P = P} part) = none_broad h part
  none_broad h (guarded {g = g} {P = P} part) = neither_right (nat_lt 2048 (breadth_of b (When g P))) (has_broad_part b P) (none_broad h part)
  none_broad h (left_choice {P = P} {Q = Q} part) =
      neither_left (has_broad_part b P) (has_broad_part b Q)
      (neither_right (nat_lt 2048 (breadth_of b (Choice P Q))) (has_broad_part b P || has_broad_part b Q) (none_broad h part))
  none_broad h (right_choice {P = P} {Q = Q} part) =
      neither_right (has_broad_part b P) (has_broad_part b Q)
      (neither_right (nat_lt 2048 (breadth_of b (Choice P Q))) (has_broad_part b P || has_broad_part b Q) (none_broad h part))
  none_broad h (left_side {P = P} {Q = Q} part) =
      neither_left (has_broad_part b P) (has_broad_part b Q)
      (neither_right (nat_lt 2048 (breadth_of b (Par P Q))) (has_broad_part b P || has_broad_part b Q) (none_broad h part))
  none_broad h (right_side {P = P} {Q = Q} part) =
      neither_right (has_broad_part b P) (has_broad_part b Q)
      (neither_right (nat_lt 2048 (breadth_of b (Par P Q))) (has_broad_part b P || has_broad_part b Q) (none_broad h part))

  not_above : (n : ℕ) → nat_lt 2048 n ≡ false → n ≤ 2048
  not_above n h = grind (arith, nat_tests)

  not_broad : (P : Process) → has_broad_part b P ≡ false → breadth_of b P ≤ 2048
  not_broad Nil h = omega arith
  not_broad (Output es p us P) h = omega arith
  not_broad (Input p xs us P) h = omega arith
  not_broad (When g P) h = not_above _ (neither_left (nat_lt 2048 (breadth_of b (When g P))) (has_broad_part b P) h)
  not_broad (Choice P Q) h = not_above _ (neither_left (nat_lt 2048 (breadth_of b (Choice P Q))) (has_broad_part b P || has_broad_part b Q) h)
  not_broad (Par P Q) h = not_above _ (neither_left (nat_lt 2048 (breadth_of b (Par P Q))) (has_broad_part b P || has_broad_part b Q) h)
  not_broad (Call c) h = not_above _ h

-- ---- So the parts of a checked program are not broad
module _ (p : Program) (checked : IsChecked p) (b : Name → ℕ) (least : IsLeastSolution breadth_of (definitions_of p.definitions) b) where
  abbrev defs : Definitions
  defs = definitions_of p.definitions

  body_short : (i : ℕ) (d : Definition) → slice_get p.definitions i ≡ Some d → has_broad_part b (process_of d.body) ≡ false
  body_short i d at =
      elim (cases_Bool (has_broad_part b (process_of d.body))) [
        | inr f ↦ f
        | inl t ↦ absurd (checked cause.TooManyMoves (site.Definition i)
            (slice_get_within p.definitions i d at, subst (λ (o : Option Definition). IsSomeAnd o (λ e. HasTooManyMoves defs (process_of e.body))) (sym at) (b, least, t)))
      ]

  run_short : (i : ℕ) (C : Component) → slice_get p.components i ≡ Some C → has_broad_part b (process_of C.run) ≡ false
  run_short i C at =
      elim (cases_Bool (has_broad_part b (process_of C.run))) [
        | inr f ↦ f
        | inl t ↦ absurd (checked cause.TooManyMoves (site.Component i)
            (slice_get_within p.components i C at, subst (λ (o : Option Component). IsSomeAnd o (λ e. HasTooManyMoves defs (process_of e.run))) (sym at) (b, least, t)))
      ]

  part_short : (P : Process) → IsPartOf p P → breadth_of b P ≤ 2048
  part_short P (of_definition i d at part) = not_broad b P (none_broad b (body_short i d at) part)
  part_short P (of_component i C at part) = not_broad b P (none_broad b (run_short i C at) part)

-- ---- The walk over what is not broad
module _ (defs : Definitions) (b : Name → ℕ) (solution : IsSolution breadth_of defs b) where
  walked : (v : Name → ℕ) → ((c : Name) → b c ≤ 2048 → v c ≤ b c) → (P : Process) → breadth_of b P ≤ 2048 → parts_of v P ≤ breadth_of b P
  walked v h Nil le = omega arith
  walked v h (Output es p us P) le = omega arith
  walked v h (Input p xs us P) le = omega arith
  walked v h (When g P) le = let one = walked v h P (omega (arith, le)) in omega (arith, le, one)
  walked v h (Choice P Q) le =
      let one = walked v h P (omega (arith, le)) in
      let two = walked v h Q (omega (arith, le)) in
      omega (arith, le, one, two)
  walked v h (Par P Q) le =
      let one = walked v h P (omega (arith, le)) in
      let two = walked v h Q (omega (arith, le)) in
      omega (arith, le, one, two)
  walked v h (Call c) le = let one = h c (omega (arith, le)) in omega (arith, le, one)

  call_walked : (d : ℕ) (c : Name) → b c ≤ 2048 → call_parts d defs c ≤ b c
  call_walked zero c le = omega arith
  call_walked (suc d) c le =
      let e = solution.solves c in
      let one = walked (call_parts d defs) (call_walked d) (body_of defs c) (omega (arith, le, e)) in
      omega (arith, e, one)

  pub parts_short : (P : Process) → breadth_of b P ≤ 2048 → parts defs P ≤ 2048
  parts_short P le = let one = walked (call_parts (length defs) defs) (call_walked (length defs)) P le in omega (arith, one, le)

  acted : (v : Name → ℕ) → ((c : Name) → b c ≤ 2048 → v c + v c ≤ b c + 1) → (P : Process) → breadth_of b P ≤ 2048
      → actions_of v P + actions_of v P ≤ breadth_of b P + 1
  acted v h Nil le = omega arith
  acted v h (Output es p us P) le = omega arith
  acted v h (Input p xs us P) le = omega arith
  acted v h (When g P) le = let one = acted v h P (omega (arith, le)) in omega (arith, le, one)
  acted v h (Choice P Q) le =
      let one = acted v h P (omega (arith, le)) in
      let two = acted v h Q (omega (arith, le)) in
      omega (arith, le, one, two)
  acted v h (Par P Q) le =
      let one = acted v h P (omega (arith, le)) in
      let two = acted v h Q (omega (arith, le)) in
      omega (arith, le, one, two)
  acted v h (Call c) le = let one = h c (omega (arith, le)) in omega (arith, le, one)

  call_acted : (d : ℕ) (c : Name) → b c ≤ 2048 → call_actions d defs c + call_actions d defs c ≤ b c + 1
  call_acted zero c le = omega arith
  call_acted (suc d) c le =
      let e = solution.solves c in
      let one = acted (call_actions d defs) (call_acted d) (body_of defs c) (omega (arith, le, e)) in
      omega (arith, e, one)

  pub actions_few : (P : Process) → breadth_of b P ≤ 2048 → actions defs P ≤ 1024
  actions_few P le = let one = acted (call_actions (length defs) defs) (call_acted (length defs)) P le in omega (arith, one, le)

pub parts_are_short : PartsAreShort
parts_are_short p checked P part bs =
    let found = least_breadths_exist p.definitions in
    let defs : Definitions = definitions_of p.definitions in
    let one = parts_short defs found.0 found.1.solution P (part_short p checked found.0 found.1 P part) in
    subst (λ (n : ℕ). n ≤ 2048) (sym (parts_of-put (call_parts (length defs) defs) bs P)) one

pub actions_are_few : ActionsAreFew
actions_are_few p checked P part bs =
    let found = least_breadths_exist p.definitions in
    let defs : Definitions = definitions_of p.definitions in
    let one = actions_few defs found.0 found.1.solution P (part_short p checked found.0 found.1 P part) in
    subst (λ (n : ℕ). n ≤ 1024) (sym (actions_of-put (call_actions (length defs) defs) bs P)) one
