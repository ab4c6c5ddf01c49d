-- Moves make no process wider.
use Rattle.std.proofs.Common.{◌≡◌, ◌≤◌, ℕ, zero, suc, ◌+◌, List, ◌∙◌, ap, inl, inr, arith}
use Rattle.std.specs.List.{zip}
use Rattle.abc_pred.specs.Maps.{Entries}
use Rattle.abc_pred.specs.declared.names.Name.{Name}
use Rattle.abc_term.specs.Processes.{Process, Nil, Output, Input, When, Choice, Par, Call, Definitions, body_of}
use Rattle.abc_term.specs.Speaking.{Label, Says, CallSays, call_outs}
use Rattle.abc_term.specs.Hearing.{Takes, CallTakes, call_ins}
use Rattle.abc_checks.specs.Measures.{width_of, IsSolution}
use Rattle.abc_checks.specs.declared.measures.Measure.TheVariants.{Width}
use Rattle.abc_checks.proofs.Solving.{capped, from_one}
use Rattle.abc_sound.specs.Walks.{leaves}
use Rattle.abc_sound.proofs.Put.{width_of-put}

at_most_65 : (w : Name → ℕ) (P : Process) → width_of w P ≤ 65
at_most_65 w P = capped Width w P

pub at_least_one : (w : Name → ℕ) → ((c : Name) → 1 ≤ w c) → (P : Process) → 1 ≤ width_of w P
at_least_one w h P = from_one Width w h P

module _ (defs : Definitions) (w : Name → ℕ) (solution : IsSolution width_of defs w) where
  abbrev NoWider : Process → Process → Type 0
  NoWider R P = width_of w R ≤ width_of w P

  same_width : (R P : Process) → R ≡ P → NoWider R P
  same_width R P e = let n = ap (width_of w) e in omega (arith, n)

  left_moved : (P' P Q R : Process) → R ≡ Par P' Q → NoWider P' P → NoWider R (Par P Q)
  left_moved P' P Q R e le = let n = ap (width_of w) e in omega (arith, n, le)

  right_moved : (Q' P Q R : Process) → R ≡ Par P Q' → NoWider Q' Q → NoWider R (Par P Q)
  right_moved Q' P Q R e le = let n = ap (width_of w) e in omega (arith, n, le)

  called : (c : Name) (R : Process) → width_of w R ≤ w c → NoWider R (Call c)
  called c R le = let top = at_most_65 w R in omega (arith, le, top)

  of_body : (c : Name) (R : Process) → NoWider R (body_of defs c) → width_of w R ≤ w c
  of_body c R le = let e = solution.solves c in omega (arith, le, e)

  -- ---- Speaking
  module _ (env : Entries) (interface : List Name) where
    module _ (v : Name → ℕ) (OfCall : Name → ℕ → Label → Entries → Process → Type 0)
        (calls_narrow : (c : Name) (k : ℕ) (l : Label) (e : Entries) (R : Process) → OfCall c k l e R → width_of w R ≤ w c) where
      said : (P : Process) (k : ℕ) (l : Label) (e : Entries) (R : Process) → Says env interface v OfCall P k l e R → NoWider R P
      said Nil k l e R h = absurd h
      said (Output es q us P) k l e R h = same_width R P h.3
      said (Input q xs us P) k l e R h = absurd h
      said (When g P) k l e R h = said P k l e R h.1
      said (Choice P Q) k l e R h =
          elim h [
            | inl left ↦ let one = said P k l e R left in omega (arith, one)
            | inr right ↦ let one = said Q right.0 l e R right.2 in omega (arith, one)
          ]
      said (Par P Q) k l e R h =
          elim h [
            | inl left ↦ left_moved left.0 P Q R left.2 (said P k l e left.0 left.1)
            | inr right ↦ right_moved right.1 P Q R right.4 (said Q right.0 l e right.1 right.3)
          ]
      said (Call c) k l e R h = called c R (calls_narrow c k l e R h)

    call_said : (d : ℕ) (c : Name) (k : ℕ) (l : Label) (e : Entries) (R : Process) → CallSays d defs env interface c k l e R → width_of w R ≤ w c
    call_said zero c k l e R h = absurd h
    call_said (suc d) c k l e R h = of_body c R (said (call_outs d defs env) (CallSays d defs env interface) (call_said d) (body_of defs c) k l e R h)

    pub speaking_narrows : (d : ℕ) (P : Process) (k : ℕ) (l : Label) (e : Entries) (R : Process)
        → Says env interface (call_outs d defs env) (CallSays d defs env interface) P k l e R → NoWider R P
    speaking_narrows d = said (call_outs d defs env) (CallSays d defs env interface) (call_said d)

  -- ---- Hearing
  module _ (l : Label) (env : Entries) (interface : List Name) where
    module _ (v : Name → ℕ) (OfCall : Name → ℕ → Entries → Process → Type 0)
        (calls_narrow : (c : Name) (k : ℕ) (e : Entries) (R : Process) → OfCall c k e R → width_of w R ≤ w c) where
      taken : (P : Process) (k : ℕ) (e : Entries) (R : Process) → Takes l env interface v OfCall P k e R → NoWider R P
      taken Nil k e R h = absurd h
      taken (Output es q us P) k e R h = absurd h
      taken (Input q xs us P) k e R h = let n = ap (width_of w) h.3 ∙ width_of-put w (zip xs l.values) P in omega (arith, n)
      taken (When g P) k e R h = taken P k e R h.1
      taken (Choice P Q) k e R h =
          elim h [
            | inl left ↦ let one = taken P k e R left in omega (arith, one)
            | inr right ↦ let one = taken Q right.0 e R right.2 in omega (arith, one)
          ]
      taken (Par P Q) k e R h =
          elim h [
            | inl left ↦ left_moved left.0 P Q R left.2 (taken P k e left.0 left.1)
            | inr right ↦ right_moved right.1 P Q R right.4 (taken Q right.0 e right.1 right.3)
          ]
      taken (Call c) k e R h = called c R (calls_narrow c k e R h)

    call_taken : (d : ℕ) (c : Name) (k : ℕ) (e : Entries) (R : Process) → CallTakes d defs l env interface c k e R → width_of w R ≤ w c
    call_taken zero c k e R h = absurd h
    call_taken (suc d) c k e R h = of_body c R (taken (call_ins d defs l env interface) (CallTakes d defs l env interface) (call_taken d) (body_of defs c) k e R h)

    pub hearing_narrows : (d : ℕ) (P : Process) (k : ℕ) (e : Entries) (R : Process)
        → Takes l env interface (call_ins d defs l env interface) (CallTakes d defs l env interface) P k e R → NoWider R P
    hearing_narrows d = taken (call_ins d defs l env interface) (CallTakes d defs l env interface) (call_taken d)

  -- ---- As many leaves as the width at most
  pub leaf_or_two : (P Q : Process) → width_of w (Par P Q) ≤ 64 → (width_of w P ≤ 64) × (width_of w Q ≤ 64) × (width_of w P + width_of w Q ≡ width_of w (Par P Q))
  leaf_or_two P Q le =
      let one = at_least_one w solution.from_one P in
      let two = at_least_one w solution.from_one Q in
      (omega (arith, le, two), omega (arith, le, one), omega (arith, le))

  pub leaves_narrow : (P : Process) → width_of w P ≤ 64 → leaves P ≤ width_of w P
  leaves_narrow Nil le = at_least_one w solution.from_one Nil
  leaves_narrow (Output es p us P) le = at_least_one w solution.from_one (Output es p us P)
  leaves_narrow (Input p xs us P) le = at_least_one w solution.from_one (Input p xs us P)
  leaves_narrow (When g P) le = at_least_one w solution.from_one (When g P)
  leaves_narrow (Choice P Q) le = at_least_one w solution.from_one (Choice P Q)
  leaves_narrow (Par P Q) le =
      let both = leaf_or_two P Q le in
      let one = leaves_narrow P both.0 in
      let two = leaves_narrow Q both.1 in
      omega (arith, one, two, both.2)
  leaves_narrow (Call c) le = at_least_one w solution.from_one (Call c)
