-- What is built from a program stays so as it moves.
use Rattle.std.proofs.Common.{ℕ, zero, suc, List, [], ◌++◌, refl, sym, ◌∙◌, subst, inl, inr}
use Rattle.std.specs.List.{zip}
use Rattle.abc_pred.specs.declared.names.Name.{Name}
use Rattle.abc_pred.specs.Maps.{Entries}
use Rattle.abc_term.specs.declared.terms.Program.{Program}
use Rattle.abc_term.specs.Processes.{Process, Nil, Output, Input, When, Choice, Par, Call, Definitions, body_of}
use Rattle.abc_term.specs.Substitution.{Values, put, outside}
use Rattle.abc_term.specs.Standing.{process_of, definitions_of}
use Rattle.abc_term.specs.Speaking.{Label, Says, CallSays, call_outs}
use Rattle.abc_term.specs.Hearing.{Takes, CallTakes, call_ins}
use Rattle.abc_term.proofs.Bindings.{putting_twice, putting_nothing}
use Rattle.abc_term.proofs.Bodies.{BodyOf, body_found}
use Rattle.abc_sound.specs.Built.{IsPart, itself, after_output, after_input, guarded, left_choice, right_choice, left_side, right_side, IsPartOf, of_definition, of_component, IsBuilt, leaf, beside}

module _ (p : Program) where
  inward : {P Q : Process} → ((whole : Process) → IsPart whole P → IsPart whole Q) → IsPartOf p P → IsPartOf p Q
  inward f (of_definition i d at part) = of_definition i d at (f (process_of d.body) part)
  inward f (of_component i C at part) = of_component i C at (f (process_of C.run) part)

  -- What is built, seen from outside: the parts of it that its moves leave are built.
  abbrev Shape : Process → Type 0
  Shape Nil = Unit {0}
  Shape (Output es q us P) = IsBuilt p P
  Shape (Input q xs us P) = (vs : Values) → IsBuilt p (put vs P)
  Shape (When g P) = IsBuilt p P
  Shape (Choice P Q) = IsBuilt p P × IsBuilt p Q
  Shape (Par P Q) = IsBuilt p P × IsBuilt p Q
  Shape (Call c) = Unit {0}

  leaf_shape : (bs : Values) (P : Process) → IsPartOf p P → Shape (put bs P)
  leaf_shape bs Nil part = tt
  leaf_shape bs (Output es q us P) part = leaf bs P (inward (λ whole x. after_output x) part) refl
  leaf_shape bs (Input q xs us P) part = λ vs. leaf (outside xs bs ++ vs) P (inward (λ whole x. after_input x) part) (putting_twice (outside xs bs) vs P)
  leaf_shape bs (When g P) part = leaf bs P (inward (λ whole x. guarded x) part) refl
  leaf_shape bs (Choice P Q) part = (leaf bs P (inward (λ whole x. left_choice x) part) refl, leaf bs Q (inward (λ whole x. right_choice x) part) refl)
  leaf_shape bs (Par P Q) part = (leaf bs P (inward (λ whole x. left_side x) part) refl, leaf bs Q (inward (λ whole x. right_side x) part) refl)
  leaf_shape bs (Call c) part = tt

  shape : {R : Process} → IsBuilt p R → Shape R
  shape (leaf bs P part e) = subst Shape (sym e) (leaf_shape bs P part)
  shape (beside a b) = (a, b)

  abbrev defs : Definitions
  defs = definitions_of p.definitions

  body_built : (c : Name) → BodyOf p.definitions c → IsBuilt p (body_of defs c)
  body_built c found = leaf [] (process_of found.definition.body) (of_definition found.number found.definition found.at itself) (found.body ∙ sym (putting_nothing (process_of found.definition.body)))

  -- ---- Speaking
  module _ (env : Entries) (interface : List Name) where
    module _ (v : Name → ℕ) (OfCall : Name → ℕ → Label → Entries → Process → Type 0)
        (calls_build : (c : Name) (k : ℕ) (l : Label) (e : Entries) (R : Process) → OfCall c k l e R → IsBuilt p R) where
      said : (P : Process) (k : ℕ) (l : Label) (e : Entries) (R : Process) → IsBuilt p P → Says env interface v OfCall P k l e R → IsBuilt p R
      said Nil k l e R built h = absurd h
      said (Output es q us P) k l e R built h = subst (IsBuilt p) (sym h.3) (shape built)
      said (Input q xs us P) k l e R built h = absurd h
      said (When g P) k l e R built h = said P k l e R (shape built) h.1
      said (Choice P Q) k l e R built h =
          elim h [
            | inl left ↦ said P k l e R (shape built).0 left
            | inr right ↦ said Q right.0 l e R (shape built).1 right.2
          ]
      said (Par P Q) k l e R built h =
          elim h [
            | inl left ↦ subst (IsBuilt p) (sym left.2) (beside (said P k l e left.0 (shape built).0 left.1) (shape built).1)
            | inr right ↦ subst (IsBuilt p) (sym right.4) (beside (shape built).0 (said Q right.0 l e right.1 (shape built).1 right.3))
          ]
      said (Call c) k l e R built h = calls_build c k l e R h

    call_said : (d : ℕ) (c : Name) (k : ℕ) (l : Label) (e : Entries) (R : Process) → CallSays d defs env interface c k l e R → IsBuilt p R
    call_said zero c k l e R h = absurd h
    call_said (suc d) c k l e R h =
        elim (body_found p.definitions c) [
          | inl nil ↦ absurd (subst (λ (P : Process). Says env interface (call_outs d defs env) (CallSays d defs env interface) P k l e R) nil h)
          | inr found ↦ said (call_outs d defs env) (CallSays d defs env interface) (call_said d) (body_of defs c) k l e R (body_built c found) h
        ]

    pub speaking_builds : (d : ℕ) (P : Process) (k : ℕ) (l : Label) (e : Entries) (R : Process) → IsBuilt p P
        → Says env interface (call_outs d defs env) (CallSays d defs env interface) P k l e R → IsBuilt p R
    speaking_builds d = said (call_outs d defs env) (CallSays d defs env interface) (call_said d)

  -- ---- Hearing
  module _ (l : Label) (env : Entries) (interface : List Name) where
    module _ (v : Name → ℕ) (OfCall : Name → ℕ → Entries → Process → Type 0)
        (calls_build : (c : Name) (k : ℕ) (e : Entries) (R : Process) → OfCall c k e R → IsBuilt p R) where
      taken : (P : Process) (k : ℕ) (e : Entries) (R : Process) → IsBuilt p P → Takes l env interface v OfCall P k e R → IsBuilt p R
      taken Nil k e R built h = absurd h
      taken (Output es q us P) k e R built h = absurd h
      taken (Input q xs us P) k e R built h = subst (IsBuilt p) (sym h.3) (shape built (zip xs l.values))
      taken (When g P) k e R built h = taken P k e R (shape built) h.1
      taken (Choice P Q) k e R built h =
          elim h [
            | inl left ↦ taken P k e R (shape built).0 left
            | inr right ↦ taken Q right.0 e R (shape built).1 right.2
          ]
      taken (Par P Q) k e R built h =
          elim h [
            | inl left ↦ subst (IsBuilt p) (sym left.2) (beside (taken P k e left.0 (shape built).0 left.1) (shape built).1)
            | inr right ↦ subst (IsBuilt p) (sym right.4) (beside (shape built).0 (taken Q right.0 e right.1 (shape built).1 right.3))
          ]
      taken (Call c) k e R built h = calls_build c k e R h

    call_taken : (d : ℕ) (c : Name) (k : ℕ) (e : Entries) (R : Process) → CallTakes d defs l env interface c k e R → IsBuilt p R
    call_taken zero c k e R h = absurd h
    call_taken (suc d) c k e R h =
        elim (body_found p.definitions c) [
          | inl nil ↦ absurd (subst (λ (P : Process). Takes l env interface (call_ins d defs l env interface) (CallTakes d defs l env interface) P k e R) nil h)
          | inr found ↦ taken (call_ins d defs l env interface) (CallTakes d defs l env interface) (call_taken d) (body_of defs c) k e R (body_built c found) h
        ]

    pub hearing_builds : (d : ℕ) (P : Process) (k : ℕ) (e : Entries) (R : Process) → IsBuilt p P
        → Takes l env interface (call_ins d defs l env interface) (CallTakes d defs l env interface) P k e R → IsBuilt p R
    hearing_builds d = taken (call_ins d defs l env interface) (CallTakes d defs l env interface) (call_taken d)
