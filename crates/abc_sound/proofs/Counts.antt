-- What a sound component can do: few moves, calls that have definitions and come to an end.
use Rattle.std.proofs.Common.{◌≡◌, ◌≤◌, ◌*◌, ℕ, zero, suc, Bool, true, false, List, [], sym, ◌∙◌, ap, subst, inl, inr, arith, if◌then◌else◌}
use Rattle.abc_pred.specs.declared.names.Name.{Name}
use Rattle.abc_pred.specs.Maps.{Entries, lists}
use Rattle.abc_pred.specs.Meaning.{sat}
use Rattle.abc_term.specs.declared.terms.Program.{Program}
use Rattle.abc_term.specs.Processes.{Process, Nil, Output, Input, When, Choice, Par, Call, Definitions, body_of}
use Rattle.abc_term.specs.Standing.{definitions_of}
use Rattle.abc_term.specs.Speaking.{Label, outs_of, call_outs}
use Rattle.abc_term.specs.Hearing.{ins_of, call_ins, takes}
use Rattle.abc_term.specs.Calls.{calls}
use Rattle.abc_term.specs.Guarded.{defines}
use Rattle.abc_checks.specs.Measures.{width_of, IsSolution}
use Rattle.abc_checks.specs.Facts.{IsChecked}
use Rattle.abc_term.proofs.Listed.{in_left, in_right, in_either}
use Rattle.abc_checks.proofs.Checked.{bodies_there}
use Rattle.abc_sound.specs.Built.{IsPart, itself, after_output, after_input, guarded, left_choice, right_choice, left_side, right_side, IsPartOf, of_definition, of_component, IsBuilt, leaf, beside}
use Rattle.abc_sound.specs.Walks.{actions_of, call_actions, actions}
use Rattle.abc_sound.proofs.Put.{calls-put}
use Rattle.abc_sound.proofs.Short.{actions_are_few}
use Rattle.abc_sound.proofs.Widths.{at_least_one, leaf_or_two}

-- ---- Enabled outputs, and inputs that take a message, are actions of the walk
if_small : (b : Bool) (m n : ℕ) → m ≤ n → (if b then m else 0) ≤ n
if_small true m n le = le
if_small false m n le = omega arith

module _ (env : Entries) (v w : Name → ℕ) (under : (c : Name) → v c ≤ w c) where
  outs_under : (P : Process) → outs_of env v P ≤ actions_of w P
  outs_under Nil = omega arith
  outs_under (Output es p us P) = omega arith
  outs_under (Input p xs us P) = omega arith
  outs_under (When g P) = if_small (sat g env env []) (outs_of env v P) (actions_of w P) (outs_under P)
  outs_under (Choice P Q) = let one = outs_under P in let two = outs_under Q in omega (arith, one, two)
  outs_under (Par P Q) = let one = outs_under P in let two = outs_under Q in omega (arith, one, two)
  outs_under (Call c) = under c

  ins_under : (l : Label) (interface : List Name) (P : Process) → ins_of l env interface v P ≤ actions_of w P
  ins_under l interface Nil = omega arith
  ins_under l interface (Output es p us P) = omega arith
  ins_under l interface (Input p xs us P) = if_small (takes l env interface p xs) 1 1 (omega arith)
  ins_under l interface (When g P) = if_small (sat g env env []) (ins_of l env interface v P) (actions_of w P) (ins_under l interface P)
  ins_under l interface (Choice P Q) = let one = ins_under l interface P in let two = ins_under l interface Q in omega (arith, one, two)
  ins_under l interface (Par P Q) = let one = ins_under l interface P in let two = ins_under l interface Q in omega (arith, one, two)
  ins_under l interface (Call c) = under c

call_outs_under : (d : ℕ) (defs : Definitions) (env : Entries) (c : Name) → call_outs d defs env c ≤ call_actions d defs c
call_outs_under zero defs env c = omega arith
call_outs_under (suc d) defs env c = outs_under env (call_outs d defs env) (call_actions d defs) (call_outs_under d defs env) (body_of defs c)

call_ins_under : (d : ℕ) (defs : Definitions) (l : Label) (env : Entries) (interface : List Name) (c : Name) → call_ins d defs l env interface c ≤ call_actions d defs c
call_ins_under zero defs l env interface c = omega arith
call_ins_under (suc d) defs l env interface c =
    ins_under env (call_ins d defs l env interface) (call_actions d defs) (call_ins_under d defs l env interface) l interface (body_of defs c)

pub outs_are_actions : (d : ℕ) (defs : Definitions) (env : Entries) (P : Process) → outs_of env (call_outs d defs env) P ≤ actions_of (call_actions d defs) P
outs_are_actions d defs env P = outs_under env (call_outs d defs env) (call_actions d defs) (call_outs_under d defs env) P

pub ins_are_actions : (d : ℕ) (defs : Definitions) (l : Label) (env : Entries) (interface : List Name) (P : Process) → ins_of l env interface (call_ins d defs l env interface) P ≤ actions_of (call_actions d defs) P
ins_are_actions d defs l env interface P = ins_under env (call_ins d defs l env interface) (call_actions d defs) (call_ins_under d defs l env interface) l interface P

module _ (p : Program) (checked : IsChecked p) where
  abbrev defs : Definitions
  defs = definitions_of p.definitions

  -- ---- 1,024 for each of the leaves
  pub built_actions : (w : Name → ℕ) → IsSolution width_of defs w → (R : Process) → IsBuilt p R → width_of w R ≤ 64 → actions defs R ≤ 1024 * width_of w R
  built_actions w solution R (leaf bs P part e) le =
      let few : actions defs R ≤ 1024 = subst (λ (Q : Process). actions defs Q ≤ 1024) (sym e) (actions_are_few p checked P part bs) in
      let one = at_least_one w solution.from_one R in
      omega (arith, few, one)
  built_actions w solution R (beside {P = P} {Q = Q} a b) le =
      let both = leaf_or_two defs w solution P Q le in
      let one = built_actions w solution P a both.0 in
      let two = built_actions w solution Q b both.1 in
      omega (arith, one, two, both.2)

  -- ---- Calls
  outward : (c : Name) {whole P : Process} → IsPart whole P → lists (calls P) c ≡ true → lists (calls whole) c ≡ true
  outward c itself h = h
  outward c (after_output part) h = outward c part h
  outward c (after_input part) h = outward c part h
  outward c (guarded part) h = outward c part h
  outward c (left_choice {P = P} {Q = Q} part) h = outward c part (in_left (calls P) (calls Q) c h)
  outward c (right_choice {P = P} {Q = Q} part) h = outward c part (in_right (calls P) (calls Q) c h)
  outward c (left_side {P = P} {Q = Q} part) h = outward c part (in_left (calls P) (calls Q) c h)
  outward c (right_side {P = P} {Q = Q} part) h = outward c part (in_right (calls P) (calls Q) c h)

  part_called : (c : Name) (P : Process) → IsPartOf p P → lists (calls P) c ≡ true → defines defs c ≡ true
  part_called c P (of_definition i d at part) h = (bodies_there p checked).0 i d at c (outward c part h)
  part_called c P (of_component i C at part) h = (bodies_there p checked).1 i C at c (outward c part h)

  pub built_called : (c : Name) (R : Process) → IsBuilt p R → lists (calls R) c ≡ true → defines defs c ≡ true
  built_called c R (leaf bs P part e) h = part_called c P part (sym (ap (λ ys. lists ys c) (ap calls e ∙ calls-put bs P)) ∙ h)
  built_called c R (beside {P = P} {Q = Q} a b) h =
      elim (in_either (calls P) (calls Q) c h) [
        | inl left ↦ built_called c P a left
        | inr right ↦ built_called c Q b right
      ]
