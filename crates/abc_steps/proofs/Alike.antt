-- Components that are alike move alike.
use Rattle.std.proofs.Common.{◌≡◌, ◌∙◌, ◌==◌, ◌&&◌, inl, inr, ℕ, zero, suc, ◌+◌, Bool, IsTrue, if◌then◌else◌, List, [], length, Option, Some, None, refl, ap, sym, subst}
use Rattle.abc_pred.specs.declared.names.Name.{Name}
use Rattle.abc_pred.specs.Terms.{Expr, Pred}
use Rattle.abc_pred.specs.Maps.{Entries, ListsTheSame, shown}
use Rattle.abc_pred.specs.Meaning.{sat, close}
use Rattle.abc_term.specs.Processes.{Process, Nil, Output, Input, When, Choice, Par, Call, Definitions, body_of, Component}
use Rattle.abc_term.specs.Speaking.{Label, Says, CallSays, Speaks, label_from, values_of, call_outs, outs}
use Rattle.abc_term.specs.Hearing.{Takes, CallTakes, Hears, takes, is_wanted, ins_of, call_ins, ins}
use Rattle.abc_pred.proofs.Looks.{shown_by_names_alone}
use Rattle.abc_steps.specs.Alike.{IsAlike}

-- ---- two interfaces that show the same of an environment
module _ (env : Entries) (i j : List Name) (same : shown env i ≡ shown env j) where
  label_same : (es : List Expr) (p : Pred) → label_from env i es p ≡ label_from env j es p
  label_same es p = ap (λ (s : Entries). record { shown = s; pred = close p env []; values = values_of es env }) same

  module _ (of_call : Name → ℕ) (F G : Name → ℕ → Label → Entries → Process → Type 0) (f : (c : Name) (k : ℕ) (l : Label) (e : Entries) (R : Process) → F c k l e R → G c k l e R) where
    says_same : (P : Process) (k : ℕ) (l : Label) (e : Entries) (R : Process) → Says env i of_call F P k l e R → Says env j of_call G P k l e R
    says_same Nil k l e R s = s
    says_same (Output es p us P) k l e R s = (s.0, s.1 ∙ label_same es p, s.2, s.3)
    says_same (Input p xs us P) k l e R s = s
    says_same (When g P) k l e R s = (s.0, says_same P k l e R s.1)
    says_same (Choice P Q) k l e R s = elim s [ inl a ↦ inl (says_same P k l e R a) | inr b ↦ inr (b.0, b.1, says_same Q b.0 l e R b.2) ]
    says_same (Par P Q) k l e R s =
        elim s [
          | inl a ↦ inl (a.0, says_same P k l e a.0 a.1, a.2)
          | inr b ↦ inr (b.0, b.1, b.2, says_same Q b.0 l e b.1 b.3, b.4)
        ]
    says_same (Call c) k l e R s = f c k l e R s

  call_says_same : (d : ℕ) (defs : Definitions) (c : Name) (k : ℕ) (l : Label) (e : Entries) (R : Process) → CallSays d defs env i c k l e R → CallSays d defs env j c k l e R
  call_says_same zero defs c k l e R s = s
  call_says_same (suc d) defs c k l e R s =
      says_same (call_outs d defs env) (CallSays d defs env i) (CallSays d defs env j) (call_says_same d defs) (body_of defs c) k l e R s

  module _ (l : Label) where
    takes_test : (p : Pred) (xs : List Name) → takes l env i p xs ≡ takes l env j p xs
    takes_test p xs = ap (λ (s : Entries). (length l.values == length xs) && sat l.pred [] s [] && is_wanted l env p xs) same

    module _ (m n : Name → ℕ) (counts : (c : Name) → m c ≡ n c) where
      ins_of_same : (P : Process) → ins_of l env i m P ≡ ins_of l env j n P
      ins_of_same Nil = refl
      ins_of_same (Output es p us P) = refl
      ins_of_same (Input p xs us P) = ap (λ (b : Bool). if b then 1 else 0) (takes_test p xs)
      ins_of_same (When g P) = ap (λ (k : ℕ). if sat g env env [] then k else 0) (ins_of_same P)
      ins_of_same (Choice P Q) = λ t. ins_of_same P t + ins_of_same Q t
      ins_of_same (Par P Q) = λ t. ins_of_same P t + ins_of_same Q t
      ins_of_same (Call c) = counts c

      module _ (F G : Name → ℕ → Entries → Process → Type 0) (f : (c : Name) (k : ℕ) (e : Entries) (R : Process) → F c k e R → G c k e R) where
        takes_same : (P : Process) (k : ℕ) (e : Entries) (R : Process) → Takes l env i m F P k e R → Takes l env j n G P k e R
        takes_same Nil k e R s = s
        takes_same (Output es p us P) k e R s = s
        takes_same (Input p xs us P) k e R s = (s.0, subst (λ (b : Bool). IsTrue b) (takes_test p xs) s.1, s.2, s.3)
        takes_same (When g P) k e R s = (s.0, takes_same P k e R s.1)
        takes_same (Choice P Q) k e R s =
            elim s [
              | inl a ↦ inl (takes_same P k e R a)
              | inr b ↦ inr (b.0, b.1 ∙ ap (λ (k : ℕ). k + b.0) (ins_of_same P), takes_same Q b.0 e R b.2)
            ]
        takes_same (Par P Q) k e R s =
            elim s [
              | inl a ↦ inl (a.0, takes_same P k e a.0 a.1, a.2)
              | inr b ↦ inr (b.0, b.1, b.2 ∙ ap (λ (k : ℕ). k + b.0) (ins_of_same P), takes_same Q b.0 e b.1 b.3, b.4)
            ]
        takes_same (Call c) k e R s = f c k e R s

    call_ins_same : (d : ℕ) (defs : Definitions) (c : Name) → call_ins d defs l env i c ≡ call_ins d defs l env j c
    call_ins_same zero defs c = refl
    call_ins_same (suc d) defs c = ins_of_same (call_ins d defs l env i) (call_ins d defs l env j) (call_ins_same d defs) (body_of defs c)

    call_takes_same : (d : ℕ) (defs : Definitions) (c : Name) (k : ℕ) (e : Entries) (R : Process) → CallTakes d defs l env i c k e R → CallTakes d defs l env j c k e R
    call_takes_same zero defs c k e R s = s
    call_takes_same (suc d) defs c k e R s =
        takes_same (call_ins d defs l env i) (call_ins d defs l env j) (call_ins_same d defs) (CallTakes d defs l env i) (CallTakes d defs l env j) (call_takes_same d defs) (body_of defs c) k e R s

-- ---- components that are alike
-- the second as the first one with another interface
abbrev with_interface : Component → List Name → Component
with_interface C j = record { env = C.env; interface = j; process = C.process }

alike_is : (C D : Component) → IsAlike C D → with_interface C D.interface ≡ D
alike_is C D a = λ t. record { env = a.env t; interface = D.interface; process = a.process t }

module _ (defs : Definitions) (C D : Component) (alike : IsAlike C D) where
  same_shown : shown C.env C.interface ≡ shown C.env D.interface
  same_shown = shown_by_names_alone C.env C.interface D.interface alike.interface

  pub outs_alike : outs defs C ≡ outs defs D
  outs_alike = ap (λ (E : Component). outs defs E) (alike_is C D alike)

  pub ins_alike : (l : Label) → ins defs C l ≡ ins defs D l
  ins_alike l =
      ins_of_same C.env C.interface D.interface same_shown l
      (call_ins (length defs) defs l C.env C.interface) (call_ins (length defs) defs l C.env D.interface)
      (call_ins_same C.env C.interface D.interface same_shown l (length defs) defs) C.process
      ∙ ap (λ (E : Component). ins defs E l) (alike_is C D alike)

  abbrev pub after : Component → Component
  after C' = with_interface C' D.interface

  pub after_alike : (C' : Component) → C'.interface ≡ C.interface → IsAlike C' (after C')
  after_alike C' e = record {
    env = refl;
    interface = subst (λ (i : List Name). ListsTheSame i D.interface) (sym e) alike.interface;
    process = refl;
  }

  pub speaks_alike : (place : ℕ) (l : Label) (C' : Component) → Speaks defs C place l C' → Speaks defs D place l (after C')
  speaks_alike place l C' s =
      let d = length defs in
      let here : Speaks defs (with_interface C D.interface) place l (after C') = (
        says_same C.env C.interface D.interface same_shown (call_outs d defs C.env) (CallSays d defs C.env C.interface) (CallSays d defs C.env D.interface)
            (call_says_same C.env C.interface D.interface same_shown d defs) C.process place l C'.env C'.process s.0,
        refl,
      ) in
      subst (λ (E : Component). Speaks defs E place l (after C')) (alike_is C D alike) here

  pub hears_alike : (place : Option ℕ) (l : Label) (C' : Component) → Hears defs C l place C' → Hears defs D l place (after C')
  hears_alike None l C' s = (sym (ins_alike l) ∙ s.0, ap (λ (E : Component). after E) s.1 ∙ alike_is C D alike)
  hears_alike (Some place) l C' s =
      let d = length defs in
      let here : Hears defs (with_interface C D.interface) l (Some place) (after C') = (
        takes_same C.env C.interface D.interface same_shown l (call_ins d defs l C.env C.interface) (call_ins d defs l C.env D.interface)
            (call_ins_same C.env C.interface D.interface same_shown l d defs) (CallTakes d defs l C.env C.interface) (CallTakes d defs l C.env D.interface)
            (call_takes_same C.env C.interface D.interface same_shown l d defs) C.process place C'.env C'.process s.0,
        refl,
      ) in
      subst (λ (E : Component). Hears defs E l (Some place) (after C')) (alike_is C D alike) here

pub heard_interface : (defs : Definitions) (C : Component) (place : Option ℕ) (l : Label) (C' : Component) → Hears defs C l place C' → C'.interface ≡ C.interface
heard_interface defs C None l C' s = ap (λ (E : Component). E.interface) s.1
heard_interface defs C (Some place) l C' s = s.1
