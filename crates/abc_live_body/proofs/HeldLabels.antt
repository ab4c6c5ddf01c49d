-- Each label that a component says is that of some value.
use Rattle.std.proofs.Common.{◌≡◌, inl, inr, ℕ, zero, suc, List, [], length, sym, subst}
use Rattle.abc_pred.specs.declared.names.Name.{Name}
use Rattle.abc_pred.specs.Maps.{Entries}
use Rattle.abc_pred.specs.Meaning.{IsClosed}
use Rattle.abc_pred.proofs.Closing.{closes}
use Rattle.abc_term.specs.Processes.{Process, Nil, Output, Input, When, Choice, Par, Call, Definitions, body_of, Component}
use Rattle.abc_term.specs.Speaking.{Label, call_outs, Says, CallSays, Speaks}
use Rattle.abc_moves.specs.declared.label.Label.{Label as HeldLabel}
use Rattle.abc_moves.specs.Labels.{label_of}
use Rattle.abc_live_body.specs.Held.{hold_pred, pred_held}

-- What is said has a closed predicate.
module _ (env : Entries) (interface : List Name) where
  module _ (of_call : Name → ℕ) (OfCall : Name → ℕ → Label → Entries → Process → Type 0)
      (calls : (c : Name) (k : ℕ) (l : Label) (e : Entries) (R : Process) → OfCall c k l e R → IsClosed l.pred) where
    says_closed : (P : Process) (k : ℕ) (l : Label) (e : Entries) (R : Process) →
        Says env interface of_call OfCall P k l e R → IsClosed l.pred
    says_closed Nil k l e R h = elim h [ ]
    says_closed (Output es p us P) k l e R h = subst (λ (n : Label). IsClosed n.pred) (sym h.1) (closes p env [])
    says_closed (Input p xs us P) k l e R h = elim h [ ]
    says_closed (When g P) k l e R h = says_closed P k l e R h.1
    says_closed (Choice P Q) k l e R h = elim h [ inl s ↦ says_closed P k l e R s | inr s ↦ says_closed Q s.0 l e R s.2 ]
    says_closed (Par P Q) k l e R h = elim h [ inl s ↦ says_closed P k l e s.0 s.1 | inr s ↦ says_closed Q s.0 l e s.1 s.3 ]
    says_closed (Call c) k l e R h = calls c k l e R h

  call_says_closed : (defs : Definitions) (d : ℕ) (c : Name) (k : ℕ) (l : Label) (e : Entries) (R : Process) →
      CallSays d defs env interface c k l e R → IsClosed l.pred
  call_says_closed defs zero c k l e R h = elim h [ ]
  call_says_closed defs (suc d) c k l e R h =
      says_closed (call_outs d defs env) (CallSays d defs env interface) (call_says_closed defs d) (body_of defs c) k l e R h

speaks_closed : (defs : Definitions) (C : Component) (place : ℕ) (l : Label) (C' : Component) →
    Speaks defs C place l C' → IsClosed l.pred
speaks_closed defs C place l C' s =
    let d = length defs in
    says_closed C.env C.interface (call_outs d defs C.env) (CallSays d defs C.env C.interface)
    (call_says_closed C.env C.interface defs d) C.process place l C'.env C'.process s.0

-- A value whose label this is.
pub record HeldAs (l : Label) : Type 0 where
  pub value : HeldLabel
  pub stands : label_of value ≡ l

hold_label : (l : Label) → IsClosed l.pred → HeldAs l
hold_label l closed = record {
  value = record {
    shown = l.shown;
    pred = hold_pred l.pred;
    values = l.values;
    closed = ∣ subst IsClosed (sym (pred_held l.pred)) closed ∣₁;
  };
  stands = λ i. record { shown = l.shown; pred = pred_held l.pred i; values = l.values };
}

-- What a component says is the label of some value.
pub said_is_held : (defs : Definitions) (C : Component) (place : ℕ) (l : Label) (C' : Component) →
    Speaks defs C place l C' → HeldAs l
said_is_held defs C place l C' s = hold_label l (speaks_closed defs C place l C' s)
