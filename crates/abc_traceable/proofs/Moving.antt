-- Whatever a component does, a trace can tell what it says and what it becomes.
use Rattle.std.proofs.Common.{◌≤◌, inl, inr, ℕ, zero, suc, Bool, true, false, List, [], ◌∷◌, length, All, sym, subst}
use Rattle.std.specs.Prelude.{if◌then◌else◌}
use Rattle.std.specs.List.{zip}
use Rattle.std.proofs.lemmas.List.{length-map}
use Rattle.std.proofs.lemmas.List.Elements.{All-nil, All-cons, All-head, All-tail}
use Rattle.abc_value.specs.declared.value.Value.{Value}
use Rattle.abc_value.specs.Literals.{IsValue}
use Rattle.abc_pred.specs.declared.names.Name.{Name}
use Rattle.abc_pred.specs.Maps.{Entries, same_name}
use Rattle.abc_pred.specs.Meaning.{expr_val}
use Rattle.abc_term.specs.Processes.{Process, Nil, Output, Input, When, Choice, Par, Call, Definitions, body_of}
use Rattle.abc_term.specs.Substitution.{put_updates}
use Rattle.abc_term.specs.Speaking.{Label, call_outs, Says, CallSays}
use Rattle.abc_term.specs.Hearing.{call_ins, Takes, CallTakes}
use Rattle.abc_grammar.specs.declared.limits.TheConstants.{MOST_PARTS}
use Rattle.abc_printed_limits.specs.Within.{HoldsValues}
use Rattle.abc_trace.specs.WellFormed.{IsSent}
use Rattle.abc_traceable.proofs.Telling.{CanTell, tells_put, updates_stay}
use Rattle.abc_traceable.proofs.Environments.{IsHeld, held_values, updated_holds, tuple_values}

-- what is told of a label
pub record CanBeTold (words : List (List ℕ)) (l : Label) : Type 0 where
  pub few : length l.values ≤ MOST_PARTS
  pub values : All IsValue l.values
  pub pred : IsSent words l.pred

-- A call's body can be told where all definitions' bodies can.
pub bodies_tell : (words : List (List ℕ)) (defs : Definitions) → All (λ d. CanTell words d.1) defs →
    (c : Name) → CanTell words (body_of defs c)
bodies_tell words [] h c = tt
bodies_tell words (d ∷ defs) h c =
    by (same_name d.0 c) (bodies_tell words defs (All-tail (λ e. CanTell words e.1) d defs h) c)
  where
    by : (b : Bool) → CanTell words (body_of defs c) →
        CanTell words (if b then d.1 else body_of defs c)
    by true more = All-head (λ e. CanTell words e.1) d defs h
    by false more = more

-- The values of a message, each for a variable, are values.
zip_values : (xs : List Name) (vs : List Value) → All IsValue vs → HoldsValues (zip xs vs)
zip_values [] [] h = All-nil (λ e. IsValue e.1)
zip_values [] (v ∷ vs) h = All-nil (λ e. IsValue e.1)
zip_values (x ∷ xs) [] h = All-nil (λ e. IsValue e.1)
zip_values (x ∷ xs) (v ∷ vs) h =
    All-cons (λ e. IsValue e.1) (x, v) (zip xs vs) (All-head IsValue v vs h)
    (zip_values xs vs (All-tail IsValue v vs h))

-- ---- speaking
-- what is said, and what is left
pub record Leaves (words : List (List ℕ)) (l : Label) (e : Entries) (R : Process) : Type 0 where
  pub label : CanBeTold words l
  pub env : All (IsHeld words) e
  pub process : CanTell words R

module _ (words : List (List ℕ)) (env : Entries) (interface : List Name)
    (held : All (IsHeld words) env) where
  module _ (of_call : Name → ℕ) (OfCall : Name → ℕ → Label → Entries → Process → Type 0)
      (calls : (c : Name) (k : ℕ) (l : Label) (e : Entries) (R : Process) → OfCall c k l e R →
      Leaves words l e R) where
    says_leaves : (P : Process) (k : ℕ) (l : Label) (e : Entries) (R : Process) → CanTell words P →
        Says env interface of_call OfCall P k l e R → Leaves words l e R
    says_leaves Nil k l e R t h = absurd h
    says_leaves (Output es q us P) k l e R t h =
        let values = held_values words env held in
        record {
          label = subst (CanBeTold words) (sym h.1)
              (record {
                few = subst (λ (n : ℕ). n ≤ MOST_PARTS)
                    (sym (length-map es (λ x. expr_val x env []))) t.0;
                values = tuple_values es env values t.1;
                pred = t.2 env [] values (All-nil (λ x. IsValue x.1));
              });
          env = subst (All (IsHeld words)) (sym h.2) (updated_holds words us env t.3 held);
          process = subst (CanTell words) (sym h.3) t.4;
        }
    says_leaves (Input q xs us P) k l e R t h = absurd h
    says_leaves (When g P) k l e R t h = says_leaves P k l e R t h.1
    says_leaves (Choice P Q) k l e R t h =
        elim h [
          | inl s ↦ says_leaves P k l e R t.0 s
          | inr s ↦ says_leaves Q s.0 l e R t.1 s.2
        ]
    says_leaves (Par P Q) k l e R t h =
        elim h [
          | inl s ↦
              let x = says_leaves P k l e s.0 t.0 s.1 in
              record {
                label = x.label;
                env = x.env;
                process =
                    subst (CanTell words) (sym s.2) (x.process, t.1);
              }
          | inr s ↦
              let x = says_leaves Q s.0 l e s.1 t.1 s.3 in
              record {
                label = x.label;
                env = x.env;
                process =
                    subst (CanTell words) (sym s.4) (t.0, x.process);
              }
        ]
    says_leaves (Call c) k l e R t h = calls c k l e R h

  module _ (defs : Definitions) (bodies : (c : Name) → CanTell words (body_of defs c)) where
    call_leaves : (d : ℕ) (c : Name) (k : ℕ) (l : Label) (e : Entries) (R : Process) →
        CallSays d defs env interface c k l e R → Leaves words l e R
    call_leaves zero c k l e R h = absurd h
    call_leaves (suc d) c k l e R h =
        says_leaves (call_outs d defs env) (CallSays d defs env interface) (call_leaves d)
        (body_of defs c) k l e R (bodies c) h

    pub speaking_leaves : (P : Process) (k : ℕ) (l : Label) (e : Entries) (R : Process) →
        CanTell words P →
        Says env interface (call_outs (length defs) defs env)
        (CallSays (length defs) defs env interface) P k l e R → Leaves words l e R
    speaking_leaves =
        says_leaves (call_outs (length defs) defs env) (CallSays (length defs) defs env interface)
        (call_leaves (length defs))

-- ---- hearing
pub record GoesOn (words : List (List ℕ)) (e : Entries) (R : Process) : Type 0 where
  pub env : All (IsHeld words) e
  pub process : CanTell words R

module _ (words : List (List ℕ)) (l : Label) (values : All IsValue l.values) (env : Entries)
    (interface : List Name)
    (held : All (IsHeld words) env) where
  module _ (of_call : Name → ℕ) (OfCall : Name → ℕ → Entries → Process → Type 0)
      (calls : (c : Name) (k : ℕ) (e : Entries) (R : Process) → OfCall c k e R →
      GoesOn words e R) where
    takes_leaves : (P : Process) (k : ℕ) (e : Entries) (R : Process) → CanTell words P →
        Takes l env interface of_call OfCall P k e R → GoesOn words e R
    takes_leaves Nil k e R t h = absurd h
    takes_leaves (Output es q us P) k e R t h = absurd h
    takes_leaves (Input q xs us P) k e R t h =
        let bs = zip xs l.values in
        let holds = zip_values xs l.values values in
        record {
          env = subst (All (IsHeld words)) (sym h.2)
              (updated_holds words (put_updates bs us) env
              (updates_stay words bs holds us t.0) held);
          process = subst (CanTell words) (sym h.3) (tells_put words P bs holds t.1);
        }
    takes_leaves (When g P) k e R t h = takes_leaves P k e R t h.1
    takes_leaves (Choice P Q) k e R t h =
        elim h [
          | inl s ↦ takes_leaves P k e R t.0 s
          | inr s ↦ takes_leaves Q s.0 e R t.1 s.2
        ]
    takes_leaves (Par P Q) k e R t h =
        elim h [
          | inl s ↦
              let x = takes_leaves P k e s.0 t.0 s.1 in
              record { env = x.env; process = subst (CanTell words) (sym s.2) (x.process, t.1) }
          | inr s ↦
              let x = takes_leaves Q s.0 e s.1 t.1 s.3 in
              record { env = x.env; process = subst (CanTell words) (sym s.4) (t.0, x.process) }
        ]
    takes_leaves (Call c) k e R t h = calls c k e R h

  module _ (defs : Definitions) (bodies : (c : Name) → CanTell words (body_of defs c)) where
    call_takes : (d : ℕ) (c : Name) (k : ℕ) (e : Entries) (R : Process) →
        CallTakes d defs l env interface c k e R → GoesOn words e R
    call_takes zero c k e R h = absurd h
    call_takes (suc d) c k e R h =
        takes_leaves (call_ins d defs l env interface) (CallTakes d defs l env interface)
        (call_takes d) (body_of defs c) k e R (bodies c) h

    pub hearing_leaves : (P : Process) (k : ℕ) (e : Entries) (R : Process) → CanTell words P →
        Takes l env interface (call_ins (length defs) defs l env interface)
        (CallTakes (length defs) defs l env interface) P k e R →
        GoesOn words e R
    hearing_leaves =
        takes_leaves (call_ins (length defs) defs l env interface)
        (CallTakes (length defs) defs l env interface) (call_takes (length defs))
