-- Environments stay finite maps.
use Rattle.std.proofs.Common.{inl, inr, ℕ, zero, suc, ◌+◌, ◌==◌, Bool, true, false, List, [], ◌∷◌, length, All, Option, Some, None, MatchBool, sym, subst, arith}
use Rattle.std.proofs.lemmas.List.Elements.{All-cons}
use Rattle.std.specs.List.{zip}
use Rattle.abc_value.specs.declared.value.Value.{Value}
use Rattle.abc_pred.specs.declared.names.Name.{Name}
use Rattle.abc_pred.specs.Maps.{Entries, IsMap, set_to}
use Rattle.abc_pred.specs.Meaning.{expr_val}
use Rattle.abc_pred.proofs.Looks.{setting_gives_a_map, shown_is_a_map}
use Rattle.abc_term.specs.Processes.{Process, Nil, Output, Input, When, Choice, Par, Call, Update, Definitions, body_of, Component, System}
use Rattle.abc_term.specs.Substitution.{put_updates}
use Rattle.abc_term.specs.Speaking.{Label, updated, call_outs, Says, CallSays, Speaks}
use Rattle.abc_term.specs.Hearing.{call_ins, Takes, CallTakes, Hears}
use Rattle.abc_term.specs.Systems.{place_in, EachMoves, StepAt}
use Rattle.abc_term.specs.Standing.{set_all}
use Rattle.abc_term.specs.Laws.{HasMap, SpeakingKeepsMaps, LabelsShowMaps, HearingKeepsMaps, RunsKeepMaps, ProgramsBeginWithMaps}

updated-map : (us : List Update) (env : Entries) → IsMap env → IsMap (updated us env)
updated-map [] env m = m
updated-map (u ∷ us) env m = updated-map us (set_to (expr_val u.1 env []) u.0 env) (setting_gives_a_map env u.0 (expr_val u.1 env []) m)

all_set : (first : List (Name × Value)) (env : Entries) → IsMap env → IsMap (set_all first env)
all_set [] env m = m
all_set (a ∷ first) env m = all_set first (set_to a.1 a.0 env) (setting_gives_a_map env a.0 a.1 m)

pub programs_begin_with_maps : ProgramsBeginWithMaps
programs_begin_with_maps first = all_set first [] tt

-- ---- speaking: the environment it leaves, and what it shows
module _ (env : Entries) (interface : List Name) (m : IsMap env) where
  abbrev Leaves : Label → Entries → Type 0
  Leaves l e = IsMap e × IsMap l.shown

  module _ (of_call : Name → ℕ) (OfCall : Name → ℕ → Label → Entries → Process → Type 0) (calls : (c : Name) (k : ℕ) (l : Label) (e : Entries) (R : Process) → OfCall c k l e R → Leaves l e) where
    says_maps : (P : Process) (k : ℕ) (l : Label) (e : Entries) (R : Process) → Says env interface of_call OfCall P k l e R → Leaves l e
    says_maps Nil k l e R h = elim h [ ]
    says_maps (Output es p us P) k l e R h =
        (subst (λ (f : Entries). IsMap f) (sym h.2) (updated-map us env m), subst (λ (n : Label). IsMap n.shown) (sym h.1) (shown_is_a_map env interface m))
    says_maps (Input p xs us P) k l e R h = elim h [ ]
    says_maps (When g P) k l e R h = says_maps P k l e R h.1
    says_maps (Choice P Q) k l e R h = elim h [ inl s ↦ says_maps P k l e R s | inr s ↦ says_maps Q s.0 l e R s.2 ]
    says_maps (Par P Q) k l e R h = elim h [ inl s ↦ says_maps P k l e s.0 s.1 | inr s ↦ says_maps Q s.0 l e s.1 s.3 ]
    says_maps (Call c) k l e R h = calls c k l e R h

  module _ (defs : Definitions) where
    call_says_maps : (d : ℕ) (c : Name) (k : ℕ) (l : Label) (e : Entries) (R : Process) → CallSays d defs env interface c k l e R → Leaves l e
    call_says_maps zero c k l e R h = elim h [ ]
    call_says_maps (suc d) c k l e R h = says_maps (call_outs d defs env) (CallSays d defs env interface) (call_says_maps d) (body_of defs c) k l e R h

speaking_leaves : (defs : Definitions) (C : Component) (place : ℕ) (l : Label) (C' : Component) → HasMap C → Speaks defs C place l C' → IsMap C'.env × IsMap l.shown
speaking_leaves defs C place l C' m s =
    let d = length defs in
    says_maps C.env C.interface m (call_outs d defs C.env) (CallSays d defs C.env C.interface) (call_says_maps C.env C.interface m defs d) C.process place l C'.env C'.process s.0

pub speaking_keeps_maps : SpeakingKeepsMaps
speaking_keeps_maps defs C place l C' m s = (speaking_leaves defs C place l C' m s).0

pub labels_show_maps : LabelsShowMaps
labels_show_maps defs C place l C' m s = (speaking_leaves defs C place l C' m s).1

-- ---- hearing
module _ (l : Label) (env : Entries) (interface : List Name) (m : IsMap env) where
  module _ (of_call : Name → ℕ) (OfCall : Name → ℕ → Entries → Process → Type 0) (calls : (c : Name) (k : ℕ) (e : Entries) (R : Process) → OfCall c k e R → IsMap e) where
    takes_maps : (P : Process) (k : ℕ) (e : Entries) (R : Process) → Takes l env interface of_call OfCall P k e R → IsMap e
    takes_maps Nil k e R h = elim h [ ]
    takes_maps (Output es p us P) k e R h = elim h [ ]
    takes_maps (Input p xs us P) k e R h = subst (λ (f : Entries). IsMap f) (sym h.2) (updated-map (put_updates (zip xs l.values) us) env m)
    takes_maps (When g P) k e R h = takes_maps P k e R h.1
    takes_maps (Choice P Q) k e R h = elim h [ inl s ↦ takes_maps P k e R s | inr s ↦ takes_maps Q s.0 e R s.2 ]
    takes_maps (Par P Q) k e R h = elim h [ inl s ↦ takes_maps P k e s.0 s.1 | inr s ↦ takes_maps Q s.0 e s.1 s.3 ]
    takes_maps (Call c) k e R h = calls c k e R h

  module _ (defs : Definitions) where
    call_takes_maps : (d : ℕ) (c : Name) (k : ℕ) (e : Entries) (R : Process) → CallTakes d defs l env interface c k e R → IsMap e
    call_takes_maps zero c k e R h = elim h [ ]
    call_takes_maps (suc d) c k e R h = takes_maps (call_ins d defs l env interface) (CallTakes d defs l env interface) (call_takes_maps d) (body_of defs c) k e R h

pub hearing_keeps_maps : HearingKeepsMaps
hearing_keeps_maps defs C l None C' m h = subst (λ (D : Component). IsMap D.env) (sym h.1) m
hearing_keeps_maps defs C l (Some place) C' m h =
    let d = length defs in
    takes_maps l C.env C.interface m (call_ins d defs l C.env C.interface) (CallTakes d defs l C.env C.interface) (call_takes_maps l C.env C.interface m defs d) C.process place C'.env C'.process h.0

-- ---- systems
module _ (defs : Definitions) (sender place : ℕ) (heard : List (ℕ × ℕ)) (l : Label) where
  one_map : (b : Bool) (at : Option ℕ) (C D : Component) → HasMap C → MatchBool b (Speaks defs C place l D) (Hears defs C l at D) → HasMap D
  one_map true at C D m s = speaking_keeps_maps defs C place l D m s
  one_map false at C D m s = hearing_keeps_maps defs C l at D m s

  each_map : (S T : System) (i : ℕ) → All HasMap S → EachMoves defs sender place heard l i S T → All HasMap T
  each_map [] [] i m s = m
  each_map [] (D ∷ T) i m s = elim s [ ]
  each_map (C ∷ S) [] i m s = elim s [ ]
  each_map (C ∷ S) (D ∷ T) i m s =
      All-cons HasMap D T (one_map (i == sender) (place_in heard i) C D (m 0 C (omega arith)) s.0) (each_map S T (i + 1) (λ k c lt. m (suc k) c (omega arith)) s.1)

step_map : (defs : Definitions) (S : System) (sender : ℕ) (at : Option ℕ) (heard : List (ℕ × ℕ)) (T : System) → All HasMap S → StepAt defs S sender at heard T → All HasMap T
step_map defs S sender None heard T m s = subst (λ (X : System). All HasMap X) (sym s.2) m
step_map defs S sender (Some place) heard T m s = each_map defs sender place heard s.0 S T 0 m s.1.moves

pub runs_keep_maps : RunsKeepMaps
runs_keep_maps defs S [] T m s = subst (λ (X : System). All HasMap X) (sym s) m
runs_keep_maps defs S (c ∷ cs) T m s = runs_keep_maps defs s.0 cs T (step_map defs S c.sender c.place c.heard s.0 m s.1) s.2
