-- Each run of a traceable program is told.
use Rattle.std.proofs.Common.{◌≡◌, ◌≤◌, ◌<◌, ◌^◌, ◌∙◌, ℕ, zero, suc, ◌+◌, ◌==◌, Bool, true, false, List, [], ◌∷◌, length, slice_get, Option, None, Some, All, MatchBool, refl, sym, ap, subst, arith}
use Rattle.std.proofs.lemmas.List.Elements.{All-nil, All-cons, All-head, All-tail}
use Rattle.abc_value.specs.Literals.{IsValue}
use Rattle.abc_pred.specs.declared.names.Name.{Name}
use Rattle.abc_pred.specs.Maps.{IsMap}
use Rattle.abc_term.specs.Processes.{Definitions, Component, System, body_of}
use Rattle.abc_term.specs.Speaking.{Label, Speaks}
use Rattle.abc_term.specs.Hearing.{Hears}
use Rattle.abc_term.specs.Standing.{definitions_of}
use Rattle.abc_term.specs.Systems.{place_in, AreHearers, EachMoves, Multicasts}
use Rattle.abc_term.specs.declared.terms.Program.{Program}
use Rattle.abc_term.proofs.ByNumber.{multicast_by_number}
use Rattle.abc_term.proofs.Hearers.{listed_hear}
use Rattle.abc_term.proofs.MapsStay.{speaking_keeps_maps, hearing_keeps_maps}
use Rattle.abc_sound.specs.Sound.{IsSound}
use Rattle.abc_sound.proofs.Sounding.{speaking_keeps_soundness, hearing_keeps_soundness, speaking_places_fit, hearing_places_fit}
use Rattle.abc_steps.specs.Rows.{Row, IsToldBy, TellRun}
use Rattle.abc_trace.specs.declared.limits.TheConstants.{MOST_PLACE}
use Rattle.abc_traceable.specs.Told.{IsToldAt, RowIsTold}
use Rattle.abc_traceable.proofs.Telling.{CanTell}
use Rattle.abc_traceable.proofs.Environments.{IsHeld}
use Rattle.abc_traceable.proofs.Moving.{speaking_leaves, hearing_leaves}

-- what is known of a component that runs
pub record IsAble (p : Program) (C : Component) : Type 0 where
  pub sound : IsSound p C
  pub map : IsMap C.env
  pub held : All (IsHeld p.names) C.env
  pub process : CanTell p.names C.process

-- An item of a list at a place.
pub some_at : {A : Type 0} (xs : List A) (k : ℕ) → k < length xs →
    (x : A) × (slice_get xs k ≡ Some x)
some_at [] k lt = absurd (omega (arith, lt))
some_at (x ∷ xs) zero lt = (x, refl)
some_at (x ∷ xs) (suc k) lt = some_at xs k (omega (arith, lt))

-- What holds of all holds of the one at a place.
pub all_at : {A : Type 0} (P : A → Type 0) (xs : List A) (k : ℕ) (x : A) → All P xs →
    slice_get xs k ≡ Some x → P x
all_at P [] k x h e = cc
all_at P (y ∷ xs) zero x h e = let same : y ≡ x = cc in subst P same (All-head P y xs h)
all_at P (y ∷ xs) (suc k) x h e = all_at P xs k x (All-tail P y xs h) e

-- What holds at each place holds of all.
pub all_from : {A : Type 0} (P : A → Type 0) (xs : List A) →
    ((k : ℕ) (x : A) → slice_get xs k ≡ Some x → P x) → All P xs
all_from P [] h = All-nil P
all_from P (x ∷ xs) h = All-cons P x xs (h 0 x refl) (all_from P xs (λ k y e. h (suc k) y e))

module _ (p : Program)
    (bodies : (c : Name) → CanTell p.names (body_of (definitions_of p.definitions) c)) where
  abbrev defs : Definitions
  defs = definitions_of p.definitions

  -- ---- one component
  -- What is said, and the component that has said it.
  record SaysSo (place : ℕ) (l : Label) (D : Component) : Type 0 where
    told : IsToldAt p place l
    able : IsAble p D

  speaks_able : (C : Component) (place : ℕ) (l : Label) (D : Component) → IsAble p C →
      Speaks defs C place l D → SaysSo place l D
  speaks_able C place l D able h =
      let x = speaking_leaves p.names C.env C.interface able.held defs bodies C.process place l
      D.env D.process able.process h.0 in
      let small : place < 2 ^ 16 = speaking_places_fit p C place l D able.sound h in
      record {
        told = record {
          small = omega (arith, small);
          few = x.label.few;
          values = x.label.values;
          pred = x.label.pred;
        };
        able = record {
          sound = speaking_keeps_soundness p C place l D able.sound h;
          map = speaking_keeps_maps defs C place l D able.map h;
          held = x.env;
          process = x.process;
        };
      }

  hears_able : (C : Component) (l : Label) (at : Option ℕ) (D : Component) → All IsValue l.values →
      IsAble p C → Hears defs C l at D → IsAble p D
  hears_able C l None D values able h = subst (IsAble p) (sym h.1) able
  hears_able C l (Some place) D values able h =
      let x = hearing_leaves p.names l values C.env C.interface able.held defs bodies C.process
      place D.env D.process able.process h.0 in
      record {
        sound = hearing_keeps_soundness p C l (Some place) D able.sound h;
        map = hearing_keeps_maps defs C l (Some place) D able.map h;
        held = x.env;
        process = x.process;
      }

  -- ---- all at once
  module _ (sender place : ℕ) (heard : List (ℕ × ℕ)) (l : Label)
      (values : All IsValue l.values) where
    one_able : (b : Bool) (at : Option ℕ) (C D : Component) → IsAble p C →
        MatchBool b (Speaks defs C place l D) (Hears defs C l at D) → IsAble p D
    one_able true at C D able s = (speaks_able C place l D able s).able
    one_able false at C D able s = hears_able C l at D values able s

    each_able : (S T : System) (i : ℕ) → All (IsAble p) S →
        EachMoves defs sender place heard l i S T → All (IsAble p) T
    each_able [] [] i able s = able
    each_able [] (D ∷ T) i able s = elim s [ ]
    each_able (C ∷ S) [] i able s = elim s [ ]
    each_able (C ∷ S) (D ∷ T) i able s =
        All-cons (IsAble p) D T
        (one_able (i == sender) (place_in heard i) C D (All-head (IsAble p) C S able) s.0)
        (each_able S T (i + 1) (All-tail (IsAble p) C S able) s.1)

  -- what a step says, and the system that it leads to
  record Goes (sender : ℕ) (spoke : Option (ℕ × Label)) (heard : List (ℕ × ℕ))
      (S T : System) : Type 0 where
    row : RowIsTold p (record { sender = sender; spoke = spoke; heard = heard })
    able : All (IsAble p) T
    count : length T ≡ length S

  multicast_goes :
      (S T : System) (sender place : ℕ) (heard : List (ℕ × ℕ)) (l : Label) →
      length S ≡ length p.components → All (IsAble p) S →
      Multicasts defs S sender place heard l T → Goes sender (Some (place, l)) heard S T
  multicast_goes S T sender place heard l many able s =
      let by = (multicast_by_number defs S sender place heard l T).0 s.moves in
      let exists = s.exists in
      let as_many = by.as_many in
      let own = some_at S sender exists in
      let new = some_at T sender (omega (arith, exists, as_many)) in
      let told = (speaks_able own.0 place l new.0 (all_at (IsAble p) S sender own.0 able own.1)
      (by.speaks own.0 new.0 own.1 new.1)).told in
      record {
        row = record {
          sender = omega (arith, exists, many);
          said = told;
          hearers = subst (λ (n : ℕ). AreHearers sender n 0 heard) many s.hearers;
          places = all_from (λ h. h.1 ≤ MOST_PLACE) heard
              (λ k h at.
              let r = listed_hear defs S sender place heard l T s k h at in
              let below = r.0 in
              let C = some_at S h.0 below in
              let D = some_at T h.0 (omega (arith, below, as_many)) in
              let small : h.1 < 2 ^ 16 =
              hearing_places_fit p C.0 l h.1 D.0 (all_at (IsAble p) S h.0 C.0 able C.1).sound
              (r.2 C.0 D.0 C.1 D.1) in
              omega (arith, small));
        };
        able = each_able sender place heard l told.values S T 0 able s.moves;
        count = as_many;
      }

  step_goes :
      (S T : System) (sender : ℕ) (spoke : Option (ℕ × Label)) (heard : List (ℕ × ℕ)) →
      length S ≡ length p.components → All (IsAble p) S →
      IsToldBy defs S sender spoke heard T → Goes sender spoke heard S T
  step_goes S T sender (Some s) heard many able h =
      multicast_goes S T sender s.0 heard s.1 many able h
  step_goes S T sender None heard many able h = record {
    row = record {
      sender = let exists = h.0 in omega (arith, exists, many);
      said = tt;
      hearers = subst (λ (hs : List (ℕ × ℕ)). AreHearers sender (length p.components) 0 hs)
          (sym h.1) tt;
      places = subst (λ (hs : List (ℕ × ℕ)). All (λ h. h.1 ≤ MOST_PLACE) hs) (sym h.1)
          (All-nil (λ h. h.1 ≤ MOST_PLACE));
    };
    able = subst (All (IsAble p)) (sym h.2) able;
    count = ap (λ (U : System). length U) h.2;
  }

  -- ---- a run
  pub record RunGoes (made : List Row) (T : System) : Type 0 where
    pub rows : All (RowIsTold p) made
    pub able : All (IsAble p) T
    pub count : length T ≡ length p.components

  pub run_goes :
      (S : System) (rows : List Row) (T : System) → length S ≡ length p.components →
      All (IsAble p) S → TellRun defs S rows T → RunGoes rows T
  run_goes S [] T many able h = record {
    rows = All-nil (RowIsTold p);
    able = subst (All (IsAble p)) (sym h) able;
    count = ap (λ (U : System). length U) h ∙ many;
  }
  run_goes S (r ∷ rows) T many able h =
      let step = step_goes S h.0 r.sender r.spoke r.heard many able h.1 in
      let more = run_goes h.0 rows T (step.count ∙ many) step.able h.2 in
      record {
        rows = All-cons (RowIsTold p) r rows step.row more.rows;
        able = more.able;
        count = more.count;
      }
