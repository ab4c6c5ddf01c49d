-- The places at which a message is taken: each below their number has exactly one.
use Rattle.std.proofs.Common.{◌≡◌, inl, inr, ℕ, zero, suc, ◌<◌, List, [], length, Option, Some, None, refl, sym, ap, subst, ◌∙◌, arith}
use Rattle.std.specs.List.{zip}
use Rattle.abc_pred.specs.declared.names.Name.{Name}
use Rattle.abc_pred.specs.Maps.{Entries}
use Rattle.abc_pred.specs.Meaning.{sat}
use Rattle.abc_term.specs.Processes.{Process, Nil, Output, Input, When, Choice, Par, Call, Definitions, body_of, Component}
use Rattle.abc_term.specs.Substitution.{put, put_updates}
use Rattle.abc_term.specs.Speaking.{Label, updated}
use Rattle.abc_term.specs.Hearing.{takes, ins_of, call_ins, ins, Takes, CallTakes, Hears}
use Rattle.abc_term.specs.Laws.{HearingHasItsPlaces, HearingIsDetermined, HearingExists, DiscardIsTheRest}
use Rattle.abc_term.proofs.Guards.{guarded_below, below_guarded, split_place}

-- ---- a place is below the number
module _ (l : Label) (env : Entries) (interface : List Name) (of_call : Name → ℕ) (OfCall : Name → ℕ → Entries → Process → Type 0) (calls : (c : Name) (k : ℕ) (e : Entries) (R : Process) → OfCall c k e R → k < of_call c) where
  pub takes_below : (P : Process) (k : ℕ) (e : Entries) (R : Process) → Takes l env interface of_call OfCall P k e R → k < ins_of l env interface of_call P
  takes_below Nil k e R h = elim h [ ]
  takes_below (Output es p us P) k e R h = elim h [ ]
  takes_below (Input p xs us P) k e R h = guarded_below (takes l env interface p xs) 1 k h.1 (let at = h.0 in omega arith)
  takes_below (When g P) k e R h = guarded_below (sat g env env []) (ins_of l env interface of_call P) k h.0 (takes_below P k e R h.1)
  takes_below (Choice P Q) k e R h =
      elim h [
        | inl s ↦ let b = takes_below P k e R s in omega arith
        | inr s ↦ let b = takes_below Q s.0 e R s.2 in let at = s.1 in omega arith
      ]
  takes_below (Par P Q) k e R h =
      elim h [
        | inl s ↦ let b = takes_below P k e s.0 s.1 in omega arith
        | inr s ↦ let b = takes_below Q s.0 e s.1 s.3 in let at = s.2 in omega arith
      ]
  takes_below (Call c) k e R h = calls c k e R h

module _ (defs : Definitions) (l : Label) (env : Entries) (interface : List Name) where
  call_below : (d : ℕ) (c : Name) (k : ℕ) (e : Entries) (R : Process) → CallTakes d defs l env interface c k e R → k < call_ins d defs l env interface c
  call_below zero c k e R h = elim h [ ]
  call_below (suc d) c k e R h = takes_below l env interface (call_ins d defs l env interface) (CallTakes d defs l env interface) (call_below d) (body_of defs c) k e R h

-- ---- each place below the number has an input
module _ (l : Label) (env : Entries) (interface : List Name) (of_call : Name → ℕ) (OfCall : Name → ℕ → Entries → Process → Type 0) (calls : (c : Name) (k : ℕ) → k < of_call c → (e : Entries) × (R : Process) × OfCall c k e R) where
  pub takes_at : (P : Process) (k : ℕ) → k < ins_of l env interface of_call P → (e : Entries) × (R : Process) × Takes l env interface of_call OfCall P k e R
  takes_at Nil k h = absurd (omega arith)
  takes_at (Output es p us P) k h = absurd (omega arith)
  takes_at (Input p xs us P) k h =
      let b = below_guarded (takes l env interface p xs) 1 k h in
      let lt = b.1 in let at : k ≡ 0 = omega arith in
      (updated (put_updates (zip xs l.values) us) env, put (zip xs l.values) P, (at, b.0, refl, refl))
  takes_at (When g P) k h =
      let b = below_guarded (sat g env env []) (ins_of l env interface of_call P) k h in let s = takes_at P k b.1 in (s.0, s.1, (b.0, s.2))
  takes_at (Choice P Q) k h =
      elim (split_place k (ins_of l env interface of_call P) (ins_of l env interface of_call Q) h) [
        | inl b ↦ let s = takes_at P k b in (s.0, s.1, inl s.2)
        | inr b ↦ let s = takes_at Q b.0 b.2 in (s.0, s.1, inr (b.0, b.1, s.2))
      ]
  takes_at (Par P Q) k h =
      elim (split_place k (ins_of l env interface of_call P) (ins_of l env interface of_call Q) h) [
        | inl b ↦ let s = takes_at P k b in (s.0, Par s.1 Q, inl (s.1, s.2, refl))
        | inr b ↦ let s = takes_at Q b.0 b.2 in (s.0, Par P s.1, inr (b.0, s.1, b.1, s.2, refl))
      ]
  takes_at (Call c) k h = calls c k h

module _ (defs : Definitions) (l : Label) (env : Entries) (interface : List Name) where
  call_at : (d : ℕ) (c : Name) (k : ℕ) → k < call_ins d defs l env interface c → (e : Entries) × (R : Process) × CallTakes d defs l env interface c k e R
  call_at zero c k h = absurd (omega arith)
  call_at (suc d) c k h = takes_at l env interface (call_ins d defs l env interface) (CallTakes d defs l env interface) (call_at d) (body_of defs c) k h

pub below_ins : (defs : Definitions) (C : Component) (l : Label) (place : ℕ) (C' : Component) → Hears defs C l (Some place) C' → place < ins defs C l
below_ins defs C l place C' h =
    let d = length defs in
    takes_below l C.env C.interface (call_ins d defs l C.env C.interface) (CallTakes d defs l C.env C.interface) (call_below defs l C.env C.interface d) C.process place C'.env C'.process h.0

pub hears_at : (defs : Definitions) (C : Component) (l : Label) (place : ℕ) → place < ins defs C l → (C' : Component) × Hears defs C l (Some place) C'
hears_at defs C l place h =
    let d = length defs in
    let s = takes_at l C.env C.interface (call_ins d defs l C.env C.interface) (CallTakes d defs l C.env C.interface) (call_at defs l C.env C.interface d) C.process place h in
    (record { env = s.0; interface = C.interface; process = s.1 }, (s.2, refl))

pub hearing_has_its_places : HearingHasItsPlaces
hearing_has_its_places defs C l place = (λ s. below_ins defs C l place s.0 s.1, λ h. hears_at defs C l place h)

-- ---- no more than one
module _ (l : Label) (env : Entries) (interface : List Name) (of_call : Name → ℕ) (OfCall : Name → ℕ → Entries → Process → Type 0)
    (calls : (c : Name) (k : ℕ) (e : Entries) (R : Process) → OfCall c k e R → k < of_call c)
    (once : (c : Name) (k : ℕ) (e f : Entries) (R T : Process) → OfCall c k e R → OfCall c k f T → (e ≡ f) × (R ≡ T)) where
  pub takes_once : (P : Process) (k : ℕ) (e f : Entries) (R T : Process) → Takes l env interface of_call OfCall P k e R → Takes l env interface of_call OfCall P k f T → (e ≡ f) × (R ≡ T)
  takes_once Nil k e f R T s t = elim s [ ]
  takes_once (Output es p us P) k e f R T s t = elim s [ ]
  takes_once (Input p xs us P) k e f R T s t = (s.2 ∙ sym t.2, s.3 ∙ sym t.3)
  takes_once (When g P) k e f R T s t = takes_once P k e f R T s.1 t.1
  takes_once (Choice P Q) k e f R T s t =
      elim s [
        | inl a ↦ elim t [
          | inl b ↦ takes_once P k e f R T a b
          | inr b ↦ let lt = takes_below l env interface of_call OfCall calls P k e R a in let at = b.1 in absurd (omega arith)
        ]
        | inr a ↦ elim t [
          | inl b ↦ let lt = takes_below l env interface of_call OfCall calls P k f T b in let at = a.1 in absurd (omega arith)
          | inr b ↦
              let one = a.1 in let two = b.1 in let same : b.0 ≡ a.0 = omega arith in
              let there : Takes l env interface of_call OfCall Q a.0 f T = subst (λ (j : ℕ). Takes l env interface of_call OfCall Q j f T) same b.2 in
              takes_once Q a.0 e f R T a.2 there
        ]
      ]
  takes_once (Par P Q) k e f R T s t =
      elim s [
        | inl a ↦ elim t [
          | inl b ↦ let r = takes_once P k e f a.0 b.0 a.1 b.1 in (r.0, a.2 ∙ ap (λ P'. Par P' Q) r.1 ∙ sym b.2)
          | inr b ↦ let lt = takes_below l env interface of_call OfCall calls P k e a.0 a.1 in let at = b.2 in absurd (omega arith)
        ]
        | inr a ↦ elim t [
          | inl b ↦ let lt = takes_below l env interface of_call OfCall calls P k f b.0 b.1 in let at = a.2 in absurd (omega arith)
          | inr b ↦
              let one = a.2 in let two = b.2 in let same : b.0 ≡ a.0 = omega arith in
              let there : Takes l env interface of_call OfCall Q a.0 f b.1 = subst (λ (j : ℕ). Takes l env interface of_call OfCall Q j f b.1) same b.3 in
              let r = takes_once Q a.0 e f a.1 b.1 a.3 there in (r.0, a.4 ∙ ap (λ Q'. Par P Q') r.1 ∙ sym b.4)
        ]
      ]
  takes_once (Call c) k e f R T s t = once c k e f R T s t

module _ (defs : Definitions) (l : Label) (env : Entries) (interface : List Name) where
  call_once : (d : ℕ) (c : Name) (k : ℕ) (e f : Entries) (R T : Process) → CallTakes d defs l env interface c k e R → CallTakes d defs l env interface c k f T → (e ≡ f) × (R ≡ T)
  call_once zero c k e f R T s t = elim s [ ]
  call_once (suc d) c k e f R T s t =
      takes_once l env interface (call_ins d defs l env interface) (CallTakes d defs l env interface) (call_below defs l env interface d) (call_once d) (body_of defs c) k e f R T s t

pub hearing_is_determined : HearingIsDetermined
hearing_is_determined defs C l None D E s t = s.1 ∙ sym t.1
hearing_is_determined defs C l (Some place) D E s t =
    let d = length defs in
    let r = takes_once l C.env C.interface (call_ins d defs l C.env C.interface) (CallTakes d defs l C.env C.interface) (call_below defs l C.env C.interface d) (call_once defs l C.env C.interface d) C.process place D.env E.env D.process E.process s.0 t.0 in
    let same : D.interface ≡ E.interface = s.1 ∙ sym t.1 in
    λ i. record { env = r.0 i; interface = same i; process = r.1 i }

-- ---- some hearing exists, and discarding is the rest
hearing_by_count : (defs : Definitions) (C : Component) (l : Label) (n : ℕ) → ins defs C l ≡ n → (place : Option ℕ) × (C' : Component) × Hears defs C l place C'
hearing_by_count defs C l zero e = (None, C, (e, refl))
hearing_by_count defs C l (suc n) e = let h = hears_at defs C l 0 (omega arith) in (Some 0, h.0, h.1)

pub hearing_exists : HearingExists
hearing_exists defs C l = hearing_by_count defs C l (ins defs C l) refl

none_taken : (defs : Definitions) (C : Component) (l : Label) (n : ℕ) → ins defs C l ≡ n → ((place : ℕ) (D : Component) → ¬ Hears defs C l (Some place) D) → ins defs C l ≡ 0
none_taken defs C l zero e none = e
none_taken defs C l (suc n) e none = let h = hears_at defs C l 0 (omega arith) in absurd (none 0 h.0 h.1)

pub discard_is_the_rest : DiscardIsTheRest
discard_is_the_rest defs C l C' = (
  λ h. (h.1, λ place D s. let lt = below_ins defs C l place D s in let none = h.0 in omega arith),
  λ h. (none_taken defs C l (ins defs C l) refl h.1, h.0),
)
