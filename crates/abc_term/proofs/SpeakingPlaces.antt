-- The places of outputs: each below their number has exactly one.
use Rattle.std.proofs.Common.{◌≡◌, inl, inr, ℕ, zero, suc, ◌<◌, List, [], length, refl, sym, ap, subst, ◌∙◌, arith}
use Rattle.abc_pred.specs.declared.names.Name.{Name}
use Rattle.abc_pred.specs.Maps.{Entries}
use Rattle.abc_pred.specs.Meaning.{sat}
use Rattle.abc_term.specs.Processes.{Process, Nil, Output, Input, When, Choice, Par, Call, Definitions, body_of}
use Rattle.abc_term.specs.Speaking.{Label, label_from, updated, outs_of, call_outs, Says, CallSays}
use Rattle.abc_term.specs.Laws.{SpeakingHasItsPlaces, SpeakingIsDetermined}
use Rattle.abc_term.proofs.Guards.{guarded_below, below_guarded, split_place}

-- ---- a place is below the number
module _ (env : Entries) (interface : List Name) (of_call : Name → ℕ) (OfCall : Name → ℕ → Label → Entries → Process → Type 0) (calls : (c : Name) (k : ℕ) (l : Label) (e : Entries) (R : Process) → OfCall c k l e R → k < of_call c) where
  pub says_below : (P : Process) (k : ℕ) (l : Label) (e : Entries) (R : Process) → Says env interface of_call OfCall P k l e R → k < outs_of env of_call P
  says_below Nil k l e R h = elim h [ ]
  says_below (Output es p us P) k l e R h = let at = h.0 in omega arith
  says_below (Input p xs us P) k l e R h = elim h [ ]
  says_below (When g P) k l e R h = guarded_below (sat g env env []) (outs_of env of_call P) k h.0 (says_below P k l e R h.1)
  says_below (Choice P Q) k l e R h =
      elim h [
        | inl s ↦ let b = says_below P k l e R s in omega arith
        | inr s ↦ let b = says_below Q s.0 l e R s.2 in let at = s.1 in omega arith
      ]
  says_below (Par P Q) k l e R h =
      elim h [
        | inl s ↦ let b = says_below P k l e s.0 s.1 in omega arith
        | inr s ↦ let b = says_below Q s.0 l e s.1 s.3 in let at = s.2 in omega arith
      ]
  says_below (Call c) k l e R h = calls c k l e R h

module _ (defs : Definitions) (env : Entries) (interface : List Name) where
  call_below : (d : ℕ) (c : Name) (k : ℕ) (l : Label) (e : Entries) (R : Process) → CallSays d defs env interface c k l e R → k < call_outs d defs env c
  call_below zero c k l e R h = elim h [ ]
  call_below (suc d) c k l e R h = says_below env interface (call_outs d defs env) (CallSays d defs env interface) (call_below d) (body_of defs c) k l e R h

-- ---- each place below the number has an output
module _ (env : Entries) (interface : List Name) (of_call : Name → ℕ) (OfCall : Name → ℕ → Label → Entries → Process → Type 0) (calls : (c : Name) (k : ℕ) → k < of_call c → (l : Label) × (e : Entries) × (R : Process) × OfCall c k l e R) where
  pub says_at : (P : Process) (k : ℕ) → k < outs_of env of_call P → (l : Label) × (e : Entries) × (R : Process) × Says env interface of_call OfCall P k l e R
  says_at Nil k h = absurd (omega arith)
  says_at (Output es p us P) k h = let at : k ≡ 0 = omega arith in (label_from env interface es p, updated us env, P, (at, refl, refl, refl))
  says_at (Input p xs us P) k h = absurd (omega arith)
  says_at (When g P) k h =
      let b = below_guarded (sat g env env []) (outs_of env of_call P) k h in let s = says_at P k b.1 in (s.0, s.1, s.2, (b.0, s.3))
  says_at (Choice P Q) k h =
      elim (split_place k (outs_of env of_call P) (outs_of env of_call Q) h) [
        | inl b ↦ let s = says_at P k b in (s.0, s.1, s.2, inl s.3)
        | inr b ↦ let s = says_at Q b.0 b.2 in (s.0, s.1, s.2, inr (b.0, b.1, s.3))
      ]
  says_at (Par P Q) k h =
      elim (split_place k (outs_of env of_call P) (outs_of env of_call Q) h) [
        | inl b ↦ let s = says_at P k b in (s.0, s.1, Par s.2 Q, inl (s.2, s.3, refl))
        | inr b ↦ let s = says_at Q b.0 b.2 in (s.0, s.1, Par P s.2, inr (b.0, s.2, b.1, s.3, refl))
      ]
  says_at (Call c) k h = calls c k h

module _ (defs : Definitions) (env : Entries) (interface : List Name) where
  call_at : (d : ℕ) (c : Name) (k : ℕ) → k < call_outs d defs env c → (l : Label) × (e : Entries) × (R : Process) × CallSays d defs env interface c k l e R
  call_at zero c k h = absurd (omega arith)
  call_at (suc d) c k h = says_at env interface (call_outs d defs env) (CallSays d defs env interface) (call_at d) (body_of defs c) k h

pub speaking_has_its_places : SpeakingHasItsPlaces
speaking_has_its_places defs C place =
    let d = length defs in (
      λ s. says_below C.env C.interface (call_outs d defs C.env) (CallSays d defs C.env C.interface) (call_below defs C.env C.interface d) C.process place s.0 s.1.env s.1.process s.2.0,
      λ h. let s = says_at C.env C.interface (call_outs d defs C.env) (CallSays d defs C.env C.interface) (call_at defs C.env C.interface d) C.process place h in
          (s.0, record { env = s.1; interface = C.interface; process = s.2 }, (s.3, refl)),
    )

-- ---- no more than one
module _ (env : Entries) (interface : List Name) (of_call : Name → ℕ) (OfCall : Name → ℕ → Label → Entries → Process → Type 0)
    (calls : (c : Name) (k : ℕ) (l : Label) (e : Entries) (R : Process) → OfCall c k l e R → k < of_call c)
    (once : (c : Name) (k : ℕ) (l m : Label) (e f : Entries) (R T : Process) → OfCall c k l e R → OfCall c k m f T → (l ≡ m) × (e ≡ f) × (R ≡ T)) where
  pub says_once : (P : Process) (k : ℕ) (l m : Label) (e f : Entries) (R T : Process) → Says env interface of_call OfCall P k l e R → Says env interface of_call OfCall P k m f T → (l ≡ m) × (e ≡ f) × (R ≡ T)
  says_once Nil k l m e f R T s t = elim s [ ]
  says_once (Output es p us P) k l m e f R T s t = (s.1 ∙ sym t.1, s.2 ∙ sym t.2, s.3 ∙ sym t.3)
  says_once (Input p xs us P) k l m e f R T s t = elim s [ ]
  says_once (When g P) k l m e f R T s t = says_once P k l m e f R T s.1 t.1
  says_once (Choice P Q) k l m e f R T s t =
      elim s [
        | inl a ↦ elim t [
          | inl b ↦ says_once P k l m e f R T a b
          | inr b ↦ let lt = says_below env interface of_call OfCall calls P k l e R a in let at = b.1 in absurd (omega arith)
        ]
        | inr a ↦ elim t [
          | inl b ↦ let lt = says_below env interface of_call OfCall calls P k m f T b in let at = a.1 in absurd (omega arith)
          | inr b ↦
              let one = a.1 in let two = b.1 in let same : b.0 ≡ a.0 = omega arith in
              let there : Says env interface of_call OfCall Q a.0 m f T = subst (λ (j : ℕ). Says env interface of_call OfCall Q j m f T) same b.2 in
              says_once Q a.0 l m e f R T a.2 there
        ]
      ]
  says_once (Par P Q) k l m e f R T s t =
      elim s [
        | inl a ↦ elim t [
          | inl b ↦ let r = says_once P k l m e f a.0 b.0 a.1 b.1 in (r.0, r.1, a.2 ∙ ap (λ P'. Par P' Q) r.2 ∙ sym b.2)
          | inr b ↦ let lt = says_below env interface of_call OfCall calls P k l e a.0 a.1 in let at = b.2 in absurd (omega arith)
        ]
        | inr a ↦ elim t [
          | inl b ↦ let lt = says_below env interface of_call OfCall calls P k m f b.0 b.1 in let at = a.2 in absurd (omega arith)
          | inr b ↦
              let one = a.2 in let two = b.2 in let same : b.0 ≡ a.0 = omega arith in
              let there : Says env interface of_call OfCall Q a.0 m f b.1 = subst (λ (j : ℕ). Says env interface of_call OfCall Q j m f b.1) same b.3 in
              let r = says_once Q a.0 l m e f a.1 b.1 a.3 there in (r.0, r.1, a.4 ∙ ap (λ Q'. Par P Q') r.2 ∙ sym b.4)
        ]
      ]
  says_once (Call c) k l m e f R T s t = once c k l m e f R T s t

module _ (defs : Definitions) (env : Entries) (interface : List Name) where
  call_once : (d : ℕ) (c : Name) (k : ℕ) (l m : Label) (e f : Entries) (R T : Process) → CallSays d defs env interface c k l e R → CallSays d defs env interface c k m f T → (l ≡ m) × (e ≡ f) × (R ≡ T)
  call_once zero c k l m e f R T s t = elim s [ ]
  call_once (suc d) c k l m e f R T s t =
      says_once env interface (call_outs d defs env) (CallSays d defs env interface) (call_below defs env interface d) (call_once d) (body_of defs c) k l m e f R T s t

pub speaking_is_determined : SpeakingIsDetermined
speaking_is_determined defs C place l m D E s t =
    let d = length defs in
    let r = says_once C.env C.interface (call_outs d defs C.env) (CallSays d defs C.env C.interface) (call_below defs C.env C.interface d) (call_once defs C.env C.interface d) C.process place l m D.env E.env D.process E.process s.0 t.0 in
    let same : D.interface ≡ E.interface = s.1 ∙ sym t.1 in
    (r.0, λ i. record { env = r.1 i; interface = same i; process = r.2 i })
