-- Only what is meant for a component is taken by it.
use Rattle.std.proofs.Common.{◌≡◌, inl, inr, ℕ, zero, suc, ◌+◌, ◌==◌, ◌&&◌, ◌<◌, Bool, true, false, if◌then◌else◌, IsTrue, List, [], length, Option, Some, None, MatchBool, ◌≢◌, ◌≤◌, ◌∷◌, refl, sym, ap, subst, ◌∙◌, arith}
use Rattle.std.proofs.lemmas.Bool.{eq-eqb, ne_eqb}
use Rattle.std.proofs.lemmas.Bool.Decides.{eqb_tells}
use Rattle.abc_pred.specs.declared.names.Name.{Name}
use Rattle.abc_pred.specs.Terms.{Pred, False}
use Rattle.abc_pred.specs.Maps.{Entries, shown}
use Rattle.abc_pred.specs.Meaning.{sat}
use Rattle.abc_term.specs.Processes.{Process, Nil, Output, Input, When, Choice, Par, Call, Definitions, body_of, Component, System}
use Rattle.abc_term.specs.Speaking.{Label, Speaks}
use Rattle.abc_term.specs.Hearing.{is_meant, is_wanted, call_ins, Takes, CallTakes, Hears}
use Rattle.abc_term.specs.Systems.{place_in, AreHearers, EachMoves}
use Rattle.abc_term.specs.Laws.{OnlyTheMeantReceive, FalseIsHeardByNobody, FalseHasNoHearers}

middle : (a b c : Bool) → IsTrue (a && b && c) → IsTrue b
middle true true c h = refl
middle true false c h = cc
middle false b c h = cc

module _ (l : Label) (env : Entries) (interface : List Name) (of_call : Name → ℕ) (OfCall : Name → ℕ → Entries → Process → Type 0) (calls : (c : Name) (k : ℕ) (e : Entries) (R : Process) → OfCall c k e R → IsTrue (is_meant l env interface)) where
  takes_meant : (P : Process) (k : ℕ) (e : Entries) (R : Process) → Takes l env interface of_call OfCall P k e R → IsTrue (is_meant l env interface)
  takes_meant Nil k e R h = elim h [ ]
  takes_meant (Output es p us P) k e R h = elim h [ ]
  takes_meant (Input p xs us P) k e R h = middle (length l.values == length xs) (is_meant l env interface) (is_wanted l env p xs) h.1
  takes_meant (When g P) k e R h = takes_meant P k e R h.1
  takes_meant (Choice P Q) k e R h = elim h [ inl s ↦ takes_meant P k e R s | inr s ↦ takes_meant Q s.0 e R s.2 ]
  takes_meant (Par P Q) k e R h = elim h [ inl s ↦ takes_meant P k e s.0 s.1 | inr s ↦ takes_meant Q s.0 e s.1 s.3 ]
  takes_meant (Call c) k e R h = calls c k e R h

module _ (defs : Definitions) (l : Label) (env : Entries) (interface : List Name) where
  call_meant : (d : ℕ) (c : Name) (k : ℕ) (e : Entries) (R : Process) → CallTakes d defs l env interface c k e R → IsTrue (is_meant l env interface)
  call_meant zero c k e R h = elim h [ ]
  call_meant (suc d) c k e R h = takes_meant l env interface (call_ins d defs l env interface) (CallTakes d defs l env interface) (call_meant d) (body_of defs c) k e R h

pub only_the_meant_receive : OnlyTheMeantReceive
only_the_meant_receive defs C l place C' h =
    let d = length defs in
    takes_meant l C.env C.interface (call_ins d defs l C.env C.interface) (CallTakes d defs l C.env C.interface) (call_meant defs l C.env C.interface d) C.process place C'.env C'.process h.0

pub false_is_heard_by_nobody : FalseIsHeardByNobody
false_is_heard_by_nobody defs C l None C' e h = (refl, h.1)
false_is_heard_by_nobody defs C l (Some place) C' e h =
    let meant = only_the_meant_receive defs C l place C' h in
    let never : false ≡ true = subst (λ (p : Pred). sat p [] (shown C.env C.interface) [] ≡ true) e meant in
    cc

-- ---- systems: the component with a number hears by its place
module _ (defs : Definitions) (sender place : ℕ) (heard : List (ℕ × ℕ)) (l : Label) where
  hears_by_place : (S T : System) (i j : ℕ) → i ≤ j → j < i + length S → j ≢ sender → EachMoves defs sender place heard l i S T → (C : Component) × (D : Component) × Hears defs C l (place_in heard j) D
  hears_by_place [] T i j low high ne s = absurd (omega arith)
  hears_by_place (C ∷ S) [] i j low high ne s = elim s [ ]
  hears_by_place (C ∷ S) (D ∷ T) i j low high ne s =
      elim (eqb_tells i j) [
        | inl e ↦
            let at : i ≡ j = e.1 in
            let there : (i == sender) ≡ false = ne_eqb i sender (λ own. ne (sym at ∙ own)) in
            let h = subst (λ (b : Bool). MatchBool b (Speaks defs C place l D) (Hears defs C l (place_in heard i) D)) there s.0 in
            (C, D, subst (λ (k : ℕ). Hears defs C l (place_in heard k) D) at h)
        | inr e ↦ let other = e.1 in hears_by_place S T (i + 1) j (omega arith) (omega arith) ne s.1
      ]

false_unlisted : (defs : Definitions) (S T : System) (sender place : ℕ) (heard : List (ℕ × ℕ)) (l : Label) → l.pred ≡ False → AreHearers sender (length S) 0 heard → EachMoves defs sender place heard l 0 S T → heard ≡ []
false_unlisted defs S T sender place [] l e a s = refl
false_unlisted defs S T sender place (h ∷ heard) l e a s =
    let lt = a.1 in
    let r = hears_by_place defs sender place (h ∷ heard) l S T 0 h.0 (omega arith) (omega arith) a.2 s in
    let is : (h.0 == h.0) ≡ true = eq-eqb h.0 h.0 refl in
    let found : place_in (h ∷ heard) h.0 ≡ Some h.1 = ap (λ b. if b then Some h.1 else place_in heard h.0) is in
    let takes = subst (λ (at : Option ℕ). Hears defs r.0 l at r.1) found r.2 in
    let never : ◌≡◌ {A = Option ℕ} (Some h.1) None = (false_is_heard_by_nobody defs r.0 l (Some h.1) r.1 e takes).0 in
    cc

pub false_has_no_hearers : FalseHasNoHearers
false_has_no_hearers defs S sender place heard l T e m = false_unlisted defs S T sender place heard l e m.hearers m.moves
