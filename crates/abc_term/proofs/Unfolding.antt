-- Where unguarded calls end, a deeper unfolding changes nothing.
use Rattle.std.proofs.Common.{◌≡◌, inl, inr, ◌↔◌, ℕ, zero, suc, ◌+◌, ◌++◌, if◌then◌else◌, IsTrue, List, [], length, refl, sym, ap, ◌∙◌}
use Rattle.abc_pred.specs.declared.names.Name.{Name}
use Rattle.abc_pred.specs.Maps.{Entries, lists}
use Rattle.abc_pred.specs.Meaning.{sat}
use Rattle.abc_term.specs.Processes.{Process, Nil, Output, Input, When, Choice, Par, Call, Definitions, body_of}
use Rattle.abc_term.specs.Speaking.{Label, outs_of, call_outs, Says, CallSays}
use Rattle.abc_term.specs.Hearing.{ins_of, call_ins, Takes, CallTakes}
use Rattle.abc_term.specs.Calls.{unguarded_calls}
use Rattle.abc_term.specs.Guarded.{EachUnguarded, CallEnds}
use Rattle.abc_term.specs.Laws.{CallsCountAsTheirBodies, CallsSpeakAsTheirBodies, CallsHearAsTheirBodies}
use Rattle.abc_term.proofs.Listed.{in_left, in_right, in_itself}

-- what holds of each unguarded call of two processes, holds of those of each
on_left : (Good : Name → Type 0) (P Q : Process) → ((c : Name) → IsTrue (lists (unguarded_calls P ++ unguarded_calls Q) c) → Good c) → EachUnguarded Good P
on_left Good P Q g c h = g c (in_left (unguarded_calls P) (unguarded_calls Q) c h)

on_right : (Good : Name → Type 0) (P Q : Process) → ((c : Name) → IsTrue (lists (unguarded_calls P ++ unguarded_calls Q) c) → Good c) → EachUnguarded Good Q
on_right Good P Q g c h = g c (in_right (unguarded_calls P) (unguarded_calls Q) c h)

-- ---- counts
module _ (Good : Name → Type 0) (env : Entries) (a b : Name → ℕ) (agree : (c : Name) → Good c → a c ≡ b c) where
  outs_agree : (P : Process) → EachUnguarded Good P → outs_of env a P ≡ outs_of env b P
  outs_agree Nil g = refl
  outs_agree (Output es p us P) g = refl
  outs_agree (Input p xs us P) g = refl
  outs_agree (When q P) g = ap (λ n. if sat q env env [] then n else 0) (outs_agree P g)
  outs_agree (Choice P Q) g = let l = outs_agree P (on_left Good P Q g) in let r = outs_agree Q (on_right Good P Q g) in λ i. l i + r i
  outs_agree (Par P Q) g = let l = outs_agree P (on_left Good P Q g) in let r = outs_agree Q (on_right Good P Q g) in λ i. l i + r i
  outs_agree (Call c) g = agree c (g c (in_itself c))

  module _ (l : Label) (interface : List Name) where
    ins_agree : (P : Process) → EachUnguarded Good P → ins_of l env interface a P ≡ ins_of l env interface b P
    ins_agree Nil g = refl
    ins_agree (Output es p us P) g = refl
    ins_agree (Input p xs us P) g = refl
    ins_agree (When q P) g = ap (λ n. if sat q env env [] then n else 0) (ins_agree P g)
    ins_agree (Choice P Q) g = let l = ins_agree P (on_left Good P Q g) in let r = ins_agree Q (on_right Good P Q g) in λ i. l i + r i
    ins_agree (Par P Q) g = let l = ins_agree P (on_left Good P Q g) in let r = ins_agree Q (on_right Good P Q g) in λ i. l i + r i
    ins_agree (Call c) g = agree c (g c (in_itself c))

module _ (defs : Definitions) (env : Entries) where
  call_outs_agree : (d : ℕ) (c : Name) → CallEnds d defs c → call_outs d defs env c ≡ call_outs (suc d) defs env c
  call_outs_agree zero c g = elim g [ ]
  call_outs_agree (suc d) c g = outs_agree (CallEnds d defs) env (call_outs d defs env) (call_outs (suc d) defs env) (call_outs_agree d) (body_of defs c) g

  module _ (l : Label) (interface : List Name) where
    call_ins_agree : (d : ℕ) (c : Name) → CallEnds d defs c → call_ins d defs l env interface c ≡ call_ins (suc d) defs l env interface c
    call_ins_agree zero c g = elim g [ ]
    call_ins_agree (suc d) c g =
        ins_agree (CallEnds d defs) env (call_ins d defs l env interface) (call_ins (suc d) defs l env interface) (call_ins_agree d) l interface (body_of defs c) g

-- ---- moves
module _ (Good : Name → Type 0) (env : Entries) (interface : List Name) (a b : Name → ℕ) (agree : (c : Name) → Good c → a c ≡ b c)
    (A B : Name → ℕ → Label → Entries → Process → Type 0) (goes : (c : Name) → Good c → (k : ℕ) (l : Label) (e : Entries) (R : Process) → A c k l e R → B c k l e R) where
  says_goes : (P : Process) → EachUnguarded Good P → (k : ℕ) (l : Label) (e : Entries) (R : Process) → Says env interface a A P k l e R → Says env interface b B P k l e R
  says_goes Nil g k l e R s = s
  says_goes (Output es p us P) g k l e R s = s
  says_goes (Input p xs us P) g k l e R s = s
  says_goes (When q P) g k l e R s = (s.0, says_goes P g k l e R s.1)
  says_goes (Choice P Q) g k l e R s =
      elim s [
        | inl t ↦ inl (says_goes P (on_left Good P Q g) k l e R t)
        | inr t ↦ inr (t.0, t.1 ∙ ap (λ n. n + t.0) (outs_agree Good env a b agree P (on_left Good P Q g)), says_goes Q (on_right Good P Q g) t.0 l e R t.2)
      ]
  says_goes (Par P Q) g k l e R s =
      elim s [
        | inl t ↦ inl (t.0, says_goes P (on_left Good P Q g) k l e t.0 t.1, t.2)
        | inr t ↦ inr (t.0, t.1, t.2 ∙ ap (λ n. n + t.0) (outs_agree Good env a b agree P (on_left Good P Q g)), says_goes Q (on_right Good P Q g) t.0 l e t.1 t.3, t.4)
      ]
  says_goes (Call c) g k l e R s = goes c (g c (in_itself c)) k l e R s

module _ (Good : Name → Type 0) (l : Label) (env : Entries) (interface : List Name) (a b : Name → ℕ) (agree : (c : Name) → Good c → a c ≡ b c)
    (A B : Name → ℕ → Entries → Process → Type 0) (goes : (c : Name) → Good c → (k : ℕ) (e : Entries) (R : Process) → A c k e R → B c k e R) where
  takes_goes : (P : Process) → EachUnguarded Good P → (k : ℕ) (e : Entries) (R : Process) → Takes l env interface a A P k e R → Takes l env interface b B P k e R
  takes_goes Nil g k e R s = s
  takes_goes (Output es p us P) g k e R s = s
  takes_goes (Input p xs us P) g k e R s = s
  takes_goes (When q P) g k e R s = (s.0, takes_goes P g k e R s.1)
  takes_goes (Choice P Q) g k e R s =
      elim s [
        | inl t ↦ inl (takes_goes P (on_left Good P Q g) k e R t)
        | inr t ↦ inr (t.0, t.1 ∙ ap (λ n. n + t.0) (ins_agree Good env a b agree l interface P (on_left Good P Q g)), takes_goes Q (on_right Good P Q g) t.0 e R t.2)
      ]
  takes_goes (Par P Q) g k e R s =
      elim s [
        | inl t ↦ inl (t.0, takes_goes P (on_left Good P Q g) k e t.0 t.1, t.2)
        | inr t ↦ inr (t.0, t.1, t.2 ∙ ap (λ n. n + t.0) (ins_agree Good env a b agree l interface P (on_left Good P Q g)), takes_goes Q (on_right Good P Q g) t.0 e t.1 t.3, t.4)
      ]
  takes_goes (Call c) g k e R s = goes c (g c (in_itself c)) k e R s

-- ---- a depth and the next
module _ (defs : Definitions) (env : Entries) (interface : List Name) where
  abbrev Deeper : ℕ → Process → Type 0
  Deeper d P =
      (k : ℕ) (l : Label) (e : Entries) (R : Process) →
      Says env interface (call_outs d defs env) (CallSays d defs env interface) P k l e R ↔ Says env interface (call_outs (suc d) defs env) (CallSays (suc d) defs env interface) P k l e R

  says_deeper : (d : ℕ) → ((c : Name) → CallEnds d defs c → (k : ℕ) (l : Label) (e : Entries) (R : Process) → CallSays d defs env interface c k l e R ↔ CallSays (suc d) defs env interface c k l e R) → (P : Process) → EachUnguarded (CallEnds d defs) P → Deeper d P
  says_deeper d calls P g k l e R = (
    says_goes (CallEnds d defs) env interface (call_outs d defs env) (call_outs (suc d) defs env) (call_outs_agree defs env d) (CallSays d defs env interface) (CallSays (suc d) defs env interface) (λ c h k l e R. (calls c h k l e R).0) P g k l e R,
    says_goes (CallEnds d defs) env interface (call_outs (suc d) defs env) (call_outs d defs env) (λ c h. sym (call_outs_agree defs env d c h)) (CallSays (suc d) defs env interface) (CallSays d defs env interface) (λ c h k l e R. (calls c h k l e R).1) P g k l e R,
  )

  call_deeper : (d : ℕ) (c : Name) → CallEnds d defs c → (k : ℕ) (l : Label) (e : Entries) (R : Process) → CallSays d defs env interface c k l e R ↔ CallSays (suc d) defs env interface c k l e R
  call_deeper zero c g k l e R = elim g [ ]
  call_deeper (suc d) c g k l e R = says_deeper d (call_deeper d) (body_of defs c) g k l e R

module _ (defs : Definitions) (l : Label) (env : Entries) (interface : List Name) where
  takes_deeper : (d : ℕ) → ((c : Name) → CallEnds d defs c → (k : ℕ) (e : Entries) (R : Process) → CallTakes d defs l env interface c k e R ↔ CallTakes (suc d) defs l env interface c k e R) → (P : Process) → EachUnguarded (CallEnds d defs) P → (k : ℕ) (e : Entries) (R : Process) → Takes l env interface (call_ins d defs l env interface) (CallTakes d defs l env interface) P k e R ↔ Takes l env interface (call_ins (suc d) defs l env interface) (CallTakes (suc d) defs l env interface) P k e R
  takes_deeper d calls P g k e R = (
    takes_goes (CallEnds d defs) l env interface (call_ins d defs l env interface) (call_ins (suc d) defs l env interface) (call_ins_agree defs env l interface d) (CallTakes d defs l env interface) (CallTakes (suc d) defs l env interface) (λ c h k e R. (calls c h k e R).0) P g k e R,
    takes_goes (CallEnds d defs) l env interface (call_ins (suc d) defs l env interface) (call_ins d defs l env interface) (λ c h. sym (call_ins_agree defs env l interface d c h)) (CallTakes (suc d) defs l env interface) (CallTakes d defs l env interface) (λ c h k e R. (calls c h k e R).1) P g k e R,
  )

  call_takes_deeper : (d : ℕ) (c : Name) → CallEnds d defs c → (k : ℕ) (e : Entries) (R : Process) → CallTakes d defs l env interface c k e R ↔ CallTakes (suc d) defs l env interface c k e R
  call_takes_deeper zero c g k e R = elim g [ ]
  call_takes_deeper (suc d) c g k e R = takes_deeper d (call_takes_deeper d) (body_of defs c) g k e R

-- ---- a call at a depth is its body at the depth
call_as_body : (defs : Definitions) (env : Entries) (interface : List Name) (d : ℕ) (c : Name) → CallEnds d defs c → (k : ℕ) (l : Label) (e : Entries) (R : Process) → CallSays d defs env interface c k l e R ↔ Says env interface (call_outs d defs env) (CallSays d defs env interface) (body_of defs c) k l e R
call_as_body defs env interface zero c g k l e R = elim g [ ]
call_as_body defs env interface (suc d) c g k l e R = says_deeper defs env interface d (call_deeper defs env interface d) (body_of defs c) g k l e R

call_takes_as_body : (defs : Definitions) (l : Label) (env : Entries) (interface : List Name) (d : ℕ) (c : Name) → CallEnds d defs c → (k : ℕ) (e : Entries) (R : Process) → CallTakes d defs l env interface c k e R ↔ Takes l env interface (call_ins d defs l env interface) (CallTakes d defs l env interface) (body_of defs c) k e R
call_takes_as_body defs l env interface zero c g k e R = elim g [ ]
call_takes_as_body defs l env interface (suc d) c g k e R = takes_deeper defs l env interface d (call_takes_deeper defs l env interface d) (body_of defs c) g k e R

call_outs_as_body : (defs : Definitions) (env : Entries) (d : ℕ) (c : Name) → CallEnds d defs c → call_outs d defs env c ≡ outs_of env (call_outs d defs env) (body_of defs c)
call_outs_as_body defs env zero c g = elim g [ ]
call_outs_as_body defs env (suc d) c g = call_outs_agree defs env (suc d) c g

call_ins_as_body : (defs : Definitions) (l : Label) (env : Entries) (interface : List Name) (d : ℕ) (c : Name) → CallEnds d defs c → call_ins d defs l env interface c ≡ ins_of l env interface (call_ins d defs l env interface) (body_of defs c)
call_ins_as_body defs l env interface zero c g = elim g [ ]
call_ins_as_body defs l env interface (suc d) c g = call_ins_agree defs env l interface (suc d) c g

pub calls_count_as_their_bodies : CallsCountAsTheirBodies
calls_count_as_their_bodies defs C c l g = (call_outs_as_body defs C.env (length defs) c (g c (in_itself c)), call_ins_as_body defs l C.env C.interface (length defs) c (g c (in_itself c)))

pub calls_speak_as_their_bodies : CallsSpeakAsTheirBodies
calls_speak_as_their_bodies defs C c place l C' g =
    let b = call_as_body defs C.env C.interface (length defs) c (g c (in_itself c)) place l C'.env C'.process in
    (λ s. (b.0 s.0, s.1), λ s. (b.1 s.0, s.1))

pub calls_hear_as_their_bodies : CallsHearAsTheirBodies
calls_hear_as_their_bodies defs C c l place C' g =
    let b = call_takes_as_body defs l C.env C.interface (length defs) c (g c (in_itself c)) place C'.env C'.process in
    (λ s. (b.0 s.0, s.1), λ s. (b.1 s.0, s.1))
