-- Runs by the rule of places: each is a run, there is one, and no other.
use Rattle.std.proofs.Common.{◌≡◌, ◌∙◌, inl, inr, ℕ, zero, suc, ◌+◌, ◌%◌, List, [], ◌∷◌, length, Option, Some, refl, ap, sym, subst, slice_get, arith}
use Rattle.abc_term.specs.Processes.{Definitions, System}
use Rattle.abc_term.specs.Speaking.{Label}
use Rattle.abc_term.specs.Systems.{Choice, StepAt, Step, IsSilent}
use Rattle.abc_steps.specs.Turns.{speakers, IsTurn, SaysStep, RunsByTurns}
use Rattle.abc_steps.specs.TurnLaws.{TurnsAreRuns, TurnsEnd, TurnsExist, TurnsAreDetermined}
use Rattle.abc_steps.proofs.Turns.{silent_or_not, silent_has_none, turn_exists, turn_once}

pub says_is_step : (defs : Definitions) (S : System) (c : Choice) (l : Label) (T : System) → SaysStep defs S c l T → Step defs S c T
says_is_step defs S c l T s = subst (λ (at : Option ℕ). StepAt defs S c.sender at c.heard T) (sym s.1) (l, s.2)

pub turns_are_runs : TurnsAreRuns
turns_are_runs defs limit turn S [] T r = r.0
turns_are_runs defs zero turn S (c ∷ cs) T r = elim r [ ]
turns_are_runs defs (suc limit) turn S (c ∷ cs) T r =
    (r.1, says_is_step defs S c r.0 r.1 r.2, turns_are_runs defs limit (turn + 1) r.1 cs T r.4)

pub turns_end : TurnsEnd
turns_end defs limit turn S [] T r =
    (omega arith, elim r.1 [ inl z ↦ inl (sym z) | inr q ↦ inr (subst (λ (X : System). IsSilent defs X) (sym r.0) q) ])
turns_end defs zero turn S (c ∷ cs) T r = elim r [ ]
turns_end defs (suc limit) turn S (c ∷ cs) T r =
    let more = turns_end defs limit (turn + 1) r.1 cs T r.4 in
    let few = more.0 in
    (omega arith, elim more.1 [ inl e ↦ inl (ap suc e) | inr q ↦ inr q ])

pub turns_exist : TurnsExist
turns_exist defs zero turn S = ([], S, (refl, inl refl))
turns_exist defs (suc limit) turn S =
    elim (silent_or_not defs S) [
      | inl q ↦ ([], S, (refl, inr q))
      | inr some ↦
          let s = turn_exists defs S turn some in
          let more = turns_exist defs limit (turn + 1) s.next in
          (s.choice ∷ more.0, more.1, (s.label, s.next, s.step, s.turns, more.2))
    ]

no_item : (xs : List ℕ) (k x : ℕ) → length xs ≡ 0 → slice_get xs k ≡ Some x → ⊥
no_item [] k x n e = cc
no_item (y ∷ ys) k x n e = omega arith

-- a silent system makes no step by the rule
silent_stops : (defs : Definitions) (S : System) (turn : ℕ) (c : Choice) (l : Label) → IsSilent defs S → IsTurn defs S turn c l → ⊥
silent_stops defs S turn c l q t = no_item (speakers defs S) (turn % length (speakers defs S)) c.sender (silent_has_none defs S q) t.speaker

pub turns_are_determined : TurnsAreDetermined
turns_are_determined defs limit turn S [] [] T U r s = (refl, r.0 ∙ sym s.0)
turns_are_determined defs zero turn S [] (d ∷ ds) T U r s = elim s [ ]
turns_are_determined defs zero turn S (c ∷ cs) ds T U r s = elim r [ ]
turns_are_determined defs (suc limit) turn S [] (d ∷ ds) T U r s =
    elim r.1 [ inl z ↦ absurd (omega arith) | inr q ↦ absurd (silent_stops defs S turn d s.0 q s.3) ]
turns_are_determined defs (suc limit) turn S (c ∷ cs) [] T U r s =
    elim s.1 [ inl z ↦ absurd (omega arith) | inr q ↦ absurd (silent_stops defs S turn c r.0 q r.3) ]
turns_are_determined defs (suc limit) turn S (c ∷ cs) (d ∷ ds) T U r s =
    let first = turn_once defs S turn c d r.0 s.0 r.1 s.1 r.2 s.2 r.3 s.3 in
    let more = turns_are_determined defs limit (turn + 1) r.1 cs ds T U r.4
    (subst (λ (X : System). RunsByTurns defs limit (turn + 1) X ds U) (sym first.next) s.4) in
    (λ i. first.choice i ∷ more.0 i, more.1)
