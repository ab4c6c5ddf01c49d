-- What stays beside an action, and moves of the two sides of `|`.
use Rattle.std.proofs.Common.{◌≡◌, ℕ, ◌+◌, ◌-◌, ◌≤◌, List, [], ◌∷◌, ◌++◌, inl, inr, refl, subst, sym, ◌∙◌, arith}
use Rattle.std.specs.List.{zip}
use Rattle.abc_term.specs.Processes.{Process, Par}
use Rattle.abc_term.specs.Standing.{process_of}
use Rattle.abc_term.specs.Substitution.{put, outside}
use Rattle.abc_term.specs.Speaking.{Label}
use Rattle.abc_moves.specs.declared.around.Around.{Around}
use Rattle.abc_moves.specs.declared.site.Beside.{Beside}
use Rattle.abc_moves.specs.declared.site.InputAction.{InputAction}
use Rattle.abc_moves.specs.declared.site.OutputAction.{OutputAction}
use Rattle.abc_moves.specs.declared.site.Site.{Site}
use Rattle.abc_moves.specs.Arounds.{outs_here, ins_here}
use Rattle.abc_moves.specs.Sites.{join, joined, SaysSite, TakesSite, said_process, taken_process}

-- one more stays outside the others
pub joined-more : (bs : List Beside) (b : Beside) (R : Process) → joined (bs ++ b ∷ []) R ≡ join b (joined bs R)
joined-more [] b R = refl
joined-more (x ∷ bs) b R = joined-more bs b (join x R)

abbrev pub beside_also : {A : Type 0} → Site A → Beside → Site A
beside_also s b = record s { beside = s.beside ++ b ∷ [] }

-- what the action becomes by itself
abbrev alone_said : Site OutputAction → Process
alone_said s = put s.scope.now (process_of s.action.after.now.then.value)

abbrev alone_taken : Label → Site InputAction → Process
alone_taken l s =
    let xs = s.action.xs.now in put (zip xs l.values) (put (outside xs s.scope.now) (process_of s.action.after.now.then.value))

-- ---- what moves on one side of `|`, the other side staying
module _ (at : Around) (d : ℕ) (P L R : Process) (k : ℕ) (is : P ≡ Par L R) where
  pub says_left : (s t : Site OutputAction) (b : Beside) → t ≡ beside_also s b → ((X : Process) → join b X ≡ Par X R) →
      SaysSite at d L k s → SaysSite at d P k t
  says_left s t b e stays says =
      let done = joined-more s.beside b (alone_said s) ∙ stays (said_process s) in
      subst (λ (u : Site OutputAction). SaysSite at d P k u) (sym e)
      (subst (λ (Q : Process). SaysSite at d Q k (beside_also s b)) (sym is) (inl (said_process s, says, done)))

  pub says_right : (s t : Site OutputAction) (b : Beside) (n : ℕ) → n ≡ outs_here at d L → n ≤ k → t ≡ beside_also s b →
      ((X : Process) → join b X ≡ Par L X) → SaysSite at d R (k - n) s → SaysSite at d P k t
  says_right s t b n passed past e stays says =
      let place : k ≡ outs_here at d L + (k - n) = omega arith in
      let done = joined-more s.beside b (alone_said s) ∙ stays (said_process s) in
      subst (λ (u : Site OutputAction). SaysSite at d P k u) (sym e)
      (subst (λ (Q : Process). SaysSite at d Q k (beside_also s b)) (sym is) (inr (k - n, said_process s, place, says, done)))

  module _ (l : Label) where
    pub takes_left : (s t : Site InputAction) (b : Beside) → t ≡ beside_also s b → ((X : Process) → join b X ≡ Par X R) →
        TakesSite at l d L k s → TakesSite at l d P k t
    takes_left s t b e stays takes =
        let done = joined-more s.beside b (alone_taken l s) ∙ stays (taken_process l s) in
        subst (λ (u : Site InputAction). TakesSite at l d P k u) (sym e)
        (subst (λ (Q : Process). TakesSite at l d Q k (beside_also s b)) (sym is) (inl (taken_process l s, takes.0, done), takes.1))

    pub takes_right : (s t : Site InputAction) (b : Beside) (n : ℕ) → n ≡ ins_here at l d L → n ≤ k → t ≡ beside_also s b →
        ((X : Process) → join b X ≡ Par L X) → TakesSite at l d R (k - n) s → TakesSite at l d P k t
    takes_right s t b n passed past e stays takes =
        let place : k ≡ ins_here at l d L + (k - n) = omega arith in
        let done = joined-more s.beside b (alone_taken l s) ∙ stays (taken_process l s) in
        subst (λ (u : Site InputAction). TakesSite at l d P k u) (sym e)
        (subst (λ (Q : Process). TakesSite at l d Q k (beside_also s b)) (sym is)
        (inr (k - n, taken_process l s, place, takes.0, done), takes.1))
