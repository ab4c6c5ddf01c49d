-- Runs lead from sound systems to sound systems.
use Rattle.std.proofs.Common.{ℕ, ◌+◌, ◌==◌, Bool, true, false, Option, Some, None, List, [], ◌∷◌, MatchBool, sym, subst}
use Rattle.std.proofs.lemmas.List.Elements.{All-nil, All-cons, All-tail, All-head}
use Rattle.abc_packet.specs.declared.choice.Choice.{Choice}
use Rattle.abc_body.specs.Meanings.{Meaning, SpeaksSoundly, HearsSoundly}
use Rattle.abc_body.specs.Multicasts.{place_in, EachMoves, StepAt, Runs}
use Rattle.abc_body.specs.Laws.{IsSound}
use Rattle.abc_body.proofs.Resting.{AllRest-stays}

-- What follows in either case.
either : (t : Bool) (P Q R : Type 0) → MatchBool t P Q → (P → R) → (Q → R) → R
either true P Q R h f g = f h
either false P Q R h f g = g h

module _ {B L : Type 0} (m : Meaning B L)
    (speaks_soundly : SpeaksSoundly m) (hears_soundly : HearsSoundly m) where
  -- One multicast.
  pub each_sound : (sender place : ℕ) (heard : List (ℕ × ℕ)) (l : L) (i : ℕ) (S S' : List B) →
      IsSound m S → EachMoves m sender place heard l i S S' → IsSound m S'
  each_sound sender place heard l i [] [] sound moves = All-nil m.sound
  each_sound sender place heard l i [] (b' ∷ S') sound moves = absurd moves
  each_sound sender place heard l i (b ∷ S) [] sound moves = absurd moves
  each_sound sender place heard l i (b ∷ S) (b' ∷ S') sound moves =
      let here = All-head m.sound b S sound in
      let first : m.sound b' = either (i == sender) (m.speaks b place l b') (m.hears b l (place_in heard i) b') (m.sound b') moves.0
      (λ s. speaks_soundly b b' place l here s) (λ h. hears_soundly b b' l (place_in heard i) here h) in
      All-cons m.sound b' S' first (each_sound sender place heard l (i + 1) S S' (All-tail m.sound b S sound) moves.1)

  -- One step.
  pub step_sound : (S S' : List B) (sender : ℕ) (place : Option ℕ) (heard : List (ℕ × ℕ)) →
      IsSound m S → StepAt m S sender place heard S' → IsSound m S'
  step_sound S S' sender (Some place) heard sound step = each_sound sender place heard step.0 0 S S' sound step.1.moves
  step_sound S S' sender None heard sound step = subst (λ (X : List B). IsSound m X) (sym step.2) sound

  -- A run.
  pub run_sound : (S S' : List B) (cs : List Choice) → IsSound m S → Runs m S cs S' → IsSound m S'
  run_sound S S' [] sound run = subst (λ (X : List B). IsSound m X) (sym (AllRest-stays S S' run)) sound
  run_sound S S' (c ∷ cs) sound run =
      let rested = subst (λ (X : List B). IsSound m X) (sym (AllRest-stays S run.0 run.2)) sound in
      run_sound run.1 S' cs (step_sound run.0 run.1 c.sender c.place c.heard rested run.3) run.4
