-- A component speaks as its turn picks, or can't speak.
use Rattle.std.proofs.Common.{ℕ, ◌+◌, ◌<◌, ◌%◌, refl, sym, subst, arith, inl, inr}
use Rattle.std.specs.Prelude.{◌⊎◌}
use Rattle.std.proofs.lemmas.Bool.{cases_eq}
use Rattle.std.proofs.Math.Nat.{mod-lt}
use Rattle.abc_term.specs.Speaking.{Label as Said, Speaks, outs}
use Rattle.abc_term.proofs.SpeakingPlaces.{speaking_has_its_places}
use Rattle.abc_moves.specs.declared.label.Label.{Label}
use Rattle.abc_body.specs.Meanings.{CanSpeak}
use Rattle.abc_live_body.specs.Running.{RunningComponent}
use Rattle.abc_live_body.specs.AbcMeaning.{abc}
use Rattle.abc_live_body.proofs.HeldLabels.{said_is_held}
use Rattle.abc_live_body.proofs.Picking.{picked_some}
use Rattle.abc_live_body.proofs.Bodies.{some_where}
use Rattle.abc_network.specs.Networks.{Rules}
use Rattle.abc_network_runs.specs.Turning.{SpeaksAsPicked, TurnsWhereGranted}
use Rattle.abc_network_runs.proofs.TurnSteps.{no-turn-waits}

-- With an output it speaks at the place that the turn picks.
speaks-as-picked : (b : RunningComponent) (turn : ℕ) → 0 < outs b.definitions b.component →
    SpeaksAsPicked abc b turn
speaks-as-picked b turn some =
    let count : ℕ = outs b.definitions b.component in
    let place : ℕ = turn % outs b.definitions b.component in
    let below = mod-lt turn some in
    let s = (speaking_has_its_places b.definitions b.component place).1 below in
    let held = said_is_held b.definitions b.component place s.0 s.1 s.2 in (
      place,
      held.value,
      record { definitions = b.definitions; component = s.1 },
      (subst (λ (l : Said). Speaks b.definitions b.component place l s.1) (sym held.stands) s.2, refl),
      picked_some turn count place some refl,
    )

-- So it speaks as its turn picks, or can't speak.
component-turns : (b : RunningComponent) (turn : ℕ) →
    SpeaksAsPicked abc b turn ⊎ (CanSpeak abc b → ⊥)
component-turns b turn = elim (cases_eq (outs b.definitions b.component) 0) [
  | inl e ↦ inr (λ can. let some = some_where b can in absurd (omega arith))
  | inr e ↦ inl (speaks-as-picked b turn (omega (arith, e)))
]

-- So an agent that moves one can turn just where it has the next number.
pub turns-where-granted : {N : Type 0} (r : Rules Label N) → TurnsWhereGranted r
turns-where-granted r = λ w i a at.
    let turns = no-turn-waits abc r w i a at in (
      (λ can. (turns.0 can).granted),
      (λ granted. turns.1 (record {
        granted = granted;
        body = component-turns a.state.body (r.pick + a.state.front);
      })),
    )
