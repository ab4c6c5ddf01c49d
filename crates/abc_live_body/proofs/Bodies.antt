-- What a live component is as a body, and that it can speak just where it has an output.
use Rattle.std.proofs.Common.{◌≡◌, ℕ, ◌<◌, refl, ap, sym, subst, arith}
use Rattle.std.proofs.Math.Logic.{∥∥₁_map}
use Rattle.abc_term.specs.Standing.{definitions_of}
use Rattle.abc_term.specs.Speaking.{Label, Speaks, outs}
use Rattle.abc_term.proofs.SpeakingPlaces.{speaking_has_its_places}
use Rattle.abc_moves.specs.declared.live.Live.{Live}
use Rattle.abc_moves.specs.Labels.{label_of}
use Rattle.abc_moves.specs.Lives.{component_in, definitions_in}
use Rattle.abc_body.specs.Meanings.{CanSpeak}
use Rattle.abc_live_body.specs.Running.{RunningComponent, running_in}
use Rattle.abc_live_body.specs.AbcMeaning.{abc, IsSoundBody}
use Rattle.abc_live_body.proofs.HeldLabels.{said_is_held}

-- A live component is sound.
pub live_is_sound : (l : Live) → IsSoundBody (running_in l)
live_is_sound l = ∥∥₁_map l.sound (λ s. (s.0, ap definitions_of s.1, s.2))

-- With an output it can speak,
pub can_where : (b : RunningComponent) → 0 < outs b.definitions b.component → CanSpeak abc b
can_where b some =
    let s = (speaking_has_its_places b.definitions b.component 0).1 some in
    let held = said_is_held b.definitions b.component 0 s.0 s.1 s.2 in (
      0,
      held.value,
      record { definitions = b.definitions; component = s.1 },
      (subst (λ (l : Label). Speaks b.definitions b.component 0 l s.1) (sym held.stands) s.2, refl),
    )

-- and without one it can't.
pub some_where : (b : RunningComponent) → CanSpeak abc b → 0 < outs b.definitions b.component
some_where b can =
    let below = (speaking_has_its_places b.definitions b.component can.0).0 (label_of can.1, can.2.component, can.3.0) in
    omega arith

-- So where a live component can speak, the count of its outputs is more than 0.
pub some_of_live : (live : Live) (b : RunningComponent) → running_in live ≡ b → CanSpeak abc b → (n : ℕ) →
    n ≡ outs (definitions_in live) (component_in live) → 0 < n
some_of_live live b is can n e =
    let there = subst (λ (x : RunningComponent). CanSpeak abc x) (sym is) can in
    let some : 0 < outs (definitions_in live) (component_in live) = some_where (running_in live) there in
    omega arith
