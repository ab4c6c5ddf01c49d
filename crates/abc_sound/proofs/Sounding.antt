-- The laws of sound components.
use Rattle.std.proofs.Common.{◌≡◌, ◌≤◌, ℕ, Bool, true, false, not, IsTrue, [], length, refl, sym, ap, subst, inl, inr, arith, Some, None}
use Rattle.abc_pred.specs.declared.names.Name.{Name}
use Rattle.abc_term.specs.declared.terms.Program.{Program}
use Rattle.abc_term.specs.Processes.{Process, Definitions}
use Rattle.abc_term.specs.Processes as term
use Rattle.abc_term.specs.Standing.{process_of, definitions_of}
use Rattle.abc_term.proofs.Bindings.{putting_nothing}
use Rattle.abc_term.proofs.SpeakingPlaces.{speaking_has_its_places}
use Rattle.abc_term.proofs.HearingPlaces.{below_ins}
use Rattle.abc_term.proofs.Chains.{guarded_calls_end}
use Rattle.abc_term.proofs.Listed.{unguarded_called}
use Rattle.abc_checks.specs.Variables.{process_open}
use Rattle.abc_checks.specs.Measures.{width_of, IsSolution}
use Rattle.abc_checks.proofs.Checked.{small_widths, calls_end}
use Rattle.abc_sound.specs.Built.{itself, of_component, leaf}
use Rattle.abc_sound.specs.Sound.{IsSound}
use Rattle.abc_sound.specs.Walks.{actions}
use Rattle.abc_sound.specs.SoundLaws.{ProgramsBeginSound, SpeakingKeepsSoundness, HearingKeepsSoundness, LeavesAreFew, OutputsAreFew, InputsAreFew, SpeakingPlacesFit, HearingPlacesFit, CalledAreDefined, SoundCallsEnd}
use Rattle.abc_sound.proofs.Existing.{least_widths_exist, below_or_not}
use Rattle.abc_sound.proofs.Building.{speaking_builds, hearing_builds}
use Rattle.abc_sound.proofs.Closing.{run_closed, speaking_closes, hearing_closes}
use Rattle.abc_sound.proofs.Widths.{speaking_narrows, hearing_narrows, leaves_narrow}
use Rattle.abc_sound.proofs.Counts.{outs_are_actions, ins_are_actions, built_actions, built_called}

is_closed : (b : Bool) → b ≡ false → IsTrue (not b)
is_closed b h = ap not h

is_open_false : (b : Bool) → IsTrue (not b) → b ≡ false
is_open_false true h = sym h
is_open_false false h = refl

pub programs_begin_sound : ProgramsBeginSound
programs_begin_sound p checked i C at = record {
  checked = checked;
  built = leaf [] (process_of C.run) (of_component i C at itself) (sym (putting_nothing (process_of C.run)));
  closed = is_closed (process_open [] (process_of C.run)) (run_closed p checked i C at);
  narrow = λ wide. let le = small_widths p checked i C at wide.0 wide.1 in absurd (omega (arith, le, wide.2));
}

pub speaking_keeps_soundness : SpeakingKeepsSoundness
speaking_keeps_soundness p C place l C' sound h =
    let d = length (definitions_of p.definitions) in
    record {
      checked = sound.checked;
      built = speaking_builds p C.env C.interface d C.process place l C'.env C'.process sound.built h.0;
      closed = is_closed (process_open [] C'.process)
          (speaking_closes p sound.checked C.env C.interface d C.process place l C'.env C'.process (is_open_false (process_open [] C.process) sound.closed) h.0);
      narrow = λ wide.
          let le = speaking_narrows (definitions_of p.definitions) wide.0 wide.1.solution C.env C.interface d C.process place l C'.env C'.process h.0 in
          sound.narrow (wide.0, wide.1, omega (arith, le, wide.2));
    }

pub hearing_keeps_soundness : HearingKeepsSoundness
hearing_keeps_soundness p C l None C' sound h = subst (IsSound p) (sym h.1) sound
hearing_keeps_soundness p C l (Some place) C' sound h =
    let d = length (definitions_of p.definitions) in
    record {
      checked = sound.checked;
      built = hearing_builds p l C.env C.interface d C.process place C'.env C'.process sound.built h.0;
      closed = is_closed (process_open [] C'.process)
          (hearing_closes p sound.checked l C.env C.interface d C.process place C'.env C'.process (is_open_false (process_open [] C.process) sound.closed) h.0);
      narrow = λ wide.
          let le = hearing_narrows (definitions_of p.definitions) wide.0 wide.1.solution l C.env C.interface d C.process place C'.env C'.process h.0 in
          sound.narrow (wide.0, wide.1, omega (arith, le, wide.2));
    }

-- The widths, and that of a sound component.
record Narrow (p : Program) (C : term.Component) : Type 0 where
  widths : Name → ℕ
  solution : IsSolution width_of (definitions_of p.definitions) widths
  small : width_of widths C.process ≤ 64

narrow_width : (p : Program) (C : term.Component) → IsSound p C → Narrow p C
narrow_width p C sound =
    let found = least_widths_exist p.definitions in
    record {
      widths = found.0;
      solution = found.1.solution;
      small =
          elim (below_or_not 64 (width_of found.0 C.process)) [
            | inl wide ↦ absurd (sound.narrow (found.0, found.1, wide))
            | inr le ↦ le
          ];
    }

pub leaves_are_few : LeavesAreFew
leaves_are_few p C sound =
    let n = narrow_width p C sound in
    let le = leaves_narrow (definitions_of p.definitions) n.widths n.solution C.process n.small in
    let small = n.small in
    omega (arith, le, small)

pub actions_small : (p : Program) (C : term.Component) → IsSound p C → actions (definitions_of p.definitions) C.process ≤ 65536
actions_small p C sound =
    let n = narrow_width p C sound in
    let le = built_actions p sound.checked n.widths n.solution C.process sound.built n.small in
    let small = n.small in
    omega (arith, le, small)

pub outputs_are_few : OutputsAreFew
outputs_are_few p C sound =
    let defs : Definitions = definitions_of p.definitions in
    let le = outs_are_actions (length defs) defs C.env C.process in
    let small = actions_small p C sound in
    omega (arith, le, small)

pub inputs_are_few : InputsAreFew
inputs_are_few p C sound l =
    let defs : Definitions = definitions_of p.definitions in
    let le = ins_are_actions (length defs) defs l C.env C.interface C.process in
    let small = actions_small p C sound in
    omega (arith, le, small)

pub speaking_places_fit : SpeakingPlacesFit
speaking_places_fit p C place l C' sound h =
    let lt = (speaking_has_its_places (definitions_of p.definitions) C place).0 (l, C', h) in
    let few = outputs_are_few p C sound in
    omega (arith, lt, few)

pub hearing_places_fit : HearingPlacesFit
hearing_places_fit p C l place C' sound h =
    let lt = below_ins (definitions_of p.definitions) C l place C' h in
    let few = inputs_are_few p C sound l in
    omega (arith, lt, few)

pub called_are_defined : CalledAreDefined
called_are_defined p C sound c h = built_called p sound.checked c C.process sound.built h

pub sound_calls_end : SoundCallsEnd
sound_calls_end p C sound =
    guarded_calls_end (definitions_of p.definitions) C.process (calls_end p sound.checked)
    (λ c h. built_called p sound.checked c C.process sound.built (unguarded_called C.process c h))
