-- A live component is sound: what follows for its counts, and for what it becomes.
use Rattle.std.proofs.Common.{◌≡◌, ℕ, ◌<◌, ◌≤◌, ◌^◌, IsTrue, not, List, [], length, Option, Some, get_or, slice_get, inl, inr, refl, ap, sym, subst, ◌∙◌, arith}
use Rattle.std.proofs.lemmas.Option.{slice_get_read}
use Rattle.abc_pred.specs.declared.names.Name.{Name}
use Rattle.abc_pred.specs.Maps.{Entries}
use Rattle.std.specs.Coded.{le_prop}
use Rattle.std.proofs.Math.Logic.{∥∥₁_elim, ∥∥₁_map}
use Rattle.abc_term.specs.declared.terms.Program.{Program}
use Rattle.abc_term.specs.declared.terms.Definition.{Definition}
use Rattle.abc_term.specs.declared.terms.Component.{Component as Begun}
use Rattle.abc_term.specs.Processes.{Process, Definitions, Component}
use Rattle.abc_term.specs.Standing.{definitions_of, component_of}
use Rattle.abc_term.specs.Speaking.{Label, Speaks, outs}
use Rattle.abc_term.specs.Hearing.{Hears, ins}
use Rattle.abc_checks.specs.Variables.{process_open}
use Rattle.abc_checks.specs.Measures.{IsTooWide}
use Rattle.abc_checks.specs.Facts.{IsChecked}
use Rattle.abc_sound.specs.Built.{IsBuilt}
use Rattle.abc_sound.specs.Sound.{IsSound}
use Rattle.abc_sound.specs.Walks.{leaves}
use Rattle.abc_moves.specs.Walks.{outs_at, ins_at}
use Rattle.abc_moves.specs.Lives.{BeginsAs, StartsAs, component_in, program_in}
use Rattle.abc_moves.specs.Moves.{moved, IsMoveOf}
use Rattle.abc_moves.specs.declared.live.Live.{Live}
use Rattle.abc_moves.specs.declared.made.Move.{Move}
use Rattle.abc_moves.specs.Sounds.{IsSoundUnder}
use Rattle.abc_sound.proofs.Sounding.{programs_begin_sound, leaves_are_few, outputs_are_few, inputs_are_few, speaking_keeps_soundness, hearing_keeps_soundness}

module _ (ds : List Definition) (C : Component) (sound : ∥ IsSoundUnder ds C ∥₁) where
  pub few_outputs : outs (definitions_of ds) C ≤ 65536
  few_outputs = ∥∥₁_elim sound le_prop (λ s. subst (λ (xs : List Definition). outs (definitions_of xs) C ≤ 65536) s.1 (outputs_are_few s.0 C s.2))

  pub few_inputs : (l : Label) → ins (definitions_of ds) C l ≤ 65536
  few_inputs l = ∥∥₁_elim sound le_prop (λ s. subst (λ (xs : List Definition). ins (definitions_of xs) C l ≤ 65536) s.1 (inputs_are_few s.0 C s.2 l))

  pub few_leaves : leaves C.process ≤ 64
  few_leaves = ∥∥₁_elim sound le_prop (λ s. leaves_are_few s.0 C s.2)

  spoken_under : (place : ℕ) (l : Label) (C' : Component) → Speaks (definitions_of ds) C place l C' → IsSoundUnder ds C → IsSoundUnder ds C'
  spoken_under place l C' says s =
      (s.0, s.1, speaking_keeps_soundness s.0 C place l C' s.2 (subst (λ (xs : List Definition). Speaks (definitions_of xs) C place l C') (sym s.1) says))

  pub spoken_sound : (place : ℕ) (l : Label) (C' : Component) → Speaks (definitions_of ds) C place l C' → ∥ IsSoundUnder ds C' ∥₁
  spoken_sound place l C' says = ∥∥₁_map sound (spoken_under place l C' says)

  heard_under : (l : Label) (place : Option ℕ) (C' : Component) → Hears (definitions_of ds) C l place C' → IsSoundUnder ds C → IsSoundUnder ds C'
  heard_under l place C' takes s =
      (s.0, s.1, hearing_keeps_soundness s.0 C l place C' s.2 (subst (λ (xs : List Definition). Hears (definitions_of xs) C l place C') (sym s.1) takes))

  pub heard_sound : (l : Label) (place : Option ℕ) (C' : Component) → Hears (definitions_of ds) C l place C' → ∥ IsSoundUnder ds C' ∥₁
  heard_sound l place C' takes = ∥∥₁_map sound (heard_under l place C' takes)

-- only the process matters
pub sound-process : (p : Program) (C C' : Component) → C'.process ≡ C.process → IsSound p C → IsSound p C'
sound-process p C C' e s = record {
  checked = s.checked;
  built = subst (λ (P : Process). IsBuilt p P) (sym e) s.built;
  closed = subst (λ (P : Process). IsTrue (not (process_open [] P))) (sym e) s.closed;
  narrow = subst (λ (P : Process). ¬ IsTooWide (definitions_of p.definitions) P) (sym e) s.narrow;
}

pub same_sound : (ds : List Definition) (C C' : Component) → C'.process ≡ C.process → ∥ IsSoundUnder ds C ∥₁ → ∥ IsSoundUnder ds C' ∥₁
same_sound ds C C' e s = ∥∥₁_map s (λ u. (u.0, u.1, sound-process u.0 C C' e u.2))

-- what a sound component becomes by a move of its own
pub move_sound : (live : Live) (m : Move) → IsMoveOf live m → ∥ IsSoundUnder (program_in live) (moved live m) ∥₁
move_sound live m is =
    let C = component_in live in
    elim is [
      | inl s ↦ spoken_sound (program_in live) C live.sound s.0 s.1 (moved live m) s.2
      | inr h ↦ heard_sound (program_in live) C live.sound h.0 h.1 (moved live m) h.2
    ]

-- ---- counts, as the code meets them: in what stands around the component
module _ (own_ds : List Definition) (C : Component) (sound : ∥ IsSoundUnder own_ds C ∥₁) (ds : Definitions) (d : ℕ) (env : Entries) (at : ds ≡ definitions_of own_ds) (deep : d ≡ length ds) (own : env ≡ C.env) where
  outs_around : outs_at d ds env C.process ≡ outs (definitions_of own_ds) C
  outs_around =
      (λ i. outs_at (deep i) ds (own i) C.process) ∙ ap (λ (D : Definitions). outs_at (length D) D C.env C.process) at

  pub outputs_fit : outs_at d ds env C.process < 2 ^ 32
  outputs_fit = let few = few_outputs own_ds C sound in let same = outs_around in omega arith

  pub outputs_few : (n : ℕ) → n ≡ outs_at d ds env C.process → n ≤ 65536
  outputs_few n e = let few = few_outputs own_ds C sound in let same = outs_around in omega arith

  module _ (l : Label) (interface : List Name) (own_interface : interface ≡ C.interface) where
    ins_around : ins_at d ds l env interface C.process ≡ ins (definitions_of own_ds) C l
    ins_around =
        (λ i. ins_at (deep i) ds l (own i) (own_interface i) C.process)
        ∙ ap (λ (D : Definitions). ins_at (length D) D l C.env C.interface C.process) at

    pub inputs_fit : ins_at d ds l env interface C.process < 2 ^ 32
    inputs_fit = let few = few_inputs own_ds C sound l in let same = ins_around in omega arith

    pub inputs_few : (n : ℕ) → n ≡ ins_at d ds l env interface C.process → n ≤ 65536
    inputs_few n e = let few = few_inputs own_ds C sound l in let same = ins_around in omega arith

-- ---- the component that a program begins with, as it is found
pub found : (components xs : List Begun) (i : ℕ) (C : Begun) → i < length components → xs ≡ components → C ≡ get_or xs i C → slice_get components i ≡ Some C
found components xs i C h e at = slice_get_read components (length components) i C refl h (at ∙ ap (λ (l : List Begun). get_or l i C) e)

pub begins_sound : (p : Program) (i : ℕ) (C : Begun) → IsChecked p → slice_get p.components i ≡ Some C → IsSound p (component_of C)
begins_sound p i C h e = programs_begin_sound p h i C e

pub starts_as : (p : Program) (i : ℕ) (C : Begun) (now : Component) → slice_get p.components i ≡ Some C → BeginsAs (component_of C) now → StartsAs p i now
starts_as p i C now at begins D found_too =
    let same : C ≡ D = cc in subst (λ (E : Begun). BeginsAs (component_of E) now) same begins
