-- A component as a body meets the laws of bodies.
use Rattle.std.proofs.Common.{◌∙◌, refl, sym, subst}
use Rattle.std.proofs.Math.Logic.{∥∥₁_map}
use Rattle.abc_term.specs.Processes.{Definitions}
use Rattle.abc_term.specs.Speaking.{Speaks}
use Rattle.abc_term.specs.Hearing.{Hears}
use Rattle.abc_term.proofs.HearingPlaces.{hearing_exists}
use Rattle.abc_sound.proofs.Sounding.{speaking_keeps_soundness, hearing_keeps_soundness}
use Rattle.abc_moves.specs.Labels.{label_of}
use Rattle.abc_body.specs.Meanings.{SpeaksSoundly, HearsSoundly, HearsAll}
use Rattle.abc_live_body.specs.AbcMeaning.{abc}

-- What speaks becomes sound.
pub abc_speaks : SpeaksSoundly abc
abc_speaks = λ b b' place label sound spoke.
    ∥∥₁_map sound (λ s. (
      s.0,
      s.1 ∙ sym spoke.1,
      speaking_keeps_soundness s.0 b.component place (label_of label) b'.component s.2
          (subst (λ (D : Definitions). Speaks D b.component place (label_of label) b'.component) (sym s.1) spoke.0),
    ))

-- So does what hears.
pub abc_hears : HearsSoundly abc
abc_hears = λ b b' label place sound heard.
    ∥∥₁_map sound (λ s. (
      s.0,
      s.1 ∙ sym heard.1,
      hearing_keeps_soundness s.0 b.component (label_of label) place b'.component s.2
          (subst (λ (D : Definitions). Hears D b.component (label_of label) place b'.component) (sym s.1) heard.0),
    ))

-- Each label is heard in some way.
pub abc_hears_all : HearsAll abc
abc_hears_all = λ b label sound.
    let h = hearing_exists b.definitions b.component (label_of label) in
    (h.0, record { definitions = b.definitions; component = h.1 }, (h.2, refl))
