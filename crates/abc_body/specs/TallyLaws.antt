-- A tally meets the laws of a body.
use Rattle.std.proofs.Common.{ℕ, ◌+◌, ◌≤◌, inl, inr, refl, arith, lit<}
use Rattle.std.proofs.Common.{Option, Some, None}
use Rattle.std.proofs.lemmas.Bool.{cases_lt}
use Rattle.abc_body.specs.Meanings.{SpeaksSoundly, HearsSoundly, HearsAll}
use Rattle.abc_body.specs.Tallies.{tally}
use Rattle.abc_body.specs.declared.tally.TheConstants.{FULL}

-- A tally that speaks was not full.
pub tally_speaks : SpeaksSoundly tally
tally_speaks = λ b b' place label sound spoke. omega arith

-- A tally that hears was not full, or stays.
heard_soundly : (b b' label : ℕ) (place : Option ℕ) →
    b ≤ FULL → tally.hears b label place b' → b' ≤ FULL
heard_soundly b b' label (Some place) sound heard = omega arith
heard_soundly b b' label None sound heard = omega arith

pub tally_hears : HearsSoundly tally
tally_hears = λ b b' label place sound heard. heard_soundly b b' label place sound heard

-- It hears at place 0, or discards where it is full.
pub tally_hears_all : HearsAll tally
tally_hears_all = λ b label sound.
    elim (cases_lt b FULL) [
      | inl below ↦ (Some 0, b + 1, (below, lit< tt, refl))
      | inr full ↦ (None, b, (full, refl))
    ]
