use Rattle.abc_sound.proofs.Sounding.{speaking_keeps_soundness, hearing_keeps_soundness}
use Rattle.abc_sound.proofs.laws.moves_keep_soundness.Goals as goal

pub returns : goal.returns
returns c = record { speaking = speaking_keeps_soundness; hearing = hearing_keeps_soundness }
