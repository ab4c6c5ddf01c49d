use Rattle.abc_body.proofs.Soundness.{run_sound}
use Rattle.abc_body.proofs.laws.runs_stay_sound.Goals as goal

pub returns : goal.returns
returns g c = λ S S' cs sound run.
    let met = g.met.B.Body g.world.𝓛 g.world.𝓜 g.world.𝓡 (λ s x. x, λ x. x, λ x. x, λ x. x) in
    run_sound _ met.speaks_soundly met.hears_soundly S S' cs sound run
