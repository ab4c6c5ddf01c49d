use Rattle.abc_body.proofs.Speakings.{speaking_steps}
use Rattle.abc_body.proofs.laws.speakings_are_steps.Goals as goal

pub returns : goal.returns
returns g c = λ S sender b b' place l sound is spoke.
    let met = g.met.B.Body g.world.𝓛 g.world.𝓜 g.world.𝓡 (λ s x. x, λ x. x, λ x. x, λ x. x) in
    speaking_steps _ met.hears_all S sender b b' place l sound is spoke
