use Rattle.abc_term.proofs.Chains.{guarded_calls_end}
use Rattle.abc_term.proofs.Unfolding.{calls_count_as_their_bodies, calls_speak_as_their_bodies, calls_hear_as_their_bodies}
use Rattle.abc_term.proofs.laws.calls_are_their_bodies.Goals as goal

pub returns : goal.returns
returns c = record { calls_end = guarded_calls_end; counts = calls_count_as_their_bodies; outputs = calls_speak_as_their_bodies; inputs = calls_hear_as_their_bodies }
