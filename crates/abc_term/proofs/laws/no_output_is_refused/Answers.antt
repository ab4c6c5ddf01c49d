use Rattle.abc_term.proofs.Steps.{output_is_never_refused, output_needs_no_receiver}
use Rattle.abc_term.proofs.laws.no_output_is_refused.Goals as goal

pub returns : goal.returns
returns c = record { always = output_is_never_refused; unheard = output_needs_no_receiver }
