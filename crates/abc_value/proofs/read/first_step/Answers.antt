use Rattle.std.proofs.Common.{◌∙◌}
use Rattle.abc_value.proofs.Steps.{first_member}
use Rattle.abc_value.proofs.read.first_step.Goals as goal

pub returns-in-Some : goal.returns-in-Some
returns-in-Some c = first_member _ _ _ (λ e. c.if-first_byte-eq125.false (c.first_byte.ensures ∙ e)) c.in-Some.ensures
