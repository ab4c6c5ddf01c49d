use Rattle.std.proofs.Common.{arith}
use Rattle.abc_value.proofs.Digits.{so_far_first, so_far_more, so_far_end}
use Rattle.abc_value.proofs.number.rest_of_number.Goals as goal

pub digits-init : goal.digits-init
digits-init c = so_far_first _ _ _ c.requires.most c.requires.digit (λ e. omega arith)

pub digits-preserved : goal.digits-preserved
digits-preserved c = so_far_more _ _ _ _ _ (omega arith) c.digits.invariant c.in-Some.ensures

pub returns-in-None : goal.returns-in-None
returns-in-None c = so_far_end _ _ _ _ (omega arith) c.digits.invariant c.in-None.ensures
