use Rattle.abc_value.proofs.Gap.{least_is_free, below_least}
use Rattle.abc_value.proofs.laws.least_free_numbers.Goals as goal

pub returns : goal.returns
returns c = λ s h. record { free = least_is_free s h.rises; least = below_least s h.rises }
