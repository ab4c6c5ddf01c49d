use Rattle.std.proofs.Common.{sym, subst}
use Rattle.abc_body.specs.Multicasts.{AllRest}
use Rattle.abc_body.proofs.Resting.{AllRest-stays, AllRest-same}
use Rattle.abc_body.proofs.laws.resting_is_staying.Goals as goal

pub returns : goal.returns
returns g c = λ S S'. (λ rest. AllRest-stays S S' rest, λ same. subst (λ T. AllRest S T) (sym same) (AllRest-same S))
