use Rattle.abc_shape_laws.proofs.Routes.{routes-one, routes-arrive, routes-go_on}
use Rattle.abc_shape_laws.proofs.laws.routes_arrive.Goals as goal

pub returns : goal.returns
returns c = record { one = routes-one; arrive = routes-arrive; go_on = routes-go_on }
