-- What a scope of the code stands for.
use Rattle.std.specs.Prelude.{◌++◌, List, []}
use Rattle.abc_pred.specs.declared.names.Name.{Name}
use Rattle.abc_checks.specs.declared.variables.Scope.{Scope}
use Rattle.abc_checks.specs.declared.variables.Scope as held

abbrev pub bound_in : Scope → List Name
bound_in held.Outside = []
bound_in (held.Inside' xs s outer) = xs.now ++ bound_in outer
