-- The worked example computes.
use Rattle.std.proofs.Common.{refl}
use Rattle.abc_trace_laws.specs.Examples.{WorkedRenumbering}

pub renumbering : WorkedRenumbering
renumbering = record { as_met = refl }
