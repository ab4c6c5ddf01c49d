use Rattle.std.proofs.Common.{◌≡◌, ◌++◌, drop}
use Rattle.std.specs.Option.{option_map}
use Rattle.abc_value.specs.Values.{scalars_of}
use Rattle.abc_value.proofs.ops.scalars.Given as goal

abbrev pub invariant-loop-item : goal.invariant-loop-item
invariant-loop-item l = option_map (λ xs. l.found.items ++ xs) (scalars_of (drop l.item-index l.items)) ≡ scalars_of l.items
