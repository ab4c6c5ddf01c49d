use Rattle.std.proofs.Common.{◌≡◌, ◌++◌, drop, map}
use Rattle.abc_checks.proofs.names.names_of.Given as goal

abbrev pub invariant-loop-item : goal.invariant-loop-item
invariant-loop-item g l = l.names.items ++ map g.T.Named.name_of (drop l.item-index l.items) ≡ map g.T.Named.name_of l.items
