use Rattle.std.proofs.Common.{◌≡◌, drop, map}
use Rattle.abc_pred.specs.Maps.{lists}
use Rattle.abc_checks.proofs.names.lists.Given as goal

abbrev pub invariant-loop-item : goal.invariant-loop-item
invariant-loop-item g l = lists (map g.T.Named.name_of l.items) l.name ≡ lists (map g.T.Named.name_of (drop l.item-index l.items)) l.name
