use Rattle.std.proofs.Common.{sym, arith}
use Rattle.abc_wait.proofs.Places.{window_in_order, before_window}
use Rattle.abc_wait.proofs.list.WaitList.get.Goals as goal

pub returns-then-from-self-clause-item : goal.returns-then-from-self-clause-item
returns-then-from-self-clause-item g c =
    rw (← c.self.view_is) (sym (before_window c.self.inside.first c.args.number c.self.inside.places.items (omega arith)))

pub returns-then-from-self-clause-in_order : goal.returns-then-from-self-clause-in_order
returns-then-from-self-clause-in_order g c =
    window_in_order c.args.self.now c.self.inside.first c.self.inside.places.items c.self.view_is

pub returns-clause-in_order : goal.returns-clause-in_order
returns-clause-in_order g c =
    window_in_order c.args.self.now c.self.inside.first c.self.inside.places.items c.self.view_is
