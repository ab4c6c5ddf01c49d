use Rattle.std.proofs.Common.{◌≡◌, length}
use Rattle.abc_history.proofs.Left.{LeftToSend}
use Rattle.abc_history.proofs.sending.send_all.Given as goal

abbrev pub invariant-sending : goal.invariant-sending
invariant-sending g l = let o = g.O.Outlet in
    LeftToSend (o.has_link l.initial.outlet) (o.has_link l.outlet) (o.lists l.initial.outlet) (o.lists l.outlet) l.initial.ready.items l.ready.items (o.room_of l.outlet)
    × (o.rest l.outlet ≡ o.rest l.initial.outlet)

abbrev pub decreases-sending : goal.decreases-sending
decreases-sending g l = length l.ready.items
