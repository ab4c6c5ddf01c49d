use Rattle.std.proofs.Common.{◌≡◌, ◌∙◌, refl, sym, arith}
use Rattle.std.specs.Prelude.{None}
use Rattle.abc_network.specs.Nodes.{copies_from}
use Rattle.abc_cluster.proofs.Arriving.{arrived, sends-ready}
use Rattle.abc_cluster.proofs.Copying.{copies-on_links, copies-few}
use Rattle.abc_cluster.proofs.arrival.spread.Goals as goal

-- The copies go on links from the node,
pub send_on-requires-clause-on : goal.send_on-requires-clause-on
send_on-requires-clause-on g c =
    let s = c.args.station.now in
    let made = c.in_ok-ready.ensures in
    copies-on_links (g.O.Outlet.has_link c.args.outlet.now) s.plan s.number c.args.sender c.clock_after-clock.result
    c.args.stamped.packet c.in_ok-ready.ready.items made.copies made.node c.requires.from

-- and are no more than there is room for.
pub send_on-requires-clause-out : goal.send_on-requires-clause-out
send_on-requires-clause-out g c =
    let s = c.args.station.now in
    let few = copies-few s.plan.nodes s.number c.args.sender c.clock_after-clock.result s.plan.agents c.args.stamped.packet
    c.in_ok-ready.ready.items c.in_ok-ready.ensures.copies in
    omega (arith, few, c.requires.out)

-- The message is sent to all but its sender, with the clock of the entry.
pub returns-clause-ok : goal.returns-clause-ok
returns-clause-ok g c =
    let s = c.args.station.now in
    let before = g.O.Outlet.lists c.args.outlet.now in
    let after = g.O.Outlet.lists c.send_on.new.outlet in
    let now = c.send_on.new.history in
    let copies = copies_from s.plan.nodes s.number c.args.sender 0 s.plan.agents c.args.stamped.packet in
    let clock : c.clock_after-clock.result ≡ now.clock = c.clock_after-clock.ensures.next ∙ sym c.send_on.ensures.noted.clock in
    let sent = sends-ready before after c.clock_after-clock.result now.clock copies c.in_ok-ready.ready.items
    c.in_ok-ready.ensures.copies clock c.send_on.ensures.lists in
    arrived s c.args.link c.args.stamped c.args.history.now now before after None copies
    (λ d. d ≡ None) c.requires.row c.send_on.ensures.noted sent refl
