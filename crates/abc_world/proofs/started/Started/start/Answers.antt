use Rattle.std.proofs.Common.{◌≡◌, ◌∙◌, sym, subst, arith}
use Rattle.std.specs.Prelude.{map}
use Rattle.abc_world.specs.InLinks.{AreInLinks}
use Rattle.abc_world.specs.Runnings.{Running}
use Rattle.abc_world.specs.Starting.{IsStarted, HasRoom, started}
use Rattle.abc_world.proofs.Startings.{started-first, net-starts}
use Rattle.abc_world.proofs.started.Started.start.Goals as goal

-- it is at its start
pub invariant_of-result : goal.invariant_of-result
invariant_of-result g c =
    let m = g.B.Body.meaning in
    let machine = g.M.Node.machine in
    let blank = g.M.Node.blank in
    let p = c.args.plan.now in
    let limit = c.args.limit in
    let pick = c.args.pick in
    let bodies = c.args.bodies.items in
    let first : Running g.row.B.Denot g.row.B-Label.Denot g.row.M-State.Denot = started machine blank p limit pick bodies in
    let is : c.new-network.result ≡ first =
    c.new-network.ensures
    ∙ net-starts machine blank p limit pick c.in_ok-agents.agents.items (map g.M.Node.node c.args.nodes.items)
    c.in_ok-links.links.queues c.new-numbers.result bodies c.in_ok-agents.ensures.start c.requires.blank
    c.in_ok-links.ensures.queues c.new-numbers.ensures.count c.new-numbers.ensures.limit in
    let Starts : Running g.row.B.Denot g.row.B-Label.Denot g.row.M-State.Denot → Type 0 = IsStarted m machine blank in
    let Into : Running g.row.B.Denot g.row.B-Label.Denot g.row.M-State.Denot → Type 0 =
    λ v. AreInLinks v.plan c.in_ok-in_links.in_links.items in
    let Room : Running g.row.B.Denot g.row.B-Label.Denot g.row.M-State.Denot → Type 0 = λ v. HasRoom v.plan c.in_ok-logs.logs in
    let agents = c.agents.ensures.number in
    let nodes = c.nodes.ensures.number in
    let capacity = c.in_ok-logs.ensures.capacity in
    let room : HasRoom p c.in_ok-logs.logs = (c.in_ok-logs.ensures.items, omega arith) in (
      subst Starts (sym is)
          (started-first m machine blank p limit pick bodies c.agents.ensures.limits c.requires.bounded c.requires.laws
          c.requires.many),
      subst Into (sym is) c.in_ok-in_links.ensures,
      subst Room (sym is) room,
    )
