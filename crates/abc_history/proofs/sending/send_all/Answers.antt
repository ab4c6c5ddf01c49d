-- One packet more is sent; at the end none is left.
use Rattle.std.proofs.Common.{◌≡◌, ◌∙◌, length, arith}
use Rattle.abc_history.proofs.Left.{left-after_one, left-none}
use Rattle.abc_history.proofs.sending.send_all.Goals as goal

pub sending-preserved : goal.sending-preserved
sending-preserved g c = (
  left-after_one _ _ _ _ _ _ _ _ c.pop_front.new.self.items (c.in-Some.link, c.in-Some.stamped) _ _
      c.sending.invariant.0 c.in-Some.ensures.items c.send.ensures.links c.send.ensures.lists c.send.ensures.room,
  c.send.ensures.rest ∙ c.sending.invariant.1,
)

pub returns-clause-lists : goal.returns-clause-lists
returns-clause-lists g c =
    let none : length c.sending.ready.items ≡ 0 = omega (arith, c.in_default.ensures.cases.0, c.sending.ready.ok) in
    left-none _ _ _ _ _ _ _ c.sending.invariant.0 none
