-- What the toolchain's search tries too, with more steps than it takes by itself.
use denote.Param.Send.{sendable}
use Rattle.std.proofs.Crossing as heap
use Rattle.std.proofs.MapsCrossing as maps
use Rattle.abc_value.proofs.list.List.TheSendSync as list
use Rattle.abc_value.proofs.value.Value.TheSendSync as value
use Rattle.abc_pred.proofs.env.Env.TheSendSync as env
use Rattle.abc_pred.proofs.names.Name.TheSendSync as name
use Rattle.abc_pred.proofs.syntax.Operand.TheLaws.TheKnot as operand
use Rattle.abc_pred.proofs.syntax.Expr.TheLaws.TheKnot as expr
use Rattle.abc_pred.proofs.syntax.Pred.TheLaws.TheKnot as pred
use Rattle.abc_term.proofs.terms.Process.TheLaws.TheKnot as process
use Rattle.abc_moves.proofs.scope.Scope.TheSendSync as scope
use Rattle.abc_moves.proofs.tree.Tree.TheLaws.TheKnot as tree
use Rattle.abc_moves.proofs.live.Fixed.TheSendSync as fixed
use Rattle.abc_moves.proofs.live.lives_cross_threads.Goals as goal

pub crosses_threads-requires-send-T : goal.crosses_threads-requires-send-T
crosses_threads-requires-send-T c κs =
    search (
      fixed.the_send,
      scope.the_send,
      env.the_send,
      name.the_send,
      name.the_sync,
      name.the_field_send,
      name.the_field_sync,
      value.the_send,
      value.the_sync,
      value.the_field_send,
      value.the_field_sync,
      list.the_send,
      list.the_sync,
      tree.crosses,
      process.crosses,
      pred.crosses,
      expr.crosses,
      operand.crosses,
      heap.crosses,
      maps.crosses,
      sendable,
    ) depth 40 fits 20000
