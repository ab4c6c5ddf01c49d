use Rattle.std.proofs.Common.{◌∙◌, sym, ap, arith}
use Rattle.abc_wait.specs.Waits.{item_beside}
use Rattle.abc_wait.specs.Windows.{items_from}
use Rattle.abc_wait.proofs.Places.{item_beside-read, behind_window}
use Rattle.abc_wait.proofs.window.item_in.Goals as goal

pub returns-then-place-len : goal.returns-then-place-len
returns-then-place-len g c =
    let places = c.args.places.now.items in
    c.as_ref.ensures.value
    ∙ (item_beside-read c.args.first c.from.result places c.index.result.now (omega arith) (omega arith) c.index.ensures
    ∙ ap (item_beside (items_from c.args.first places)) c.from.ensures)

pub returns-else-place-len : goal.returns-else-place-len
returns-else-place-len g c =
    let places = c.args.places.now.items in
    sym (behind_window c.args.first c.args.number places (omega arith) (omega arith))
