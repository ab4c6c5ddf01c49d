use Rattle.std.proofs.Common.{ap, ◌∙◌, ◌-◌}
use Rattle.std.specs.Prelude.{slice_set}
use Rattle.abc_merge.specs.Telling.{turns_it}
use Rattle.abc_merge.proofs.Rows.{set_at}
use Rattle.abc_merge.proofs.told.turn_at.Goals as goal

pub returns : goal.returns
returns c =
    ap (λ w. slice_set c.args.rows.now.items (c.args.number - 1) (turns_it c.args.agent c.args.place w))
    c.index_mut-row.ensures.value
    ∙ set_at (turns_it c.args.agent c.args.place) c.args.number c.args.rows.now.items c.index_mut-row.result.now
    c.requires.above c.requires.within
