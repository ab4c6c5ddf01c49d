use Rattle.std.proofs.Common.{ap, ◌∙◌, ◌-◌}
use Rattle.std.specs.Prelude.{slice_set}
use Rattle.abc_merge.specs.Telling.{hears_it}
use Rattle.abc_merge.proofs.Rows.{set_at, on-ok}
use Rattle.abc_merge.proofs.told.hear_at.Goals as goal

pub returns : goal.returns
returns c =
    on-ok c.push.result
    (λ pushed.
    ap (λ h. slice_set c.args.rows.now.items (c.args.number - 1)
    (record { sender = c.index_mut.result.now.sender; place = c.index_mut.result.now.place; heard = h })) pushed
    ∙ (ap (λ w. slice_set c.args.rows.now.items (c.args.number - 1) (hears_it c.args.agent c.args.place w))
    c.index_mut.ensures.value
    ∙ set_at (hears_it c.args.agent c.args.place) c.args.number c.args.rows.now.items c.index_mut.result.now
    c.requires.above c.requires.within))
    c.push.ensures.ok
