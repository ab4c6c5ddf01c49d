use Rattle.std.proofs.Common.{◌∙◌, ap, sym, if◌then◌else◌}
use Rattle.abc_value.specs.declared.value.Value.TheVariants.{Nothing}
use Rattle.abc_pred.specs.Maps.{look_up}
use Rattle.abc_pred.specs.Seeing.{cut}
use Rattle.abc_pred.proofs.Shown.{look_up-shown}
use Rattle.abc_pred.proofs.env.Seen.get.Goals as goal

pub returns-then-has : goal.returns-then-has
returns-then-has c =
    let s = c.args.self.now in
    c.get-then-has.ensures
    ∙ sym (ap (λ o. look_up (cut s.env.now o) c.args.name) c.in-Some.is ∙ look_up-shown s.env.now c.in-Some.shown.now c.args.name
    ∙ ap (λ b. if b then look_up s.env.now c.args.name else Nothing) (sym c.has.ensures ∙ c.if-has.true))

pub returns-else-has : goal.returns-else-has
returns-else-has c =
    let s = c.args.self.now in
    sym (ap (λ o. look_up (cut s.env.now o) c.args.name) c.in-Some.is ∙ look_up-shown s.env.now c.in-Some.shown.now c.args.name
    ∙ ap (λ b. if b then look_up s.env.now c.args.name else Nothing) (sym c.has.ensures ∙ c.if-has.false))
