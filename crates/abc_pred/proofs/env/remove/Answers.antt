use Rattle.std.proofs.Common.{◌∙◌, sym, subst, arith}
use Rattle.abc_pred.specs.Maps.{IsMap}
use Rattle.abc_pred.proofs.Search.{stands-within}
use Rattle.abc_pred.proofs.Entry.{without-stands, without-fits, rises-without}
use Rattle.abc_pred.proofs.env.remove.Goals as goal

pub remove-requires : goal.remove-requires
remove-requires c = let w = stands-within (λ e. e.0.0) c.args.name.0 _ _ (rw c.deref.ensures.value at c.in-Ok.ensures.found) in omega (arith, c.args.entries.now.ok.0)

pub returns-in-Ok-clause-removed : goal.returns-in-Ok-clause-removed
returns-in-Ok-clause-removed c = c.remove.ensures.items ∙ sym (without-stands c.args.name _ _ (rw c.deref.ensures.value at c.in-Ok.ensures.found))

pub returns-in-Ok-clause-map : goal.returns-in-Ok-clause-map
returns-in-Ok-clause-map c = subst IsMap (sym (returns-in-Ok-clause-removed c)) (rises-without 0 c.args.name c.args.entries.now.items c.requires)

pub returns-in-Err-clause-removed : goal.returns-in-Err-clause-removed
returns-in-Err-clause-removed c = sym (without-fits c.args.name _ _ (rw c.deref.ensures.value at c.in-Err.ensures.absent))
