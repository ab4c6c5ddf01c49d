use Rattle.std.proofs.Common.{◌∙◌, sym, subst, arith}
use Rattle.abc_pred.specs.Maps.{IsMap}
use Rattle.abc_pred.proofs.Search.{stands-within, fits-within}
use Rattle.abc_pred.proofs.Entry.{with_entry-stands, with_entry-fits, rises-with}
use Rattle.abc_pred.proofs.env.put.Goals as goal

pub index_mut-requires : goal.index_mut-requires
index_mut-requires c = let w = stands-within (λ e. e.0.0) c.args.name.0 _ _ (rw c.deref.ensures.value at c.in-Ok.ensures.found) in omega (arith, c.args.entries.now.ok.0)

pub insert-requires : goal.insert-requires
insert-requires c = let w = fits-within (λ e. e.0.0) c.args.name.0 _ _ (rw c.deref.ensures.value at c.in-Err.ensures.absent) in omega (arith, c.args.entries.now.ok.0)

pub returns-in-Ok-clause-ok : goal.returns-in-Ok-clause-ok
returns-in-Ok-clause-ok c = sym (with_entry-stands c.args.name c.args.value _ _ (rw c.deref.ensures.value at c.in-Ok.ensures.found))

pub returns-in-Ok-clause-map : goal.returns-in-Ok-clause-map
returns-in-Ok-clause-map c = subst IsMap (sym (returns-in-Ok-clause-ok c)) (rises-with 0 c.args.name c.args.value c.args.entries.now.items c.requires.kept (omega arith) c.requires.map)

pub returns-in_ok-insert-in-Err-clause-ok : goal.returns-in_ok-insert-in-Err-clause-ok
returns-in_ok-insert-in-Err-clause-ok c =
    c.in_ok-insert-in-Err.ensures.items ∙ sym (with_entry-fits c.args.name c.args.value _ _ (rw c.deref.ensures.value at c.in-Err.ensures.absent))

pub returns-in_ok-insert-in-Err-clause-map : goal.returns-in_ok-insert-in-Err-clause-map
returns-in_ok-insert-in-Err-clause-map c =
    subst IsMap (sym (returns-in_ok-insert-in-Err-clause-ok c)) (rises-with 0 c.args.name c.args.value c.args.entries.now.items c.requires.kept (omega arith) c.requires.map)
