use Rattle.std.proofs.Common.{◌∙◌, sym, ap, arith}
use Rattle.abc_value.specs.declared.value.Value.{Value}
use Rattle.abc_pred.specs.declared.names.Name.{Name}
use Rattle.abc_pred.specs.Maps.{look_up}
use Rattle.abc_pred.proofs.Search.{stands-within}
use Rattle.abc_pred.proofs.Entry.{look_up-stands, look_up-fits}
use Rattle.abc_pred.proofs.env.Env.get.Goals as goal

pub index-requires : goal.index-requires
index-requires c = let w = stands-within (λ e. e.0.0) c.args.name.0 _ _ (rw c.deref.ensures.value at c.in-Ok.ensures.found) in omega arith

pub returns-in-Ok : goal.returns-in-Ok
returns-in-Ok c =
    let n = c.args.name in
    c.view.ensures
    ∙ ap (λ (e : Name × Value). e.1) c.index.ensures
    ∙ sym (look_up-stands n c.self.inside.entries.items c.in-Ok.at c.index.result.now (rw c.deref.ensures.value at c.in-Ok.ensures.found))
    ∙ ap (λ es. look_up es n) c.self.view_is

pub returns-in-Err : goal.returns-in-Err
returns-in-Err c =
    let n = c.args.name in
    sym (look_up-fits 0 n c.self.inside.entries.items _ c.self.invariant (rw c.deref.ensures.value at c.in-Err.ensures.absent))
    ∙ ap (λ es. look_up es n) c.self.view_is
