use Rattle.std.proofs.Common.{◌∙◌, sym, ap, subst, rules}
use Rattle.std.proofs.lemmas.List.Sorted.{answers_always}
use Rattle.abc_pred.specs.Maps.{IsNameSet, lists}
use Rattle.abc_pred.proofs.Search.{found_by, absent_by, names-rise}
use Rattle.abc_pred.proofs.NameSets.{lists-searched}
use Rattle.abc_pred.proofs.names.Interface.has.Goals as goal

pub returns : goal.returns
returns c =
    let n = c.args.name in
    let ms = c.deref.result.now in
    let facts = c.binary_search_by_key.ensures in
    let by_key = facts.position (λ m. m.0) (answers_always _ _ _ (λ f a r g called. search rules)) in
    let set : IsNameSet ms = subst IsNameSet (sym c.deref.ensures.value) c.self.invariant in
    let rises = names-rise 0 ms set in
    c.is_ok.ensures.value
    ∙ lists-searched n ms _ set (found_by (λ m. m.0) 0 n.0 ms rises _ facts.bound by_key) (absent_by (λ m. m.0) 0 n.0 ms rises _ facts.bound by_key)
    ∙ ap (λ l. lists l n) (c.deref.ensures.value ∙ c.self.view_is)
