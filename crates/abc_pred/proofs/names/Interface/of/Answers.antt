use Rattle.std.proofs.Common.{◌∙◌, sym, ap, subst}
use Rattle.std.proofs.lemmas.List.Filters.{dedup_is}
use Rattle.std.proofs.lemmas.List.Sorted.{IsNonDecreasingBy-from_sort}
use Rattle.abc_pred.specs.Maps.{IsNameSet, lists, same_name}
use Rattle.abc_pred.proofs.NameSets.{dedup-rises, lists-dedup, lists-IsPermutation}
use Rattle.abc_pred.proofs.names.Interface.of.Goals as goal

pub invariant_of-result : goal.invariant_of-result
invariant_of-result c =
    let is = dedup_is same_name _ _ c.dedup.ensures.filtered in
    subst IsNameSet (sym is) (dedup-rises _ (IsNonDecreasingBy-from_sort (λ n. n.0) _ c.in_ok-sort.ensures.sorted))

pub returns-clause-set : goal.returns-clause-set
returns-clause-set c = invariant_of-result c

pub returns-clause-names : goal.returns-clause-names
returns-clause-names c = λ n.
    let is = dedup_is same_name _ _ c.dedup.ensures.filtered in
    ap (λ ms. lists ms n) is
    ∙ lists-dedup _ n
    ∙ sym (lists-IsPermutation _ _ n c.sort.ensures.permutation)
    ∙ ap (λ ms. lists ms n) c.in_ok-kept.ensures.items
