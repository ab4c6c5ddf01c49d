use Rattle.std.proofs.Common.{rules}
use Rattle.std.proofs.lemmas.List.Sorted.{answers_always}
use Rattle.abc_pred.proofs.Search.{found_by, absent_by, map-rises}
use Rattle.abc_pred.proofs.env.search.Goals as goal

pub returns-clause-found : goal.returns-clause-found
returns-clause-found c =
    let facts = c.binary_search_by_key.ensures in
    let es = c.args.entries.now in
    found_by (λ e. e.0.0) 0 c.args.name.0 es (map-rises 0 es c.requires) _ facts.bound (facts.position (λ e. e.0.0) (answers_always _ _ _ (λ f a r g called. search rules)))

pub returns-clause-absent : goal.returns-clause-absent
returns-clause-absent c =
    let facts = c.binary_search_by_key.ensures in
    let es = c.args.entries.now in
    absent_by (λ e. e.0.0) 0 c.args.name.0 es (map-rises 0 es c.requires) _ facts.bound (facts.position (λ e. e.0.0) (answers_always _ _ _ (λ f a r g called. search rules)))
