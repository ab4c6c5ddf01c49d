use Rattle.std.proofs.Common.{List, ◌∙◌, ap}
use Rattle.abc_pred.specs.declared.names.Name.{Name}
use Rattle.abc_checks.specs.Firsts.{first_place}
use Rattle.abc_checks.proofs.NamesMet.{place_among}
use Rattle.abc_checks.proofs.places.Places.place.Goals as goal

pub returns : goal.returns
returns c =
    let s = c.args.self.now in
    c.place.ensures ∙ ap (λ (xs : List Name). first_place xs c.args.name) s.of_definitions ∙ place_among s.program.now.definitions c.args.name
