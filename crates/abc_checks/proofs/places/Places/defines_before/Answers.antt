use Rattle.std.proofs.Common.{ℕ, List, ◌∙◌, ap, nat_lt}
use Rattle.abc_pred.specs.declared.names.Name.{Name}
use Rattle.abc_term.specs.declared.terms.Definition.{Definition}
use Rattle.abc_checks.specs.Firsts.{first_place}
use Rattle.abc_checks.proofs.NamesMet.{stands_before}
use Rattle.abc_checks.proofs.places.Places.defines_before.Goals as goal

pub returns : goal.returns
returns c =
    let s = c.args.self.now in
    ap (λ (n : ℕ). nat_lt n c.args.at) (c.place.ensures ∙ ap (λ (xs : List Name). first_place xs c.args.name) s.of_definitions)
    ∙ stands_before (λ (d : Definition). d.name) s.program.now.definitions c.args.at c.args.name c.requires
