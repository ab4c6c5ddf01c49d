use Rattle.std.proofs.Common.{◌≡◌, ◌∙◌, refl, ap, List, [], ◌∷◌, map, subst}
use Rattle.std.specs.Result.{IfOk}
use Rattle.abc_value.specs.Values.{set_value}
use Rattle.abc_pred.specs.declared.syntax.Operand.{Operand}
use Rattle.abc_pred.specs.Maps.{Entries}
use Rattle.abc_pred.specs.Meaning.{val}
use Rattle.abc_pred.specs.Standing.{operand_of}
use Rattle.abc_moves.proofs.evaluation.set_of_operands.Goals as goal

-- the values of operands are those of the terms that they stand for
values_are : (own vars : Entries) (os : List Operand) →
    map (λ o. val (operand_of o) own own vars) os ≡ map (λ o. val o own own vars) (map operand_of os)
values_are own vars [] = refl
values_are own vars (o ∷ os) = ap (λ vs. val (operand_of o) own own vars ∷ vs) (values_are own vars os)

pub returns : goal.returns
returns g c =
    let own = c.args.own.now in
    let vars = g.V.Variables.bound c.args.vars.now in
    let e : c.as_slice.result.now ≡ map (λ o. val o own own vars) (map operand_of c.args.operands.now) =
    c.as_slice.ensures ∙ c.in_ok-listed.ensures ∙ values_are own vars c.args.operands.now in
    subst (λ vs. IfOk c.set_of.result (λ v. v ≡ set_value vs)) e c.set_of.ensures
