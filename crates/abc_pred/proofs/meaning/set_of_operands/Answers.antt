use Rattle.std.proofs.Common.{◌≡◌, ◌∙◌, refl, ap, List, [], ◌∷◌, map, subst}
use Rattle.std.specs.Result.{IfOk}
use Rattle.abc_value.specs.Values.{set_value}
use Rattle.abc_pred.specs.declared.syntax.Operand.{Operand}
use Rattle.abc_pred.specs.Maps.{Entries}
use Rattle.abc_pred.specs.Meaning.{val}
use Rattle.abc_pred.specs.Standing.{operand_of}
use Rattle.abc_pred.proofs.meaning.set_of_operands.Goals as goal

vals-of : (own vars : Entries) (os : List Operand) → map (λ o. val (operand_of o) own own vars) os ≡ map (λ o. val o own own vars) (map operand_of os)
vals-of own vars [] = refl
vals-of own vars (o ∷ os) = ap (λ vs. val (operand_of o) own own vars ∷ vs) (vals-of own vars os)

pub returns : goal.returns
returns c =
    let own = c.args.own.now in
    let vars = c.args.vars.now in
    let e : c.deref.result.now ≡ map (λ o. val o own own vars) (map operand_of c.args.operands.now) = c.deref.ensures.value ∙ c.in_ok-listed.ensures ∙ vals-of own vars c.args.operands.now in
    subst (λ vs. IfOk c.set_of.result (λ v. v ≡ set_value vs)) e c.set_of.ensures
