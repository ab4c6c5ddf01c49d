-- How the parser's own names for joining tokens join.
use Rattle.abc_pred.specs.Terms.{Operand, Expr, Pred}
use Rattle.abc_pred.specs.Terms as term
use Rattle.abc_phrases.specs.declared.operand.Sign.{Sign}
use Rattle.abc_phrases.specs.declared.operand.Sign.TheVariants.{Plus, Minus}
use Rattle.abc_phrases.specs.declared.expr.Pairing.{Pairing}
use Rattle.abc_phrases.specs.declared.expr.Pairing.TheVariants.{Union, Without}
use Rattle.abc_phrases.specs.declared.pred.Comparison.{Comparison}
use Rattle.abc_phrases.specs.declared.pred.Comparison.TheVariants.{Same, Less, Member}

abbrev pub sign_of : Sign → Operand → Operand → Operand
sign_of Plus = term.Add
sign_of Minus = term.Sub

abbrev pub comparison_of : Comparison → Operand → Operand → Pred
comparison_of Same = term.Same
comparison_of Less = term.Less
comparison_of Member = term.Member

abbrev pub pairing_of : Pairing → Expr → Expr → Expr
pairing_of Union = term.Union
pairing_of Without = term.Without
