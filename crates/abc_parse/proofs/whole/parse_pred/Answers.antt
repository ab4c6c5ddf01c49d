use Rattle.std.proofs.Common.{ℕ, List, ◌++◌, take, ap, sym, subst, ◌∙◌}
use Rattle.abc_pred.specs.Standing.{pred_of}
use Rattle.abc_grammar.specs.Fronts.{BeginsWithPred, BeginsWithNoPred}
use Rattle.abc_grammar.proofs.OneText.{fronts_are_one}
use Rattle.abc_text.specs.Meanings.{AreDifferent}
use Rattle.abc_lexemes.proofs.NewWords.{behind_different}
use Rattle.abc_parse.proofs.whole.parse_pred.Goals as goal

pub returns-in-Ok-clause-different : goal.returns-in-Ok-clause-different
returns-in-Ok-clause-different c =
    let names = c.as_slice.result.now in
    let more = c.in-Ok-Pred.more in
    let b : BeginsWithPred names c.args.bytes.now (pred_of c.in-Ok-Pred.pred) c.in-Ok-Pred.size (names ++ more) = rw c.in-Ok-Pred.field-0-is at c.in-Ok-Pred.ensures in
    let before : AreDifferent names = subst AreDifferent (sym c.as_slice.ensures) c.requires.different in
    let after : AreDifferent (names ++ more) = subst AreDifferent (sym b.names) (behind_different c.args.bytes.now names (take b.count b.tokens) before) in
    subst AreDifferent (sym (c.in-Ok.ensures.ok ∙ ap (λ (ws : List (List ℕ)). c.args.names.now ++ ws) c.as_slice-in-Ok-Pred.ensures ∙ ap (λ (ws : List (List ℕ)). ws ++ more) (sym c.as_slice.ensures))) after

pub returns-in-Ok-clause-exact : goal.returns-in-Ok-clause-exact
returns-in-Ok-clause-exact c = λ place cause none.
    let names = c.as_slice.result.now in
    let b : BeginsWithPred names c.args.bytes.now (pred_of c.in-Ok-Pred.pred) c.in-Ok-Pred.size (names ++ c.in-Ok-Pred.more) =
    rw c.in-Ok-Pred.field-0-is at c.in-Ok-Pred.ensures in
    fronts_are_one.apart names c.args.bytes.now _ _ _ place cause b
    (subst (λ (ws : List (List ℕ)). BeginsWithNoPred ws c.args.bytes.now place cause) (sym c.as_slice.ensures) none)

pub returns-in-Ok-Refused-clause-exact : goal.returns-in-Ok-Refused-clause-exact
returns-in-Ok-Refused-clause-exact c = λ place cause none.
    let names = c.as_slice.result.now in
    let b : BeginsWithNoPred names c.args.bytes.now c.in-Ok-Refused.place c.in-Ok-Refused.cause =
    rw c.in-Ok-Refused.field-0-is at c.in-Ok-Refused.ensures in
    fronts_are_one.refused names c.args.bytes.now _ place _ cause b
    (subst (λ (ws : List (List ℕ)). BeginsWithNoPred ws c.args.bytes.now place cause) (sym c.as_slice.ensures) none)
