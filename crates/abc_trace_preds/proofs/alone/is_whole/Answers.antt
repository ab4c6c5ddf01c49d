use Rattle.std.proofs.Common.{rules, ◌≡◌, ℕ, List, [], ◌++◌, length, take, Option, None, Some, arith}
use Rattle.std.proofs.lemmas.Grind.{common_steps}
use Rattle.std.specs.Prelude.{Bool, IsTrue, ◌↔◌}
use Rattle.abc_pred.specs.Meaning.{IsClosed}
use Rattle.abc_pred.specs.Standing.{pred_of}
use Rattle.abc_text.specs.Meanings.{names_behind}
use Rattle.abc_printed.specs.Printed.{pred_text}
use Rattle.abc_lexemes.proofs.NewWords.{if_ok}
use Rattle.abc_trace_preds.specs.Alone.{IsWhole}
use Rattle.abc_trace_preds.proofs.Found.{none_of, whole_by_print}
use Rattle.abc_trace_preds.proofs.alone.is_whole.Goals as goal

pub returns : goal.returns
returns c =
    let bytes = c.args.bytes.now in
    let lexed = c.args.lexed.now in
    let p = pred_of c.args.pred.now in
    let good : lexed.fault ≡ None = none_of lexed.fault (cc (c.is_some.ensures, c.if-is_some.false)) in
    let all : c.args.count ≡ length lexed.lexemes = omega (arith, c.if-count-len.false, c.len.ensures) in
    let closed : IsClosed p = first_of (search rules, grind (arith, common_steps)) in
    if_ok (λ (b : Bool). IsTrue b ↔ (pred_text c.in_ok-names.names p ≡ bytes))
    (λ (b : Bool). IsTrue b ↔ IsWhole bytes lexed c.args.count p) c.is_print.result c.is_print.ensures
    (λ b tells. whole_by_print bytes lexed c.args.count p c.in_ok-names.names b c.requires.lexed good all closed
    c.in_ok-names.ensures tells)
