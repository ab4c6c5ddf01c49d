use Rattle.std.proofs.Common.{rules, ◌≡◌, ℕ, List, [], false, true, subst, arith}
use Rattle.std.proofs.lemmas.Grind.{common_steps}
use Rattle.std.specs.Prelude.{Bool, IsTrue}
use Rattle.abc_pred.specs.Standing.{pred_of}
use Rattle.abc_grammar.specs.declared.lexemes.Lexeme.{Lexeme}
use Rattle.abc_grammar.specs.Fronts.{IsLongest, HasNoFront}
use Rattle.abc_parse.specs.declared.front.Front.TheVariants as front
use Rattle.abc_parse.specs.Fronting.{IsFrontOf}
use Rattle.abc_trace_preds.specs.Alone.{IsWhole}
use Rattle.abc_trace_preds.proofs.Found.{never_told, told, whole_found, none_begun, none_whole}
use Rattle.abc_trace_preds.proofs.alone.read_alone.Goals as goal

pub returns-then-not-branch : goal.returns-then-not-branch
returns-then-not-branch c =
    let l = c.in_ok-lexed.lexed in
    let p = pred_of c.in-Pred.pred in
    let b = c.in_ok-is_whole-in-Pred.field-0 in
    let long : IsLongest l.lexemes c.in-Pred.count p =
    subst (λ (us : List Lexeme). IsFrontOf us (front.Pred c.in-Pred.pred c.in-Pred.count)) c.as_slice.ensures
    (rw c.in-Pred.is at c.in_ok-pred.ensures) in
    let no : b ≡ false = first_of (search rules, grind (arith, common_steps)) in
    none_whole c.args.bytes.now l c.in-Pred.count p c.in_ok-lexed.ensures long
    (never_told b (IsWhole c.args.bytes.now l c.in-Pred.count p) c.in_ok-is_whole-in-Pred.ensures no)

pub returns-in-Pred : goal.returns-in-Pred
returns-in-Pred c =
    let l = c.in_ok-lexed.lexed in
    let p = pred_of c.in-Pred.pred in
    let b = c.in_ok-is_whole-in-Pred.field-0 in
    let long : IsLongest l.lexemes c.in-Pred.count p =
    subst (λ (us : List Lexeme). IsFrontOf us (front.Pred c.in-Pred.pred c.in-Pred.count)) c.as_slice.ensures
    (rw c.in-Pred.is at c.in_ok-pred.ensures) in
    let yes : b ≡ true = first_of (search rules, grind (arith, common_steps)) in
    whole_found c.args.bytes.now l c.in-Pred.count p c.in_ok-lexed.ensures long
    (told b (IsWhole c.args.bytes.now l c.in-Pred.count p) c.in_ok-is_whole-in-Pred.ensures yes)

pub returns-in-Refused : goal.returns-in-Refused
returns-in-Refused c =
    let f = rw c.in-Refused.is at c.in_ok-pred.ensures in
    none_begun c.args.bytes.now c.in_ok-lexed.lexed c.in_ok-lexed.ensures (subst HasNoFront c.as_slice.ensures f.0)

pub returns : goal.returns
returns c =
    let f = rw c.in-Ends.is at c.in_ok-pred.ensures in
    none_begun c.args.bytes.now c.in_ok-lexed.lexed c.in_ok-lexed.ensures (subst HasNoFront c.as_slice.ensures f.0)
