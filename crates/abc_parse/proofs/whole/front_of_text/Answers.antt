use Rattle.std.proofs.Common.{ℕ, List, length, ap, sym, subst, ◌∙◌}
use Rattle.abc_cause.specs.declared.Cause.{Cause}
use Rattle.abc_grammar.specs.declared.lexemes.Lexeme.{Lexeme}
use Rattle.abc_grammar.specs.Refusals.{place_at}
use Rattle.abc_grammar.specs.Fronts.{BeginsWithNoPred}
use Rattle.abc_parse.specs.declared.front.Front.TheVariants as front
use Rattle.abc_parse.specs.Fronting.{IsFrontOf}
use Rattle.abc_parse.proofs.Begins.{refused_begins, ends_begins}
use Rattle.abc_parse.proofs.whole.front_of_text.Goals as goal

pub returns-in-Refused : goal.returns-in-Refused
returns-in-Refused c =
    let l = c.in_ok-lexed.lexed in
    let h : IsFrontOf l.lexemes (front.Refused c.in-Refused.number c.in-Refused.cause) =
    subst (λ (us : List Lexeme). IsFrontOf us (front.Refused c.in-Refused.number c.in-Refused.cause)) c.as_slice.ensures (rw c.in-Refused.is at c.in_ok-pred.ensures) in
    refused_begins c.args.names.now c.args.bytes.now l.tokens l.fault l.lexemes c.in-Refused.number c.in-Refused.cause c.place_at.result c.in_ok-lexed.ensures.scanned h
    c.place_at.ensures

pub returns : goal.returns
returns c =
    let l = c.in_ok-lexed.lexed in
    let h : IsFrontOf l.lexemes front.Ends = subst (λ (us : List Lexeme). IsFrontOf us front.Ends) c.as_slice.ensures (rw c.in-Ends.is at c.in_ok-pred.ensures) in
    subst (λ (x : Cause). BeginsWithNoPred c.args.names.now c.args.bytes.now c.place_at-place.result x) (sym c.cause_at_end.ensures)
    (ends_begins c.args.names.now c.args.bytes.now l.tokens l.fault l.lexemes c.place_at-place.result c.in_ok-lexed.ensures.scanned h
    (c.place_at-place.ensures ∙ ap (λ (n : ℕ). place_at l.tokens l.fault (length c.args.bytes.now) n) c.len.ensures))
