use Rattle.std.proofs.Common.{ℕ, List, length, sym, ap, ◌∙◌, subst}
use Rattle.abc_cause.specs.declared.Cause.{Cause}
use Rattle.abc_grammar.specs.declared.lexemes.Lexeme.{Lexeme}
use Rattle.abc_grammar.specs.Refusals.{place_at}
use Rattle.abc_grammar.specs.Accepted.{IsNoText}
use Rattle.abc_parse.specs.declared.reading.Found.TheVariants as found
use Rattle.abc_parse.specs.Programs.{IsFoundIn}
use Rattle.abc_parse.proofs.WholeTexts.{first_against, ended}
use Rattle.abc_parse.proofs.parsing.text_of.Goals as goal

pub returns-in-Refused : goal.returns-in-Refused
returns-in-Refused c =
    let l = c.in_ok-lexed.lexed in
    let h : IsFoundIn l.lexemes (found.Refused c.in-Refused.number c.in-Refused.cause) =
    subst (λ (us : List Lexeme). IsFoundIn us (found.Refused c.in-Refused.number c.in-Refused.cause)) c.as_slice.ensures (rw c.in-Refused.is at c.in_ok-items.ensures) in
    first_against c.args.bytes.now l.tokens l.fault l.lexemes c.in-Refused.number c.in-Refused.cause c.place_at.result c.in_ok-lexed.ensures.scanned (h.1 l.fault) c.place_at.ensures

pub returns : goal.returns
returns c =
    let l = c.in_ok-lexed.lexed in
    let h : IsFoundIn l.lexemes found.Ends = subst (λ (us : List Lexeme). IsFoundIn us found.Ends) c.as_slice.ensures (rw c.in-Ends.is at c.in_ok-items.ensures) in
    subst (λ (x : Cause). IsNoText c.args.bytes.now c.place_at-place.result x) (sym c.cause_at_end.ensures)
    (ended c.args.bytes.now l.tokens l.fault l.lexemes c.place_at-place.result c.in_ok-lexed.ensures.scanned h
    (c.place_at-place.ensures ∙ ap (λ (n : ℕ). place_at l.tokens l.fault (length c.args.bytes.now) n) c.len.ensures))
