use Rattle.std.proofs.Common.{◌≡◌, ◌∷◌, ◌++◌, [], List, ℕ, true, false, ap, sym, ◌∙◌}
use Rattle.std.proofs.lemmas.Bool.{ne_eqb}
use Rattle.std.specs.Prelude.{if◌then◌else◌, ◌==◌}
use Rattle.abc_text.specs.Tokens.{text_value}
use Rattle.abc_lexer.proofs.TextBytes.{printable_at, all_printable}
use Rattle.abc_lexer.proofs.meaning.unescaped.Goals as goal

pub push-requires-clause-printable : goal.push-requires-clause-printable
push-requires-clause-printable c =
    let escape = c.if-escape.true in
    let rest = c.in-Some.ensures.cases.0 in
    printable_at c.loop-first.held c.in-Some.first.now (text_value false c.in-Some.more.now) (text_value false c.args.bytes.now)
    (sym (λ i. c.loop-first.held ++ text_value (escape i) (rest i)) ∙ c.loop-first.invariant) (all_printable _ c.requires.bytes)

pub push-requires-else-first-eq92-clause-printable : goal.push-requires-else-first-eq92-clause-printable
push-requires-else-first-eq92-clause-printable c =
    let plain = c.if-escape.false in
    let rest = c.in-Some.ensures.cases.0 in
    let b = c.in-Some.first.now in
    let more = c.in-Some.more.now in
    let quote : (b == 34) ≡ false = ne_eqb b 34 c.if-first-eq34.false in
    let slash : (b == 92) ≡ false = ne_eqb b 92 c.if-first-eq92.false in
    let here : text_value false (b ∷ more) ≡ b ∷ text_value false more = λ i. if quote i then [] else (if slash i then text_value true more else b ∷ text_value false more) in
    printable_at c.loop-first.held b (text_value false more) (text_value false c.args.bytes.now)
    (sym ((λ i. c.loop-first.held ++ text_value (plain i) (rest i)) ∙ ap (λ (tail : List ℕ). c.loop-first.held ++ tail) here) ∙ c.loop-first.invariant) (all_printable _ c.requires.bytes)
