use Rattle.std.proofs.Common.{◌^◌, ◌-◌, List, ℕ, min, ap, ◌∙◌, arith}
use Rattle.abc_text.specs.Tokens.{decimal}
use Rattle.abc_text.proofs.OfKind.{number_of-small}
use Rattle.abc_lexer.proofs.meaning.number.Goals as goal

pub returns-clause-value : goal.returns-clause-value
returns-clause-value c =
    let small = number_of-small _ _ c.requires.stands c.requires.kind in
    let capped = c.capped_decimal.ensures ∙ ap (λ (s : List ℕ). min (decimal s) (2 ^ 64 - 1)) c.spelling.ensures.value in
    omega (arith, small, capped)

pub returns-clause-small : goal.returns-clause-small
returns-clause-small c =
    let small = number_of-small _ _ c.requires.stands c.requires.kind in
    let capped = c.capped_decimal.ensures ∙ ap (λ (s : List ℕ). min (decimal s) (2 ^ 64 - 1)) c.spelling.ensures.value in
    omega (arith, small, capped)
