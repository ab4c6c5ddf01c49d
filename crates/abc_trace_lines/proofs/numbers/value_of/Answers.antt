use Rattle.std.proofs.Common.{◌≡◌, ℕ, ◌<◌, ◌^◌, get_or, take, refl, ap, ◌∙◌, subst, arith}
use Rattle.std.proofs.lemmas.List.{take_all}
use Rattle.abc_text.specs.Tokens.{decimal}
use Rattle.abc_trace_lines.proofs.Numerals.{value_wide}
use Rattle.abc_trace_lines.proofs.numbers.value_of.Goals as goal

pub returns-in-None : goal.returns-in-None
returns-in-None c =
    value_wide c.args.digits.now c.loop-b.b-index c.loop-b.value
    (get_or c.args.digits.now c.loop-b.b-index 0) c.loop-b.invariant.0
    (omega arith) refl c.in-None.ensures

pub returns : goal.returns
returns c =
    let whole : take c.loop-b.b-index c.args.digits.now ≡ c.args.digits.now = take_all _ _
    (omega arith) in
    let value : c.loop-b.value ≡ decimal c.args.digits.now = c.loop-b.invariant.0
    ∙ ap decimal whole in
    (subst (λ (n : ℕ). n < 2 ^ 64) value c.loop-b.invariant.1, value)
