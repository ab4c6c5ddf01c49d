use Rattle.std.proofs.Common.{◌≡◌, ◌-◌, ◌^◌, min, take}
use Rattle.abc_text.specs.Tokens.{decimal}
use Rattle.abc_lexer.proofs.run.capped_decimal.Given as goal

abbrev pub invariant-loop-b : goal.invariant-loop-b
invariant-loop-b l = l.value ≡ min (decimal (take l.b-index l.digits)) (2 ^ 64 - 1)
