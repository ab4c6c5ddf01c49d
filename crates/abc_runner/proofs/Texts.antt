-- The answer to a text, and what the source gave.
use Rattle.std.proofs.Common.{◌≡◌, ◌∙◌, ℕ, ◌*◌, ◌<◌, ◌≤◌, ◌^◌, List, ◌++◌, length, Option, Some, None, IfSome, sym, ap, arith}
use Rattle.std.proofs.Math.Nat.{mul-le-mul_left}
use Rattle.std.proofs.lemmas.List.{append-nil}
use Rattle.std.specs.Io.KnownBytes.{Consumes, IsAtEnd}
use Rattle.abc_cause.specs.declared.CheckCause.TheVariants.{TooManyComponents}
use Rattle.abc_io.specs.Whole.{HasRead}
use Rattle.abc_term.specs.declared.terms.Program.{Program}
use Rattle.abc_checks.specs.declared.causes.Site.TheVariants.{Whole}
use Rattle.abc_checks.specs.Facts.{IsChecked}
use Rattle.abc_runner.specs.declared.command.Command.{Command}
use Rattle.abc_runner.specs.declared.status.Status.TheVariants.{Done, BadWords, Unbuilt, TooMuch, TooLong, Refused, ReadFault, WriteFault, NoMemory}
use Rattle.abc_runner.specs.declared.answer.Answer.{Answer}
use Rattle.abc_runner.specs.declared.answer.Answer.TheVariants.{Text, Trace, Refusal, Line}
use Rattle.abc_runner.specs.declared.limits.TheConstants.{MOST_SOURCE}
use Rattle.abc_runner.specs.Answers.{IsOfText, IsAfter}

-- ---- of a program
-- a checked program has few components
pub few_components : (p : Program) → IsChecked p → length p.components ≤ 256
few_components p checked = let few : 256 < length p.components → ⊥ = checked TooManyComponents Whole in omega (arith, few)

-- the product of two numbers of 32 bits fits 64
pub product_fits : (limit components : ℕ) → limit < 2 ^ 32 → components < 2 ^ 32 → limit * components < 2 ^ 64
product_fits limit components small few =
    let most : limit * components ≤ limit * 4294967295 = mul-le-mul_left limit (omega (arith, few)) in omega (arith, small, most)

-- ---- of a source
-- what was read to the end of a source is what it told
pub all_consumed : (old new : Option (List ℕ)) (bytes : List ℕ) (P : List ℕ → Type 0) → IfSome old (λ all. bytes ≡ all) → IsAtEnd new →
    HasRead old new P → Consumes old new bytes
all_consumed None new bytes P all end read = tt
all_consumed (Some xs) None bytes P all end read = absurd read.1
all_consumed (Some xs) (Some ys) bytes P all end read = sym all ∙ sym (append-nil bytes) ∙ ap (λ (zs : List ℕ). bytes ++ zs) (sym end)

-- the answer to a text that was read to its end is one to what was read
pub after_text : (c : Command) (a : Answer) (f f' : ℕ) (left : Option (List ℕ)) (bytes : List ℕ) → length bytes ≤ MOST_SOURCE → f' ≡ f →
    IsAtEnd left →
    IsOfText c bytes a → IsAfter c a f f' left bytes
after_text c (Text t) f f' left bytes most same end h = (most, same, end, h)
after_text c (Trace t ran) f f' left bytes most same end h = (most, same, end, h)
after_text c (Refusal Done) f f' left bytes most same end h = absurd h
after_text c (Refusal BadWords) f f' left bytes most same end h = absurd h
after_text c (Refusal Unbuilt) f f' left bytes most same end h = absurd h
after_text c (Refusal (TooMuch limit components)) f f' left bytes most same end h = absurd h
after_text c (Refusal TooLong) f f' left bytes most same end h = absurd h
after_text c (Refusal (Refused place cause)) f f' left bytes most same end h = absurd h
after_text c (Refusal ReadFault) f f' left bytes most same end h = absurd h
after_text c (Refusal (WriteFault written)) f f' left bytes most same end h = absurd h
after_text c (Refusal NoMemory) f f' left bytes most same end h = (most, same)
after_text c (Line status line) f f' left bytes most same end h = (most, same, end, h)
