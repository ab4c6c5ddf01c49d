use Rattle.std.proofs.Common.{rules, ◌≡◌, ℕ, ◌<◌, Bool, true, false, ◌&&◌, length, List, subst, sym, refl, nat_lt, arith}
use Rattle.std.specs.Result.{OkIff, result_ok}
use Rattle.std.specs.Option.{SomeIff}
use Rattle.std.specs.declared.result.Result.{Result}
use Rattle.std.specs.declared.result.Result.TheVariants.{Ok, Err}
use Rattle.std.specs.List.{list_all}
use Rattle.std.specs.Char.{is_ascii_digit}
use Rattle.std.specs.Str.Parse.{digits_value}
use Rattle.std.proofs.lemmas.Str.Parse.{IsNumeralModel, numerals_by_value, parse_digits}
use Rattle.abc_runner.specs.Commands.{is_plain}
use Rattle.abc_runner.proofs.command.value.Goals as goal

own : IsNumeralModel (λ ds. list_all is_ascii_digit ds ≡ true) (digits_value 10)
own = numerals_by_value _ (search rules)

some_where : {E : Type 0} (r : Result ℕ E) (A B : Type 0) (v : ℕ) → A → OkIff r (A × B) v → SomeIff (result_ok r) B v
some_where (Ok x) A B v a h = (h.0.1, h.1)
some_where (Err e) A B v a h = λ b. h (a, b)

first : (a b : Bool) → (a && b) ≡ true → a ≡ true
first true b h = refl
first false b h = h

second : (a b : Bool) → (a && b) ≡ true → b ≡ true
second true b h = h
second false b h = cc

digits : (word : List ℕ) → is_plain word ≡ true → list_all is_ascii_digit word ≡ true
digits word h = second (nat_lt 0 (length word)) _ (first _ _ h)

nonempty : (word : List ℕ) → is_plain word ≡ true → 0 < length word
nonempty word h = let some : nat_lt 0 (length word) ≡ true = first (nat_lt 0 (length word)) _ (first _ _ h) in grind arith

pub returns : goal.returns
returns c =
    let plain = parse_digits own 64 c.args.digits.now _ c.parse.ensures.value.0 (digits c.args.digits.now c.requires) in
    subst (λ r. SomeIff r (digits_value 10 c.args.digits.now < 18446744073709551616) (digits_value 10 c.args.digits.now)) (sym c.ok.ensures.value)
    (some_where _ _ _ _ (nonempty c.args.digits.now c.requires) plain)
