-- A short text with few commas passes no limit.
use Rattle.std.proofs.Common.{ℕ, ◌+◌, ◌-◌, ◌<◌, ◌≤◌, ◌⊎◌, inl, inr, Bool, true, false, List, [], ◌∷◌, length, take, ap, arith, length-take-le}
use Rattle.std.specs.Prelude.{if◌then◌else◌}
use Rattle.std.proofs.lemmas.List.{take_all}
use Rattle.std.proofs.lemmas.Bool.{cases_lt}
use Rattle.abc_cause.specs.declared.Cause.{Cause}
use Rattle.abc_cause.specs.declared.Cause.TheVariants as cause
use Rattle.abc_grammar.specs.declared.lexemes.Lexeme.{Lexeme}
use Rattle.abc_grammar.specs.Limits.{opens, closes, open_with, open_behind, IsTooLarge}
use Rattle.abc_grammar.specs.Refusals.{IsSomeProgram, PassesLimit, IsWithin}
use Rattle.abc_grammar.proofs.Commas.{commas, enough_commas}

open_step : (b c : Bool) (n : ℕ) → (if b then n + 1 else (if c then n - 1 else n)) ≤ n + 1
open_step true c n = omega arith
open_step false true n = omega arith
open_step false false n = omega arith

-- each token opens at most one bracket
pub few_open : (ts : List Lexeme) (n : ℕ) → open_behind n ts ≤ n + length ts
few_open [] n = omega arith
few_open (t ∷ ts) n = let more = few_open ts (open_with n t) in let one = open_step (opens t) (closes t) n in omega (arith, more, one)

pub take-short : (k : ℕ) (ts : List Lexeme) → length (take k ts) ≤ length ts
take-short k ts = by (cases_lt k (length ts))
  where
    by : (k < length ts) ⊎ (length ts ≤ k) → length (take k ts) ≤ length ts
    by (inl lt) = let long = length-take-le k ts (omega arith) in omega (arith, long)
    by (inr le) = let long = ap length (take_all k ts le) in omega (arith, long)

no_limit : (c : Cause) (ts : List Lexeme) (k : ℕ) → length ts < 100 → commas ts < 8 → ¬ PassesLimit IsSomeProgram IsTooLarge c ts k
no_limit cause.TooDeep ts k short few h = let full = h.full in let open_few = few_open (take k ts) 0 in let whole = take-short k ts in
    absurd (omega (arith, full, open_few, whole))
no_limit cause.TooLarge ts k short few h = let e = h.counted in let x = h.exists in absurd (omega (arith, e, x))
no_limit cause.LongTuple ts k short few h =
    elim h [
      | inl x ↦ (let full = x.full in absurd (omega (arith, few, full, enough_commas k ts x.before _ x.listed x.stands)))
      | inr x ↦ (let full = x.full in absurd (omega (arith, few, full, enough_commas k ts x.before _ x.listed x.stands)))
    ]
no_limit cause.LongSet ts k short few h = let full = h.full in absurd (omega (arith, few, full, enough_commas k ts h.before _ h.listed h.stands))
no_limit cause.BadByte ts k short few h = h
no_limit cause.BadText ts k short few h = h
no_limit cause.LongText ts k short few h = h
no_limit cause.LongName ts k short few h = h
no_limit cause.WideNumber ts k short few h = h
no_limit cause.Syntax ts k short few h = h
no_limit (cause.Check c) ts k short few h = h

pub short_within : (ts : List Lexeme) (n : ℕ) → length ts < 100 → commas ts < 8 → IsWithin IsSomeProgram IsTooLarge ts n
short_within ts n short few k below c h = no_limit c ts k short few h
