-- Of tokens, and what follows them: a program within its limits, or the first cause against them.
use Rattle.std.proofs.Common.{◌≡◌, ℕ, ◌+◌, ◌<◌, ◌⊎◌, inl, inr, [], length, take, Option, Some, None, refl, sym, subst}
use Rattle.std.proofs.Common.{append-nil, arith}
use Rattle.std.proofs.lemmas.List.{take-take, length-take-le}
use Rattle.abc_cause.specs.declared.Cause.{Cause}
use Rattle.abc_cause.specs.declared.Cause.TheVariants as cause
use Rattle.abc_text.specs.declared.lexical.Fault.{Fault}
use Rattle.abc_grammar.specs.Plain.{PlainProgram}
use Rattle.abc_grammar.specs.Programs.{IsProgram}
use Rattle.abc_grammar.specs.Limits.{IsTooLarge}
use Rattle.abc_grammar.specs.Refusals.{end_cause, HasLexical, IsWithin, EndsWell, IsSomeProgram, IsFirstOfProgram}
use Rattle.abc_limits.specs.declared.program.Limit.{Limit}
use Rattle.abc_limits.specs.declared.program.Limit.TheVariants as limit
use Rattle.abc_limits.specs.FirstLimit.{IsPassed, IsStray, IsLimitOf}
use Rattle.abc_limits.specs.Walking.{limit_of}
use Rattle.abc_limits.proofs.WalkLaws.{limit_found}
use Rattle.abc_readers.specs.Operands.{Tokens}
use Rattle.abc_parse_laws.proofs.Causes.{front_begins, syntax_at, limit_at, end_at}
use Rattle.abc_parse_laws.proofs.Fronts.{IsBegun, Front, whole, begun, wrong, front_of}

-- no token before this one passes a limit
abbrev pub Fits : Tokens → ℕ → Type 0
Fits ts n = IsWithin IsSomeProgram IsTooLarge ts n

pub data Verdict (ts : Tokens) (fault : Option Fault) : Type 0 where
  good : (p : PlainProgram) → IsProgram ts p → Fits ts (length ts) → fault ≡ None → Verdict ts fault
  bad : (n : ℕ) (c : Cause) → IsFirstOfProgram ts fault c n → Verdict ts fault

program_begins : (ts : Tokens) (p : PlainProgram) → IsProgram ts p → IsBegun ts
program_begins ts p h = ([], (p, subst (λ (us : Tokens). IsProgram us p) (sym (append-nil ts)) h))

module _ (ts : Tokens) where
  -- ---- No token passes a limit

  never_ends : (fault : Option Fault) → ¬ IsSomeProgram ts → ¬ EndsWell IsSomeProgram IsTooLarge ts fault
  never_ends None none h = none h
  never_ends (Some fault) none h = h

  at_end : (fault : Option Fault) → HasLexical fault → Fits ts (length ts) → IsBegun ts
      → ¬ EndsWell IsSomeProgram IsTooLarge ts fault → Verdict ts fault
  at_end fault is fits b none =
      bad (length ts) (end_cause fault) (end_at IsSomeProgram IsTooLarge ts b fits fault is none)

  within : (fault : Option Fault) → HasLexical fault → Fits ts (length ts) → Front ts → Verdict ts fault
  within None is fits (whole p h) = good p h fits refl
  within (Some fault) is fits (whole p h) = at_end (Some fault) is fits (program_begins ts p h) (λ e. e)
  within fault is fits (begun b none) = at_end fault is fits b (never_ends fault none)
  within fault is fits (wrong n lt b none) =
      let fits_n : Fits ts n = λ k l c. fits k (omega (arith, l, lt)) c in
      bad n cause.Syntax (syntax_at IsSomeProgram IsTooLarge ts fault n lt b fits_n none)

  -- ---- No token before this one passes a limit

  module _ (fault : Option Fault) (k : ℕ) (exists : k < length ts) (fits : Fits ts k) where
    -- up to and with this token they begin a program, or the first with which they don't is wrong
    begun_or_wrong : Front (take (k + 1) ts) → IsBegun (take (k + 1) ts) ⊎ Verdict ts fault
    begun_or_wrong (whole p h) = inl (program_begins (take (k + 1) ts) p h)
    begun_or_wrong (begun b none) = inl b
    begun_or_wrong (wrong n lt b none) =
        let size = length-take-le (k + 1) ts (omega (arith, exists)) in
        let here : take n (take (k + 1) ts) ≡ take n ts = take-take n (k + 1) ts (omega (arith, lt, size)) in
        let next : take (n + 1) (take (k + 1) ts) ≡ take (n + 1) ts =
        take-take (n + 1) (k + 1) ts (omega (arith, lt, size)) in
        let fits_n : Fits ts n = λ j l c. fits j (omega (arith, l, lt, size)) c in
        inr (bad n cause.Syntax (syntax_at IsSomeProgram IsTooLarge ts fault n (omega (arith, lt, size, exists))
        (subst (λ (us : Tokens). IsBegun us) here b) fits_n (subst (λ (us : Tokens). ¬ IsBegun us) next none)))

  module _ (fault : Option Fault) (k : ℕ) where
    passed : (c : Cause) → IsPassed ts k c → IsBegun (take (k + 1) ts) ⊎ Verdict ts fault → Verdict ts fault
    passed c h (inl b) =
        let before : IsBegun (take k ts) = front_begins IsSomeProgram IsTooLarge k (k + 1) ts (omega arith) b in
        bad k c (limit_at IsSomeProgram IsTooLarge ts fault k c h.exists b h.first h.within (h.passes before))
    passed c h (inr verdict) = verdict

    stray : IsStray ts k → IsBegun (take (k + 1) ts) ⊎ Verdict ts fault → Verdict ts fault
    stray h (inl b) = absurd (h.wrong b)
    stray h (inr verdict) = verdict

  by_limit : (fault : Option Fault) → HasLexical fault → (found : Limit) → IsLimitOf ts found → Verdict ts fault
  by_limit fault is limit.Within h = within fault is h (front_of ts)
  by_limit fault is (limit.Passed k c) h =
      passed fault k c h (begun_or_wrong fault k h.exists h.within (front_of (take (k + 1) ts)))
  by_limit fault is (limit.Stray k) h =
      stray fault k h (begun_or_wrong fault k h.exists h.within (front_of (take (k + 1) ts)))

  pub verdict_of : (fault : Option Fault) → HasLexical fault → Verdict ts fault
  verdict_of fault is = by_limit fault is (limit_of ts) (limit_found ts)
