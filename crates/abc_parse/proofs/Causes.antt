-- The first cause against a text, whatever its grammar is and which token of it is one too many.
use Rattle.std.proofs.Common.{◌≡◌, ℕ, zero, suc, ◌+◌, ◌<◌, ◌≤◌, [], ◌∷◌, ◌++◌, length, take, Option, Some, None, refl, sym, ap, ◌∙◌, subst, append_assoc, arith}
use Rattle.abc_cause.specs.declared.Cause.{Cause}
use Rattle.abc_cause.specs.declared.Cause.TheVariants as cause
use Rattle.abc_text.specs.declared.lexical.Fault.{Fault}
use Rattle.abc_text.specs.Tokens.{IsLexical}
use Rattle.abc_grammar.specs.Limits.{Begins}
use Rattle.abc_grammar.specs.Refusals.{order, end_cause, HasLexical, PassesLimit, Applies, GoesOn, IsFirstCause}
use Rattle.abc_grammar.proofs.OneRefusal.{order-lexical}
use Rattle.abc_readers.specs.Operands.{Tokens}
use Rattle.abc_parse.proofs.Lists.{take_split, take_all}

module _ (IsWhole : Tokens → Type 0) (IsOneTooMany : Tokens → ℕ → Type 0) where
  pub begins_front : (pre us : Tokens) → Begins IsWhole (pre ++ us) → Begins IsWhole pre
  begins_front pre us b = (us ++ b.0, rw (← append_assoc pre us b.0) b.1)

  -- no limit is passed at the first so many tokens
  abbrev pub NoLimits : Tokens → ℕ → Type 0
  NoLimits ts n = (k : ℕ) → k < n → (c : Cause) → PassesLimit IsWhole IsOneTooMany c ts k → ⊥

  module _ (ts : Tokens) (fault : Option Fault) where
    goes_on : (j : ℕ) → j < length ts → Begins IsWhole (take (j + 1) ts) → GoesOn IsWhole IsOneTooMany ts fault j
    goes_on j lt b = (λ h. b, λ e. absurd (omega (arith, e, lt)))

    -- nothing is wrong at the tokens that begin a text and pass no limit
    pub nothing_before : (n : ℕ) → n ≤ length ts → Begins IsWhole (take n ts) → NoLimits ts n → (j : ℕ) → j < n → (d : Cause) → Applies IsWhole IsOneTooMany d ts fault j → ⊥
    nothing_before n le b none j lt cause.Syntax h =
        let r = take_split (j + 1) n ts (omega arith) in
        h.1 (goes_on j (omega arith) (begins_front (take (j + 1) ts) r.0 (subst (λ (us : Tokens). Begins IsWhole us) r.1 b)))
    nothing_before n le b none j lt cause.TooDeep h = none j lt cause.TooDeep h
    nothing_before n le b none j lt cause.TooLarge h = none j lt cause.TooLarge h
    nothing_before n le b none j lt cause.LongTuple h = none j lt cause.LongTuple h
    nothing_before n le b none j lt cause.LongSet h = none j lt cause.LongSet h
    nothing_before n le b none j lt cause.BadByte h = omega (arith, h.0, lt, le)
    nothing_before n le b none j lt cause.BadText h = omega (arith, h.0, lt, le)
    nothing_before n le b none j lt cause.LongText h = omega (arith, h.0, lt, le)
    nothing_before n le b none j lt cause.LongName h = omega (arith, h.0, lt, le)
    nothing_before n le b none j lt cause.WideNumber h = omega (arith, h.0, lt, le)
    nothing_before n le b none j lt (cause.Check c) h = h

    -- no token before the end has a lexical fault
    no_lexical : (j : ℕ) → j < length ts → (d : Cause) → order d < 1 → Applies IsWhole IsOneTooMany d ts fault j → ⊥
    no_lexical j lt cause.Syntax o h = omega arith
    no_lexical j lt cause.TooDeep o h = omega arith
    no_lexical j lt cause.TooLarge o h = omega arith
    no_lexical j lt cause.LongTuple o h = omega arith
    no_lexical j lt cause.LongSet o h = omega arith
    no_lexical j lt cause.BadByte o h = omega (arith, h.0, lt)
    no_lexical j lt cause.BadText o h = omega (arith, h.0, lt)
    no_lexical j lt cause.LongText o h = omega (arith, h.0, lt)
    no_lexical j lt cause.LongName o h = omega (arith, h.0, lt)
    no_lexical j lt cause.WideNumber o h = omega (arith, h.0, lt)
    no_lexical j lt (cause.Check c) o h = h

    -- the token after some that begin a text goes on with none
    pub syntax_at : (n : ℕ) → n < length ts → Begins IsWhole (take n ts) → NoLimits ts n → (Begins IsWhole (take (n + 1) ts) → ⊥) → IsFirstCause IsWhole IsOneTooMany ts fault cause.Syntax n
    syntax_at n lt b none wrong = record {
      applies = (omega arith, λ goes. wrong (goes.0 lt));
      least = nothing_before n (omega arith) b none;
      first = no_lexical n lt;
    }

    -- the token after some that begin a text goes on with one, and passes a limit
    pub limit_at : (n : ℕ) (c : Cause) → n < length ts → Begins IsWhole (take (n + 1) ts) → NoLimits ts n → PassesLimit IsWhole IsOneTooMany c ts n
        → ((d : Cause) → order d < order c → PassesLimit IsWhole IsOneTooMany d ts n → ⊥) → IsFirstCause IsWhole IsOneTooMany ts fault c n
    limit_at n c lt b none passes earlier = record {
      applies = passes_applies c passes;
      least = nothing_before n (omega arith) (let r = take_split n (n + 1) ts (omega arith) in begins_front (take n ts) r.0 (subst (λ (us : Tokens). Begins IsWhole us) r.1 b)) none;
      first = before;
    }
      where
        passes_applies : (d : Cause) → PassesLimit IsWhole IsOneTooMany d ts n → Applies IsWhole IsOneTooMany d ts fault n
        passes_applies cause.TooDeep h = h
        passes_applies cause.TooLarge h = h
        passes_applies cause.LongTuple h = h
        passes_applies cause.LongSet h = h
        passes_applies cause.Syntax h = absurd h
        passes_applies cause.BadByte h = absurd h
        passes_applies cause.BadText h = absurd h
        passes_applies cause.LongText h = absurd h
        passes_applies cause.LongName h = absurd h
        passes_applies cause.WideNumber h = absurd h
        passes_applies (cause.Check d) h = absurd h

        before : (d : Cause) → order d < order c → Applies IsWhole IsOneTooMany d ts fault n → ⊥
        before cause.TooDeep o h = earlier cause.TooDeep o h
        before cause.TooLarge o h = earlier cause.TooLarge o h
        before cause.LongTuple o h = earlier cause.LongTuple o h
        before cause.LongSet o h = earlier cause.LongSet o h
        before cause.Syntax o h = h.1 (goes_on n lt b)
        before cause.BadByte o h = omega (arith, h.0, lt)
        before cause.BadText o h = omega (arith, h.0, lt)
        before cause.LongText o h = omega (arith, h.0, lt)
        before cause.LongName o h = omega (arith, h.0, lt)
        before cause.WideNumber o h = omega (arith, h.0, lt)
        before (cause.Check d) o h = h

  -- all the tokens begin a text and are none, and they are all
  end_alone : (ts : Tokens) → Begins IsWhole ts → NoLimits ts (length ts) → (IsWhole ts → ⊥) → IsFirstCause IsWhole IsOneTooMany ts None cause.Syntax (length ts)
  end_alone ts b none wrong = record {
    applies = (omega arith, λ goes. wrong (goes.1 refl));
    least = nothing_before ts None (length ts) (omega arith) (subst (λ (us : Tokens). Begins IsWhole us) (sym (take_all ts)) b) none;
    first = only_fault;
  }
    where
      only_fault : (d : Cause) → order d < 1 → Applies IsWhole IsOneTooMany d ts None (length ts) → ⊥
      only_fault cause.Syntax o h = omega arith
      only_fault cause.TooDeep o h = omega arith
      only_fault cause.TooLarge o h = omega arith
      only_fault cause.LongTuple o h = omega arith
      only_fault cause.LongSet o h = omega arith
      only_fault cause.BadByte o h = absurd h.1
      only_fault cause.BadText o h = absurd h.1
      only_fault cause.LongText o h = absurd h.1
      only_fault cause.LongName o h = absurd h.1
      only_fault cause.WideNumber o h = absurd h.1
      only_fault (cause.Check c) o h = h

  -- all the tokens begin a text, and a bad one follows
  pub end_fault : (ts : Tokens) (fault : Fault) → IsLexical fault.cause → Begins IsWhole ts → NoLimits ts (length ts) → IsFirstCause IsWhole IsOneTooMany ts (Some fault) fault.cause (length ts)
  end_fault ts fault lexical b none = record {
    applies = bad fault.cause lexical refl;
    least = nothing_before ts (Some fault) (length ts) (omega arith) (subst (λ (us : Tokens). Begins IsWhole us) (sym (take_all ts)) b) none;
    first = λ d o h. omega (arith, o, order-lexical fault.cause lexical);
  }
    where
      bad : (c : Cause) → IsLexical c → fault.cause ≡ c → Applies IsWhole IsOneTooMany c ts (Some fault) (length ts)
      bad cause.BadByte o e = (refl, e)
      bad cause.BadText o e = (refl, e)
      bad cause.LongText o e = (refl, e)
      bad cause.LongName o e = (refl, e)
      bad cause.WideNumber o e = (refl, e)
      bad cause.Syntax o e = absurd o
      bad cause.TooDeep o e = absurd o
      bad cause.TooLarge o e = absurd o
      bad cause.LongTuple o e = absurd o
      bad cause.LongSet o e = absurd o
      bad (cause.Check d) o e = absurd o

  -- all the tokens begin a text and are none, and what follows them is refused
  pub end_at : (ts : Tokens) (fault : Option Fault) → HasLexical fault → Begins IsWhole ts → NoLimits ts (length ts) →
      (IsWhole ts → ⊥) → IsFirstCause IsWhole IsOneTooMany ts fault (end_cause fault) (length ts)
  end_at ts None lexical b none wrong = end_alone ts b none wrong
  end_at ts (Some fault) lexical b none wrong = end_fault ts fault lexical b none
