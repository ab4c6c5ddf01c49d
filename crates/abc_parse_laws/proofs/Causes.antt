-- The first cause against a text, whatever its grammar is and which token of it is one too many.
use Rattle.std.proofs.Common.{◌≡◌, ℕ, ◌+◌, ◌<◌, ◌≤◌, ◌++◌, length, take, drop, Option, Some, None}
use Rattle.std.proofs.Common.{refl, sym, ap, ◌∙◌, subst, append_assoc, arith}
use Rattle.std.specs.Prelude.{IsSomeAnd}
use Rattle.std.proofs.lemmas.List.{take-append-drop, take-take}
use Rattle.std.proofs.Math.Seq.{take-length}
use Rattle.abc_cause.specs.declared.Cause.{Cause}
use Rattle.abc_cause.specs.declared.Cause.TheVariants as cause
use Rattle.abc_text.specs.declared.lexical.Fault.{Fault}
use Rattle.abc_text.specs.Tokens.{IsLexical}
use Rattle.abc_grammar.specs.Limits.{Begins}
use Rattle.abc_grammar.specs.Refusals.{order, end_cause, HasLexical, PassesLimit, IsWithin, EndsWell}
use Rattle.abc_grammar.specs.Refusals.{Applies, GoesOn, IsFirstCause}
use Rattle.abc_grammar.proofs.OneRefusal.{order-lexical}
use Rattle.abc_readers.specs.Operands.{Tokens}

module _ (IsWhole : Tokens → Type 0) (IsOneTooMany : Tokens → ℕ → Type 0) where
  -- fewer tokens of a text begin it too
  pub front_begins : (m n : ℕ) (ts : Tokens) → m ≤ n → Begins IsWhole (take n ts) → Begins IsWhole (take m ts)
  front_begins m n ts le b =
      let rest : Tokens = drop m (take n ts) in
      let split : take n ts ≡ take m ts ++ rest =
      sym (take-append-drop m (take n ts)) ∙ ap (λ (us : Tokens). us ++ rest) (take-take m n ts le) in
      let whole : take n ts ++ b.0 ≡ take m ts ++ (rest ++ b.0) =
      ap (λ (us : Tokens). us ++ b.0) split ∙ append_assoc (take m ts) rest b.0 in
      (rest ++ b.0, subst IsWhole whole b.1)

  module _ (ts : Tokens) (fault : Option Fault) where
    -- ---- Why a cause applies: a limit is passed, the token is bad, or no text goes on with it

    data Why (c : Cause) (k : ℕ) : Type 0 where
      limit : 1 < order c → PassesLimit IsWhole IsOneTooMany c ts k → Why c k
      lexical : order c ≡ 0 → k ≡ length ts → IsSomeAnd fault (λ f. f.cause ≡ c) → Why c k
      syntax : order c ≡ 1 → ¬ GoesOn IsWhole IsOneTooMany ts fault k → Why c k

    why : (c : Cause) (k : ℕ) → Applies IsWhole IsOneTooMany c ts fault k → Why c k
    why cause.BadByte k h = lexical refl h.0 h.1
    why cause.BadText k h = lexical refl h.0 h.1
    why cause.LongText k h = lexical refl h.0 h.1
    why cause.LongName k h = lexical refl h.0 h.1
    why cause.WideNumber k h = lexical refl h.0 h.1
    why cause.Syntax k h = syntax refl h.1
    why cause.TooDeep k h = limit (omega arith) h
    why cause.TooLarge k h = limit (omega arith) h
    why cause.LongTuple k h = limit (omega arith) h
    why cause.LongSet k h = limit (omega arith) h
    why (cause.Check c) k h = absurd h

    -- a passed limit, and a bad token, are causes that apply
    passed_applies : (c : Cause) (k : ℕ) → PassesLimit IsWhole IsOneTooMany c ts k
        → Applies IsWhole IsOneTooMany c ts fault k
    passed_applies cause.BadByte k h = absurd h
    passed_applies cause.BadText k h = absurd h
    passed_applies cause.LongText k h = absurd h
    passed_applies cause.LongName k h = absurd h
    passed_applies cause.WideNumber k h = absurd h
    passed_applies cause.Syntax k h = absurd h
    passed_applies cause.TooDeep k h = h
    passed_applies cause.TooLarge k h = h
    passed_applies cause.LongTuple k h = h
    passed_applies cause.LongSet k h = h
    passed_applies (cause.Check c) k h = absurd h

    bad_applies : (c : Cause) → IsLexical c → IsSomeAnd fault (λ f. f.cause ≡ c)
        → Applies IsWhole IsOneTooMany c ts fault (length ts)
    bad_applies cause.BadByte is h = (refl, h)
    bad_applies cause.BadText is h = (refl, h)
    bad_applies cause.LongText is h = (refl, h)
    bad_applies cause.LongName is h = (refl, h)
    bad_applies cause.WideNumber is h = (refl, h)
    bad_applies cause.Syntax is h = absurd is
    bad_applies cause.TooDeep is h = absurd is
    bad_applies cause.TooLarge is h = absurd is
    bad_applies cause.LongTuple is h = absurd is
    bad_applies cause.LongSet is h = absurd is
    bad_applies (cause.Check c) is h = absurd is

    -- ---- What does not apply

    goes_on : (k : ℕ) → k < length ts → Begins IsWhole (take (k + 1) ts) → GoesOn IsWhole IsOneTooMany ts fault k
    goes_on k lt b = (λ h. b, λ e. absurd (omega (arith, e, lt)))

    -- nothing at the tokens that begin a text and pass no limit
    module _ (n : ℕ) (le : n ≤ length ts) (b : Begins IsWhole (take n ts))
        (within : IsWithin IsWhole IsOneTooMany ts n) where
      not_before : (k : ℕ) (c : Cause) → k < n → Why c k → ⊥
      not_before k c lt (limit o h) = within k lt c h
      not_before k c lt (lexical o e h) = omega (arith, e, lt, le)
      not_before k c lt (syntax o none) =
          none (goes_on k (omega (arith, lt, le)) (front_begins (k + 1) n ts (omega (arith, lt)) b))

      nothing_before : (k : ℕ) → k < n → (c : Cause) → ¬ Applies IsWhole IsOneTooMany c ts fault k
      nothing_before k lt c h = not_before k c lt (why c k h)

    -- what comes before all other causes is a bad token
    only_bad : (k : ℕ) (c : Cause) → order c < 1 → Why c k → (k ≡ length ts) × IsSomeAnd fault (λ f. f.cause ≡ c)
    only_bad k c lt (limit o h) = absurd (omega (arith, o, lt))
    only_bad k c lt (lexical o e h) = (e, h)
    only_bad k c lt (syntax o none) = absurd (omega (arith, o, lt))

    -- ---- First causes

    -- the token after some that begin a text goes on with none
    pub syntax_at : (n : ℕ) → n < length ts → Begins IsWhole (take n ts) → IsWithin IsWhole IsOneTooMany ts n
        → ¬ Begins IsWhole (take (n + 1) ts) → IsFirstCause IsWhole IsOneTooMany ts fault cause.Syntax n
    syntax_at n lt b within wrong = record {
      applies = (omega (arith, lt), λ goes. wrong (goes.0 lt));
      least = nothing_before n (omega (arith, lt)) b within;
      first = λ c o h. let bad = only_bad n c o (why c n h) in omega (arith, bad.0, lt);
    }

    -- the token after some that begin a text goes on with one, and passes a limit
    module _ (n : ℕ) (c : Cause) (lt : n < length ts) (b : Begins IsWhole (take (n + 1) ts))
        (earlier : (d : Cause) → order d < order c → ¬ PassesLimit IsWhole IsOneTooMany d ts n) where
      not_earlier : (d : Cause) → order d < order c → Why d n → ⊥
      not_earlier d o (limit o' h) = earlier d o h
      not_earlier d o (lexical o' e h) = omega (arith, e, lt)
      not_earlier d o (syntax o' none) = none (goes_on n lt b)

      pub limit_at : IsWithin IsWhole IsOneTooMany ts n → PassesLimit IsWhole IsOneTooMany c ts n
          → IsFirstCause IsWhole IsOneTooMany ts fault c n
      limit_at within passes = record {
        applies = passed_applies c n passes;
        least = nothing_before n (omega (arith, lt)) (front_begins n (n + 1) ts (omega arith) b) within;
        first = λ d o h. not_earlier d o (why d n h);
      }

  -- all the tokens begin a text, and it may not end with them
  module _ (ts : Tokens) (b : Begins IsWhole ts) (within : IsWithin IsWhole IsOneTooMany ts (length ts)) where
    begins_all : Begins IsWhole (take (length ts) ts)
    begins_all = subst (λ (us : Tokens). Begins IsWhole us) (sym (take-length ts)) b

    pub end_at : (fault : Option Fault) → HasLexical fault → ¬ EndsWell IsWhole IsOneTooMany ts fault
        → IsFirstCause IsWhole IsOneTooMany ts fault (end_cause fault) (length ts)
    end_at None is wrong = record {
      applies = (omega arith, λ goes. wrong (goes.1 refl));
      least = nothing_before ts None (length ts) (omega arith) begins_all within;
      first = λ c o h. (only_bad ts None (length ts) c o (why ts None c (length ts) h)).1;
    }
    end_at (Some fault) is wrong = record {
      applies = bad_applies ts (Some fault) fault.cause is refl;
      least = nothing_before ts (Some fault) (length ts) (omega arith) begins_all within;
      first = λ c o h. omega (arith, o, order-lexical fault.cause is);
    }
