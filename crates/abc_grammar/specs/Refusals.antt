-- The refusal of a text: the first token at which something is wrong, and the first cause there.
use Rattle.std.specs.Prelude.{◌≡◌, ℕ, ◌+◌, ◌<◌, ◌≤◌, ◌⊎◌, List, length, take, slice_get, Option, Some, None, IsSomeAnd}
use Rattle.std.specs.Option.{option_map_or}
use Rattle.abc_pred.specs.Terms.{Pred}
use Rattle.abc_cause.specs.declared.Cause.{Cause}
use Rattle.abc_cause.specs.declared.Cause.TheVariants as cause
use Rattle.abc_text.specs.declared.lexical.Token.{Token}
use Rattle.abc_text.specs.declared.lexical.Fault.{Fault}
use Rattle.abc_text.specs.Tokens.{IsLexical}
use Rattle.abc_grammar.specs.declared.lexemes.Lexeme.{Lexeme}
use Rattle.abc_grammar.specs.Preds.{IsPred}
use Rattle.abc_grammar.specs.Plain.{PlainProgram}
use Rattle.abc_grammar.specs.Programs.{IsProgram}
use Rattle.abc_grammar.specs.Limits.{Begins, IsTooDeep, IsTooLarge, BeginsExtraToken, BeginsExtraExpr, BeginsExtraVariable, BeginsExtraScalar}

-- ---- places
-- The tokens of a text are good up to the end or the first bad one. The end, or the bad token, counts as one
-- more: it has the number of the good tokens.
abbrev pub end_place : ℕ → Option Fault → ℕ
end_place size None = size
end_place size (Some fault) = fault.place

-- where token k begins, in a text of so many bytes
abbrev pub place_at : List Token → Option Fault → ℕ → ℕ → ℕ
place_at ts fault size k = option_map_or (λ t. t.place) (slice_get ts k) (end_place size fault)

-- ---- causes
-- the order of the causes at one token; a token has at most one lexical fault
abbrev pub order : Cause → ℕ
order cause.BadByte = 0
order cause.BadText = 0
order cause.LongText = 0
order cause.LongName = 0
order cause.WideNumber = 0
order cause.Syntax = 1
order cause.TooDeep = 2
order cause.TooLarge = 3
order cause.LongTuple = 4
order cause.LongSet = 5
order (cause.Check c) = 6

-- what is wrong where the good tokens end, if they begin a text and are none
abbrev pub end_cause : Option Fault → Cause
end_cause None = cause.Syntax
end_cause (Some fault) = fault.cause

-- a bad token is bad for a cause of tokens, as each one of a text is
abbrev pub HasLexical : Option Fault → Type 0
HasLexical None = Unit {0}
HasLexical (Some fault) = IsLexical fault.cause

-- What a text must be is given by its grammar, which lists of tokens are whole texts, and by which token is
-- one too many.
module _ (IsWhole : List Lexeme → Type 0) (IsOneTooMany : List Lexeme → ℕ → Type 0) where
  -- a limit is passed at token k
  abbrev pub PassesLimit : Cause → List Lexeme → ℕ → Type 0
  PassesLimit cause.TooDeep ts k = IsTooDeep ts k
  PassesLimit cause.TooLarge ts k = IsOneTooMany ts k
  PassesLimit cause.LongTuple ts k = BeginsExtraExpr IsWhole ts k ⊎ BeginsExtraVariable IsWhole ts k
  PassesLimit cause.LongSet ts k = BeginsExtraScalar ts k
  PassesLimit cause.BadByte ts k = ⊥
  PassesLimit cause.BadText ts k = ⊥
  PassesLimit cause.LongText ts k = ⊥
  PassesLimit cause.LongName ts k = ⊥
  PassesLimit cause.WideNumber ts k = ⊥
  PassesLimit cause.Syntax ts k = ⊥
  PassesLimit (cause.Check c) ts k = ⊥

  -- no limit is passed at any of the first n tokens
  abbrev pub IsWithin : List Lexeme → ℕ → Type 0
  IsWithin ts n = (k : ℕ) → k < n → (c : Cause) → ¬ PassesLimit c ts k

  -- The text may end where its good tokens end: they are a whole text, and no bad token follows.
  abbrev pub EndsWell : List Lexeme → Option Fault → Type 0
  EndsWell ts None = IsWhole ts
  EndsWell ts (Some fault) = ⊥

  -- The tokens up to and with number k begin a text of the grammar, limits aside. Behind the end nothing comes.
  abbrev pub GoesOn : List Lexeme → Option Fault → ℕ → Type 0
  GoesOn ts fault k = (k < length ts → Begins IsWhole (take (k + 1) ts)) × (k ≡ length ts → EndsWell ts fault)

  -- token k is bad
  abbrev pub IsBad : Cause → List Lexeme → Option Fault → ℕ → Type 0
  IsBad c ts fault k = (k ≡ length ts) × IsSomeAnd fault (λ f. f.cause ≡ c)

  -- a cause applies at token k
  abbrev pub Applies : Cause → List Lexeme → Option Fault → ℕ → Type 0
  Applies cause.BadByte ts fault k = IsBad cause.BadByte ts fault k
  Applies cause.BadText ts fault k = IsBad cause.BadText ts fault k
  Applies cause.LongText ts fault k = IsBad cause.LongText ts fault k
  Applies cause.LongName ts fault k = IsBad cause.LongName ts fault k
  Applies cause.WideNumber ts fault k = IsBad cause.WideNumber ts fault k
  Applies cause.Syntax ts fault k = (k ≤ length ts) × ¬ GoesOn ts fault k
  Applies cause.TooDeep ts fault k = PassesLimit cause.TooDeep ts k
  Applies cause.TooLarge ts fault k = PassesLimit cause.TooLarge ts k
  Applies cause.LongTuple ts fault k = PassesLimit cause.LongTuple ts k
  Applies cause.LongSet ts fault k = PassesLimit cause.LongSet ts k
  Applies (cause.Check c) ts fault k = ⊥

  -- k is the least number of a token at which a cause applies, and this one is the first that applies there
  pub record IsFirstCause (ts : List Lexeme) (fault : Option Fault) (c : Cause) (k : ℕ) : Type 0 where
    pub applies : Applies c ts fault k
    pub least : (j : ℕ) → j < k → (d : Cause) → ¬ Applies d ts fault j
    pub first : (d : Cause) → order d < order c → ¬ Applies d ts fault k

-- ---- the two kinds of texts
abbrev pub IsSomeProgram : List Lexeme → Type 0
IsSomeProgram ts = (p : PlainProgram) × IsProgram ts p

abbrev pub IsSomePred : List Lexeme → Type 0
IsSomePred ts = (p : Pred) × IsPred ts p

-- the first cause against a text as a program, and against a text as a predicate
abbrev pub IsFirstOfProgram : List Lexeme → Option Fault → Cause → ℕ → Type 0
IsFirstOfProgram ts fault c k = IsFirstCause IsSomeProgram IsTooLarge ts fault c k

abbrev pub IsFirstOfPred : List Lexeme → Option Fault → Cause → ℕ → Type 0
IsFirstOfPred ts fault c k = IsFirstCause IsSomePred BeginsExtraToken ts fault c k
