-- The longest front of a text that is a predicate.
use Rattle.std.specs.Prelude.{◌≡◌, ℕ, ◌+◌, ◌-◌, ◌≤◌, List, length, take, slice_get, Option}
use Rattle.std.specs.Option.{option_map_or}
use Rattle.abc_pred.specs.Terms.{Pred}
use Rattle.abc_cause.specs.declared.Cause.{Cause}
use Rattle.abc_text.specs.declared.lexical.Token.{Token}
use Rattle.abc_text.specs.declared.lexical.Fault.{Fault}
use Rattle.abc_text.specs.Meanings.{names_behind}
use Rattle.abc_grammar.specs.declared.lexemes.Lexeme.{Lexeme}
use Rattle.abc_grammar.specs.Scanned.{IsScanned}
use Rattle.abc_grammar.specs.Preds.{IsPred}
use Rattle.abc_grammar.specs.Limits.{BeginsExtraToken}
use Rattle.abc_grammar.specs.Refusals.{IsSomePred, IsWithin, IsFirstOfPred, place_at}

-- The first n tokens are this predicate, and pass no limit.
pub record IsFront (ts : List Lexeme) (n : ℕ) (p : Pred) : Type 0 where
  pub exists : n ≤ length ts
  pub pred : IsPred (take n ts) p
  pub within : IsWithin IsSomePred BeginsExtraToken ts n

-- and no more of the first tokens are a predicate
pub record IsLongest (ts : List Lexeme) (n : ℕ) (p : Pred) : Type 0 where
  pub front : IsFront ts n p
  pub longest : (m : ℕ) (q : Pred) → IsFront ts m q → m ≤ n

abbrev pub HasNoFront : List Lexeme → Type 0
HasNoFront ts = (m : ℕ) (q : Pred) → ¬ IsFront ts m q

-- ---- of bytes
-- where the first n tokens end
abbrev pub front_end : List Token → ℕ → ℕ
front_end ts n = option_map_or (λ t. t.place + t.len) (slice_get ts (n - 1)) 0

-- The bytes begin with this predicate: the longest front of their tokens that is one is it, it ends at `size`, and the
-- words that it names first have the next numbers.
pub record BeginsWithPred (words : List (List ℕ)) (bytes : List ℕ) (p : Pred) (size : ℕ) (words' : List (List ℕ)) : Type 0 where
  pub tokens : List Token
  pub fault : Option Fault
  pub lexemes : List Lexeme
  pub scanned : IsScanned words bytes tokens fault lexemes
  pub count : ℕ
  pub longest : IsLongest lexemes count p
  pub ends : size ≡ front_end tokens count
  pub names : words' ≡ names_behind words bytes (take count tokens)

-- No front of the tokens is a predicate, and the first cause against the text as a predicate stands at this place.
pub record BeginsWithNoPred (words : List (List ℕ)) (bytes : List ℕ) (place : ℕ) (c : Cause) : Type 0 where
  pub tokens : List Token
  pub fault : Option Fault
  pub lexemes : List Lexeme
  pub scanned : IsScanned words bytes tokens fault lexemes
  pub none : HasNoFront lexemes
  pub number : ℕ
  pub first : IsFirstOfPred lexemes fault c number
  pub stands : place ≡ place_at tokens fault (length bytes) number
