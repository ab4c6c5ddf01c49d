-- What reading the front of a text answers.
use Rattle.std.specs.Prelude.{◌≡◌, ℕ, List, ◌++◌, Result, Ok, Err}
use Rattle.abc_cause.specs.declared.Cause.{Cause}
use Rattle.abc_pred.specs.Standing.{pred_of}
use Rattle.abc_lexer.specs.declared.refusal.TextRefusal.{TextRefusal}
use Rattle.abc_lexer.specs.declared.refusal.TextRefusal.TheVariants as refusal
use Rattle.abc_grammar.specs.Fronts.{BeginsWithPred, BeginsWithNoPred}
use Rattle.abc_parse.specs.declared.whole.Begun.{Begun}
use Rattle.abc_parse.specs.declared.whole.Begun.TheVariants.{Pred, Refused}

-- a predicate with its length and its new names, or the place and the cause of the first thing wrong
abbrev pub IsBegun : List (List ℕ) → List ℕ → Begun → Type 0
IsBegun names bytes (Pred p size more) = BeginsWithPred names bytes (pred_of p) size (names ++ more)
IsBegun names bytes (Refused place cause) = BeginsWithNoPred names bytes place cause

-- no front is a predicate; want of memory says nothing
abbrev pub IsPredRefusal : List (List ℕ) → List ℕ → TextRefusal → Type 0
IsPredRefusal names bytes (refusal.Refused place cause) = BeginsWithNoPred names bytes place cause
IsPredRefusal names bytes refusal.NoMemory = Unit {0}

-- It is refused at this place for this cause; want of memory says nothing.
abbrev pub IsRefusedFor : {A : Type 0} → ℕ → Cause → Result A TextRefusal → Type 0
IsRefusedFor place c (Ok a) = ⊥
IsRefusedFor place c (Err (refusal.Refused p d)) = (p ≡ place) × (d ≡ c)
IsRefusedFor place c (Err refusal.NoMemory) = Unit {0}

-- a text of which no front is a predicate is refused at the first thing wrong
abbrev pub IsRefusedIfNone : {A : Type 0} → List (List ℕ) → List ℕ → Result A TextRefusal → Type 0
IsRefusedIfNone names bytes answer = (place : ℕ) (c : Cause) → BeginsWithNoPred names bytes place c → IsRefusedFor place c answer
