-- What reading the predicate of a line answers, and what its text fixes.
use Rattle.std.specs.Prelude.{◌≡◌, ◌++◌, ℕ, List, Option, Some, None}
use Rattle.abc_pred.specs.declared.syntax.Pred as held
use Rattle.abc_pred.specs.Terms.{Pred}
use Rattle.abc_pred.specs.Standing.{pred_of}
use Rattle.abc_text.specs.Meanings.{AreDifferent}
use Rattle.abc_printed.specs.Printed.{pred_text}
use Rattle.abc_trace.specs.WellFormed.{IsSent}
use Rattle.abc_trace.specs.Met.{pred_words, with_words}

-- These bytes are the text of a predicate that is sent, and the words that it names first have the
-- next numbers; or they are the text of none, whatever numbers names have.
abbrev pub IsReadPred : List (List ℕ) → List ℕ → List (List ℕ) → Option held.Pred → Type 0
IsReadPred known bytes known' None =
    (words : List (List ℕ)) (p : Pred) → IsSent words p → ¬ (pred_text words p ≡ bytes)
IsReadPred known bytes known' (Some p) =
    IsSent known' (pred_of p) × (pred_text known' (pred_of p) ≡ bytes)
    × (known' ≡ with_words known (pred_words known' (pred_of p)))

-- The text of a predicate that is sent fixes its words, and it where names have the same numbers.
pub record PredsAreOne : Type 0 where
  pub words :
      (known known' : List (List ℕ)) (p q : Pred) → IsSent known p → IsSent known' q →
      pred_text known p ≡ pred_text known' q → pred_words known p ≡ pred_words known' q
  pub preds :
      (known : List (List ℕ)) (p q : Pred) → AreDifferent known → IsSent known p → IsSent known q →
      pred_text known p ≡ pred_text known q → p ≡ q

-- More words change nothing of a predicate that has its words.
abbrev pub PredsStay : Type 0
PredsStay =
    (known more : List (List ℕ)) (p : Pred) → IsSent known p →
    IsSent (known ++ more) p × (pred_text (known ++ more) p ≡ pred_text known p)
    × (pred_words (known ++ more) p ≡ pred_words known p)
