-- What reading a text that is to be one predicate answers, its words numbered as they are met.
use Rattle.std.specs.Prelude.{◌≡◌, ℕ, List, [], length, Option, Some, None}
use Rattle.abc_pred.specs.Terms.{Pred}
use Rattle.abc_pred.specs.Meaning.{IsClosed}
use Rattle.abc_printed.specs.Printed.{pred_text}
use Rattle.abc_lexemes.specs.declared.lexed.Lexed.{Lexed}
use Rattle.abc_trace_preds.specs.declared.alone.Alone.{Alone}
use Rattle.abc_trace_preds.specs.Reading.{IsReadPred}

-- The first lexemes of a text, so many, are all of them; they are a closed predicate that is printed so.
pub record IsWhole (bytes : List ℕ) (lexed : Lexed) (count : ℕ) (p : Pred) : Type 0 where
  pub good : lexed.fault ≡ None
  pub all : count ≡ length lexed.lexemes
  pub closed : IsClosed p
  pub printed : pred_text lexed.names p ≡ bytes

-- where no word has a number before
abbrev pub IsAlone : List ℕ → Option Alone → Type 0
IsAlone bytes None = IsReadPred [] bytes [] None
IsAlone bytes (Some a) = IsReadPred [] bytes a.names (Some a.pred)
