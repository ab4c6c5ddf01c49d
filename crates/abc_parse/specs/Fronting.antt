-- What the reader of fronts answers.
use Rattle.std.specs.Prelude.{◌≡◌, ◌+◌, ◌<◌, ◌⊎◌, List, [], length, Option}
use Rattle.abc_pred.specs.Standing.{pred_of}
use Rattle.abc_cause.specs.declared.Cause.{Cause}
use Rattle.abc_text.specs.declared.lexical.Fault.{Fault}
use Rattle.abc_grammar.specs.declared.lexemes.Lexeme.{Lexeme}
use Rattle.abc_grammar.specs.Refusals.{end_cause, HasLexical, IsFirstOfPred}
use Rattle.abc_grammar.specs.Fronts.{IsLongest, HasNoFront}
use Rattle.abc_reading.specs.Reading.{Read, Cut, Refused}
use Rattle.abc_readers.specs.Operands.{Tokens}
use Rattle.abc_readers.specs.Preds.{pred}
use Rattle.abc_parse.specs.declared.front.Tried.{Tried}
use Rattle.abc_parse.specs.declared.front.Tried.TheVariants as tried
use Rattle.abc_parse.specs.declared.front.Front.{Front}
use Rattle.abc_parse.specs.declared.front.Front.TheVariants as front

-- what the plain reader gives, with the number of lexemes before what is left
abbrev pub IsTried : Tokens → Tried → Type 0
IsTried ts (tried.Pred p n) =
    (rest : Tokens) × (n + length rest ≡ length ts) × ((pred ts ≡ Read (pred_of p) rest) ⊎ ((c : Cause) × (ahead : Tokens) × (pred ts ≡ Cut (pred_of p) rest c ahead)))
IsTried ts (tried.Refused n) = (c : Cause) × (ahead : Tokens) × (pred ts ≡ Refused c ahead) × (n + length ahead ≡ length ts) × (0 < length ahead)
IsTried ts tried.Ends = (c : Cause) × (pred ts ≡ Refused c [])

-- the longest front that is a predicate within its limits; or there is none, and the first cause applies at this
-- token, or behind all of them
abbrev pub IsFrontOf : List Lexeme → Front → Type 0
IsFrontOf ts (front.Pred p n) = IsLongest ts n (pred_of p)
IsFrontOf ts (front.Refused n c) = HasNoFront ts × (n < length ts) × ((fault : Option Fault) → IsFirstOfPred ts fault c n)
IsFrontOf ts front.Ends = HasNoFront ts × ((fault : Option Fault) → HasLexical fault → IsFirstOfPred ts fault (end_cause fault) (length ts))
