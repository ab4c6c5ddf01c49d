-- What reading a list of lexemes as a program answers.
use Rattle.std.specs.Prelude.{◌≡◌, ◌+◌, ◌<◌, List, length, take, Option}
use Rattle.abc_cause.specs.declared.Cause.{Cause}
use Rattle.abc_text.specs.declared.lexical.Fault.{Fault}
use Rattle.abc_grammar.specs.declared.lexemes.Lexeme.{Lexeme}
use Rattle.abc_grammar.specs.Programs.{IsProgram}
use Rattle.abc_grammar.specs.Limits.{Begins, IsTooLarge}
use Rattle.abc_grammar.specs.Refusals.{end_cause, HasLexical, IsSomeProgram, IsWithin, IsFirstOfProgram}
use Rattle.abc_parse.specs.Items.{plain_items}
use Rattle.abc_parse.specs.declared.reading.Tried.{Tried}
use Rattle.abc_parse.specs.declared.reading.Tried.TheVariants as tried
use Rattle.abc_parse.specs.declared.reading.Found.{Found}
use Rattle.abc_parse.specs.declared.reading.Found.TheVariants as found

-- limits aside: a program; or the token of this number goes on with none, where those before it begin one; or all the tokens
-- begin one and are none
abbrev pub IsTriedAs : List Lexeme → Tried → Type 0
IsTriedAs ts (tried.Program x) = IsProgram ts (plain_items x)
IsTriedAs ts (tried.Refused n) = (n < length ts) × Begins IsSomeProgram (take n ts) × ¬ Begins IsSomeProgram (take (n + 1) ts)
IsTriedAs ts tried.Ends = Begins IsSomeProgram ts × ¬ IsSomeProgram ts

-- a program within its limits; or the first cause against the tokens applies at this one, or behind all of them
abbrev pub IsFoundIn : List Lexeme → Found → Type 0
IsFoundIn ts (found.Program x) = IsProgram ts (plain_items x) × IsWithin IsSomeProgram IsTooLarge ts (length ts)
IsFoundIn ts (found.Refused n c) = (n < length ts) × ((fault : Option Fault) → IsFirstOfProgram ts fault c n)
IsFoundIn ts found.Ends = (fault : Option Fault) → HasLexical fault → IsFirstOfProgram ts fault (end_cause fault) (length ts)
