-- What the readers of processes answer, by the parser before and after.
use Rattle.std.specs.Prelude.{◌<◌, ◌≤◌, Result, length, OnOk}
use Rattle.abc_readers.specs.Operands.{Tokens, Reading}
use Rattle.abc_phrases.specs.declared.parser.Parser.{Parser}
use Rattle.abc_phrases.specs.declared.parser.Stop.{Stop}
use Rattle.abc_phrases.specs.Answers.{Answers}

-- the tokens that are left
abbrev pub left : Parser → Tokens
left parser = parser.rest.lexemes.now

-- What is answered is what the plain reader reads of the tokens left before, and what it leaves is left.
abbrev pub ReadsAs : {A B : Type 0} → (A → B) → (Tokens → Reading B) → Parser → Result A Stop → Parser → Type 0
ReadsAs view reader before result after = Answers view (reader (left before)) result (left after)

-- a term was read, of at least one token
abbrev pub Shortens : {A : Type 0} → Parser → Result A Stop → Parser → Type 0
Shortens before result after = OnOk result (length (left after) < length (left before))

-- a term was read, maybe of no token
abbrev pub Leaves : {A : Type 0} → Parser → Result A Stop → Parser → Type 0
Leaves before result after = OnOk result (length (left after) ≤ length (left before))
