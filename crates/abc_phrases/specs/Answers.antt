-- What the methods of the parser answer, as what they read.
use Rattle.std.specs.Prelude.{◌≡◌, ℕ, zero, suc, [], ◌∷◌, Option, Some, None, Result, Ok, Err}
use Rattle.abc_grammar.specs.declared.lexemes.Lexeme.{Lexeme}
use Rattle.abc_reading.specs.Reading.{Read, Cut, Refused}
use Rattle.abc_phrases.specs.declared.parser.Stop.{Stop}
use Rattle.abc_phrases.specs.declared.parser.Stop.TheVariants as stop
use Rattle.abc_phrases.specs.declared.parser.Part.{Part}
use Rattle.abc_phrases.specs.declared.parser.Part.TheVariants as part
use Rattle.abc_grammar.specs.declared.lexemes.Lexeme.TheVariants as l
use Rattle.abc_text.specs.declared.words.Keyword.TheVariants as k
use Rattle.abc_readers.specs.Operands.{Tokens, Reading}

-- A term that is read whole or refused. `view` is what the program's term stands for, and `rest` what is
-- left, from the refused token on where it is refused. Want of memory says nothing.
abbrev pub Answers : {A B : Type 0} → (A → B) → Reading B → Result A Stop → Tokens → Type 0
Answers view reading (Ok a) rest = reading ≡ Read (view a) rest
Answers view reading (Err (stop.Refused c)) rest = reading ≡ Refused c rest
Answers view reading (Err stop.NoMemory) rest = Unit {0}

-- A term that may also be cut: then `ahead` is left where reading on was refused.
abbrev pub AnswersPart : {A B : Type 0} → (A → B) → Reading B → Result (Part A) Stop → Tokens → Tokens → Type 0
AnswersPart view reading (Ok (part.Whole a)) rest ahead = reading ≡ Read (view a) rest
AnswersPart view reading (Ok (part.Cut a c)) rest ahead = reading ≡ Cut (view a) rest c ahead
AnswersPart view reading (Err (stop.Refused c)) rest ahead = reading ≡ Refused c rest
AnswersPart view reading (Err stop.NoMemory) rest ahead = Unit {0}

-- the next token is one for which `choice` has a meaning, and is passed; else all stays
abbrev pub Takes : {A B : Type 0} → (Lexeme → Option B) → (A → B) → Tokens → Option A → Tokens → Type 0
Takes choice view [] None rest = rest ≡ []
Takes choice view [] (Some a) rest = ⊥
Takes choice view (t ∷ ts) (Some a) rest = (choice t ≡ Some (view a)) × (rest ≡ ts)
Takes choice view (t ∷ ts) None rest = (choice t ≡ None) × (rest ≡ t ∷ ts)

-- the next token is no `not`
abbrev pub HasNoNot : Tokens → Type 0
HasNoNot [] = Unit {0}
HasNoNot (l.Keyword k.Not ∷ ts) = ⊥
HasNoNot (t ∷ ts) = Unit {0}

-- so many `not`s, and then these tokens
abbrev pub after_nots : ℕ → Tokens → Tokens
after_nots zero ts = ts
after_nots (suc n) ts = l.Keyword k.Not ∷ after_nots n ts

-- all the `not`s at the front are passed
abbrev pub PassesNots : Tokens → ℕ → Tokens → Type 0
PassesNots ts n rest = (ts ≡ after_nots n rest) × HasNoNot rest
