-- Ways to put readers of lexemes together, and the grammar of what they read.
use Rattle.std.specs.Prelude.{◌≡◌, Bool, true, false, List, [], ◌∷◌, ◌++◌, Option, Some, None}
use Rattle.abc_cause.specs.declared.Cause.TheVariants.{Syntax}
use Rattle.abc_grammar.specs.declared.lexemes.Lexeme.{Lexeme}
use Rattle.abc_grammar.specs.Listed.{MayBeListed}
use Rattle.abc_reading.specs.Reading.{Read, ◌>>=◌, mapped, again}
use Rattle.abc_readers.specs.Operands.{Tokens, Reading, refuse, listed}

-- ---- one token that has a meaning
abbrev pub one_by : {A : Type 0} → Lexeme → Tokens → Option A → Reading A
one_by t ts None = refuse (t ∷ ts)
one_by t ts (Some a) = Read a ts

abbrev pub one : {A : Type 0} → (Lexeme → Option A) → Tokens → Reading A
one meaning [] = refuse []
one meaning (t ∷ ts) = one_by t ts (meaning t)

pub record IsOne {A : Type 0} (meaning : Lexeme → Option A) (ts : Tokens) (a : A) : Type 0 where
  pub token : Lexeme
  pub whole : ts ≡ token ∷ []
  pub means : meaning token ≡ Some a

-- ---- one reader and then another
abbrev pub then_read : {A B : Type 0} → (Tokens → Reading A) → (Tokens → Reading B) → Tokens → Reading (A × B)
then_read f g ts = f ts >>= λ a us. mapped (λ b. (a, b)) (g us)

pub record IsThen {A B : Type 0} (R : Tokens → A → Type 0) (S : Tokens → B → Type 0) (ts : Tokens) (x : A × B) : Type 0 where
  pub front : Tokens
  pub back : Tokens
  pub whole : ts ≡ front ++ back
  pub left : R front x.0
  pub right : S back x.1

-- ---- items one behind another, as long as the next token begins one
module _ {A : Type 0} (starts : Lexeme → Bool) (item : Tokens → Reading A) where
  abbrev pub repeat_by : (List A → Tokens → Reading (List A)) → List A → Tokens → Bool → Reading (List A)
  repeat_by more items ts false = Read items ts
  repeat_by more items ts true = item ts >>= λ a us. more (items ++ a ∷ []) us

  abbrev pub repeat : (List A → Tokens → Reading (List A)) → List A → Tokens → Reading (List A)
  repeat more items [] = Read items []
  repeat more items (t ∷ ts) = repeat_by more items (t ∷ ts) (starts t)

  -- behind these items
  abbrev pub repeated_on : List A → Tokens → Reading (List A)
  repeated_on items ts = again Syntax repeat items ts

  abbrev pub repeated : Tokens → Reading (List A)
  repeated ts = repeated_on [] ts

-- ---- items parted by commas up to a token that closes, or none
module _ {A : Type 0} (closes : Lexeme → Option (Unit {0})) (item : Tokens → Reading A) where
  abbrev pub listed_up : Tokens → Reading (List A)
  listed_up ts = listed item ts >>= λ items us. mapped (λ u. items) (one closes us)

  abbrev pub closed_by : Lexeme → Tokens → Option (Unit {0}) → Reading (List A)
  closed_by t ts (Some u) = Read [] ts
  closed_by t ts None = listed_up (t ∷ ts)

  abbrev pub closed : Tokens → Reading (List A)
  closed [] = listed_up []
  closed (t ∷ ts) = closed_by t ts (closes t)

pub record IsClosed {A : Type 0} (closes : Lexeme → Option (Unit {0})) (Item : Tokens → A → Type 0) (ts : Tokens) (items : List A) : Type 0 where
  pub front : Tokens
  pub closing : Lexeme
  pub whole : ts ≡ front ++ closing ∷ []
  pub listed : MayBeListed Item front items
  pub closer : closes closing ≡ Some tt
