-- What stands at the front of bytes: a run of bytes of one kind, a number, a word.
use Rattle.std.specs.Prelude.{◌≡◌, ◌<◌, ◌≤◌, ◌^◌, ℕ, Bool, false, List, [], ◌∷◌, ◌++◌, decimal}
use Rattle.std.specs.List.{AllPass}
use Rattle.abc_text.specs.Tokens.{is_digit, is_word_byte}
use Rattle.abc_trace.specs.declared.limits.TheConstants.{MOST_PLACE}
use Rattle.abc_trace.specs.WellFormed.{IsName}

-- These bytes begin with none that passes.
abbrev pub StopsAt : (ℕ → Bool) → List ℕ → Type 0
StopsAt p [] = Unit {0}
StopsAt p (b ∷ bs) = p b ≡ false

-- a run of bytes that pass, the longest at the front, and the rest
pub record IsCut (p : ℕ → Bool) (bytes front rest : List ℕ) : Type 0 where
  pub text : bytes ≡ front ++ rest
  pub passes : AllPass p front
  pub stops : StopsAt p rest

-- the digits of a number of 64 bits, and no more
pub record IsNumberText (bytes : List ℕ) (n : ℕ) : Type 0 where
  pub fits : n < 2 ^ 64
  pub text : bytes ≡ decimal n

-- a number, this byte, and more
pub record IsNumberBefore (mark : ℕ) (bytes : List ℕ) (n : ℕ) (more : List ℕ) : Type 0 where
  pub fits : n < 2 ^ 64
  pub text : bytes ≡ decimal n ++ mark ∷ more

-- a number, and what goes on with no digit
pub record IsNumberFront (bytes : List ℕ) (n : ℕ) (more : List ℕ) : Type 0 where
  pub fits : n < 2 ^ 64
  pub text : bytes ≡ decimal n ++ more
  pub stops : StopsAt is_digit more

-- the place of an output or an input, and what goes on with no digit
pub record IsPlaceFront (bytes : List ℕ) (n : ℕ) (more : List ℕ) : Type 0 where
  pub fits : n ≤ MOST_PLACE
  pub text : bytes ≡ decimal n ++ more
  pub stops : StopsAt is_digit more

-- a name, and what goes on with no byte of a word
pub record IsNameFront (bytes word more : List ℕ) : Type 0 where
  pub name : IsName word
  pub text : bytes ≡ word ++ more
  pub stops : StopsAt is_word_byte more

-- a name, this byte, and more
pub record IsNameBefore (mark : ℕ) (bytes word more : List ℕ) : Type 0 where
  pub name : IsName word
  pub text : bytes ≡ word ++ mark ∷ more
