-- What the readers of tokens answer.
use Rattle.std.specs.Prelude.{◌≡◌, ℕ, false, List, Option, Some, None, Result, Ok, Err, length}
use Rattle.abc_text.specs.declared.lexical.Token.{Token}
use Rattle.abc_text.specs.declared.lexical.Fault.{Fault}
use Rattle.abc_text.specs.Tokens.{IsFirstBad, text_len, text_value}
use Rattle.abc_lexer.specs.declared.refusal.TextRefusal.{TextRefusal}
use Rattle.abc_lexer.specs.declared.refusal.TextRefusal.TheVariants.{Refused, NoMemory}

-- the first bad token, or want of memory, which says nothing
abbrev pub IsRefusal : List ℕ → TextRefusal → Type 0
IsRefusal bytes (Refused place cause) = IsFirstBad bytes (record { place = place; cause = cause })
IsRefusal bytes NoMemory = Unit {0}

-- It is refused for this fault; want of memory says nothing.
abbrev pub IsRefusedFor : Fault → Result (List Token) TextRefusal → Type 0
IsRefusedFor fault (Ok ts) = ⊥
IsRefusedFor fault (Err (Refused place cause)) = fault ≡ record { place = place; cause = cause }
IsRefusedFor fault (Err NoMemory) = Unit {0}

-- a text that has a bad token is refused for the first one
abbrev pub IsRefusedIfBad : List ℕ → Result (List Token) TextRefusal → Type 0
IsRefusedIfBad bytes answer = (fault : Fault) → IsFirstBad bytes fault → IsRefusedFor fault answer

-- behind a text's opening quote: the bytes up to and with the closing one, and those it stands for
abbrev pub HasLens : List ℕ → Option (ℕ × ℕ) → Type 0
HasLens bytes None = text_len false bytes ≡ None
HasLens bytes (Some (len, size)) = (text_len false bytes ≡ Some len) × (length (text_value false bytes) ≡ size)
