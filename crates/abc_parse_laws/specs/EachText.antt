-- Each text is accepted or refused.
use Rattle.std.specs.Prelude.{ℕ, ◌⊎◌, List}
use Rattle.abc_cause.specs.declared.Cause.{Cause}
use Rattle.abc_text.specs.declared.lexical.Token.{Token}
use Rattle.abc_term.specs.declared.terms.Program.{Program}
use Rattle.abc_grammar.specs.Accepted.{IsAccepted, IsRefused}

-- The text is accepted as some program.
abbrev pub IsAcceptedText : List ℕ → Type 0
IsAcceptedText bytes = (ts : List Token) × (p : Program) × IsAccepted bytes ts p

-- The text is refused at some place for some cause.
abbrev pub IsRefusedText : List ℕ → Type 0
IsRefusedText bytes = (place : ℕ) × (c : Cause) × IsRefused bytes place c

-- Each text is the one or the other, whatever its bytes and however many they are,
abbrev pub EachIsAcceptedOrRefused : Type 0
EachIsAcceptedOrRefused = (bytes : List ℕ) → IsAcceptedText bytes ⊎ IsRefusedText bytes

-- and none is both.
abbrev pub NoneIsBoth : Type 0
NoneIsBoth = (bytes : List ℕ) → IsAcceptedText bytes → ¬ IsRefusedText bytes
