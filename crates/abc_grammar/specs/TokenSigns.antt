-- The signs of a text's tokens and those of its lexemes are one notion.
use Rattle.std.specs.Prelude.{◌≡◌, ℕ, ◌+◌, ◌^◌, ◌<◌, ◌⊎◌, Bool, true, false, List, [], ◌∷◌, ◌++◌, length, Option}
use Rattle.abc_text.specs.declared.lexical.Token.{Token}
use Rattle.abc_text.specs.declared.lexical.Fault.{Fault}
use Rattle.abc_text.specs.Tokens as text
use Rattle.abc_text.specs.Meanings.{spelling, token_signs}
use Rattle.abc_grammar.specs.declared.lexemes.Lexeme.{Lexeme}
use Rattle.abc_grammar.specs.declared.lexemes.Lexeme.TheVariants as l
use Rattle.abc_grammar.specs.Lexemes.{lexeme_of, lexemes_of}
use Rattle.abc_grammar.specs.Sizes.{ends_operand, is_minus}
use Rattle.abc_grammar.specs.Plain.{PlainProgram}
use Rattle.abc_grammar.specs.Programs.{IsProgram}
use Rattle.abc_grammar.specs.SignLaws.{signs, program_signs}

-- the last of these is a sign
abbrev pub EndsWithSign : List Lexeme → Type 0
EndsWithSign ts = (fs : List Bool) × (signs false ts ≡ fs ++ true ∷ [])

-- The tokens behind these are a text of the grammar with them, and the last of these is the `-` of a signed literal.
abbrev pub EndsWithMinus : List Lexeme → List Bool → Type 0
EndsWithMinus ts all = (fs gs : List Bool) × (all ≡ fs ++ true ∷ false ∷ gs) × (length fs + 1 ≡ length ts)

pub record SignsAreOne : Type 0 where
  -- an operand may end with a token exactly where it may end with its lexeme, and both are a `-` together
  pub ends : (words : List (List ℕ)) (bytes : List ℕ) (t : Token) → ends_operand (lexeme_of words bytes t) ≡ text.ends_operand t.kind
      (spelling bytes t)
  pub minus : (words : List (List ℕ)) (bytes : List ℕ) (t : Token) → is_minus (lexeme_of words bytes t) ≡ text.is_minus t.kind (spelling bytes t)
  -- so the same tokens are signs
  pub signs : (words : List (List ℕ)) (bytes : List ℕ) (ts : List Token) → signs false (lexemes_of words bytes ts) ≡ token_signs bytes ts
  -- a number of a text is below 2^63, or it is 2^63 and stands right behind a sign
  pub numbers :
      (words : List (List ℕ)) (bytes : List ℕ) (ts : List Token) (fault : Option Fault) → text.Reads bytes ts fault →
      (front back : List Lexeme) (n : ℕ) → lexemes_of words bytes ts ≡ front ++ l.Number n ∷ back → (n < 2 ^ 63) ⊎ ((n ≡ 2 ^ 63) × EndsWithSign front)
  -- which in a text of the grammar is the `-` of a signed literal
  pub greatest :
      (words : List (List ℕ)) (bytes : List ℕ) (ts : List Token) (fault : Option Fault) → text.Reads bytes ts fault →
      (front back : List Lexeme) → lexemes_of words bytes ts ≡ front ++ l.Number (2 ^ 63) ∷ back →
      (p : PlainProgram) (h : IsProgram (lexemes_of words bytes ts) p) → EndsWithMinus front (program_signs h)
