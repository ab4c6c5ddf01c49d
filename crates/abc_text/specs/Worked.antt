-- Worked examples of tokens.
use Rattle.std.specs.Prelude.{◌≡◌, ℕ, List, [], ◌∷◌, ◌++◌, flat_map, Option, Some, codes, replicate}
use Rattle.abc_text.specs.declared.lexical.TokenKind.{TokenKind}
use Rattle.abc_text.specs.declared.lexical.TokenKind.TheVariants.{Word, Variable, Number, Text, Symbol}
use Rattle.abc_cause.specs.declared.Cause.{Cause}
use Rattle.abc_cause.specs.declared.Cause.TheVariants.{BadByte, BadText, LongText, LongName, WideNumber}
use Rattle.abc_text.specs.declared.lexical.Token.{Token}
use Rattle.abc_text.specs.declared.lexical.Fault.{Fault}
use Rattle.abc_text.specs.Tokens.{Reads, AreTokens}
use Rattle.abc_text.specs.Words.{keyword_rows, mark_rows}
use Rattle.abc_text.specs.Spelling.{IsWordSpelling, IsTextValue, text_spelling}

abbrev pub token_of : TokenKind → ℕ → ℕ → Token
token_of kind place len = record { kind = kind; place = place; len = len }

abbrev pub fault_of : ℕ → Cause → Option Fault
fault_of place cause = Some (record { place = place; cause = cause })

pub record WorkedTokens : Type 0 where
  -- leading zeros, a comment, and the end of the text
  pub header : AreTokens (codes "abc 01; # x") (token_of Word 0 3 ∷ (token_of Number 4 2 ∷ (token_of Symbol 6 1 ∷ [])))
  -- no blank is asked between tokens
  pub close : AreTokens (codes "1or$in:=") (token_of Number 0 1 ∷ (token_of Word 1 2 ∷ (token_of Variable 3 3 ∷ (token_of Symbol 6 2 ∷ []))))
  -- a text with an escaped quote
  pub text : AreTokens (codes "\"a\\\"b\"") (token_of Text 0 6 ∷ [])
  -- 2^63 after a sign, and after a subtraction
  pub sign : AreTokens (codes "-9223372036854775808") (token_of Symbol 0 1 ∷ (token_of Number 1 19 ∷ []))
  pub subtraction : Reads (codes "a-9223372036854775808") (token_of Word 0 1 ∷ (token_of Symbol 1 1 ∷ [])) (fault_of 2 WideNumber)
  pub keyword : AreTokens (codes "in-9223372036854775808") (token_of Word 0 2 ∷ (token_of Symbol 2 1 ∷ (token_of Number 3 19 ∷ [])))
  pub literal : Reads (codes "none-9223372036854775808") (token_of Word 0 4 ∷ (token_of Symbol 4 1 ∷ [])) (fault_of 5 WideNumber)
  -- bad tokens
  pub colon : Reads (codes "a : = b") (token_of Word 0 1 ∷ []) (fault_of 2 BadByte)
  pub open_text : Reads (codes "{ \"a") (token_of Symbol 0 1 ∷ []) (fault_of 2 BadText)

-- so many times the letter a, and the quote
abbrev pub letters : ℕ → List ℕ
letters n = replicate n 97

abbrev pub quotes : ℕ → List ℕ
quotes n = replicate n 34

pub record WorkedLimits : Type 0 where
  -- names of 32 and of 33 bytes
  pub name : AreTokens (letters 32) (token_of Word 0 32 ∷ [])
  pub long_name : Reads (letters 33) [] (fault_of 0 LongName)
  pub variable : AreTokens (36 ∷ letters 32) (token_of Variable 0 33 ∷ [])
  pub long_variable : Reads (36 ∷ letters 33) [] (fault_of 0 LongName)
  pub spelled_name : IsWordSpelling (letters 32)
  pub no_spelled_name : ¬ IsWordSpelling (letters 33)
  -- texts of 64 and of 65 bytes, also where each is written with a backslash; one that isn't closed is no long text
  pub text : AreTokens (text_spelling (letters 64)) (token_of Text 0 66 ∷ [])
  pub long_text : Reads (text_spelling (letters 65)) [] (fault_of 0 LongText)
  pub quoted : AreTokens (text_spelling (quotes 64)) (token_of Text 0 130 ∷ [])
  pub long_quoted : Reads (text_spelling (quotes 65)) [] (fault_of 0 LongText)
  pub open_text : Reads (34 ∷ letters 65) [] (fault_of 0 BadText)
  pub spelled_text : IsTextValue (letters 64)
  pub no_spelled_text : ¬ IsTextValue (letters 65)
  -- 2^63 - 1 and 2^63 behind no sign, 2^63 + 1 behind one
  pub number : AreTokens (codes "9223372036854775807") (token_of Number 0 19 ∷ [])
  pub wide_number : Reads (codes "9223372036854775808") [] (fault_of 0 WideNumber)
  pub wide_signed : Reads (codes "-9223372036854775809") (token_of Symbol 0 1 ∷ []) (fault_of 1 WideNumber)

-- spelled one behind another, with a blank behind each
abbrev pub words_of : {A : Type 0} → List (A × List ℕ) → List ℕ
words_of rows = flat_map (λ row. row.1 ++ codes " ") rows

pub record WorkedWords : Type 0 where
  pub keywords : words_of keyword_rows ≡ codes "abc and comp def false ff free in none not or run set show size this true tt union when without "
  pub marks : words_of mark_rows ≡ codes "( ) { } [ ] ; , . @ ? + - * | < = := "
