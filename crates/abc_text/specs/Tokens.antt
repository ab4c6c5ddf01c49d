-- The tokens of a text, the first layer of the concrete text. Bytes are numbers; the comment at each
-- test shows the characters that it is of.
use Rattle.std.specs.Prelude.{◌≡◌, ℕ, ◌+◌, ◌-◌, ◌*◌, ◌==◌, Bool, true, false, not, ◌||◌, ◌&&◌, nat_le, if◌then◌else◌, List, [], ◌∷◌, length, take_while, take, drop, fold, Option, Some, None}
use Rattle.std.specs.Option.{option_map_or}
use Rattle.abc_text.specs.declared.lexical.TokenKind.{TokenKind}
use Rattle.abc_text.specs.declared.lexical.TokenKind.TheVariants.{Word, Variable, Number, Text, Symbol}
use Rattle.abc_cause.specs.declared.Cause.{Cause}
use Rattle.abc_cause.specs.declared.Cause.TheVariants.{BadByte, BadText, LongText, LongName, WideNumber}
use Rattle.abc_value.specs.declared.limits.TheConstants.{LONGEST_TEXT}
use Rattle.abc_text.specs.declared.limits.TheConstants.{MOST_NAME, MOST_NUMBER}
use Rattle.abc_text.specs.declared.lexical.Before.{Before}
use Rattle.abc_text.specs.declared.lexical.Before.TheVariants.{Open, Operand, Sign}
use Rattle.abc_text.specs.declared.lexical.Next.{Next}
use Rattle.abc_text.specs.declared.lexical.Next.TheVariants.{End, Good, Bad}
use Rattle.abc_text.specs.declared.lexical.Token.{Token}
use Rattle.abc_text.specs.declared.lexical.Fault.{Fault}
use Rattle.abc_text.specs.Words.{keyword_at, mark_at, is_mark, is_literal, closes_operand, is_dash}

-- ---- bytes
-- space, tab, carriage return, line feed
abbrev pub is_blank : ℕ → Bool
is_blank b = (b == 32) || (b == 9) || (b == 13) || (b == 10)

-- A to Z, a to z
abbrev pub is_letter : ℕ → Bool
is_letter b = (nat_le 65 b && nat_le b 90) || (nat_le 97 b && nat_le b 122)

-- 0 to 9
abbrev pub is_digit : ℕ → Bool
is_digit b = nat_le 48 b && nat_le b 57

-- a letter, a digit or _
abbrev pub is_word_byte : ℕ → Bool
is_word_byte b = is_letter b || is_digit b || (b == 95)

-- " and \
abbrev pub is_quote_mark : ℕ → Bool
is_quote_mark b = (b == 34) || (b == 92)

-- a byte that a text may hold
abbrev pub is_printable : ℕ → Bool
is_printable b = nat_le 32 b && nat_le b 126

-- ---- between tokens
-- What is left after blanks and comments; the flag says that a comment is open. A comment runs from
-- # to the byte before the next line feed, or to the end.
abbrev pub skip_from : Bool → List ℕ → List ℕ
skip_from inside [] = []
skip_from true (b ∷ bs) = skip_from (not (b == 10)) bs
skip_from false (b ∷ bs) = if b == 35 then skip_from true bs else (if is_blank b then skip_from false bs else b ∷ bs)

unfoldable pub skip : List ℕ → List ℕ
skip bytes = skip_from false bytes

-- ---- words
-- the longest run of the bytes of a word
abbrev pub word_len : List ℕ → ℕ
word_len bytes = length (take_while is_word_byte bytes)

-- a word of at most so many bytes
abbrev pub word_token : List ℕ → Next
word_token bytes = if nat_le (word_len bytes) MOST_NAME then Good Word (word_len bytes) else Bad LongName

-- what stands behind a $: a word
abbrev pub variable_token : List ℕ → Next
variable_token [] = Bad BadByte
variable_token (b ∷ bs) =
    if is_letter b then (if nat_le (word_len (b ∷ bs)) MOST_NAME then Good Variable (word_len (b ∷ bs) + 1) else Bad LongName)
    else Bad BadByte

-- ---- numbers
-- the number that digits write; leading zeros are allowed
abbrev pub decimal : List ℕ → ℕ
decimal digits = fold (λ n b. n * 10 + (b - 48)) 0 digits

-- the greatest number stands after a sign alone; elsewhere it is one less
abbrev pub greatest : Before → ℕ
greatest Sign = MOST_NUMBER
greatest Open = MOST_NUMBER - 1
greatest Operand = MOST_NUMBER - 1

-- the longest run of digits
unfoldable pub number_token : Before → List ℕ → Next
number_token before bytes =
    if nat_le (decimal (take_while is_digit bytes)) (greatest before)
    then Good Number (length (take_while is_digit bytes))
    else Bad WideNumber

-- ---- texts
-- one more byte of a length, where there is one
abbrev pub one_more : Option ℕ → Option ℕ
one_more None = None
one_more (Some n) = Some (n + 1)

-- Behind the opening quote: how many bytes there are up to and with the closing quote. None where it
-- isn't closed or has a bad byte or a bad escape. The flag says that a backslash stands before.
abbrev pub text_len : Bool → List ℕ → Option ℕ
text_len escape [] = None
text_len true (b ∷ bs) = if is_quote_mark b then one_more (text_len false bs) else None
text_len false (b ∷ bs) =
    if b == 34 then Some 1
    else (if b == 92 then one_more (text_len true bs)
    else (if is_printable b then one_more (text_len false bs) else None))

-- The bytes that a text stands for, from behind its opening quote: those up to the closing quote,
-- without the backslashes before " and \.
abbrev pub text_value : Bool → List ℕ → List ℕ
text_value escape [] = []
text_value true (b ∷ bs) = b ∷ text_value false bs
text_value false (b ∷ bs) =
    if b == 34 then [] else (if b == 92 then text_value true bs else b ∷ text_value false bs)

-- a text of at most so many bytes, by the number of bytes behind the opening quote
abbrev pub closed_text : ℕ → Option ℕ → Next
closed_text size None = Bad BadText
closed_text size (Some n) = if nat_le size LONGEST_TEXT then Good Text (n + 1) else Bad LongText

unfoldable pub text_token : List ℕ → Next
text_token bytes = closed_text (length (text_value false bytes)) (text_len false bytes)

-- ---- faults
-- the causes of bad tokens
abbrev pub IsLexical : Cause → Type 0
IsLexical BadByte = Unit {0}
IsLexical BadText = Unit {0}
IsLexical LongText = Unit {0}
IsLexical LongName = Unit {0}
IsLexical WideNumber = Unit {0}
IsLexical _ = ⊥

-- ---- the next token
abbrev pub two_token : List ℕ → Next
two_token [] = Bad BadByte
two_token (b ∷ []) = Bad BadByte
two_token (b ∷ (c ∷ bs)) = if is_mark (b ∷ (c ∷ [])) then Good Symbol 2 else Bad BadByte

-- a symbol of one byte, or else of two
abbrev pub symbol_token : List ℕ → Next
symbol_token [] = Bad BadByte
symbol_token (b ∷ bs) = if is_mark (b ∷ []) then Good Symbol 1 else two_token (b ∷ bs)

-- the token at the front, by its first byte: a letter, $, a digit, "; else it is a symbol
abbrev pub token_at : Before → List ℕ → Next
token_at before [] = End
token_at before (b ∷ bs) =
    if is_letter b then word_token (b ∷ bs)
    else (if b == 36 then variable_token bs
    else (if is_digit b then number_token before (b ∷ bs)
    else (if b == 34 then text_token bs else symbol_token (b ∷ bs))))

unfoldable pub next : Before → List ℕ → Next
next before bytes = token_at before bytes

-- ---- signs
-- a token that may end an operand: a name, a variable, a number, a text, false, none, true, ) or }
abbrev pub ends_operand : TokenKind → List ℕ → Bool
ends_operand Word word = option_map_or is_literal (keyword_at word) true
ends_operand Variable spelling = true
ends_operand Number spelling = true
ends_operand Text spelling = true
ends_operand Symbol spelling = option_map_or closes_operand (mark_at spelling) false

abbrev pub is_minus : TokenKind → List ℕ → Bool
is_minus Symbol spelling = option_map_or is_dash (mark_at spelling) false
is_minus Word spelling = false
is_minus Variable spelling = false
is_minus Number spelling = false
is_minus Text spelling = false

-- a - is a sign where no operand may end before it
abbrev pub is_sign : Before → TokenKind → List ℕ → Bool
is_sign Operand kind spelling = false
is_sign Open kind spelling = is_minus kind spelling
is_sign Sign kind spelling = is_minus kind spelling

-- what stands before the next token, after a token of this kind and spelling
unfoldable pub stands_after : Before → TokenKind → List ℕ → Before
stands_after before kind spelling =
    if ends_operand kind spelling then Operand else (if is_sign before kind spelling then Sign else Open)

-- ---- the tokens of a text
-- The first token of these bytes, which reach to the end of a text of `size` bytes.
pub record IsNext (size : ℕ) (before : Before) (bytes : List ℕ) (t : Token) : Type 0 where
  pub token : next before (skip bytes) ≡ Good t.kind t.len
  pub place : t.place + length (skip bytes) ≡ size

-- its bytes, and what is left behind it
abbrev pub spelled : List ℕ → Token → List ℕ
spelled bytes t = take t.len (skip bytes)

abbrev pub left : List ℕ → Token → List ℕ
left bytes t = drop t.len (skip bytes)

-- The bytes are these tokens one after another, and then the text ends or the first bad token comes.
abbrev pub IsRead : ℕ → Before → List ℕ → List Token → Option Fault → Type 0
IsRead size before bytes [] None = next before (skip bytes) ≡ End
IsRead size before bytes [] (Some fault) =
    (next before (skip bytes) ≡ Bad fault.cause) × (fault.place + length (skip bytes) ≡ size)
IsRead size before bytes (t ∷ ts) fault =
    IsNext size before bytes t
    × IsRead size (stands_after before t.kind (spelled bytes t)) (left bytes t) ts fault

-- the whole text: nothing stands before its first token
abbrev pub Reads : List ℕ → List Token → Option Fault → Type 0
Reads bytes ts fault = IsRead (length bytes) Open bytes ts fault

-- the whole text is these tokens
abbrev pub AreTokens : List ℕ → List Token → Type 0
AreTokens bytes ts = Reads bytes ts None

-- some tokens are good, and the next is bad for this cause
abbrev pub IsFirstBad : List ℕ → Fault → Type 0
IsFirstBad bytes fault = (ts : List Token) × Reads bytes ts (Some fault)
