-- Each lexeme alone, as it is spelled, is its token.
use Rattle.std.proofs.Common.{◌≡◌, ℕ, ◌≤◌, ◌<◌, ◌^◌, Bool, true, false, List, [], ◌∷◌, ◌++◌, length, decimal, Option, refl, ap, sym, ◌∙◌, subst, arith}
use Rattle.std.specs.Prelude.{◌==◌, if◌then◌else◌}
use Rattle.std.specs.Option.{option_map_or}
use Rattle.std.specs.List.{AllPass}
use Rattle.std.proofs.lemmas.Bool.Decides.{nat_tests}
use Rattle.abc_text.specs.declared.lexical.TokenKind.{TokenKind}
use Rattle.abc_text.specs.declared.lexical.TokenKind.TheVariants as kind
use Rattle.abc_text.specs.declared.lexical.Before.{Before}
use Rattle.abc_text.specs.declared.lexical.Before.TheVariants.{Open, Operand, Sign}
use Rattle.abc_text.specs.declared.lexical.Next.TheVariants.{Good}
use Rattle.abc_text.specs.declared.words.Keyword.{Keyword}
use Rattle.abc_text.specs.declared.words.Keyword.TheVariants as k
use Rattle.abc_text.specs.declared.words.Mark.{Mark}
use Rattle.abc_text.specs.declared.words.Mark.TheVariants as m
use Rattle.abc_text.specs.Words.{mark_at, keyword_text, mark_text, is_literal, closes_operand, is_dash}
use Rattle.abc_text.specs.Tokens.{is_blank, is_letter, is_digit, is_word_byte, skip_from, skip, greatest, next, ends_operand, is_minus, is_sign, stands_after}
use Rattle.abc_text.specs.Spelling.{IsWordSpelling}
use Rattle.abc_text.specs.Laws.{Stops, MayFollow}
use Rattle.abc_text.proofs.ReadBack.{spellings}
use Rattle.abc_text.proofs.Tables.{words_are_spelled}
use Rattle.abc_grammar.specs.declared.lexemes.Lexeme.{Lexeme}
use Rattle.abc_grammar.specs.declared.lexemes.Lexeme.TheVariants as l
use Rattle.abc_printed.specs.Parts.{Part, Token, Space, Line, spelled, word_at, bytes_of}
use Rattle.abc_printed.specs.Printable.{HasWord}
use Rattle.abc_printed_texts.specs.Read.{kind_of}
use Rattle.abc_printed_texts.proofs.Good.{after_by, after, Fits, AreApart, MayStandBehind}
use Rattle.abc_printed_texts.proofs.Numerals.{decimal_digits, decimal_some, decimal_back}

-- ---- no blank and no comment begins a token
abbrev pub Begins : List ℕ → Type 0
Begins [] = ⊥
Begins (b ∷ bs) = ((b == 35) ≡ false) × (is_blank b ≡ false)

-- A letter is no blank and opens no comment.
letter_begins : (b : ℕ) → is_letter b ≡ true → ((b == 35) ≡ false) × (is_blank b ≡ false)
letter_begins b h = (grind (arith, nat_tests), grind (arith, nat_tests))

-- Nor is a digit one, nor does it.
digit_begins : (b : ℕ) → is_digit b ≡ true → ((b == 35) ≡ false) × (is_blank b ≡ false)
digit_begins b h = (grind (arith, nat_tests), grind (arith, nat_tests))

-- So a word begins a token.
word_begins : (w : List ℕ) → IsWordSpelling w → Begins w
word_begins [] h = h
word_begins (b ∷ bs) h = letter_begins b h.0

-- And so do digits.
digits_begin : (ds : List ℕ) → 0 < length ds → AllPass is_digit ds → Begins ds
digits_begin [] some h = absurd (omega (arith, some))
digits_begin (b ∷ bs) some h = digit_begins b (h 0 b (omega arith))

-- so nothing is skipped before it
pub begun : (w bs : List ℕ) → Begins w → skip (w ++ bs) ≡ w ++ bs
unfolding skip
begun [] bs h = absurd h
begun (b ∷ w) bs h =
    ap (λ (c : Bool). if c then skip_from true (w ++ bs) else (if is_blank b then skip_from false (w ++ bs) else b ∷ (w ++ bs))) h.0
    ∙ ap (λ (c : Bool). if c then skip_from false (w ++ bs) else b ∷ (w ++ bs)) h.1

-- ---- keywords and marks
-- This spelling alone is a token of the kind.
pub record IsToken (before : Before) (kind : TokenKind) (word : List ℕ) : Type 0 where
  pub token : next before word ≡ Good kind (length word)
  pub begins : Begins word

-- Each keyword alone is a word.
keyword_token : (before : Before) (k : Keyword) → IsToken before kind.Word (keyword_text k)
unfolding next
keyword_token before k.Abc = record { token = refl; begins = (refl, refl) }
keyword_token before k.And = record { token = refl; begins = (refl, refl) }
keyword_token before k.Comp = record { token = refl; begins = (refl, refl) }
keyword_token before k.Def = record { token = refl; begins = (refl, refl) }
keyword_token before k.False = record { token = refl; begins = (refl, refl) }
keyword_token before k.Ff = record { token = refl; begins = (refl, refl) }
keyword_token before k.Free = record { token = refl; begins = (refl, refl) }
keyword_token before k.In = record { token = refl; begins = (refl, refl) }
keyword_token before k.None = record { token = refl; begins = (refl, refl) }
keyword_token before k.Not = record { token = refl; begins = (refl, refl) }
keyword_token before k.Or = record { token = refl; begins = (refl, refl) }
keyword_token before k.Run = record { token = refl; begins = (refl, refl) }
keyword_token before k.Set = record { token = refl; begins = (refl, refl) }
keyword_token before k.Show = record { token = refl; begins = (refl, refl) }
keyword_token before k.Size = record { token = refl; begins = (refl, refl) }
keyword_token before k.This = record { token = refl; begins = (refl, refl) }
keyword_token before k.True = record { token = refl; begins = (refl, refl) }
keyword_token before k.Tt = record { token = refl; begins = (refl, refl) }
keyword_token before k.Union = record { token = refl; begins = (refl, refl) }
keyword_token before k.When = record { token = refl; begins = (refl, refl) }
keyword_token before k.Without = record { token = refl; begins = (refl, refl) }

-- Each mark alone is a symbol.
mark_token : (before : Before) (m : Mark) → IsToken before kind.Symbol (mark_text m)
unfolding next mark_at
mark_token before m.OpenRound = record { token = refl; begins = (refl, refl) }
mark_token before m.CloseRound = record { token = refl; begins = (refl, refl) }
mark_token before m.OpenCurly = record { token = refl; begins = (refl, refl) }
mark_token before m.CloseCurly = record { token = refl; begins = (refl, refl) }
mark_token before m.OpenSquare = record { token = refl; begins = (refl, refl) }
mark_token before m.CloseSquare = record { token = refl; begins = (refl, refl) }
mark_token before m.Semicolon = record { token = refl; begins = (refl, refl) }
mark_token before m.Comma = record { token = refl; begins = (refl, refl) }
mark_token before m.Dot = record { token = refl; begins = (refl, refl) }
mark_token before m.At = record { token = refl; begins = (refl, refl) }
mark_token before m.Question = record { token = refl; begins = (refl, refl) }
mark_token before m.Plus = record { token = refl; begins = (refl, refl) }
mark_token before m.Minus = record { token = refl; begins = (refl, refl) }
mark_token before m.Star = record { token = refl; begins = (refl, refl) }
mark_token before m.Bar = record { token = refl; begins = (refl, refl) }
mark_token before m.Below = record { token = refl; begins = (refl, refl) }
mark_token before m.Equal = record { token = refl; begins = (refl, refl) }
mark_token before m.Becomes = record { token = refl; begins = (refl, refl) }

-- ---- all lexemes
greatest_small : (before : Before) → greatest before ≤ 2 ^ 63
greatest_small Open = omega arith
greatest_small Operand = omega arith
greatest_small Sign = omega arith

-- The digits of a number that fits are a number.
number_token : (before : Before) (n : ℕ) → n ≤ greatest before → IsToken before kind.Number (decimal n)
number_token before n h =
    let small : n < 2 ^ 64 = omega (arith, h, greatest_small before) in
    let some = decimal_some n small in
    let digits = decimal_digits n small in
    record {
      token = (spellings before).number (decimal n) some digits (subst (λ (k : ℕ). k ≤ greatest before) (sym (decimal_back n small)) h);
      begins = digits_begin (decimal n) some digits;
    }

-- What a lexeme is spelled as is one token, of its kind.
pub lexeme_token :
    (words : List (List ℕ)) (before : Before) (t : Lexeme) → HasWord words t → Fits before t →
    IsToken before (kind_of t) (spelled words t)
lexeme_token words before (l.Keyword k) has fits = keyword_token before k
lexeme_token words before (l.Mark m) has fits = mark_token before m
lexeme_token words before (l.Name n) has fits =
    record { token = (spellings before).word (word_at words n) has.1; begins = word_begins (word_at words n) has.1 }
lexeme_token words before (l.Variable n) has fits = record { token = (spellings before).variable (word_at words n) has.1; begins = (refl, refl) }
lexeme_token words before (l.Number n) has fits = number_token before n fits
lexeme_token words before (l.Text bytes) has fits = record { token = (spellings before).text bytes fits; begins = (refl, refl) }

-- ---- what stands before the token behind
sign_by : (before : Before) (kind : TokenKind) (word : List ℕ) (ends minus : Bool) → ends_operand kind word ≡ ends → is_minus kind word ≡ minus →
    stands_after before kind word ≡ after_by ends minus before
unfolding stands_after
sign_by before kind word ends minus e f =
    ap (λ (b : Bool). if b then Operand else (if is_sign before kind word then Sign else Open)) e ∙ by before ends minus f
  where
    by : (before : Before) (ends minus : Bool) → is_minus kind word ≡ minus →
        (if ends then Operand else (if is_sign before kind word then Sign else Open)) ≡ after_by ends minus before
    by before true minus f = refl
    by Open false true f = ap (λ (b : Bool). if b then Sign else Open) f
    by Open false false f = ap (λ (b : Bool). if b then Sign else Open) f
    by Operand false true f = refl
    by Operand false false f = refl
    by Sign false true f = ap (λ (b : Bool). if b then Sign else Open) f
    by Sign false false f = ap (λ (b : Bool). if b then Sign else Open) f

-- Behind it stands what stands behind its token.
pub lexeme_after : (words : List (List ℕ)) (before : Before) (t : Lexeme) → HasWord words t →
    stands_after before (kind_of t) (spelled words t) ≡ after before t
lexeme_after words before (l.Keyword k) has =
    sign_by before kind.Word (keyword_text k) (is_literal k) false
    (ap (λ (o : Option Keyword). option_map_or is_literal o true) (words_are_spelled.keyword k)) refl
lexeme_after words before (l.Mark m) has =
    sign_by before kind.Symbol (mark_text m) (closes_operand m) (is_dash m)
    (ap (λ (o : Option Mark). option_map_or closes_operand o false) (words_are_spelled.mark m))
    (ap (λ (o : Option Mark). option_map_or is_dash o false) (words_are_spelled.mark m))
lexeme_after words before (l.Name n) has =
    sign_by before kind.Word (word_at words n) true false (ap (λ (o : Option Keyword). option_map_or is_literal o true) has.2) refl
lexeme_after words before (l.Variable n) has = sign_by before kind.Variable (36 ∷ word_at words n) true false refl refl
lexeme_after words before (l.Number n) has = sign_by before kind.Number (decimal n) true false refl refl
lexeme_after words before (l.Text bytes) has = sign_by before kind.Text (spelled words (l.Text bytes)) true false refl refl

-- ---- what follows
-- A mark begins with no byte of a word and with no digit.
mark_stops : (m : Mark) (bytes : List ℕ) → Stops is_word_byte (mark_text m ++ bytes) × Stops is_digit (mark_text m ++ bytes)
mark_stops m.OpenRound bytes = (refl, refl)
mark_stops m.CloseRound bytes = (refl, refl)
mark_stops m.OpenCurly bytes = (refl, refl)
mark_stops m.CloseCurly bytes = (refl, refl)
mark_stops m.OpenSquare bytes = (refl, refl)
mark_stops m.CloseSquare bytes = (refl, refl)
mark_stops m.Semicolon bytes = (refl, refl)
mark_stops m.Comma bytes = (refl, refl)
mark_stops m.Dot bytes = (refl, refl)
mark_stops m.At bytes = (refl, refl)
mark_stops m.Question bytes = (refl, refl)
mark_stops m.Plus bytes = (refl, refl)
mark_stops m.Minus bytes = (refl, refl)
mark_stops m.Star bytes = (refl, refl)
mark_stops m.Bar bytes = (refl, refl)
mark_stops m.Below bytes = (refl, refl)
mark_stops m.Equal bytes = (refl, refl)
mark_stops m.Becomes bytes = (refl, refl)

-- Parts that are apart begin with no byte of a word and with no digit.
apart_stops :
    (words : List (List ℕ)) (rest : List Part) → AreApart rest →
    Stops is_word_byte (bytes_of words rest) × Stops is_digit (bytes_of words rest)
apart_stops words [] h = (tt, tt)
apart_stops words (Token (l.Keyword k) ∷ rest) h = absurd h
apart_stops words (Token (l.Mark m) ∷ rest) h = mark_stops m (bytes_of words rest)
apart_stops words (Token (l.Name n) ∷ rest) h = absurd h
apart_stops words (Token (l.Variable n) ∷ rest) h = absurd h
apart_stops words (Token (l.Number n) ∷ rest) h = absurd h
apart_stops words (Token (l.Text bytes) ∷ rest) h = absurd h
apart_stops words (Space ∷ rest) h = (refl, refl)
apart_stops words (Line ∷ rest) h = (refl, refl)

-- What may stand behind a lexeme doesn't run into its token.
pub lexeme_followed : (words : List (List ℕ)) (t : Lexeme) (rest : List Part) → MayStandBehind t rest → MayFollow (kind_of t) (bytes_of words rest)
lexeme_followed words (l.Keyword k) rest h = (apart_stops words rest h).0
lexeme_followed words (l.Mark m) rest h = tt
lexeme_followed words (l.Name n) rest h = (apart_stops words rest h).0
lexeme_followed words (l.Variable n) rest h = (apart_stops words rest h).0
lexeme_followed words (l.Number n) rest h = (apart_stops words rest h).1
lexeme_followed words (l.Text bytes) rest h = tt
