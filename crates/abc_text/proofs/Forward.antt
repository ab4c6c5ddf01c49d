-- Reading goes forward: what is skipped is a front, and a token has at least one byte.
use Rattle.std.proofs.Common.{◌≡◌, ℕ, suc, ◌+◌, ◌≤◌, ◌<◌, Bool, true, false, cond, List, [], ◌∷◌, length, Option, Some, None, refl, ap, ◌∙◌, subst, arith, length-take}
use Rattle.std.specs.Prelude.{take_while, ◌==◌, nat_le, not, if◌then◌else◌}
use Rattle.std.specs.List.{prefix_len}
use Rattle.std.proofs.lemmas.List.Sums.{take_while-cons}
use Rattle.abc_text.specs.declared.lexical.TokenKind.{TokenKind}
use Rattle.abc_text.specs.declared.lexical.TokenKind.TheVariants.{Word, Variable, Number, Text, Symbol}
use Rattle.abc_cause.specs.declared.Cause.TheVariants.{BadByte, LongText, LongName, WideNumber}
use Rattle.abc_text.specs.declared.lexical.Before.{Before}
use Rattle.abc_text.specs.declared.lexical.Next.{Next}
use Rattle.abc_text.specs.declared.lexical.Next.TheVariants.{End, Good, Bad}
use Rattle.abc_value.specs.declared.limits.TheConstants.{LONGEST_TEXT}
use Rattle.abc_text.specs.declared.limits.TheConstants.{MOST_NAME}
use Rattle.abc_text.specs.Tokens.{is_blank, is_letter, is_digit, is_word_byte, is_quote_mark, is_printable, one_more, skip_from, skip, word_len, word_token, variable_token, decimal, greatest, number_token, text_len, text_value, closed_text, text_token, two_token, token_at, next}
use Rattle.abc_text.specs.Words.{is_mark}

skip_from_le : (inside : Bool) (bytes : List ℕ) → length (skip_from inside bytes) ≤ length bytes
skip_from_le inside [] = omega arith
skip_from_le true (b ∷ bs) = let h = skip_from_le (not (b == 10)) bs in omega arith
skip_from_le false (b ∷ bs) = by (skip_from_le true bs) (skip_from_le false bs) (b == 35) (is_blank b)
  where
    by : length (skip_from true bs) ≤ length bs → length (skip_from false bs) ≤ length bs → (c d : Bool) → length (if c then skip_from true bs else (if d then skip_from false bs else b ∷ bs)) ≤ length (b ∷ bs)
    by comment blank true d = omega arith
    by comment blank false true = omega arith
    by comment blank false false = omega arith

pub length-skip-le : (bytes : List ℕ) → length (skip bytes) ≤ length bytes
unfolding skip
length-skip-le bytes = skip_from_le false bytes

-- a good token has a byte, and has its bytes there
pub IsWithin : ℕ → Next → Type 0
IsWithin size End = Unit {0}
IsWithin size (Good k n) = (0 < n) × (n ≤ size)
IsWithin size (Bad c) = Unit {0}

if_within : (size : ℕ) (c : Bool) (x y : Next) → (c ≡ true → IsWithin size x) → (c ≡ false → IsWithin size y) → IsWithin size (if c then x else y)
if_within size true x y f g = f refl
if_within size false x y f g = g refl

pub run_long : (p : ℕ → Bool) (b : ℕ) (bs : List ℕ) → p b ≡ true → 0 < length (take_while p (b ∷ bs))
run_long p b bs h =
    let e : length (take_while p (b ∷ bs)) ≡ length (b ∷ take_while p bs) = ap length (take_while-cons p b bs ∙ ap (λ (c : Bool). cond c (b ∷ take_while p bs) []) h) in
    omega (arith, e)

run_short : (p : ℕ → Bool) (bs : List ℕ) → length (take_while p bs) ≤ length bs
run_short p bs = omega (arith, length-take {A = ℕ} (prefix_len p bs) bs)

pub letter_is_word : (b : ℕ) → is_letter b ≡ true → is_word_byte b ≡ true
letter_is_word b l = rw l refl

word_within : (b : ℕ) (bs : List ℕ) → is_letter b ≡ true → IsWithin (length (b ∷ bs)) (word_token (b ∷ bs))
unfolding IsWithin
word_within b bs l = if_within (length (b ∷ bs)) (nat_le (word_len (b ∷ bs)) MOST_NAME) (Good Word (word_len (b ∷ bs))) (Bad LongName)
    (λ _. (run_long is_word_byte b bs (letter_is_word b l), run_short is_word_byte (b ∷ bs))) (λ _. tt)

variable_within : (bs : List ℕ) → IsWithin (suc (length bs)) (variable_token bs)
unfolding IsWithin
variable_within [] = tt
variable_within (b ∷ bs) = if_within (suc (length (b ∷ bs))) (is_letter b)
    (if nat_le (word_len (b ∷ bs)) MOST_NAME then Good Variable (word_len (b ∷ bs) + 1) else Bad LongName) (Bad BadByte)
    (λ _. if_within (suc (length (b ∷ bs))) (nat_le (word_len (b ∷ bs)) MOST_NAME) (Good Variable (word_len (b ∷ bs) + 1)) (Bad LongName)
    (λ _. (omega arith, omega (arith, run_short is_word_byte (b ∷ bs)))) (λ _. tt)) (λ _. tt)

number_within : (before : Before) (b : ℕ) (bs : List ℕ) → is_digit b ≡ true → IsWithin (length (b ∷ bs)) (number_token before (b ∷ bs))
unfolding IsWithin number_token
number_within before b bs d = if_within (length (b ∷ bs)) (nat_le (decimal (take_while is_digit (b ∷ bs))) (greatest before)) (Good Number (length (take_while is_digit (b ∷ bs)))) (Bad WideNumber) (λ _. (run_long is_digit b bs d, run_short is_digit (b ∷ bs))) (λ _. tt)

-- a text closes within the bytes
IsAtMost : ℕ → Option ℕ → Type 0
IsAtMost size None = Unit {0}
IsAtMost size (Some n) = n ≤ size

if_at_most : (size : ℕ) (c : Bool) (x y : Option ℕ) → IsAtMost size x → IsAtMost size y → IsAtMost size (if c then x else y)
if_at_most size true x y f g = f
if_at_most size false x y f g = g

one_more_at_most : (size : ℕ) (o : Option ℕ) → IsAtMost size o → IsAtMost (suc size) (one_more o)
unfolding IsAtMost
one_more_at_most size None h = tt
one_more_at_most size (Some n) h = omega arith

text_at_most : (escape : Bool) (bs : List ℕ) → IsAtMost (length bs) (text_len escape bs)
unfolding IsAtMost
text_at_most escape [] = tt
text_at_most true (b ∷ bs) = if_at_most (length (b ∷ bs)) (is_quote_mark b) (one_more (text_len false bs)) None (one_more_at_most (length bs) (text_len false bs) (text_at_most false bs)) tt
text_at_most false (b ∷ bs) =
    if_at_most (length (b ∷ bs)) (b == 34) (Some 1) (if b == 92 then one_more (text_len true bs) else (if is_printable b then one_more (text_len false bs) else None)) (omega arith)
    (if_at_most (length (b ∷ bs)) (b == 92) (one_more (text_len true bs)) (if is_printable b then one_more (text_len false bs) else None) (one_more_at_most (length bs) (text_len true bs) (text_at_most true bs))
    (if_at_most (length (b ∷ bs)) (is_printable b) (one_more (text_len false bs)) None (one_more_at_most (length bs) (text_len false bs) (text_at_most false bs)) tt))

closed_within : (most size : ℕ) (n : Option ℕ) → IsAtMost most n → IsWithin (suc most) (closed_text size n)
unfolding IsWithin IsAtMost
closed_within most size None h = tt
closed_within most size (Some n) h = if_within (suc most) (nat_le size LONGEST_TEXT) (Good Text (n + 1)) (Bad LongText)
    (λ _. (omega arith, omega arith)) (λ _. tt)

text_within : (bs : List ℕ) → IsWithin (suc (length bs)) (text_token bs)
unfolding text_token
text_within bs = closed_within (length bs) (length (text_value false bs)) (text_len false bs) (text_at_most false bs)

two_within : (b : ℕ) (bs : List ℕ) → IsWithin (suc (length bs)) (two_token (b ∷ bs))
unfolding IsWithin
two_within b [] = tt
two_within b (c ∷ bs) =
    if_within (suc (length (c ∷ bs))) (is_mark (b ∷ (c ∷ []))) (Good Symbol 2) (Bad BadByte) (λ _. (omega arith, omega arith)) (λ _. tt)

token_within : (before : Before) (bytes : List ℕ) → IsWithin (length bytes) (token_at before bytes)
unfolding IsWithin
token_within before [] = tt
token_within before (b ∷ bs) =
    let all = length (b ∷ bs) in
    if_within all (is_letter b) _ _ (word_within b bs) (λ _.
    if_within all (b == 36) _ _ (λ _. variable_within bs) (λ _.
    if_within all (is_digit b) _ _ (number_within before b bs) (λ _.
    if_within all (b == 34) _ _ (λ _. text_within bs) (λ _.
    if_within all (is_mark (b ∷ [])) _ _ (λ _. (omega arith, omega arith)) (λ _. two_within b bs)))))

pub good_within : (before : Before) (bytes : List ℕ) (k : TokenKind) (n : ℕ) → next before bytes ≡ Good k n → (0 < n) × (n ≤ length bytes)
unfolding next IsWithin
good_within before bytes k n e = subst (IsWithin (length bytes)) e (token_within before bytes)
