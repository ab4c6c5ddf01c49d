-- What comes next, by its kind: a fact of each kind of token, and of each bad one, is a fact of what comes next.
use Rattle.std.proofs.Common.{◌≡◌, ℕ, ◌+◌, Bool, true, false, List, [], ◌∷◌, length, Option, Some, None, refl}
use Rattle.std.specs.Prelude.{take_while, ◌==◌, nat_le, if◌then◌else◌}
use Rattle.abc_text.specs.declared.lexical.TokenKind.TheVariants.{Word, Variable, Number, Text, Symbol}
use Rattle.abc_cause.specs.declared.Cause.{Cause}
use Rattle.abc_cause.specs.declared.Cause.TheVariants.{BadByte, BadText, LongText, LongName, WideNumber}
use Rattle.abc_text.specs.declared.lexical.Before.{Before}
use Rattle.abc_text.specs.declared.lexical.Next.{Next}
use Rattle.abc_text.specs.declared.lexical.Next.TheVariants.{End, Good, Bad}
use Rattle.abc_value.specs.declared.limits.TheConstants.{LONGEST_TEXT}
use Rattle.abc_text.specs.declared.limits.TheConstants.{MOST_NAME}
use Rattle.abc_text.specs.Tokens.{is_letter, is_digit, word_len, variable_token, decimal, greatest, number_token, text_len, text_value, closed_text, text_token, two_token, IsLexical, next}
use Rattle.abc_text.specs.Words.{is_mark}

module _ (before : Before) (P : List ℕ → Next → Type 0) (end : P [] End) (bad : (bs : List ℕ) (c : Cause) → IsLexical c → P bs (Bad c))
    (word : (b : ℕ) (bs : List ℕ) → nat_le (word_len (b ∷ bs)) MOST_NAME ≡ true → P (b ∷ bs) (Good Word (word_len (b ∷ bs))))
    (variable : (b : ℕ) (bs : List ℕ) → nat_le (word_len bs) MOST_NAME ≡ true → P (b ∷ bs) (Good Variable (word_len bs + 1)))
    (number : (bs : List ℕ) → nat_le (decimal (take_while is_digit bs)) (greatest before) ≡ true →
    P bs (Good Number (length (take_while is_digit bs))))
    (text : (b : ℕ) (bs : List ℕ) (n : ℕ) → text_len false bs ≡ Some n → nat_le (length (text_value false bs)) LONGEST_TEXT ≡ true →
    P (b ∷ bs) (Good Text (n + 1)))
    (one : (b : ℕ) (bs : List ℕ) → is_mark (b ∷ []) ≡ true → P (b ∷ bs) (Good Symbol 1))
    (two : (b x : ℕ) (xs : List ℕ) → is_mark (b ∷ (x ∷ [])) ≡ true → P (b ∷ (x ∷ xs)) (Good Symbol 2)) where
  if_next : (bs : List ℕ) (c : Bool) (x y : Next) → (c ≡ true → P bs x) → P bs y → P bs (if c then x else y)
  if_next bs true x y f g = f refl
  if_next bs false x y f g = g

  if_variable : (b : ℕ) (bs : List ℕ) → P (b ∷ bs) (variable_token bs)
  if_variable b [] = bad (b ∷ []) BadByte tt
  if_variable b (x ∷ xs) =
      if_next (b ∷ (x ∷ xs)) (is_letter x) (if nat_le (word_len (x ∷ xs)) MOST_NAME then Good Variable (word_len (x ∷ xs) + 1) else Bad LongName)
      (Bad BadByte)
      (λ _. if_next (b ∷ (x ∷ xs)) (nat_le (word_len (x ∷ xs)) MOST_NAME) (Good Variable (word_len (x ∷ xs) + 1)) (Bad LongName)
      (variable b (x ∷ xs)) (bad (b ∷ (x ∷ xs)) LongName tt))
      (bad (b ∷ (x ∷ xs)) BadByte tt)

  if_number : (bs : List ℕ) → P bs (number_token before bs)
  unfolding number_token
  if_number bs = if_next bs (nat_le (decimal (take_while is_digit bs)) (greatest before)) (Good Number (length (take_while is_digit bs)))
      (Bad WideNumber) (number bs) (bad bs WideNumber tt)

  if_closed : (b : ℕ) (bs : List ℕ) (o : Option ℕ) → text_len false bs ≡ o → P (b ∷ bs) (closed_text (length (text_value false bs)) o)
  if_closed b bs None e = bad (b ∷ bs) BadText tt
  if_closed b bs (Some n) e = if_next (b ∷ bs) (nat_le (length (text_value false bs)) LONGEST_TEXT) (Good Text (n + 1)) (Bad LongText) (text b bs n e)
      (bad (b ∷ bs) LongText tt)

  if_text : (b : ℕ) (bs : List ℕ) → P (b ∷ bs) (text_token bs)
  unfolding text_token
  if_text b bs = if_closed b bs (text_len false bs) refl

  if_two : (b : ℕ) (bs : List ℕ) → P (b ∷ bs) (two_token (b ∷ bs))
  if_two b [] = bad (b ∷ []) BadByte tt
  if_two b (x ∷ xs) = if_next (b ∷ (x ∷ xs)) (is_mark (b ∷ (x ∷ []))) (Good Symbol 2) (Bad BadByte) (two b x xs) (bad (b ∷ (x ∷ xs)) BadByte tt)

  pub by_kind : (bytes : List ℕ) → P bytes (next before bytes)
  unfolding next
  by_kind [] = end
  by_kind (b ∷ bs) =
      if_next (b ∷ bs) (is_letter b) _ _
      (λ _. if_next (b ∷ bs) (nat_le (word_len (b ∷ bs)) MOST_NAME) (Good Word (word_len (b ∷ bs))) (Bad LongName) (word b bs)
      (bad (b ∷ bs) LongName tt))
      (if_next (b ∷ bs) (b == 36) _ _ (λ _. if_variable b bs)
      (if_next (b ∷ bs) (is_digit b) _ _ (λ _. if_number (b ∷ bs))
      (if_next (b ∷ bs) (b == 34) _ _ (λ _. if_text b bs)
      (if_next (b ∷ bs) (is_mark (b ∷ [])) _ _ (one b bs) (if_two b bs)))))
