-- Words, variables, numbers and texts are read as they are spelled.
use Rattle.std.proofs.Common.{◌≡◌, ℕ, suc, ◌+◌, ◌≤◌, ◌<◌, Bool, true, false, cond, List, [], ◌∷◌, ◌++◌, length, Option, Some, None, refl, sym, ap, ◌∙◌, arith, length-append}
use Rattle.std.specs.Prelude.{take_while, ◌==◌, ◌||◌, nat_le, if◌then◌else◌, flat_map}
use Rattle.std.specs.List.{AllPass}
use Rattle.std.proofs.lemmas.Bool.{le-leb}
use Rattle.std.proofs.lemmas.Bool.Decides.{nat_tests}
use Rattle.std.proofs.lemmas.List.Sums.{take_while-cons}
use Rattle.abc_value.specs.Literals.{escaped}
use Rattle.abc_text.specs.declared.lexical.TokenKind.TheVariants.{Word, Variable, Number, Text, Symbol}
use Rattle.abc_cause.specs.declared.Cause.TheVariants.{BadByte, LongText, LongName, WideNumber}
use Rattle.abc_text.specs.declared.lexical.Before.{Before}
use Rattle.abc_text.specs.declared.lexical.Next.TheVariants.{Good, Bad}
use Rattle.abc_value.specs.declared.limits.TheConstants.{LONGEST_TEXT}
use Rattle.abc_text.specs.declared.limits.TheConstants.{MOST_NAME}
use Rattle.abc_text.specs.Tokens.{is_letter, is_digit, is_word_byte, is_quote_mark, is_printable, word_len, word_token, variable_token, decimal, greatest, number_token, one_more, text_len, text_value, closed_text, text_token, two_token, next}
use Rattle.abc_text.specs.Words.{is_mark}
use Rattle.abc_text.specs.Spelling.{IsWordSpelling, IsTextValue, text_spelling, Spellings}
use Rattle.abc_text.proofs.Forward.{letter_is_word}

tail_passes : (p : ℕ → Bool) (b : ℕ) (bs : List ℕ) → AllPass p (b ∷ bs) → AllPass p bs
tail_passes p b bs h k d l = h (suc k) d (omega (arith, l))

whole : (p : ℕ → Bool) (bs : List ℕ) → AllPass p bs → take_while p bs ≡ bs
whole p [] h = refl
whole p (b ∷ bs) h =
    take_while-cons p b bs ∙ ap (λ (c : Bool). cond c (b ∷ take_while p bs) []) (h 0 0 (omega arith)) ∙ ap (λ (xs : List ℕ). b ∷ xs) (whole p bs (tail_passes p b bs h))

word_whole : (b : ℕ) (bs : List ℕ) → is_letter b ≡ true → AllPass is_word_byte bs → word_len (b ∷ bs) ≡ length (b ∷ bs)
word_whole b bs l h =
    ap length (take_while-cons is_word_byte b bs ∙ ap (λ (c : Bool). cond c (b ∷ take_while is_word_byte bs) []) (letter_is_word b l) ∙ ap (λ (xs : List ℕ). b ∷ xs) (whole is_word_byte bs h))

word : (before : Before) (w : List ℕ) → IsWordSpelling w → next before w ≡ Good Word (length w)
unfolding next
word before [] h = absurd h
word before (b ∷ bs) h =
    let long = word_whole b bs h.0 h.1 in
    let short : nat_le (length (b ∷ bs)) MOST_NAME ≡ true = le-leb (length (b ∷ bs)) MOST_NAME h.2 in
    ap (λ (c : Bool). if c then word_token (b ∷ bs)
    else (if b == 36 then variable_token bs
    else (if is_digit b then number_token before (b ∷ bs)
    else (if b == 34 then text_token bs
    else (if is_mark (b ∷ []) then Good Symbol 1 else two_token (b ∷ bs)))))) h.0
    ∙ ap (λ (n : ℕ). if nat_le n MOST_NAME then Good Word n else Bad LongName) long
    ∙ ap (λ (c : Bool). if c then Good Word (length (b ∷ bs)) else Bad LongName) short

variable : (before : Before) (w : List ℕ) → IsWordSpelling w → next before (36 ∷ w) ≡ Good Variable (length (36 ∷ w))
unfolding next
variable before [] h = absurd h
variable before (b ∷ bs) h =
    let long = word_whole b bs h.0 h.1 in
    let short : nat_le (length (b ∷ bs)) MOST_NAME ≡ true = le-leb (length (b ∷ bs)) MOST_NAME h.2 in
    let one : length (b ∷ bs) + 1 ≡ length (36 ∷ (b ∷ bs)) = omega arith in
    ap (λ (c : Bool). if c then (if nat_le (word_len (b ∷ bs)) MOST_NAME then Good Variable (word_len (b ∷ bs) + 1) else Bad LongName) else Bad
    BadByte) h.0
    ∙ ap (λ (n : ℕ). if nat_le n MOST_NAME then Good Variable (n + 1) else Bad LongName) long
    ∙ ap (λ (c : Bool). if c then Good Variable (length (b ∷ bs) + 1) else Bad LongName) short
    ∙ ap (Good Variable) one

digit_letter : (b : ℕ) → is_digit b ≡ true → is_letter b ≡ false
digit_letter b h = grind (arith, nat_tests)

digit_dollar : (b : ℕ) → is_digit b ≡ true → (b == 36) ≡ false
digit_dollar b h = grind (arith, nat_tests)

number : (before : Before) (ds : List ℕ) → 0 < length ds → AllPass is_digit ds → decimal ds ≤ greatest before → next before ds ≡ Good Number (length ds)
unfolding next number_token
number before [] some h small = absurd (omega (arith, some))
number before (b ∷ bs) some h small =
    let d : is_digit b ≡ true = h 0 0 (omega arith) in
    let all = whole is_digit (b ∷ bs) h in
    let letter = digit_letter b d in
    let dollar = digit_dollar b d in
    let fits : nat_le (decimal (b ∷ bs)) (greatest before) ≡ true = le-leb (decimal (b ∷ bs)) (greatest before) small in
    (λ i. if letter i then word_token (b ∷ bs)
    else (if dollar i then variable_token bs
    else (if d i then number_token before (b ∷ bs)
    else (if b == 34 then text_token bs
    else (if is_mark (b ∷ []) then Good Symbol 1 else two_token (b ∷ bs))))))
    ∙ ap (λ (ds : List ℕ). if nat_le (decimal ds) (greatest before) then Good Number (length ds) else Bad WideNumber) all
    ∙ ap (λ (c : Bool). if c then Good Number (length (b ∷ bs)) else Bad WideNumber) fits

-- ---- texts
pub record ReadsText (bytes : List ℕ) : Type 0 where
  pub len : text_len false (flat_map escaped bytes ++ 34 ∷ []) ≡ Some (length (flat_map escaped bytes) + 1)
  pub value : text_value false (flat_map escaped bytes ++ 34 ∷ []) ≡ bytes

no_quote : (b : ℕ) → is_quote_mark b ≡ false → (b == 34) ≡ false
no_quote b h = by (b == 34) (b == 92) h
  where
    by : (c d : Bool) → (c || d) ≡ false → c ≡ false
    by true d h = absurd (let h' : true ≡ false = h in cc)
    by false d h = refl

no_slash : (b : ℕ) → is_quote_mark b ≡ false → (b == 92) ≡ false
no_slash b h = by (b == 34) (b == 92) h
  where
    by : (c d : Bool) → (c || d) ≡ false → d ≡ false
    by true d h = absurd (let h' : true ≡ false = h in cc)
    by false d h = h

two_more : (n : ℕ) → n + 1 + 1 + 1 ≡ suc (suc n) + 1
two_more n = omega arith

step_more : (n : ℕ) → n + 1 + 1 ≡ suc n + 1
step_more n = omega arith

reads_text : (value : List ℕ) → AllPass is_printable value → ReadsText value
reads_text [] h = record { len = refl; value = refl }
reads_text (b ∷ bs) h = by (reads_text bs (tail_passes is_printable b bs h)) (is_quote_mark b) refl
  where
    by : ReadsText bs → (c : Bool) → is_quote_mark b ≡ c → ReadsText (b ∷ bs)
    by more true q =
        let back : flat_map escaped (b ∷ bs) ≡ 92 ∷ (b ∷ flat_map escaped bs) = ap (λ (c : Bool). (if c then 92 ∷ (b ∷ []) else b ∷ []) ++ flat_map escaped bs) q in
        record {
          len = ap (λ (xs : List ℕ). text_len false (xs ++ 34 ∷ [])) back
              ∙ ap (λ (c : Bool). one_more (if c then one_more (text_len false (flat_map escaped bs ++ 34 ∷ [])) else None)) q
              ∙ ap (λ (o : Option ℕ). one_more (one_more o)) more.len
              ∙ ap Some (two_more (length (flat_map escaped bs)))
              ∙ ap (λ (xs : List ℕ). Some (length xs + 1)) (sym back);
          value = ap (λ (xs : List ℕ). text_value false (xs ++ 34 ∷ [])) back ∙ ap (λ (xs : List ℕ). b ∷ xs) more.value;
        }
    by more false q =
        let back : flat_map escaped (b ∷ bs) ≡ b ∷ flat_map escaped bs = ap (λ (c : Bool). (if c then 92 ∷ (b ∷ []) else b ∷ []) ++ flat_map escaped bs) q in
        let quote = no_quote b q in
        let slash = no_slash b q in
        let good : is_printable b ≡ true = h 0 0 (omega arith) in
        let tail = flat_map escaped bs ++ 34 ∷ [] in
        record {
          len = ap (λ (xs : List ℕ). text_len false (xs ++ 34 ∷ [])) back
              ∙ (λ i. if quote i then Some 1 else (if slash i then one_more (text_len true (flat_map escaped bs ++ 34 ∷ [])) else (if good i then one_more (text_len false (flat_map escaped bs ++ 34 ∷ [])) else None)))
              ∙ ap one_more more.len
              ∙ ap Some (step_more (length (flat_map escaped bs)))
              ∙ ap (λ (xs : List ℕ). Some (length xs + 1)) (sym back);
          value = ap (λ (xs : List ℕ). text_value false (xs ++ 34 ∷ [])) back
              ∙ (λ i. if quote i then [] else (if slash i then text_value true (flat_map escaped bs ++ 34 ∷ []) else b ∷ text_value false (flat_map escaped bs ++ 34 ∷ [])))
              ∙ ap (λ (xs : List ℕ). b ∷ xs) more.value;
        }

text : (before : Before) (value : List ℕ) → IsTextValue value → next before (text_spelling value) ≡ Good Text (length (text_spelling value))
unfolding next text_token
text before value h =
    let reads = reads_text value h.bytes in
    let fits : nat_le (length value) LONGEST_TEXT ≡ true = le-leb (length value) LONGEST_TEXT h.short in
    let long : length (flat_map escaped value) + 1 + 1 ≡ length (text_spelling value) = omega (arith, length-append {A = ℕ} (flat_map escaped value) (34 ∷ [])) in
    (λ i. closed_text (length (reads.value i)) (reads.len i))
    ∙ ap (λ (c : Bool). if c then Good Text (length (flat_map escaped value) + 1 + 1) else Bad LongText) fits
    ∙ ap (Good Text) long

pub spellings : Spellings
spellings before = record {
  word = word before;
  variable = variable before;
  number = number before;
  text = text before;
  value = λ value h. (reads_text value h).value;
}
