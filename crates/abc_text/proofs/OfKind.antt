-- What is known of a good token of each kind.
use Rattle.std.proofs.Common.{◌≡◌, ℕ, zero, suc, ◌≤◌, ◌<◌, ◌^◌, Bool, true, false, List, [], ◌∷◌, length, drop, Some, None, refl, sym, ap, ◌∙◌, subst, arith, length-take-le, length-drop, leb-true}
use Rattle.std.specs.Prelude.{take_while, ◌==◌, nat_le, ◌||◌, if◌then◌else◌}
use Rattle.std.specs.List.{AllPass, prefix_len}
use Rattle.std.proofs.lemmas.List.{take_all}
use Rattle.std.proofs.lemmas.Bool.{eqb-true}
use Rattle.std.proofs.lemmas.List.Sums.{prefix_len-le-length, prefix_len_passes}
use Rattle.abc_text.specs.declared.lexical.TokenKind.{TokenKind}
use Rattle.abc_text.specs.declared.lexical.TokenKind.TheVariants.{Word, Variable, Number, Text, Symbol}
use Rattle.abc_text.specs.declared.lexical.Before.{Before}
use Rattle.abc_text.specs.declared.lexical.Before.TheVariants.{Open, Operand, Sign}
use Rattle.abc_text.specs.declared.lexical.Next.{Next}
use Rattle.abc_text.specs.declared.lexical.Next.TheVariants.{End, Good, Bad}
use Rattle.abc_text.specs.declared.lexical.Token.{Token}
use Rattle.abc_text.specs.Tokens.{is_digit, is_word_byte, is_quote_mark, is_printable, word_len, decimal, greatest, one_more, text_len, text_value, next}
use Rattle.abc_text.specs.Meanings.{spelling, StandsIn, number_of, text_at}
use Rattle.abc_value.specs.declared.limits.TheConstants.{LONGEST_TEXT}
use Rattle.abc_text.specs.declared.limits.TheConstants.{MOST_NAME}
use Rattle.abc_text.specs.Spelling.{IsWord, IsTextValue}
use Rattle.abc_text.proofs.Lengths.{none_some, more_some}
use Rattle.abc_text.proofs.ByKind.{by_kind}

-- ---- numbers
greatest_small : (before : Before) → greatest before ≤ 2 ^ 63
greatest_small Open = omega arith
greatest_small Operand = omega arith
greatest_small Sign = omega arith

IfNumber : Before → List ℕ → Next → Type 0
IfNumber before bytes End = Unit {0}
IfNumber before bytes (Bad c) = Unit {0}
IfNumber before bytes (Good Word n) = Unit {0}
IfNumber before bytes (Good Variable n) = Unit {0}
IfNumber before bytes (Good Number n) = (n ≡ length (take_while is_digit bytes)) × (decimal (take_while is_digit bytes) ≤ greatest before)
IfNumber before bytes (Good Text n) = Unit {0}
IfNumber before bytes (Good Symbol n) = Unit {0}

number_is : (before : Before) (bytes : List ℕ) → IfNumber before bytes (next before bytes)
unfolding IfNumber
number_is before = by_kind before (IfNumber before) tt (λ _ _ _. tt) (λ _ _ _. tt) (λ _ _ _. tt)
    (λ bs h. (refl, leb-true (decimal (take_while is_digit bs)) (greatest before) h))
    (λ _ _ _ _ _. tt) (λ _ _ _. tt) (λ _ _ _ _. tt)

-- a list that is as long as a run of it is that run
whole_run : (p : ℕ → Bool) (bs : List ℕ) → length bs ≡ length (take_while p bs) → take_while p bs ≡ bs
whole_run p bs e =
    let long : length (take_while p bs) ≡ prefix_len p bs = length-take-le (prefix_len p bs) bs (prefix_len-le-length p bs) in
    take_all (prefix_len p bs) bs (omega (arith, e, long))

-- a number alone is at most the greatest that may stand there
pub number-alone : (before : Before) (bytes : List ℕ) → next before bytes ≡ Good Number (length bytes) → decimal bytes ≤ greatest before
unfolding IfNumber
number-alone before bytes e =
    let h = subst (IfNumber before bytes) e (number_is before bytes) in
    subst (λ (ds : List ℕ). decimal ds ≤ greatest before) (whole_run is_digit bytes h.0) h.1

pub length-spelling : (bytes : List ℕ) (t : Token) → StandsIn bytes t → length (spelling bytes t) ≡ t.len
length-spelling bytes t h = length-take-le t.len (drop t.place bytes) (omega (arith, h.within, length-drop {A = ℕ} t.place bytes))

alone-as : (bytes : List ℕ) (t : Token) (k : TokenKind) → StandsIn bytes t → t.kind ≡ k → (before : Before) × (next before (spelling bytes t) ≡ Good k (length (spelling bytes t)))
alone-as bytes t k h e = (h.before, h.alone ∙ (let long = sym (length-spelling bytes t h) in λ i. Good (e i) (long i)))

pub number_of-small : (bytes : List ℕ) (t : Token) → StandsIn bytes t → t.kind ≡ Number → number_of bytes t ≤ 2 ^ 63
number_of-small bytes t h e = let a = alone-as bytes t Number h e in let fits = number-alone a.0 (spelling bytes t) a.1 in
    omega (arith, fits, greatest_small a.0)

-- ---- words
run_passes : (p : ℕ → Bool) (bs : List ℕ) → take_while p bs ≡ bs → AllPass p bs
run_passes p bs e k d l =
    let long : length (take_while p bs) ≡ prefix_len p bs = length-take-le (prefix_len p bs) bs (prefix_len-le-length p bs) in
    prefix_len_passes p bs k d (omega (arith, l, long, ap (length {A = ℕ}) e))

is_word : (bs : List ℕ) → nat_le (word_len bs) MOST_NAME ≡ true → length bs ≡ word_len bs → IsWord bs
is_word bs h e = record {
  short = let s = leb-true (word_len bs) MOST_NAME h in omega (arith, s, e);
  bytes = run_passes is_word_byte bs (whole_run is_word_byte bs e);
}

IfWord : List ℕ → Next → Type 0
IfWord bytes End = Unit {0}
IfWord bytes (Bad c) = Unit {0}
IfWord bytes (Good Word n) = length bytes ≡ n → IsWord bytes
IfWord bytes (Good Variable n) = length bytes ≡ n → (0 < length bytes) × IsWord (drop 1 bytes)
IfWord bytes (Good Number n) = Unit {0}
IfWord bytes (Good Text n) = Unit {0}
IfWord bytes (Good Symbol n) = Unit {0}

word_is : (before : Before) (bytes : List ℕ) → IfWord bytes (next before bytes)
unfolding IfWord
word_is before = by_kind before IfWord tt (λ _ _ _. tt) (λ b bs h e. is_word (b ∷ bs) h e)
    (λ b bs h e. (omega arith, is_word bs h (omega (arith, e))))
    (λ _ _. tt) (λ _ _ _ _ _. tt) (λ _ _ _. tt) (λ _ _ _ _. tt)

pub word-stands : (bytes : List ℕ) (t : Token) → StandsIn bytes t → t.kind ≡ Word → IsWord (spelling bytes t)
unfolding IfWord
word-stands bytes t h e = let a = alone-as bytes t Word h e in subst (IfWord (spelling bytes t)) a.1 (word_is a.0 (spelling bytes t)) refl

pub variable-stands : (bytes : List ℕ) (t : Token) → StandsIn bytes t → t.kind ≡ Variable → (0 < length (spelling bytes t)) × IsWord (drop 1 (spelling bytes t))
unfolding IfWord
variable-stands bytes t h e = let a = alone-as bytes t Variable h e in subst (IfWord (spelling bytes t)) a.1 (word_is a.0 (spelling bytes t)) refl

-- ---- texts
all_cons : (p : ℕ → Bool) (b : ℕ) (bs : List ℕ) → p b ≡ true → AllPass p bs → AllPass p (b ∷ bs)
all_cons p b bs h t zero d l = h
all_cons p b bs h t (suc k) d l = t k d (omega (arith, l))

mark_printable : (b : ℕ) → is_quote_mark b ≡ true → is_printable b ≡ true
mark_printable b h = by (b == 34) (b == 92) refl refl h
  where
    by : (c d : Bool) → (b == 34) ≡ c → (b == 92) ≡ d → (c || d) ≡ true → is_printable b ≡ true
    by true d hc hd h = ap is_printable (eqb-true b 34 hc)
    by false true hc hd h = ap is_printable (eqb-true b 92 hd)
    by false false hc hd h = absurd (let h' : false ≡ true = h in cc)

pub printable : (escape : Bool) (w : List ℕ) (n : ℕ) → text_len escape w ≡ Some n → AllPass is_printable (text_value escape w)
printable escape [] n e = absurd (none_some n e)
printable true (b ∷ w) n e = by (printable false w) (is_quote_mark b) refl e
  where
    by : ((m : ℕ) → text_len false w ≡ Some m → AllPass is_printable (text_value false w)) → (c : Bool) → is_quote_mark b ≡ c → (if c then one_more (text_len false w) else None) ≡ Some n → AllPass is_printable (b ∷ text_value false w)
    by more true q e = let s = more_some (text_len false w) n e in all_cons is_printable b (text_value false w) (mark_printable b q) (more s.0 s.1)
    by more false q e = absurd (none_some n e)
printable false (b ∷ w) n e = by (printable true w) (printable false w) (b == 34) (b == 92) (is_printable b) refl e
  where
    by : ((m : ℕ) → text_len true w ≡ Some m → AllPass is_printable (text_value true w)) → ((m : ℕ) → text_len false w ≡ Some m → AllPass is_printable (text_value false w))
        → (c d p : Bool) → is_printable b ≡ p
        → (if c then Some 1 else (if d then one_more (text_len true w) else (if p then one_more (text_len false w) else None))) ≡ Some n
        → AllPass is_printable (if c then [] else (if d then text_value true w else b ∷ text_value false w))
    by escaped plain true d p hp e = λ k x l. absurd (omega (arith, l))
    by escaped plain false true p hp e = let s = more_some (text_len true w) n e in escaped s.0 s.1
    by escaped plain false false true hp e = let s = more_some (text_len false w) n e in all_cons is_printable b (text_value false w) hp (plain s.0 s.1)
    by escaped plain false false false hp e = absurd (none_some n e)

IfText : List ℕ → Next → Type 0
IfText bytes End = Unit {0}
IfText bytes (Bad c) = Unit {0}
IfText bytes (Good Word n) = Unit {0}
IfText bytes (Good Variable n) = Unit {0}
IfText bytes (Good Number n) = Unit {0}
IfText bytes (Good Text n) = (0 < length bytes) × IsTextValue (text_value false (drop 1 bytes))
IfText bytes (Good Symbol n) = Unit {0}

text_is : (before : Before) (bytes : List ℕ) → IfText bytes (next before bytes)
unfolding IfText
text_is before = by_kind before IfText tt (λ _ _ _. tt) (λ _ _ _. tt) (λ _ _ _. tt) (λ _ _. tt)
    (λ b bs n e h. (omega arith, record { short = leb-true (length (text_value false bs)) LONGEST_TEXT h; bytes = printable false bs n e }))
    (λ _ _ _. tt) (λ _ _ _ _. tt)

pub text-stands : (bytes : List ℕ) (t : Token) → StandsIn bytes t → t.kind ≡ Text → (0 < length (spelling bytes t)) × IsTextValue (text_at bytes t)
unfolding IfText
text-stands bytes t h e = let a = alone-as bytes t Text h e in subst (IfText (spelling bytes t)) a.1 (text_is a.0 (spelling bytes t))
