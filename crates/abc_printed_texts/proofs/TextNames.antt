-- The lexemes of a text have words, at their numbers.
use Rattle.std.proofs.Common.{◌≡◌, ℕ, suc, ◌+◌, Bool, true, false, cond, List, [], ◌∷◌, length, drop, Option, None, Some, All, refl, sym, ap, ◌∙◌, subst, arith}
use Rattle.std.specs.Prelude.{slice_get, nat_le, take_while, not, ◌||◌, ◌==◌, is_some, if◌then◌else◌}
use Rattle.std.specs.Option.{option_map, option_map_or}
use Rattle.std.specs.Str.{bytes_eq}
use Rattle.std.proofs.lemmas.Slice.Eq.{bytes_eq-Decides}
use Rattle.std.proofs.lemmas.List.Elements.{All-nil, All-cons, All-tail}
use Rattle.abc_text.specs.declared.lexical.TokenKind.{TokenKind}
use Rattle.abc_text.specs.declared.lexical.TokenKind.TheVariants.{Word, Variable, Number, Text, Symbol}
use Rattle.abc_text.specs.declared.lexical.Before.{Before}
use Rattle.abc_text.specs.declared.lexical.Next.{Next}
use Rattle.abc_text.specs.declared.lexical.Next.TheVariants.{End, Good, Bad}
use Rattle.abc_text.specs.declared.lexical.Token.{Token}
use Rattle.abc_text.specs.declared.words.Keyword.{Keyword}
use Rattle.abc_text.specs.declared.words.Mark.{Mark}
use Rattle.abc_value.specs.declared.limits.TheConstants.{LONGEST_TEXT}
use Rattle.abc_text.specs.declared.limits.TheConstants.{MOST_NAME}
use Rattle.abc_text.specs.Tokens.{is_letter, is_digit, is_word_byte, word_len, variable_token, number_token, decimal, greatest, text_token, text_len, text_value, closed_text, two_token, next}
use Rattle.abc_text.specs.Words.{keyword_at, mark_at, is_mark}
use Rattle.abc_text.specs.Spelling.{IsWord, IsWordSpelling}
use Rattle.abc_text.specs.Meanings.{spelling, StandsIn, word_of, named, has_word, number_in, with_named, names_behind, HasName}
use Rattle.abc_text.proofs.Growing.{number_below}
use Rattle.abc_text.proofs.OfKind.{word-stands, variable-stands}
use Rattle.abc_grammar.specs.declared.lexemes.Lexeme.TheVariants as l
use Rattle.abc_grammar.specs.Lexemes.{name_in, word_lexeme, symbol_lexeme, lexeme_by, lexeme_of, lexemes_of}
use Rattle.abc_grammar.proofs.LexemesMeant.{lexemes_agree}
use Rattle.abc_printed.specs.Parts.{word_at}
use Rattle.abc_printed_texts.proofs.NamesMet.{word_named, met, IsNamed}

-- ---- words at their numbers
-- Addition on the left is the successor.
one_more : (n : ℕ) → 1 + n ≡ suc n
one_more n = omega arith

-- The word at the number of a word is that word.
pub word_back : (words : List (List ℕ)) (word : List ℕ) → has_word words word ≡ true → word_at words (name_in words word) ≡ word
word_back [] word h = absurd (let h' : false ≡ true = h in cc)
word_back (w ∷ words) word h = by (bytes_eq word w) refl h (word_back words word)
  where
    by : (b : Bool) → bytes_eq word w ≡ b → (b || has_word words word) ≡ true →
        (has_word words word ≡ true → word_at words (name_in words word) ≡ word) →
        option_map_or (λ word. word) (slice_get (w ∷ words) (cond (not b) (1 + number_in words word) 0)) [] ≡ word
    by true e h more = sym ((bytes_eq-Decides word w).0 e)
    by false e h more = ap (λ (n : ℕ). option_map_or (λ word. word) (slice_get (w ∷ words) n) []) (one_more (number_in words word)) ∙ more h

-- ---- a word begins with a letter
abbrev pub BeginsWithLetter : List ℕ → Type 0
BeginsWithLetter [] = ⊥
BeginsWithLetter (b ∷ bs) = is_letter b ≡ true

-- what comes next, if it is a word or a variable
abbrev IfWord : List ℕ → Next → Type 0
IfWord bytes End = Unit {0}
IfWord bytes (Bad c) = Unit {0}
IfWord bytes (Good Word n) = BeginsWithLetter bytes
IfWord bytes (Good Variable n) = BeginsWithLetter (drop 1 bytes)
IfWord bytes (Good Number n) = Unit {0}
IfWord bytes (Good Text n) = Unit {0}
IfWord bytes (Good Symbol n) = Unit {0}

-- One of two, each of which is such.
if_word : (bytes : List ℕ) (c : Bool) (x y : Next) → (c ≡ true → IfWord bytes x) → IfWord bytes y → IfWord bytes (if c then x else y)
if_word bytes true x y f g = f refl
if_word bytes false x y f g = g

-- Behind a $ comes a letter.
variable_is : (b : ℕ) (bs : List ℕ) → IfWord (b ∷ bs) (variable_token bs)
variable_is b [] = tt
variable_is b (c ∷ cs) =
    if_word (b ∷ c ∷ cs) (is_letter c) _ _ (λ e. if_word (b ∷ c ∷ cs) (nat_le (word_len (c ∷ cs)) MOST_NAME) _ _ (λ _. e) tt) tt

-- Digits are no word.
number_is : (before : Before) (bytes : List ℕ) → IfWord bytes (number_token before bytes)
unfolding number_token
number_is before bytes = if_word bytes (nat_le (decimal (take_while is_digit bytes)) (greatest before)) _ _ (λ _. tt) tt

-- A closed text is none.
closed_is : (bytes : List ℕ) (size : ℕ) (o : Option ℕ) → IfWord bytes (closed_text size o)
closed_is bytes size None = tt
closed_is bytes size (Some n) = if_word bytes (nat_le size LONGEST_TEXT) _ _ (λ _. tt) tt

-- What stands in quotes is none.
text_is : (bytes bs : List ℕ) → IfWord bytes (text_token bs)
unfolding text_token
text_is bytes bs = closed_is bytes (length (text_value false bs)) (text_len false bs)

-- A symbol is none.
two_is : (bytes bs : List ℕ) → IfWord bytes (two_token bs)
two_is bytes [] = tt
two_is bytes (b ∷ []) = tt
two_is bytes (b ∷ (c ∷ bs)) = if_word bytes (is_mark (b ∷ (c ∷ []))) _ _ (λ _. tt) tt

-- A word begins with a letter, and so does a variable's word.
next_is : (before : Before) (bytes : List ℕ) → IfWord bytes (next before bytes)
unfolding next
next_is before [] = tt
next_is before (b ∷ bs) =
    if_word (b ∷ bs) (is_letter b) _ _ (λ e. if_word (b ∷ bs) (nat_le (word_len (b ∷ bs)) MOST_NAME) _ _ (λ _. e) tt)
    (if_word (b ∷ bs) (b == 36) _ _ (λ _. variable_is b bs)
    (if_word (b ∷ bs) (is_digit b) _ _ (λ _. number_is before (b ∷ bs))
    (if_word (b ∷ bs) (b == 34) _ _ (λ _. text_is (b ∷ bs) bs)
    (if_word (b ∷ bs) (is_mark (b ∷ [])) _ _ (λ _. tt) (two_is (b ∷ bs) (b ∷ bs))))))

-- Bytes of a word behind a letter are spelled as a word.
word_spelling : (word : List ℕ) → IsWord word → BeginsWithLetter word → IsWordSpelling word
word_spelling [] h b = b
word_spelling (b ∷ bs) h e = (e, All-tail (λ b. is_word_byte b ≡ true) b bs h.bytes, h.short)

-- ---- one token
-- A word of a text is spelled as a word.
word_named_is : (bytes : List ℕ) (t : Token) → StandsIn bytes t → t.kind ≡ Word → IsWordSpelling (spelling bytes t)
word_named_is bytes t stands e =
    word_spelling (spelling bytes t) (word-stands bytes t stands e)
    (subst (IfWord (spelling bytes t)) (stands.alone ∙ ap (λ k. Good k t.len) e) (next_is stands.before (spelling bytes t)))

-- So is the word of a variable.
variable_named_is : (bytes : List ℕ) (t : Token) → StandsIn bytes t → t.kind ≡ Variable → IsWordSpelling (drop 1 (spelling bytes t))
variable_named_is bytes t stands e =
    word_spelling (drop 1 (spelling bytes t)) (variable-stands bytes t stands e).1
    (subst (IfWord (spelling bytes t)) (stands.alone ∙ ap (λ k. Good k t.len) e) (next_is stands.before (spelling bytes t)))

-- A word that has a number is a name with a word at it.
name_at : (words : List (List ℕ)) (word : List ℕ) → has_word words word ≡ true → IsWordSpelling word → keyword_at word ≡ None →
    IsNamed words (l.Name (name_in words word))
name_at words word known spells none =
    let back = sym (word_back words word known) in
    record {
      has = (number_below words word known, subst IsWordSpelling back spells, subst (λ (w : List ℕ). keyword_at w ≡ None) back none);
      numbered = (subst (λ (w : List ℕ). has_word words w ≡ true) back known, ap (number_in words) (sym back));
    }

-- So is the word of a variable.
variable_at : (words : List (List ℕ)) (word : List ℕ) → has_word words word ≡ true → IsWordSpelling word →
    IsNamed words (l.Variable (name_in words word))
variable_at words word known spells =
    let back = sym (word_back words word known) in
    record {
      has = (number_below words word known, subst IsWordSpelling back spells);
      numbered = (subst (λ (w : List ℕ). has_word words w ≡ true) back known, ap (number_in words) (sym back));
    }

-- A word is a keyword or such a name.
word_is_named : (words : List (List ℕ)) (word : List ℕ) (o : Option Keyword) → keyword_at word ≡ o → IsWordSpelling word →
    HasName words (if is_some o then None else Some word) → IsNamed words (word_lexeme words word o)
word_is_named words word (Some k) e spells h = record { has = tt; numbered = tt }
word_is_named words word None e spells h = name_at words word h spells e

-- A symbol names nothing.
symbol_is_named : (words : List (List ℕ)) (o : Option Mark) → IsNamed words (symbol_lexeme o)
symbol_is_named words (Some m) = record { has = tt; numbered = tt }
symbol_is_named words None = record { has = tt; numbered = tt }

-- What a token of each kind stands for has a word at its number.
token_by : (words : List (List ℕ)) (bytes : List ℕ) (t : Token) (kind : TokenKind) → StandsIn bytes t → t.kind ≡ kind →
    HasName words (word_of kind (spelling bytes t)) → IsNamed words (lexeme_by words bytes t kind)
token_by words bytes t Word stands e h =
    word_is_named words (spelling bytes t) (keyword_at (spelling bytes t)) refl (word_named_is bytes t stands e) h
token_by words bytes t Variable stands e h = variable_at words (drop 1 (spelling bytes t)) h (variable_named_is bytes t stands e)
token_by words bytes t Number stands e h = record { has = tt; numbered = tt }
token_by words bytes t Text stands e h = record { has = tt; numbered = tt }
token_by words bytes t Symbol stands e h = symbol_is_named words (mark_at (spelling bytes t))

-- ---- all tokens
-- So has all that the tokens of a text stand for.
pub text_named : (words : List (List ℕ)) (bytes : List ℕ) (ts : List Token) → All (StandsIn bytes) ts → All (λ t. HasName words (named bytes t)) ts →
    All (IsNamed words) (lexemes_of words bytes ts)
text_named words bytes [] stand h = All-nil (IsNamed words)
text_named words bytes (t ∷ ts) stand h =
    All-cons (IsNamed words) (lexeme_of words bytes t) (lexemes_of words bytes ts)
    (token_by words bytes t t.kind (stand 0 t (omega arith)) refl (h 0 t (omega arith)))
    (text_named words bytes ts (All-tail (StandsIn bytes) t ts stand) (All-tail (λ t. HasName words (named bytes t)) t ts h))

-- The word of a name is the word that has its number.
name_back : (words : List (List ℕ)) (o : Option (List ℕ)) → HasName words o → option_map (word_at words) (option_map (name_in words) o) ≡ o
name_back words None h = refl
name_back words (Some word) h = ap Some (word_back words word h)

-- A text's tokens name what its lexemes name.
pub text_met : (words : List (List ℕ)) (bytes : List ℕ) (known : List (List ℕ)) (ts : List Token) → All (λ t. HasName words (named bytes t)) ts →
    met words known (lexemes_of words bytes ts) ≡ names_behind known bytes ts
text_met words bytes known [] h = refl
text_met words bytes known (t ∷ ts) h =
    let here : word_named words (lexeme_of words bytes t) ≡ named bytes t =
    ap (option_map (word_at words)) (lexemes_agree words bytes t) ∙ name_back words (named bytes t) (h 0 t (omega arith)) in
    ap (λ (o : Option (List ℕ)). met words (with_named known o) (lexemes_of words bytes ts)) here
    ∙ text_met words bytes (with_named known (named bytes t)) ts (All-tail (λ t. HasName words (named bytes t)) t ts h)
