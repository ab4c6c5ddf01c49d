-- Tokens that are spelled as lexemes stand for them, and name the words that those name.
use Rattle.std.proofs.Common.{◌≡◌, ℕ, ◌≤◌, ◌<◌, ◌^◌, Bool, false, true, List, [], ◌∷◌, ◌++◌, map, drop, Option, None, Some, All, refl, sym, ap, ◌∙◌, arith}
use Rattle.std.specs.Prelude.{fold, is_some, if◌then◌else◌}
use Rattle.std.specs.Option.{option_map}
use Rattle.std.proofs.lemmas.List.Elements.{All-nil, All-cons, All-tail}
use Rattle.abc_text.specs.declared.lexical.Before.{Before}
use Rattle.abc_text.specs.declared.lexical.Before.TheVariants.{Open, Operand, Sign}
use Rattle.abc_text.specs.declared.lexical.Token.{Token as TextToken}
use Rattle.abc_text.specs.declared.words.Keyword.{Keyword}
use Rattle.abc_text.specs.Words.{keyword_at, mark_at, keyword_text}
use Rattle.abc_text.specs.Tokens as text
use Rattle.abc_text.specs.Tokens.{greatest, text_value}
use Rattle.abc_text.specs.Meanings.{spelling, word_of, named, has_word, number_in, with_word, with_named, names_behind}
use Rattle.abc_text.proofs.ReadBack.{spellings}
use Rattle.abc_text.proofs.Tables.{words_are_spelled}
use Rattle.abc_grammar.specs.declared.lexemes.Lexeme.{Lexeme}
use Rattle.abc_grammar.specs.declared.lexemes.Lexeme.TheVariants as l
use Rattle.abc_grammar.specs.Lexemes.{name_in, word_lexeme, symbol_lexeme, lexeme_by, lexeme_of, lexemes_of, name_of}
use Rattle.abc_grammar.specs.Scanned.{IsScanned}
use Rattle.abc_printed.specs.Parts.{Part, Token, Space, Line, word_at, spelled, lexemes}
use Rattle.abc_printed.specs.Printable.{HasWord}
use Rattle.abc_printed_laws.specs.Kept.{names_in}
use Rattle.abc_printed_texts.specs.Read.{kind_of, AreSpelledTokens}
use Rattle.abc_printed_texts.proofs.Good.{Fits, after, AreGood}
use Rattle.abc_printed_texts.proofs.Numerals.{decimal_back}

-- ---- words
-- the word that a lexeme names
abbrev pub word_named : List (List ℕ) → Lexeme → Option (List ℕ)
word_named words t = option_map (word_at words) (name_of t)

-- the words that have numbers behind these lexemes, where `known` had numbers before
abbrev pub met : List (List ℕ) → List (List ℕ) → List Lexeme → List (List ℕ)
met words known ls = fold (λ known t. with_named known (word_named words t)) known ls

-- Lexemes that name nothing change nothing.
pub met_names : (words known : List (List ℕ)) (ls : List Lexeme) → met words known ls ≡ met words known (names_in ls)
met_names words known [] = refl
met_names words known (l.Keyword k ∷ ls) = met_names words known ls
met_names words known (l.Mark m ∷ ls) = met_names words known ls
met_names words known (l.Name n ∷ ls) = met_names words (with_word known (word_at words n)) ls
met_names words known (l.Variable n ∷ ls) = met_names words (with_word known (word_at words n)) ls
met_names words known (l.Number n ∷ ls) = met_names words known ls
met_names words known (l.Text bytes ∷ ls) = met_names words known ls

-- The word of the lexeme's name has that name's number.
abbrev pub IsNumbered : List (List ℕ) → Lexeme → Type 0
IsNumbered words (l.Keyword k) = Unit {0}
IsNumbered words (l.Mark m) = Unit {0}
IsNumbered words (l.Name n) = (has_word words (word_at words n) ≡ true) × (number_in words (word_at words n) ≡ n.0)
IsNumbered words (l.Variable n) = (has_word words (word_at words n) ≡ true) × (number_in words (word_at words n) ≡ n.0)
IsNumbered words (l.Number n) = Unit {0}
IsNumbered words (l.Text bytes) = Unit {0}

-- The lexeme has a word at its number, if it names one.
pub record IsNamed (words : List (List ℕ)) (t : Lexeme) : Type 0 where
  pub has : HasWord words t
  pub numbered : IsNumbered words t

-- Where the lexemes that name something are such, all are.
pub named_all : (words : List (List ℕ)) (ls : List Lexeme) → All (IsNamed words) (names_in ls) → All (IsNamed words) ls
named_all words [] h = h
named_all words (l.Keyword k ∷ ls) h = All-cons (IsNamed words) (l.Keyword k) ls (record { has = tt; numbered = tt }) (named_all words ls h)
named_all words (l.Mark m ∷ ls) h = All-cons (IsNamed words) (l.Mark m) ls (record { has = tt; numbered = tt }) (named_all words ls h)
named_all words (l.Name n ∷ ls) h =
    All-cons (IsNamed words) (l.Name n) ls (h 0 (l.Name n) (omega arith)) (named_all words ls (All-tail (IsNamed words) (l.Name n) (names_in ls) h))
named_all words (l.Variable n ∷ ls) h =
    All-cons (IsNamed words) (l.Variable n) ls (h 0 (l.Variable n) (omega arith))
    (named_all words ls (All-tail (IsNamed words) (l.Variable n) (names_in ls) h))
named_all words (l.Number n ∷ ls) h = All-cons (IsNamed words) (l.Number n) ls (record { has = tt; numbered = tt }) (named_all words ls h)
named_all words (l.Text bytes ∷ ls) h = All-cons (IsNamed words) (l.Text bytes) ls (record { has = tt; numbered = tt }) (named_all words ls h)

-- and where all words have numbers, none is new
pub none_met : (words : List (List ℕ)) (ls : List Lexeme) → All (IsNamed words) ls → met words words ls ≡ words
none_met words [] h = refl
none_met words (l.Keyword k ∷ ls) h = none_met words ls (All-tail (IsNamed words) (l.Keyword k) ls h)
none_met words (l.Mark m ∷ ls) h = none_met words ls (All-tail (IsNamed words) (l.Mark m) ls h)
none_met words (l.Name n ∷ ls) h =
    ap (λ (b : Bool). met words (if b then words else words ++ word_at words n ∷ []) ls) (h 0 (l.Name n) (omega arith)).numbered.0
    ∙ none_met words ls (All-tail (IsNamed words) (l.Name n) ls h)
none_met words (l.Variable n ∷ ls) h =
    ap (λ (b : Bool). met words (if b then words else words ++ word_at words n ∷ []) ls) (h 0 (l.Variable n) (omega arith)).numbered.0
    ∙ none_met words ls (All-tail (IsNamed words) (l.Variable n) ls h)
none_met words (l.Number n ∷ ls) h = none_met words ls (All-tail (IsNamed words) (l.Number n) ls h)
none_met words (l.Text bytes ∷ ls) h = none_met words ls (All-tail (IsNamed words) (l.Text bytes) ls h)

-- ---- what fits
fits_sign : (before : Before) (t : Lexeme) → Fits before t → Fits Sign t
fits_sign before (l.Keyword k) h = tt
fits_sign before (l.Mark m) h = tt
fits_sign before (l.Name n) h = tt
fits_sign before (l.Variable n) h = tt
fits_sign Open (l.Number n) h = omega (arith, h)
fits_sign Operand (l.Number n) h = omega (arith, h)
fits_sign Sign (l.Number n) h = h
fits_sign before (l.Text bytes) h = h

-- each lexeme of good parts fits where most does
pub all_fit : (before : Before) (parts : List Part) → AreGood before parts → All (Fits Sign) (lexemes parts)
all_fit before [] h = All-nil (Fits Sign)
all_fit before (Token t ∷ rest) h = All-cons (Fits Sign) t (lexemes rest) (fits_sign before t h.0) (all_fit (after before t) rest h.2)
all_fit before (Space ∷ rest) h = all_fit before rest h
all_fit before (Line ∷ rest) h = all_fit before rest h

-- ---- one token
word_by : (words : List (List ℕ)) (t : Lexeme) → HasWord words t → word_of (kind_of t) (spelled words t) ≡ word_named words t
word_by words (l.Keyword k) h = ap (λ (o : Option Keyword). if is_some o then None else Some (keyword_text k)) (words_are_spelled.keyword k)
word_by words (l.Mark m) h = refl
word_by words (l.Name n) h = ap (λ (o : Option Keyword). if is_some o then None else Some (word_at words n)) h.2
word_by words (l.Variable n) h = refl
word_by words (l.Number n) h = refl
word_by words (l.Text bytes) h = refl

-- a token of this kind and spelling
pub record IsSpelled (words : List (List ℕ)) (bytes : List ℕ) (t : TextToken) (x : Lexeme) : Type 0 where
  pub kind : t.kind ≡ kind_of x
  pub word : spelling bytes t ≡ spelled words x

-- Such a token names the word that the lexeme names.
named_as : (words : List (List ℕ)) (bytes : List ℕ) (t : TextToken) (x : Lexeme) → IsSpelled words bytes t x → HasWord words x →
    named bytes t ≡ word_named words x
named_as words bytes t x is h = (λ i. word_of (is.kind i) (is.word i)) ∙ word_by words x h

-- A number that fits has 64 bits.
number_small : (n : ℕ) → n ≤ greatest Sign → n < 2 ^ 64
number_small n h = omega (arith, h)

-- what a token of this spelling stands for
meant_by :
    (words : List (List ℕ)) (bytes : List ℕ) (t : TextToken) (x : Lexeme) → spelling bytes t ≡ spelled words x → IsNamed words x →
    Fits Sign x → lexeme_by words bytes t (kind_of x) ≡ x
meant_by words bytes t (l.Keyword k) e h fits =
    ap (λ (w : List ℕ). word_lexeme words w (keyword_at w)) e ∙ ap (word_lexeme words (keyword_text k)) (words_are_spelled.keyword k)
meant_by words bytes t (l.Mark m) e h fits =
    ap (λ (w : List ℕ). symbol_lexeme (mark_at w)) e ∙ ap symbol_lexeme (words_are_spelled.mark m)
meant_by words bytes t (l.Name n) e h fits =
    ap (λ (w : List ℕ). word_lexeme words w (keyword_at w)) e ∙ ap (word_lexeme words (word_at words n)) h.has.2
    ∙ ap (λ (k : ℕ). l.Name (record { 0 = k })) h.numbered.1
meant_by words bytes t (l.Variable n) e h fits =
    ap (λ (w : List ℕ). l.Variable (name_in words (drop 1 w))) e ∙ ap (λ (k : ℕ). l.Variable (record { 0 = k })) h.numbered.1
meant_by words bytes t (l.Number n) e h fits =
    ap (λ (w : List ℕ). l.Number (text.decimal w)) e ∙ ap l.Number (decimal_back n (number_small n fits))
meant_by words bytes t (l.Text bs) e h fits =
    ap (λ (w : List ℕ). l.Text (text_value false (drop 1 w))) e ∙ ap l.Text ((spellings Open).value bs fits.bytes)

-- So it stands for the lexeme.
stands_for : (words : List (List ℕ)) (bytes : List ℕ) (t : TextToken) (x : Lexeme) → IsSpelled words bytes t x → IsNamed words x → Fits Sign x →
    lexeme_of words bytes t ≡ x
stands_for words bytes t x is h fits = ap (lexeme_by words bytes t) is.kind ∙ meant_by words bytes t x is.word h fits

-- ---- all tokens
-- tokens of these kinds and spellings
abbrev pub AreOf : List (List ℕ) → List ℕ → List TextToken → List Lexeme → Type 0
AreOf words bytes ts ls = (map (λ t. t.kind) ts ≡ map kind_of ls) × (map (spelling bytes) ts ≡ map (spelled words) ls)

-- The first token is of the first lexeme, and the others are of the others.
first_of : (words : List (List ℕ)) (bytes : List ℕ) (t : TextToken) (ts : List TextToken) (x : Lexeme) (ls : List Lexeme) →
    AreOf words bytes (t ∷ ts) (x ∷ ls) → IsSpelled words bytes t x × AreOf words bytes ts ls
first_of words bytes t ts x ls h =
    let kinds : t.kind ∷ map (λ t. t.kind) ts ≡ kind_of x ∷ map kind_of ls = h.0 in
    let spells : spelling bytes t ∷ map (spelling bytes) ts ≡ spelled words x ∷ map (spelled words) ls = h.1 in
    (record { kind = cc; word = cc }, (cc, cc))

-- the words that the tokens name are those that the lexemes name
names_met : (words : List (List ℕ)) (bytes : List ℕ) (known : List (List ℕ)) (ts : List TextToken) (ls : List Lexeme) → AreOf words bytes ts ls →
    All (IsNamed words) ls → names_behind known bytes ts ≡ met words known ls
names_met words bytes known [] [] h n = refl
names_met words bytes known [] (x ∷ ls) h n = absurd (let e : [] ≡ kind_of x ∷ map kind_of ls = h.0 in cc)
names_met words bytes known (t ∷ ts) [] h n = absurd (let e : t.kind ∷ map (λ t. t.kind) ts ≡ [] = h.0 in cc)
names_met words bytes known (t ∷ ts) (x ∷ ls) h n =
    let both = first_of words bytes t ts x ls h in
    ap (λ (o : Option (List ℕ)). names_behind (with_named known o) bytes ts) (named_as words bytes t x both.0 (n 0 x (omega arith)).has)
    ∙ names_met words bytes (with_named known (word_named words x)) ts ls both.1 (All-tail (IsNamed words) x ls n)

-- and the tokens stand for the lexemes
all_stand : (words : List (List ℕ)) (bytes : List ℕ) (ts : List TextToken) (ls : List Lexeme) → AreOf words bytes ts ls →
    All (IsNamed words) ls → All (Fits Sign) ls → lexemes_of words bytes ts ≡ ls
all_stand words bytes [] [] h n fits = refl
all_stand words bytes [] (x ∷ ls) h n fits = absurd (let e : [] ≡ kind_of x ∷ map kind_of ls = h.0 in cc)
all_stand words bytes (t ∷ ts) [] h n fits = absurd (let e : t.kind ∷ map (λ t. t.kind) ts ≡ [] = h.0 in cc)
all_stand words bytes (t ∷ ts) (x ∷ ls) h n fits =
    let both = first_of words bytes t ts x ls h in
    let here = stands_for words bytes t x both.0 (n 0 x (omega arith)) (fits 0 x (omega arith)) in
    let more = all_stand words bytes ts ls both.1 (All-tail (IsNamed words) x ls n) (All-tail (Fits Sign) x ls fits) in
    λ i. here i ∷ more i

-- The bytes are tokens that stand for these lexemes, and behind them exactly these words have numbers.
pub record IsScannedAs (known words : List (List ℕ)) (bytes : List ℕ) (ts : List TextToken) (ls : List Lexeme) : Type 0 where
  pub scanned : IsScanned known bytes ts None ls
  pub names : words ≡ names_behind known bytes ts

-- It is so where the bytes are tokens that are spelled as the lexemes are.
pub scanned_as :
    (known words : List (List ℕ)) (bytes : List ℕ) (ts : List TextToken) (ls : List Lexeme) → AreSpelledTokens words bytes ts ls →
    All (IsNamed words) ls → All (Fits Sign) ls → met words known ls ≡ words → IsScannedAs known words bytes ts ls
scanned_as known words bytes ts ls read named fits all =
    let names = names_met words bytes known ts ls (read.kinds, read.spellings) named ∙ all in
    record {
      scanned = record {
        read = read.tokens;
        meant = sym (ap (λ (ws : List (List ℕ)). lexemes_of ws bytes ts) names ∙ all_stand words bytes ts ls (read.kinds, read.spellings) named fits);
      };
      names = sym names;
    }
