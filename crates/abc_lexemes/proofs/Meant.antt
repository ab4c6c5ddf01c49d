-- What a token stands for, by what it is, and the words that have numbers behind it.
use Rattle.std.proofs.Common.{◌≡◌, ℕ, List, ◌++◌, drop, true, false, Option, Some, None, refl, sym, ap, ◌∙◌, subst}
use Rattle.std.specs.Prelude.{is_some, if◌then◌else◌}
use Rattle.abc_text.specs.declared.lexical.TokenKind.{TokenKind}
use Rattle.abc_text.specs.declared.lexical.TokenKind.TheVariants as kind
use Rattle.abc_text.specs.declared.lexical.Token.{Token}
use Rattle.abc_text.specs.declared.words.Keyword.{Keyword}
use Rattle.abc_text.specs.declared.words.Mark.{Mark}
use Rattle.abc_text.specs.Words.{keyword_at, mark_at}
use Rattle.abc_text.specs.Tokens.{decimal, text_value}
use Rattle.abc_text.specs.Meanings.{spelling, word_of, named, with_word, with_named, has_word, number_in, HasName}
use Rattle.abc_text.proofs.Growing.{number_given, number_kept}
use Rattle.abc_lexer.specs.declared.step.Item.{Item}
use Rattle.abc_grammar.specs.declared.lexemes.Lexeme.{Lexeme}
use Rattle.abc_grammar.specs.declared.lexemes.Lexeme.TheVariants as l
use Rattle.abc_lexemes.specs.Lexed.{IsMeant}
use Rattle.abc_grammar.specs.Lexemes.{name_in, word_lexeme, symbol_lexeme, lexeme_by, lexeme_of}

-- a token of this kind stands for x and names this word
abbrev pub Stands : List (List ℕ) → List (List ℕ) → List ℕ → Token → Lexeme → Type 0
Stands old new bytes t x = (x ≡ lexeme_of new bytes t) × (new ≡ with_named old (named bytes t))

by_kind : (old new : List (List ℕ)) (bytes : List ℕ) (t : Token) (k : TokenKind) (x : Lexeme) → t.kind ≡ k →
    x ≡ lexeme_by new bytes t k → new ≡ with_named old (word_of k (spelling bytes t)) → Stands old new bytes t x
by_kind old new bytes t k x is means names = (
  means ∙ ap (lexeme_by new bytes t) (sym is),
  names ∙ ap (λ (k : TokenKind). with_named old (word_of k (spelling bytes t))) (sym is),
)

pub keyword_stands : (old : List (List ℕ)) (bytes : List ℕ) (t : Token) (k : Keyword) → t.kind ≡ kind.Word →
    keyword_at (spelling bytes t) ≡ Some k → Stands old old bytes t (l.Keyword k)
keyword_stands old bytes t k is found =
    by_kind old old bytes t kind.Word (l.Keyword k) is (ap (word_lexeme old (spelling bytes t)) (sym found))
    (ap (λ (o : Option Keyword). with_named old (if is_some o then None else Some (spelling bytes t))) (sym found))

pub name_stands : (old new : List (List ℕ)) (bytes : List ℕ) (t : Token) (word : List ℕ) (n : ℕ) →
    t.kind ≡ kind.Word →
    keyword_at (spelling bytes t) ≡ None → word ≡ spelling bytes t → new ≡ with_word old word →
    n ≡ number_in old word →
    Stands old new bytes t (l.Name (record { 0 = n }))
name_stands old new bytes t word n is none same names number =
    let word_is : n ≡ number_in new (spelling bytes t) =
    number ∙ sym (number_given old word) ∙ (λ i. number_in (sym names i) (same i)) in
    by_kind old new bytes t kind.Word (l.Name (record { 0 = n })) is
    (ap (λ (m : ℕ). l.Name (record { 0 = m })) word_is ∙ ap (word_lexeme new (spelling bytes t)) (sym none))
    (names ∙ ap (with_word old) same
    ∙ ap (λ (o : Option Keyword). with_named old (if is_some o then None else Some (spelling bytes t))) (sym none))

pub variable_stands : (old new : List (List ℕ)) (bytes : List ℕ) (t : Token) (word : List ℕ) (n : ℕ) →
    t.kind ≡ kind.Variable →
    word ≡ drop 1 (spelling bytes t) → new ≡ with_word old word → n ≡ number_in old word →
    Stands old new bytes t (l.Variable (record { 0 = n }))
variable_stands old new bytes t word n is same names number =
    let word_is : n ≡ number_in new (drop 1 (spelling bytes t)) =
    number ∙ sym (number_given old word) ∙ (λ i. number_in (sym names i) (same i)) in
    by_kind old new bytes t kind.Variable (l.Variable (record { 0 = n })) is
    (ap (λ (m : ℕ). l.Variable (record { 0 = m })) word_is) (names ∙ ap (with_word old) same)

pub number_stands : (old : List (List ℕ)) (bytes : List ℕ) (t : Token) (n : ℕ) → t.kind ≡ kind.Number →
    n ≡ decimal (spelling bytes t) → Stands old old bytes t (l.Number n)
number_stands old bytes t n is same = by_kind old old bytes t kind.Number (l.Number n) is (ap l.Number same) refl

pub text_stands : (old : List (List ℕ)) (bytes : List ℕ) (t : Token) (behind value : List ℕ) → t.kind ≡ kind.Text →
    behind ≡ drop 1 (spelling bytes t) → value ≡ text_value false behind → Stands old old bytes t (l.Text value)
text_stands old bytes t behind value is same text =
    by_kind old old bytes t kind.Text (l.Text value) is (ap l.Text (text ∙ ap (text_value false) same)) refl

pub mark_stands : (old : List (List ℕ)) (bytes : List ℕ) (t : Token) (m : Mark) → t.kind ≡ kind.Symbol →
    mark_at (spelling bytes t) ≡ Some m → Stands old old bytes t (l.Mark m)
mark_stands old bytes t m is found = by_kind old old bytes t kind.Symbol (l.Mark m) is (ap symbol_lexeme
    (sym found)) refl

pub meant_by : (old new : List (List ℕ)) (item same : Item) (x : Lexeme) → item ≡ same → IsMeant old new same x →
    IsMeant old new item x
meant_by old new item same x e h = subst (λ (i : Item). IsMeant old new i x) (sym e) h

-- ---- what a token stands for stays as more words come
name_stays : (words more : List (List ℕ)) (word : List ℕ) → has_word words word ≡ true → name_in
    (words ++ more) word ≡ name_in words word
name_stays words more word h = ap (λ (n : ℕ). record { 0 = n }) (number_kept words more word h)

word_stays : (words more : List (List ℕ)) (word : List ℕ) (o : Option Keyword) →
    HasName words (if is_some o then None else Some word) → word_lexeme
    (words ++ more) word o ≡ word_lexeme words word o
word_stays words more word (Some k) h = refl
word_stays words more word None h = ap l.Name (name_stays words more word h)

stays_by : (words more : List (List ℕ)) (bytes : List ℕ) (t : Token) (k : TokenKind) → HasName words (word_of k
    (spelling bytes t)) →
    lexeme_by (words ++ more) bytes t k ≡ lexeme_by words bytes t k
stays_by words more bytes t kind.Word h = word_stays words more (spelling bytes t) (keyword_at (spelling bytes t)) h
stays_by words more bytes t kind.Variable h = ap l.Variable (name_stays words more (drop 1 (spelling bytes t)) h)
stays_by words more bytes t kind.Number h = refl
stays_by words more bytes t kind.Text h = refl
stays_by words more bytes t kind.Symbol h = refl

pub lexeme_stays : (words more : List (List ℕ)) (bytes : List ℕ) (t : Token) → HasName words (named bytes t) →
    lexeme_of (words ++ more) bytes t ≡ lexeme_of words bytes t
lexeme_stays words more bytes t h = stays_by words more bytes t t.kind h
