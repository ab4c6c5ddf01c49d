-- How many words have numbers behind the first tokens, by the names of what they stand for.
use Rattle.std.proofs.Common.{◌≡◌, ℕ, ◌+◌, ◌≤◌, Bool, true, false, List, [], ◌∷◌, ◌++◌, length, map, take, drop, zero, suc, max, Option, Some, None, refl, sym, ap, ◌∙◌, arith, length-append, append_assoc}
use Rattle.std.specs.Prelude.{if◌then◌else◌}
use Rattle.std.specs.Option.{option_map, option_map_or}
use Rattle.std.proofs.lemmas.List.{take-append-le, take-append-drop, take_all}
use Rattle.abc_pred.specs.declared.names.Name.{Name}
use Rattle.abc_text.specs.declared.lexical.Token.{Token}
use Rattle.abc_text.specs.Meanings.{named, has_word, with_word, with_named, number_in, names_behind}
use Rattle.abc_text.proofs.Growing.{behind_grows, number_below, number_none, number_kept, number_given, with_word_has, names_stay}
use Rattle.abc_grammar.specs.declared.lexemes.Lexeme.{Lexeme}
use Rattle.abc_grammar.specs.Lexemes.{name_in, lexeme_of, lexemes_of}
use Rattle.abc_grammar.proofs.LexemesMeant.{lexemes_agree}
use Rattle.abc_lexemes.specs.Lexed.{named_end, most_named}

-- one more than the number of a name
after : Option Name → ℕ
after o = option_map_or (λ n. n.0 + 1) o 0

word_counts : (old more : List (List ℕ)) (word : List ℕ) →
    max (length old) (number_in (with_word old word ++ more) word + 1) ≡ length (with_word old word)
word_counts old more word = by (has_word old word) refl
  where
    given : number_in (with_word old word ++ more) word ≡ number_in old word
    given = number_kept (with_word old word) more word (with_word_has old word) ∙ number_given old word

    by : (b : Bool) → has_word old word ≡ b → max (length old) (number_in
        (with_word old word ++ more) word + 1) ≡ length (if b then old else old ++ word ∷ [])
    by true h = let below = number_below old word h in let is = given in omega (arith, below, is)
    by false h =
        let next = number_none old word h in
        let is = given in
        omega (arith, next, is, length-append {A = List ℕ} old (word ∷ []))

named_counts : (old more : List (List ℕ)) (o : Option (List ℕ)) →
    max (length old) (after (option_map (name_in (with_named old o ++ more)) o)) ≡ length (with_named old o)
unfolding after
named_counts old more None = omega arith
named_counts old more (Some word) = word_counts old more word

token_counts : (words old more : List (List ℕ)) (bytes : List ℕ) (t : Token) → words ≡ with_named old
    (named bytes t) ++ more →
    max (length old) (named_end (lexeme_of words bytes t)) ≡ length (with_named old (named bytes t))
unfolding after
token_counts words old more bytes t e =
    ap (λ (o : Option Name). max (length old) (after o)) (lexemes_agree words bytes t
    ∙ ap (λ (ws : List (List ℕ)). option_map (name_in ws) (named bytes t)) e)
    ∙ named_counts old more (named bytes t)

pub most_behind : (words old more : List (List ℕ)) (bytes : List ℕ) (ts : List Token) →
    words ≡ names_behind old bytes ts ++ more →
    most_named (length old) (lexemes_of words bytes ts) ≡ length (names_behind old bytes ts)
most_behind words old more bytes [] e = refl
most_behind words old more bytes (t ∷ ts) e =
    let next = with_named old (named bytes t) in
    let grows = behind_grows bytes next ts in
    let here : words ≡ next ++ (grows.0 ++ more) = e ∙ ap (λ (ws : List (List ℕ)). ws ++ more) grows.1
    ∙ append_assoc next grows.0 more in
    ap (λ (n : ℕ). most_named n (lexemes_of words bytes ts)) (token_counts words old (grows.0 ++ more) bytes t here)
    ∙ most_behind words next more bytes ts e

-- the first of what is made are made of the first
pub map-take : {A B : Type 0} (f : A → B) (n : ℕ) (xs : List A) → take n (map f xs) ≡ map f (take n xs)
map-take f zero xs = refl
map-take f (suc n) [] = refl
map-take f (suc n) (x ∷ xs) = ap (λ ys. f x ∷ ys) (map-take f n xs)

-- The first words of a text are those that its first tokens name: so many as the names of what they stand for say.
pub record FrontWords (names : List (List ℕ)) (bytes : List ℕ) (front : List Token) (most : ℕ)
    (words : List (List ℕ)) : Type 0 where
  pub first : take most words ≡ names_behind names bytes front
  pub within : most ≤ length words

pub front_words : (names : List (List ℕ)) (bytes : List ℕ) (tokens : List Token) (count : ℕ)
    (lexemes front : List Lexeme) (words : List (List ℕ)) (most : ℕ) →
    lexemes ≡ lexemes_of (names_behind names bytes tokens) bytes tokens → words ≡ names_behind names bytes tokens →
    front ≡ take count lexemes → most ≡ most_named (length names) front → FrontWords names bytes
    (take count tokens) most words
front_words names bytes tokens count lexemes front words most meant all is counted =
    let first = names_behind names bytes (take count tokens) in
    let grows = names_stay names bytes (take count tokens) (drop count tokens) in
    let whole : words ≡ first ++ grows.0 = all ∙ ap (names_behind names bytes) (sym (take-append-drop count tokens))
    ∙ grows.1 in
    let stand : front ≡ lexemes_of words bytes (take count tokens) =
    is ∙ ap (take count) (meant ∙ ap (λ (ws : List (List ℕ)). lexemes_of ws bytes tokens) (sym all)) ∙ map-take
    (lexeme_of words bytes) count tokens in
    let long : most ≡ length first = counted ∙ ap (most_named (length names)) stand
    ∙ most_behind words names grows.0 bytes (take count tokens) whole in
    record {
      first = ap (take most) whole ∙ take-append-le most first grows.0 (omega (arith, long)) ∙ take_all most first
          (omega (arith, long));
      within = omega (arith, long, ap (length {A = List ℕ}) whole, length-append {A = List ℕ} first grows.0);
    }
