-- Words that have numbers keep them.
use Rattle.std.proofs.Common.{◌≡◌, ℕ, ◌+◌, ◌≤◌, Bool, true, false, List, [], ◌∷◌, ◌++◌, length, map, Option, Some, None, Bor, zero, suc, refl, sym, ap, ◌∙◌, subst, append_assoc, append-nil, length-append, get_or, arith}
use Rattle.std.specs.Prelude.{if◌then◌else◌, drop, All, IfOk, Result, Ok, Err}
use Rattle.std.proofs.lemmas.Bool.Decides.{nat_tests}
use Rattle.std.proofs.lemmas.List.{length-map}
use Rattle.std.proofs.lemmas.List.Elements.{All-append}
use Rattle.abc_value.specs.Text.{IsPrintable}
use Rattle.abc_text.specs.declared.lexical.TokenKind.{TokenKind}
use Rattle.abc_text.specs.declared.lexical.TokenKind.TheVariants.{Word, Variable, Number, Text, Symbol}
use Rattle.abc_text.specs.declared.lexical.Token.{Token}
use Rattle.abc_text.specs.Tokens.{is_word_byte}
use Rattle.abc_text.specs.Meanings.{spelling, StandsIn, named, word_of, has_word, with_word, with_named, names_behind, AreNew, AreDifferent}
use Rattle.abc_text.proofs.OfKind.{word-stands, variable-stands}
use Rattle.abc_text.specs.Spelling.{IsWord}
use Rattle.abc_text.proofs.Growing.{behind_grows}
use Rattle.abc_text.specs.Words.{is_keyword}

-- ---- what is new
map-drop : (n : ℕ) (ks : List (Bor (List ℕ))) → map (λ w. w.now) (drop n ks) ≡ drop n (map (λ w. w.now) ks)
map-drop zero ks = refl
map-drop (suc n) [] = refl
map-drop (suc n) (k ∷ ks) = map-drop n ks

drop_front : (xs ys : List (List ℕ)) → drop (length xs) (xs ++ ys) ≡ ys
drop_front [] ys = refl
drop_front (x ∷ xs) ys = drop_front xs ys

pub new_are : (bytes : List ℕ) (words : List (List ℕ)) (ts : List Token) (ks more : List (Bor (List ℕ))) → map
    (λ w. w.now) ks ≡ names_behind words bytes ts → more ≡ drop (length words) ks
    → names_behind words bytes ts ≡ words ++ map (λ w. w.now) more
new_are bytes words ts ks more e d =
    let g = behind_grows bytes words ts in
    let new : map (λ w. w.now) more ≡ g.0 = ap (map (λ w. w.now)) d ∙ map-drop (length words) ks ∙ ap (drop
    (length words)) (e ∙ g.1) ∙ drop_front words g.0 in
    g.1 ∙ ap (λ (ws : List (List ℕ)). words ++ ws) (sym new)

-- ---- new words are words of the tokens
AreWords : Option (List ℕ) → Type 0
AreWords None = Unit {0}
AreWords (Some word) = IsWord word

named_word : (bytes : List ℕ) (t : Token) (kind : TokenKind) → StandsIn bytes t → t.kind ≡ kind → AreWords
    (word_of kind (spelling bytes t))
unfolding AreWords
named_word bytes t Word stands e = by (is_keyword (spelling bytes t)) (word-stands bytes t stands e)
  where
    by : (b : Bool) → IsWord (spelling bytes t) → AreWords (if b then None else Some (spelling bytes t))
    by true h = tt
    by false h = h
named_word bytes t Variable stands e = (variable-stands bytes t stands e).1
named_word bytes t Number stands e = tt
named_word bytes t Text stands e = tt
named_word bytes t Symbol stands e = tt

-- the words behind those that had numbers are words of the tokens
pub record NewWords (words all : List (List ℕ)) : Type 0 where
  pub more : List (List ℕ)
  pub whole : all ≡ words ++ more
  pub are : All IsWord more

with_word_new : (words : List (List ℕ)) (word : List ℕ) → IsWord word → NewWords words (with_word words word)
with_word_new words word h = by (has_word words word)
  where
    by : (b : Bool) → NewWords words (if b then words else words ++ word ∷ [])
    by true = record { more = []; whole = sym (append-nil words); are = λ k d lt. absurd (omega (arith, lt)) }
    by false = record { more = word ∷ []; whole = refl; are = only }
      where
        only : All IsWord (word ∷ [])
        only zero d lt = h
        only (suc k) d lt = absurd (omega (arith, lt))

with_named_new : (words : List (List ℕ)) (o : Option (List ℕ)) → AreWords o → NewWords words (with_named words o)
unfolding AreWords
with_named_new words None h = record {
  more = [];
  whole = sym (append-nil words);
  are = λ k d lt. absurd (omega
      (arith, lt));
}
with_named_new words (Some word) h = with_word_new words word h

behind_new : (bytes : List ℕ) (words : List (List ℕ)) (ts : List Token) → All (StandsIn bytes) ts → NewWords words
    (names_behind words bytes ts)
behind_new bytes words [] h = record {
  more = [];
  whole = sym (append-nil words);
  are = λ k d lt. absurd (omega
      (arith, lt));
}
behind_new bytes words (t ∷ ts) h =
    let here = with_named_new words (named bytes t) (named_word bytes t t.kind (h 0 t (omega arith)) refl) in
    let rest = behind_new bytes (with_named words (named bytes t)) ts (λ k d lt. h (suc k) d (omega (arith, lt))) in
    record {
      more = here.more ++ rest.more;
      whole = rest.whole ∙ ap (λ (ws : List (List ℕ)). ws ++ rest.more) here.whole
          ∙ append_assoc words here.more rest.more;
      are = All-append IsWord here.more rest.more here.are rest.are;
    }

each_word : (ks : List (Bor (List ℕ))) → All IsWord (map (λ w. w.now) ks) → All (λ w. IsWord w.now) ks
each_word [] h k d lt = absurd (omega (arith, lt))
each_word (x ∷ xs) h zero d lt = h 0 [] (omega arith)
each_word (x ∷ xs) h (suc k) d lt = each_word xs (λ i e l. h (suc i) e (omega (arith, l))) k d (omega (arith, lt))

-- the references behind the first ones, where the words behind all of them are so many and then more
pub new_words : (bytes : List ℕ) (words : List (List ℕ)) (ts : List Token) (ks : List (Bor (List ℕ))) → All
    (StandsIn bytes) ts →
    map (λ w. w.now) ks ≡ names_behind words bytes ts
    → All (λ w. IsWord w.now) (drop (length words) ks)
new_words bytes words ts ks h e =
    let new = behind_new bytes words ts h in
    let more : map (λ w. w.now) (drop (length words) ks) ≡ new.more = map-drop (length words) ks ∙ ap (drop
    (length words)) (e ∙ new.whole)
    ∙ drop_front words new.more in
    each_word (drop (length words) ks) (subst (All IsWord) (sym more) new.are)

pub known_first : (bytes : List ℕ) (words : List (List ℕ)) (ts : List Token) (ks : List (Bor (List ℕ))) →
    map (λ w. w.now) ks ≡ names_behind words bytes ts → length words ≤ length ks
known_first bytes words ts ks e =
    let g = behind_grows bytes words ts in
    omega (
      arith,
      length-map ks (λ (w : Bor (List ℕ)). w.now),
      ap (length {A = List ℕ}) (e
          ∙ g.1),
      length-append {A = List ℕ} words g.0,
    )

-- a word is a short text
word_byte : (b : ℕ) → is_word_byte b ≡ true → IsPrintable b
word_byte b h = (grind (arith, nat_tests), grind (arith, nat_tests))

pub word_text : (word : List ℕ) → IsWord word → (length word ≤ 64) × All IsPrintable word
word_text word h = (let s = h.short in omega (arith, s), λ k d lt. word_byte (get_or word k d) (h.bytes k d lt))

pub if_ok : {A E : Type 0} (P Q : A → Type 0) (r : Result A E) → IfOk r P → ((x : A) → P x → Q x) → IfOk r Q
if_ok P Q (Ok x) h f = f x h
if_ok P Q (Err e) h f = tt

-- ---- how many
with_word_length : (words : List (List ℕ)) (word : List ℕ) → length (with_word words word) ≤ length words + 1
with_word_length words word = by (has_word words word)
  where
    by : (b : Bool) → length (if b then words else words ++ word ∷ []) ≤ length words + 1
    by true = omega arith
    by false = omega (arith, length-append {A = List ℕ} words (word ∷ []))

with_named_length : (words : List (List ℕ)) (o : Option (List ℕ)) → length (with_named words o) ≤ length words + 1
with_named_length words None = omega arith
with_named_length words (Some word) = with_word_length words word

pub behind_length : (bytes : List ℕ) (words : List (List ℕ)) (ts : List Token) → length
    (names_behind words bytes ts) ≤ length words + length ts
behind_length bytes words [] = omega arith
behind_length bytes words (t ∷ ts) =
    let here = with_named_length words (named bytes t) in
    let rest = behind_length bytes (with_named words (named bytes t)) ts in
    omega (arith, here, rest)

-- ---- names stay different
has_none : (known xs : List (List ℕ)) (word : List ℕ) → AreNew known xs → has_word (known ++ xs) word ≡ false →
    AreNew known (xs ++ word ∷ [])
has_none known [] word h e = (rw append-nil at e, tt)
has_none known (x ∷ xs) word h e = (
  h.0,
  has_none (known ++ x ∷ []) xs word h.1 (rw (append_assoc known
      (x ∷ []) xs) e),
)

with_word_different : (words : List (List ℕ)) (word : List ℕ) → AreDifferent words → AreDifferent
    (with_word words word)
with_word_different words word h = by (has_word words word) refl
  where
    by : (b : Bool) → has_word words word ≡ b → AreDifferent (if b then words else words ++ word ∷ [])
    by true e = h
    by false e = has_none [] words word h e

with_named_different : (words : List (List ℕ)) (o : Option (List ℕ)) → AreDifferent words → AreDifferent
    (with_named words o)
with_named_different words None h = h
with_named_different words (Some word) h = with_word_different words word h

pub behind_different : (bytes : List ℕ) (words : List (List ℕ)) (ts : List Token) → AreDifferent words → AreDifferent
    (names_behind words bytes ts)
behind_different bytes words [] h = h
behind_different bytes words (t ∷ ts) h = behind_different bytes (with_named words (named bytes t)) ts
    (with_named_different words (named bytes t) h)
