-- Lexemes whose texts and sets are values: those of an accepted text are, and so is each piece of them.
use Rattle.std.specs.Prelude.{All, nat_le}
use Rattle.std.proofs.Common.{◌≡◌, ℕ, suc, ◌≤◌, true, List, [], ◌∷◌, ◌++◌, length, Option, Some, None, refl, sym, ap, ◌∙◌, subst, append_assoc, leb-true, arith}
use Rattle.std.specs.declared.cmp.Ordering.TheVariants.{Less, Equal, Greater}
use Rattle.std.proofs.lemmas.Bool.{and_parts}
use Rattle.std.proofs.lemmas.List.Elements.{All-head, All-tail, All-cons}
use Rattle.abc_value.specs.declared.scalar.Scalar.{Scalar}
use Rattle.abc_value.specs.declared.limits.TheConstants.{LONGEST_TEXT}
use Rattle.abc_value.specs.Scalars.{scalar_cmp}
use Rattle.abc_value.specs.Sets.{IsSet, add_by, with_member, set_of}
use Rattle.abc_value.specs.Text.{IsPrintable}
use Rattle.abc_value.proofs.Members.{rises_set}
use Rattle.abc_text.specs.declared.words.Keyword.{Keyword}
use Rattle.abc_text.specs.declared.words.Mark.{Mark}
use Rattle.abc_text.specs.declared.words.Mark.TheVariants as m
use Rattle.abc_text.specs.declared.lexical.TokenKind.{TokenKind}
use Rattle.abc_text.specs.declared.lexical.TokenKind.TheVariants.{Word, Variable, Number, Text, Symbol}
use Rattle.abc_text.specs.declared.lexical.Token.{Token}
use Rattle.abc_text.specs.Tokens.{is_printable}
use Rattle.abc_text.specs.Words.{keyword_at, mark_at}
use Rattle.abc_text.specs.Meanings.{spelling, StandsIn, names_of}
use Rattle.abc_text.proofs.OfKind.{text-stands}
use Rattle.abc_text.proofs.Standing.{tokens_stand}
use Rattle.abc_term.specs.declared.terms.Program.{Program}
use Rattle.abc_grammar.specs.declared.lexemes.Lexeme.{Lexeme}
use Rattle.abc_grammar.specs.declared.lexemes.Lexeme.TheVariants as l
use Rattle.abc_grammar.specs.declared.limits.TheConstants.{MOST_WRITTEN}
use Rattle.abc_grammar.specs.Lexemes.{word_lexeme, symbol_lexeme, lexeme_by, lexemes_of}
use Rattle.abc_grammar.specs.Listed.{AreListed}
use Rattle.abc_grammar.specs.Literals.{IsScalar}
use Rattle.abc_grammar.specs.Accepted.{IsAccepted}
use Rattle.abc_grammar_laws.proofs.Shorts.{sets_are_short}

-- ---- sets
-- One more scalar makes a set longer by at most one.
with_short : (x : Scalar) (xs : List Scalar) → length (with_member x xs) ≤ suc (length xs)
with_short x [] = omega arith
with_short x (y ∷ ys) =
    let h = with_short x ys in
    elim (scalar_cmp x y) as (λ o. length (add_by o x y ys (with_member x ys)) ≤ suc (suc (length ys))) [
      | Less ↦ omega arith
      | Equal ↦ omega arith
      | Greater ↦ omega arith
    ]

-- The set of a list is no longer than the list.
set_short : (xs : List Scalar) → length (set_of xs) ≤ length xs
set_short [] = omega arith
set_short (x ∷ xs) = omega (arith, with_short x (set_of xs), set_short xs)

-- So few scalars are a set.
pub written_set : (xs : List Scalar) → length xs ≤ MOST_WRITTEN → IsSet (set_of xs)
written_set xs h = record { rises = rises_set xs; fits = omega (arith, set_short xs, h) }

-- What holds of the scalars of a list holds of the members of its set.
with_all : (P : Scalar → Type 0) (x : Scalar) (xs : List Scalar) → P x → All P xs → All P (with_member x xs)
with_all P x [] h k = All-cons P x [] h k
with_all P x (y ∷ ys) h k =
    let more = with_all P x ys h (All-tail P y ys k) in
    elim (scalar_cmp x y) as (λ o. All P (add_by o x y ys (with_member x ys))) [
      | Less ↦ All-cons P x (y ∷ ys) h k
      | Equal ↦ k
      | Greater ↦ All-cons P y (with_member x ys) (All-head P y ys k) more
    ]

pub set_all : (P : Scalar → Type 0) (xs : List Scalar) → All P xs → All P (set_of xs)
set_all P [] h = h
set_all P (x ∷ xs) h = with_all P x (set_of xs) (All-head P x xs h) (set_all P xs (All-tail P x xs h))

-- ---- lexemes
-- the bytes of a text are a text's
abbrev pub TextFits : Lexeme → Type 0
TextFits (l.Text bytes) = (length bytes ≤ LONGEST_TEXT) × All IsPrintable bytes
TextFits (l.Keyword k) = Unit {0}
TextFits (l.Mark m) = Unit {0}
TextFits (l.Name n) = Unit {0}
TextFits (l.Variable n) = Unit {0}
TextFits (l.Number n) = Unit {0}

abbrev pub TextsFit : List Lexeme → Type 0
TextsFit [] = Unit {0}
TextsFit (t ∷ ts) = TextFits t × TextsFit ts

-- texts are texts, and wherever scalars are listed behind a `{` they are few
pub record IsSound (ts : List Lexeme) : Type 0 where
  pub texts : TextsFit ts
  pub sets :
      (before parts after : List Lexeme) (scalars : List Scalar) → AreListed IsScalar parts scalars →
      ts ≡ before ++ l.Mark m.OpenCurly ∷ parts ++ after → length scalars ≤ MOST_WRITTEN

texts_front : (ts us : List Lexeme) → TextsFit (ts ++ us) → TextsFit ts
texts_front [] us h = tt
texts_front (t ∷ ts) us h = (h.0, texts_front ts us h.1)

texts_back : (ts us : List Lexeme) → TextsFit (ts ++ us) → TextsFit us
texts_back [] us h = h
texts_back (t ∷ ts) us h = texts_back ts us h.1

-- So are a front and a back of sound lexemes.
pub front : (ts us : List Lexeme) → IsSound (ts ++ us) → IsSound ts
front ts us h = record {
  texts = texts_front ts us h.texts;
  sets = λ before parts after scalars are e.
      h.sets before parts (after ++ us) scalars are
      (ap (λ (ws : List Lexeme). ws ++ us) e ∙ append_assoc (before ++ l.Mark m.OpenCurly ∷ parts) after us);
}

pub back : (ts us : List Lexeme) → IsSound (ts ++ us) → IsSound us
back ts us h = record {
  texts = texts_back ts us h.texts;
  sets = λ before parts after scalars are e.
      h.sets (ts ++ before) parts after scalars are
      (ap (λ (ws : List Lexeme). ts ++ ws) e ∙ sym (append_assoc ts (before ++ l.Mark m.OpenCurly ∷ parts) after)
      ∙ ap (λ (ws : List Lexeme). ws ++ after) (sym (append_assoc ts before (l.Mark m.OpenCurly ∷ parts))));
}

-- behind one lexeme
pub behind : (t : Lexeme) (ts : List Lexeme) → IsSound (t ∷ ts) → IsSound ts
behind t ts h = back (t ∷ []) ts h

-- and behind two
pub behind_two : (t u : Lexeme) (ts : List Lexeme) → IsSound (t ∷ u ∷ ts) → IsSound ts
behind_two t u ts h = back (t ∷ u ∷ []) ts h

-- between one lexeme and another
pub inside : (t : Lexeme) (ts : List Lexeme) (u : Lexeme) → IsSound (t ∷ ts ++ u ∷ []) → IsSound ts
inside t ts u h = front ts (u ∷ []) (behind t (ts ++ u ∷ []) h)

-- behind a list and one lexeme
pub right : (ts : List Lexeme) (t : Lexeme) (us : List Lexeme) → IsSound (ts ++ t ∷ us) → IsSound us
right ts t us h = behind t us (back ts (t ∷ us) h)

-- ---- the lexemes of a text
-- A byte that passes the test may stand in a text.
byte_printable : (b : ℕ) → is_printable b ≡ true → IsPrintable b
byte_printable b h =
    let parts = and_parts (nat_le 32 b) (nat_le b 126) h in
    (leb-true 32 b parts.0, leb-true b 126 parts.1)

word_fits : (words : List (List ℕ)) (word : List ℕ) (o : Option Keyword) → TextFits (word_lexeme words word o)
word_fits words word (Some k) = tt
word_fits words word None = tt

symbol_fits : (o : Option Mark) → TextFits (symbol_lexeme o)
symbol_fits (Some m) = tt
symbol_fits None = tt

lexeme_fits : (words : List (List ℕ)) (bytes : List ℕ) (t : Token) → StandsIn bytes t → (kind : TokenKind) → t.kind ≡ kind →
    TextFits (lexeme_by words bytes t kind)
lexeme_fits words bytes t h Word e = word_fits words (spelling bytes t) (keyword_at (spelling bytes t))
lexeme_fits words bytes t h Variable e = tt
lexeme_fits words bytes t h Number e = tt
lexeme_fits words bytes t h Text e = let value = (text-stands bytes t h e).1 in (value.short, λ i d lt. byte_printable _ (value.bytes i d lt))
lexeme_fits words bytes t h Symbol e = symbol_fits (mark_at (spelling bytes t))

lexemes_fit : (words : List (List ℕ)) (bytes : List ℕ) (ts : List Token) → All (StandsIn bytes) ts → TextsFit (lexemes_of words bytes ts)
lexemes_fit words bytes [] h = tt
lexemes_fit words bytes (t ∷ ts) h =
    (lexeme_fits words bytes t (All-head (StandsIn bytes) t ts h) t.kind refl, lexemes_fit words bytes ts (All-tail (StandsIn bytes) t ts h))

-- The lexemes of an accepted text are sound.
pub accepted_sound : (bytes : List ℕ) (ts : List Token) (p : Program) (h : IsAccepted bytes ts p) → IsSound h.text.lexemes
accepted_sound bytes ts p h = record {
  texts = subst TextsFit (sym h.text.scanned.meant) (lexemes_fit (names_of bytes ts) bytes ts (tokens_stand bytes ts None h.text.scanned.read));
  sets = sets_are_short bytes ts p h;
}
