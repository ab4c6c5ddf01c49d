-- The signs of a text's tokens and those of its lexemes are one notion.
use Rattle.std.proofs.Common.{◌≡◌, ℕ, ◌<◌, ◌^◌, ◌⊎◌, inl, inr, Bool, true, false, List, [], ◌∷◌, ◌++◌, length, Option, Some, None, refl, sym, ap, ◌∙◌, arith, length-append, append_assoc}
use Rattle.std.specs.Prelude.{map, not, ◌&&◌, if◌then◌else◌}
use Rattle.std.specs.Option.{option_map_or}
use Rattle.abc_text.specs.declared.lexical.TokenKind.{TokenKind}
use Rattle.abc_text.specs.declared.lexical.TokenKind.TheVariants.{Word, Variable, Number, Text, Symbol}
use Rattle.abc_text.specs.declared.lexical.Before.{Before}
use Rattle.abc_text.specs.declared.lexical.Before.TheVariants.{Open, Operand, Sign}
use Rattle.abc_text.specs.declared.lexical.Token.{Token}
use Rattle.abc_text.specs.declared.lexical.Fault.{Fault}
use Rattle.abc_text.specs.Tokens as text
use Rattle.abc_text.specs.Tokens.{stands_after, Reads}
use Rattle.abc_text.specs.Words.{keyword_at, mark_at, is_literal, closes_operand, is_dash}
use Rattle.abc_text.specs.Meanings.{spelling, number_of, signs_from}
use Rattle.abc_text.specs.Laws as tokens
use Rattle.abc_text.proofs.Numbers.{numbers_fit}
use Rattle.abc_grammar.specs.declared.lexemes.Lexeme.{Lexeme}
use Rattle.abc_grammar.specs.declared.lexemes.Lexeme.TheVariants as l
use Rattle.abc_text.specs.declared.words.Mark.{Mark}
use Rattle.abc_text.specs.declared.words.Mark.TheVariants as m
use Rattle.abc_text.specs.declared.words.Keyword.{Keyword}
use Rattle.abc_text.specs.declared.words.Keyword.TheVariants as k
use Rattle.abc_grammar.specs.Lexemes.{word_lexeme, symbol_lexeme, lexeme_by, lexeme_of, lexemes_of}
use Rattle.abc_grammar.specs.Sizes.{ends_operand, is_minus}
use Rattle.abc_grammar.specs.Plain.{PlainProgram}
use Rattle.abc_grammar.specs.Programs.{IsProgram}
use Rattle.abc_grammar.specs.SignLaws.{signs, program_signs}
use Rattle.abc_grammar.specs.TokenSigns.{EndsWithSign, EndsWithMinus, SignsAreOne}
use Rattle.abc_grammar.proofs.Signs.{signs-append, signs_are_of_literals}

-- ---- one token
keyword_ends : (k : Keyword) → ends_operand (l.Keyword k) ≡ is_literal k
keyword_ends k.Abc = refl
keyword_ends k.And = refl
keyword_ends k.Comp = refl
keyword_ends k.Def = refl
keyword_ends k.False = refl
keyword_ends k.Ff = refl
keyword_ends k.Free = refl
keyword_ends k.In = refl
keyword_ends k.None = refl
keyword_ends k.Not = refl
keyword_ends k.Or = refl
keyword_ends k.Run = refl
keyword_ends k.Set = refl
keyword_ends k.Show = refl
keyword_ends k.Size = refl
keyword_ends k.This = refl
keyword_ends k.True = refl
keyword_ends k.Tt = refl
keyword_ends k.Union = refl
keyword_ends k.When = refl
keyword_ends k.Without = refl

word_ends : (words : List (List ℕ)) (word : List ℕ) (o : Option Keyword) → ends_operand (word_lexeme words word o) ≡ option_map_or is_literal o true
word_ends words word (Some k) = keyword_ends k
word_ends words word None = refl

word_minus : (words : List (List ℕ)) (word : List ℕ) (o : Option Keyword) → is_minus (word_lexeme words word o) ≡ false
word_minus words word (Some k) = refl
word_minus words word None = refl

mark_ends : (m : Mark) → ends_operand (l.Mark m) ≡ closes_operand m
mark_ends m.OpenRound = refl
mark_ends m.CloseRound = refl
mark_ends m.OpenCurly = refl
mark_ends m.CloseCurly = refl
mark_ends m.OpenSquare = refl
mark_ends m.CloseSquare = refl
mark_ends m.Semicolon = refl
mark_ends m.Comma = refl
mark_ends m.Dot = refl
mark_ends m.At = refl
mark_ends m.Question = refl
mark_ends m.Plus = refl
mark_ends m.Minus = refl
mark_ends m.Star = refl
mark_ends m.Bar = refl
mark_ends m.Below = refl
mark_ends m.Equal = refl
mark_ends m.Becomes = refl

mark_minus : (m : Mark) → is_minus (l.Mark m) ≡ is_dash m
mark_minus m.OpenRound = refl
mark_minus m.CloseRound = refl
mark_minus m.OpenCurly = refl
mark_minus m.CloseCurly = refl
mark_minus m.OpenSquare = refl
mark_minus m.CloseSquare = refl
mark_minus m.Semicolon = refl
mark_minus m.Comma = refl
mark_minus m.Dot = refl
mark_minus m.At = refl
mark_minus m.Question = refl
mark_minus m.Plus = refl
mark_minus m.Minus = refl
mark_minus m.Star = refl
mark_minus m.Bar = refl
mark_minus m.Below = refl
mark_minus m.Equal = refl
mark_minus m.Becomes = refl

symbol_ends : (o : Option Mark) → ends_operand (symbol_lexeme o) ≡ option_map_or closes_operand o false
symbol_ends (Some m) = mark_ends m
symbol_ends None = refl

symbol_minus : (o : Option Mark) → is_minus (symbol_lexeme o) ≡ option_map_or is_dash o false
symbol_minus (Some m) = mark_minus m
symbol_minus None = refl

ends_by : (words : List (List ℕ)) (bytes : List ℕ) (t : Token) (kind : TokenKind) → ends_operand (lexeme_by words bytes t kind)
    ≡ text.ends_operand kind (spelling bytes t)
ends_by words bytes t Word = word_ends words (spelling bytes t) (keyword_at (spelling bytes t))
ends_by words bytes t Variable = refl
ends_by words bytes t Number = refl
ends_by words bytes t Text = refl
ends_by words bytes t Symbol = symbol_ends (mark_at (spelling bytes t))

minus_by : (words : List (List ℕ)) (bytes : List ℕ) (t : Token) (kind : TokenKind) → is_minus (lexeme_by words bytes t kind) ≡ text.is_minus kind
    (spelling bytes t)
minus_by words bytes t Word = word_minus words (spelling bytes t) (keyword_at (spelling bytes t))
minus_by words bytes t Variable = refl
minus_by words bytes t Number = refl
minus_by words bytes t Text = refl
minus_by words bytes t Symbol = symbol_minus (mark_at (spelling bytes t))

-- ---- all tokens
-- the token before may end an operand
abbrev behind : Before → Bool
behind Open = false
behind Operand = true
behind Sign = false

behind_after : (before : Before) (kind : TokenKind) (word : List ℕ) → behind (stands_after before kind word) ≡ text.ends_operand kind word
unfolding stands_after
behind_after before kind word = by (text.ends_operand kind word) (text.is_sign before kind word)
  where
    by : (b c : Bool) → behind (if b then Operand else (if c then Sign else Open)) ≡ b
    by true c = refl
    by false true = refl
    by false false = refl

and_true : (b : Bool) → (b && true) ≡ b
and_true true = refl
and_true false = refl

and_false : (b : Bool) → (b && false) ≡ false
and_false true = refl
and_false false = refl

sign_same : (before : Before) (kind : TokenKind) (word : List ℕ) → (text.is_minus kind word && not (behind before)) ≡ text.is_sign before kind word
sign_same Open kind word = and_true (text.is_minus kind word)
sign_same Operand kind word = and_false (text.is_minus kind word)
sign_same Sign kind word = and_true (text.is_minus kind word)

same_signs : (words : List (List ℕ)) (bytes : List ℕ) (before : Before) (ts : List Token) → signs (behind before) (lexemes_of words bytes ts)
    ≡ signs_from before bytes ts
same_signs words bytes before [] = refl
same_signs words bytes before (t ∷ ts) =
    let word = spelling bytes t in
    let here = ap (λ (b : Bool). b && not (behind before)) (minus_by words bytes t t.kind) ∙ sign_same before t.kind word in
    let flag : ends_operand (lexeme_of words bytes t) ≡ behind (stands_after before t.kind word) = ends_by words bytes t t.kind ∙ sym
    (behind_after before t.kind word) in
    let rest = ap (λ (b : Bool). signs b (lexemes_of words bytes ts)) flag ∙ same_signs words bytes (stands_after before t.kind word) ts in
    λ i. here i ∷ rest i

-- ---- 2^63
-- a list that is made from another is cut where the other is
pub record Cut {A B : Type 0} (f : A → B) (xs : List A) (front back : List B) (y : B) : Type 0 where
  pub before : List A
  pub after : List A
  pub item : A
  pub whole : xs ≡ before ++ item ∷ after
  pub front_is : map f before ≡ front
  pub item_is : f item ≡ y

no_cut : {B : Type 0} (front back : List B) (y : B) → [] ≡ front ++ y ∷ back → ⊥
no_cut [] back y e = cc
no_cut (x ∷ front) back y e = cc

cut_at : {A B : Type 0} (f : A → B) (xs : List A) (front back : List B) (y : B) → map f xs ≡ front ++ y ∷ back → Cut f xs front back y
cut_at f [] front back y e = absurd (no_cut front back y e)
cut_at f (x ∷ xs) [] back y e = record { before = []; after = xs; item = x; whole = refl; front_is = refl; item_is = cc }
cut_at {A} {B} f (x ∷ xs) (z ∷ front) back y e =
    let first : f x ≡ z = cc in
    let rest : map f xs ≡ front ++ y ∷ back = cc in
    let more = cut_at f xs front back y rest in
    record {
      before = x ∷ more.before;
      after = more.after;
      item = more.item;
      whole = ap (λ (ys : List A). x ∷ ys) more.whole;
      front_is = λ i. first i ∷ more.front_is i;
      item_is = more.item_is;
    }

word_number : (words : List (List ℕ)) (word : List ℕ) (o : Option Keyword) (n : ℕ) → word_lexeme words word o ≡ l.Number n → ⊥
word_number words word (Some k) n e = cc
word_number words word None n e = cc

symbol_number : (o : Option Mark) (n : ℕ) → symbol_lexeme o ≡ l.Number n → ⊥
symbol_number (Some m) n e = cc
symbol_number None n e = cc

number_by : (words : List (List ℕ)) (bytes : List ℕ) (t : Token) (kind : TokenKind) (n : ℕ) → lexeme_by words bytes t kind ≡ l.Number n →
    (kind ≡ Number) × (number_of bytes t ≡ n)
number_by words bytes t Word n e = absurd (word_number words (spelling bytes t) (keyword_at (spelling bytes t)) n e)
number_by words bytes t Variable n e = absurd (cc)
number_by words bytes t Number n e = (refl, cc)
number_by words bytes t Text n e = absurd (cc)
number_by words bytes t Symbol n e = absurd (symbol_number (mark_at (spelling bytes t)) n e)

numbers :
    (words : List (List ℕ)) (bytes : List ℕ) (ts : List Token) (fault : Option Fault) → Reads bytes ts fault →
    (front back : List Lexeme) (n : ℕ) → lexemes_of words bytes ts ≡ front ++ l.Number n ∷ back → (n < 2 ^ 63) ⊎ ((n ≡ 2 ^ 63) × EndsWithSign front)
numbers words bytes ts fault h front back n e =
    let cut : Cut (lexeme_of words bytes) ts front back (l.Number n) = cut_at (lexeme_of words bytes) ts front back (l.Number n) e in
    let is = number_by words bytes cut.item cut.item.kind n cut.item_is in
    by cut.before cut.front_is (number_of bytes cut.item) is.1 (numbers_fit bytes ts fault h cut.before cut.after cut.item cut.whole is.0)
  where
    by :
        (us : List Token) → lexemes_of words bytes us ≡ front → (k : ℕ) → k ≡ n → (k < 2 ^ 63) ⊎ ((k ≡ 2 ^ 63) × tokens.EndsWithSign bytes us) →
        (n < 2 ^ 63) ⊎ ((n ≡ 2 ^ 63) × EndsWithSign front)
    by us same k is (inl lt) = inl (omega arith)
    by us same k is (inr x) = inr (omega (arith, x.0), (x.1.0, ap (signs false) (sym same) ∙ same_signs words bytes Open us ∙ x.1.1))

length-signs : (b : Bool) (ts : List Lexeme) → length (signs b ts) ≡ length ts
length-signs b [] = refl
length-signs b (t ∷ ts) = let more = length-signs (ends_operand t) ts in omega (arith, more)

greatest :
    (words : List (List ℕ)) (bytes : List ℕ) (ts : List Token) (fault : Option Fault) → Reads bytes ts fault →
    (front back : List Lexeme) → lexemes_of words bytes ts ≡ front ++ l.Number (2 ^ 63) ∷ back →
    (p : PlainProgram) (h : IsProgram (lexemes_of words bytes ts) p) → EndsWithMinus front (program_signs h)
greatest words bytes ts fault h front back e p program = by (numbers words bytes ts fault h front back (2 ^ 63) e)
  where
    by : (2 ^ 63 < 2 ^ 63) ⊎ ((2 ^ 63 ≡ 2 ^ 63) × EndsWithSign front) → EndsWithMinus front (program_signs program)
    by (inl lt) = absurd (omega arith)
    by (inr x) =
        let fs = x.1.0 in
        let gs = signs true back in
        let all : signs false (lexemes_of words bytes ts) ≡ fs ++ true ∷ false ∷ gs =
        ap (signs false) e ∙ signs-append front (l.Number (2 ^ 63) ∷ back) false ∙ ap (λ (bs : List Bool). bs ++ false ∷ gs) x.1.1
        ∙ append_assoc fs (true ∷ []) (false ∷ gs) in
        let long = ap (length {A = Bool}) x.1.1 in (
          fs,
          gs,
          sym (signs_are_of_literals.programs (lexemes_of words bytes ts) p program) ∙ all,
          omega (arith, long, length-signs false front, length-append {A = Bool} fs (true ∷ [])),
        )

pub signs_are_one : SignsAreOne
signs_are_one = record {
  ends = λ words bytes t. ends_by words bytes t t.kind;
  minus = λ words bytes t. minus_by words bytes t t.kind;
  signs = λ words bytes ts. same_signs words bytes Open ts;
  numbers = numbers;
  greatest = greatest;
}
