-- Each keyword and each symbol has one spelling, and the symbols of a text are those of the table.
use Rattle.std.proofs.Common.{◌≡◌, ℕ, Bool, true, false, List, [], ◌∷◌, length, Some, refl, sym, ap, ◌∙◌, subst, arith}
use Rattle.std.specs.Prelude.{if◌then◌else◌}
use Rattle.std.specs.Str.{bytes_eq}
use Rattle.std.proofs.lemmas.Slice.Eq.{bytes_eq-Decides}
use Rattle.abc_text.specs.declared.lexical.TokenKind.TheVariants.{Word, Variable, Number, Text, Symbol}
use Rattle.abc_text.specs.declared.lexical.Before.{Before}
use Rattle.abc_text.specs.declared.lexical.Next.{Next}
use Rattle.abc_text.specs.declared.lexical.Next.TheVariants.{End, Good, Bad}
use Rattle.abc_text.specs.declared.lexical.Token.{Token}
use Rattle.abc_text.specs.declared.words.Keyword.{Keyword}
use Rattle.abc_text.specs.declared.words.Keyword.TheVariants as k
use Rattle.abc_text.specs.declared.words.Mark.{Mark}
use Rattle.abc_text.specs.declared.words.Mark.TheVariants as m
use Rattle.abc_text.specs.Words.{keyword_rows, mark_rows, spelled_in, keyword_at, mark_at, is_mark, keyword_text, mark_text}
use Rattle.abc_text.specs.Tokens.{next}
use Rattle.abc_text.specs.Meanings.{spelling, StandsIn}
use Rattle.abc_text.specs.Laws.{WordsAreSpelled}
use Rattle.abc_text.proofs.ByKind.{by_kind}
use Rattle.abc_text.proofs.OfKind.{length-spelling}

-- ---- what is found in a table
-- each row has the spelling of what it is of
AreOwn : {A : Type 0} → (A → List ℕ) → List (A × List ℕ) → Type 0
AreOwn text [] = Unit {0}
AreOwn text (row ∷ rows) = (text row.0 ≡ row.1) × AreOwn text rows

found : {A : Type 0} (text : A → List ℕ) (rows : List (A × List ℕ)) → AreOwn text rows → (word : List ℕ) (a : A) →
    spelled_in rows word ≡ Some a → text a ≡ word
unfolding AreOwn
found text [] h word a e = cc
found {A} text (row ∷ rows) h word a e = by (bytes_eq row.1 word) refl (found text rows h.1 word a) e
  where
    by : (b : Bool) → bytes_eq row.1 word ≡ b → (spelled_in rows word ≡ Some a → text a ≡ word) →
        (if b then Some row.0 else spelled_in rows word) ≡ Some a → text a ≡ word
    by true same more e = let is : row.0 ≡ a = cc in ap text (sym is) ∙ h.0 ∙ (bytes_eq-Decides row.1 word).0 same
    by false same more e = more e

keyword_again : (k : Keyword) → keyword_at (keyword_text k) ≡ Some k
unfolding keyword_at
keyword_again k.Abc = refl
keyword_again k.And = refl
keyword_again k.Comp = refl
keyword_again k.Def = refl
keyword_again k.False = refl
keyword_again k.Ff = refl
keyword_again k.Free = refl
keyword_again k.In = refl
keyword_again k.None = refl
keyword_again k.Not = refl
keyword_again k.Or = refl
keyword_again k.Run = refl
keyword_again k.Set = refl
keyword_again k.Show = refl
keyword_again k.Size = refl
keyword_again k.This = refl
keyword_again k.True = refl
keyword_again k.Tt = refl
keyword_again k.Union = refl
keyword_again k.When = refl
keyword_again k.Without = refl

mark_again : (m : Mark) → mark_at (mark_text m) ≡ Some m
unfolding mark_at
mark_again m.OpenRound = refl
mark_again m.CloseRound = refl
mark_again m.OpenCurly = refl
mark_again m.CloseCurly = refl
mark_again m.OpenSquare = refl
mark_again m.CloseSquare = refl
mark_again m.Semicolon = refl
mark_again m.Comma = refl
mark_again m.Dot = refl
mark_again m.At = refl
mark_again m.Question = refl
mark_again m.Plus = refl
mark_again m.Minus = refl
mark_again m.Star = refl
mark_again m.Bar = refl
mark_again m.Below = refl
mark_again m.Equal = refl
mark_again m.Becomes = refl

keyword_back : (word : List ℕ) (k : Keyword) → keyword_at word ≡ Some k → keyword_text k ≡ word
unfolding AreOwn keyword_at
keyword_back = found keyword_text keyword_rows (
  refl,
  (
    refl,
    (
      refl,
      (
        refl,
        (
          refl,
          (
            refl,
            (
              refl,
              (
                refl,
                (
                  refl,
                  (
                    refl,
                    (refl, (refl, (refl, (refl, (refl, (refl, (refl, (refl, (refl, (refl, (refl, tt))))))))))),
                  ),
                ),
              ),
            ),
          ),
        ),
      ),
    ),
  ),
)

mark_back : (symbol : List ℕ) (m : Mark) → mark_at symbol ≡ Some m → mark_text m ≡ symbol
unfolding AreOwn mark_at
mark_back = found mark_text mark_rows (
  refl,
  (
    refl,
    (
      refl,
      (
        refl,
        (
          refl,
          (
            refl,
            (
              refl,
              (
                refl,
                (
                  refl,
                  (
                    refl,
                    (
                      refl,
                      (refl, (refl, (refl, (refl, (refl, (refl, (refl, tt))))))),
                    ),
                  ),
                ),
              ),
            ),
          ),
        ),
      ),
    ),
  ),
)

-- ---- symbols of a text
IfSymbol : List ℕ → Next → Type 0
IfSymbol bytes End = Unit {0}
IfSymbol bytes (Bad c) = Unit {0}
IfSymbol bytes (Good Word n) = Unit {0}
IfSymbol bytes (Good Variable n) = Unit {0}
IfSymbol bytes (Good Number n) = Unit {0}
IfSymbol bytes (Good Text n) = Unit {0}
IfSymbol bytes (Good Symbol n) = length bytes ≡ n → is_mark bytes ≡ true

no_more : (bs : List ℕ) → length bs ≡ 0 → bs ≡ []
no_more [] h = refl
no_more (b ∷ bs) h = absurd (omega arith)

one_next : (b : ℕ) (bs : List ℕ) → is_mark (b ∷ []) ≡ true → IfSymbol (b ∷ bs) (Good Symbol 1)
unfolding IfSymbol
one_next b bs h e = let none : bs ≡ [] = no_more bs (omega (arith, e)) in rw none h

two_next : (b x : ℕ) (xs : List ℕ) → is_mark (b ∷ (x ∷ [])) ≡ true → IfSymbol (b ∷ (x ∷ xs)) (Good Symbol 2)
unfolding IfSymbol
two_next b x xs h e = let none : xs ≡ [] = no_more xs (omega (arith, e)) in rw none h

symbol_next : (before : Before) (bytes : List ℕ) → IfSymbol bytes (next before bytes)
unfolding IfSymbol
symbol_next before = by_kind before IfSymbol tt (λ _ _ _. tt) (λ _ _ _. tt) (λ _ _ _. tt) (λ _ _. tt)
    (λ _ _ _ _ _. tt) one_next two_next

symbols : (bytes : List ℕ) (t : Token) → StandsIn bytes t → t.kind ≡ Symbol → is_mark (spelling bytes t) ≡ true
unfolding IfSymbol
symbols bytes t h e =
    let alone : next h.before (spelling bytes t) ≡ Good Symbol t.len = h.alone ∙ ap (λ k. Good k t.len) e in
    subst (IfSymbol (spelling bytes t)) alone (symbol_next h.before (spelling bytes t)) (length-spelling bytes t h)

pub words_are_spelled : WordsAreSpelled
words_are_spelled = record {
  keyword = keyword_again;
  keyword_back = keyword_back;
  mark = mark_again;
  mark_back = mark_back;
  symbols = symbols;
}
