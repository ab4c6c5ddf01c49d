-- The literals of a predicate that the lexemes of a text are within their limits are values.
use Rattle.std.specs.Prelude.{All, nat_le}
use Rattle.std.proofs.Common.{◌≡◌, ℕ, ◌+◌, ◌≤◌, ◌<◌, ◌⊎◌, inl, inr, true, List, [], ◌∷◌, ◌++◌, length, take, Option, Some, None, refl, sym, ap, ◌∙◌, append_assoc, length-append, leb-true, arith}
use Rattle.std.proofs.Math.Seq.{take-append_seam}
use Rattle.std.proofs.lemmas.Bool.{and_parts, cases_lt}
use Rattle.std.proofs.lemmas.List.Elements.{All-nil, All-cons, All-head, All-tail, All-push}
use Rattle.abc_value.specs.declared.scalar.Scalar.{Scalar}
use Rattle.abc_value.specs.declared.value.Value.{Value}
use Rattle.abc_value.specs.declared.value.Value.TheVariants as v
use Rattle.abc_value.specs.Sets.{set_of}
use Rattle.abc_value.specs.Text.{IsPrintable}
use Rattle.abc_value.specs.Literals as value
use Rattle.abc_cause.specs.declared.Cause.TheVariants as cause
use Rattle.abc_pred.specs.Terms.{Operand, Pred}
use Rattle.abc_text.specs.declared.words.Keyword.{Keyword}
use Rattle.abc_text.specs.declared.words.Keyword.TheVariants as k
use Rattle.abc_text.specs.declared.words.Mark.{Mark}
use Rattle.abc_text.specs.declared.words.Mark.TheVariants as m
use Rattle.abc_text.specs.declared.lexical.TokenKind.{TokenKind}
use Rattle.abc_text.specs.declared.lexical.TokenKind.TheVariants.{Word, Variable, Number, Text, Symbol}
use Rattle.abc_text.specs.declared.lexical.Token.{Token}
use Rattle.abc_text.specs.Tokens.{is_printable}
use Rattle.abc_text.specs.Words.{keyword_at, mark_at}
use Rattle.abc_text.specs.Meanings.{spelling, StandsIn}
use Rattle.abc_text.proofs.OfKind.{text-stands}
use Rattle.abc_grammar.specs.declared.limits.TheConstants.{MOST_WRITTEN}
use Rattle.abc_grammar.specs.declared.lexemes.Lexeme.{Lexeme}
use Rattle.abc_grammar.specs.declared.lexemes.Lexeme.TheVariants as l
use Rattle.abc_grammar.specs.Lexemes.{word_lexeme, symbol_lexeme, lexeme_by, lexemes_of}
use Rattle.abc_grammar.specs.Listed.{AreListed, MayBeListed}
use Rattle.abc_grammar.specs.Listed as listed
use Rattle.abc_grammar.specs.Literals.{IsScalar, IsLiteral}
use Rattle.abc_grammar.specs.Literals as lit
use Rattle.abc_grammar.specs.Operands.{IsOperand, IsProduct, IsAtom}
use Rattle.abc_grammar.specs.Operands as o
use Rattle.abc_grammar.specs.Preds.{IsPred, IsBoth, IsTest}
use Rattle.abc_grammar.specs.Preds as p
use Rattle.abc_grammar.specs.Limits.{BeginsExtraToken}
use Rattle.abc_grammar.specs.Refusals.{IsSomePred, IsWithin}
use Rattle.abc_grammar_laws.proofs.Cuts.{Cut, cut, scalar_some}
use Rattle.abc_printed.specs.Printable.{OperandHasValues, PredHasValues}
use Rattle.abc_printed_laws.proofs.Sound.{TextFits, TextsFit, IsSound, written_set, set_all, front, back, behind, inside, right}

-- ---- sound lexemes have literals that are values
-- What holds of each item holds of all listed ones,
listed_good :
    {A : Type 0} {Item : List Lexeme → A → Type 0} (Good : A → Type 0) →
    ((us : List Lexeme) (a : A) → Item us a → IsSound us → Good a) →
    {ts : List Lexeme} {items : List A} → AreListed Item ts items → IsSound ts → All Good items
listed_good Good each (listed.one {ts} {a} h) s = All-cons Good a [] (each ts a h s) (All-nil Good)
listed_good Good each (listed.more {ts} {us} {items} {a} h i) s =
    All-push Good items a (listed_good Good each h (front ts (l.Mark m.Comma ∷ us) s))
    (each us a i (right ts (l.Mark m.Comma) us s))

-- so it does of scalars,
scalar_has : (ts : List Lexeme) (x : Scalar) → IsScalar ts x → IsSound ts → value.IsScalar x
scalar_has _ _ (lit.number h) s = h
scalar_has _ _ (lit.negative h) s = h
scalar_has _ _ lit.text s = s.texts.0
scalar_has _ _ lit.yes s = tt
scalar_has _ _ lit.no s = tt

-- of the set of the scalars between `{` and `}`,
set_has : (ts : List Lexeme) (xs : List Scalar) → MayBeListed IsScalar ts xs →
    IsSound (l.Mark m.OpenCurly ∷ ts ++ l.Mark m.CloseCurly ∷ []) → value.IsValue (v.Set (set_of xs))
set_has _ _ listed.none s = (written_set [] (omega arith), All-nil value.IsScalar)
set_has ts xs (listed.some h) s =
    let inner = front ts (l.Mark m.CloseCurly ∷ []) (behind (l.Mark m.OpenCurly) (ts ++ l.Mark m.CloseCurly ∷ []) s) in (
      written_set xs (s.sets [] ts (l.Mark m.CloseCurly ∷ []) xs h refl),
      set_all value.IsScalar xs (listed_good value.IsScalar scalar_has h inner),
    )

-- of a literal,
literal_has : (ts : List Lexeme) (x : Value) → IsLiteral ts x → IsSound ts → value.IsValue x
literal_has ts _ (lit.scalar {x = x} h) s = scalar_has ts x h s
literal_has _ _ lit.nothing s = tt
literal_has _ _ (lit.set {ts} {xs} h) s = set_has ts xs h s

-- of what stands in the round brackets behind a keyword,
called : (t : Lexeme) (ts : List Lexeme) → IsSound (t ∷ l.Mark m.OpenRound ∷ ts ++ l.Mark m.CloseRound ∷ []) → IsSound ts
called t ts s =
    inside (l.Mark m.OpenRound) ts (l.Mark m.CloseRound) (behind t (l.Mark m.OpenRound ∷ ts ++ l.Mark m.CloseRound ∷ []) s)

-- of an operand,
mutual
  operand_has : {ts : List Lexeme} {a : Operand} → IsOperand ts a → IsSound ts → OperandHasValues a
  operand_has (o.product h) s = product_has h s
  operand_has (o.plus {ts} {us} h i) s =
      (operand_has h (front ts (l.Mark m.Plus ∷ us) s), product_has i (right ts (l.Mark m.Plus) us s))
  operand_has (o.minus {ts} {us} h i) s =
      (operand_has h (front ts (l.Mark m.Minus ∷ us) s), product_has i (right ts (l.Mark m.Minus) us s))

  product_has : {ts : List Lexeme} {a : Operand} → IsProduct ts a → IsSound ts → OperandHasValues a
  product_has (o.atom h) s = atom_has h s
  product_has (o.times {ts} {us} h i) s =
      (product_has h (front ts (l.Mark m.Star ∷ us) s), atom_has i (right ts (l.Mark m.Star) us s))

  atom_has : {ts : List Lexeme} {a : Operand} → IsAtom ts a → IsSound ts → OperandHasValues a
  atom_has (o.literal {ts} {v} h) s = literal_has ts v h s
  atom_has o.attribute s = tt
  atom_has o.own s = tt
  atom_has o.variable s = tt
  atom_has (o.bracketed {ts} h) s = operand_has h (inside (l.Mark m.OpenRound) ts (l.Mark m.CloseRound) s)
  atom_has (o.size {ts} h) s = operand_has h (called (l.Keyword k.Size) ts s)
  atom_has (o.free {ts} h) s = operand_has h (called (l.Keyword k.Free) ts s)

-- and of a predicate.
mutual
  pred_has : {ts : List Lexeme} {a : Pred} → IsPred ts a → IsSound ts → PredHasValues a
  pred_has (p.both h) s = both_has h s
  pred_has (p.or {ts} {us} h i) s =
      (pred_has h (front ts (l.Keyword k.Or ∷ us) s), both_has i (right ts (l.Keyword k.Or) us s))

  both_has : {ts : List Lexeme} {a : Pred} → IsBoth ts a → IsSound ts → PredHasValues a
  both_has (p.test h) s = test_has h s
  both_has (p.and {ts} {us} h i) s =
      (both_has h (front ts (l.Keyword k.And ∷ us) s), test_has i (right ts (l.Keyword k.And) us s))

  test_has : {ts : List Lexeme} {a : Pred} → IsTest ts a → IsSound ts → PredHasValues a
  test_has p.always s = tt
  test_has p.never s = tt
  test_has (p.not {ts} h) s = test_has h (behind (l.Keyword k.Not) ts s)
  test_has (p.bracketed {ts} h) s = pred_has h (inside (l.Mark m.OpenSquare) ts (l.Mark m.CloseSquare) s)
  test_has (p.same {ts} {us} h i) s =
      (operand_has h (front ts (l.Mark m.Equal ∷ us) s), operand_has i (right ts (l.Mark m.Equal) us s))
  test_has (p.below {ts} {us} h i) s =
      (operand_has h (front ts (l.Mark m.Below ∷ us) s), operand_has i (right ts (l.Mark m.Below) us s))
  test_has (p.member {ts} {us} h i) s =
      (operand_has h (front ts (l.Keyword k.In ∷ us) s), operand_has i (right ts (l.Keyword k.In) us s))

-- ---- texts of lexemes
-- A byte that passes the test may stand in a text.
byte_printable : (b : ℕ) → is_printable b ≡ true → IsPrintable b
byte_printable b h =
    let parts = and_parts (nat_le 32 b) (nat_le b 126) h in
    (leb-true 32 b parts.0, leb-true b 126 parts.1)

-- A word is no text,
word_fits : (words : List (List ℕ)) (word : List ℕ) (o : Option Keyword) → TextFits (word_lexeme words word o)
word_fits words word (Some k) = tt
word_fits words word None = tt

-- and no symbol is,
symbol_fits : (o : Option Mark) → TextFits (symbol_lexeme o)
symbol_fits (Some m) = tt
symbol_fits None = tt

-- so what a token stands for fits where it is a text,
lexeme_fits : (words : List (List ℕ)) (bytes : List ℕ) (t : Token) → StandsIn bytes t → (kind : TokenKind) → t.kind ≡ kind →
    TextFits (lexeme_by words bytes t kind)
lexeme_fits words bytes t h Word e = word_fits words (spelling bytes t) (keyword_at (spelling bytes t))
lexeme_fits words bytes t h Variable e = tt
lexeme_fits words bytes t h Number e = tt
lexeme_fits words bytes t h Text e =
    let value = (text-stands bytes t h e).1 in (value.short, λ i d lt. byte_printable _ (value.bytes i d lt))
lexeme_fits words bytes t h Symbol e = symbol_fits (mark_at (spelling bytes t))

-- and so do all.
pub lexemes_fit : (words : List (List ℕ)) (bytes : List ℕ) (ts : List Token) → All (StandsIn bytes) ts →
    TextsFit (lexemes_of words bytes ts)
lexemes_fit words bytes [] h = tt
lexemes_fit words bytes (t ∷ ts) h = (
  lexeme_fits words bytes t (All-head (StandsIn bytes) t ts h) t.kind refl,
  lexemes_fit words bytes ts (All-tail (StandsIn bytes) t ts h),
)

-- ---- set literals
module _ (all : List Lexeme) (within : IsWithin IsSomePred BeginsExtraToken all (length all)) where
  -- A lexeme behind these ones is there.
  inner : (front back : List Lexeme) → all ≡ front ++ back → 0 < length back →
      (length front < length all) × (take (length front) all ≡ front)
  inner front back e some = (
    omega (arith, ap (length {A = Lexeme}) e, length-append front back, some),
    ap (take (length front)) e ∙ take-append_seam front back,
  )

  -- No set literal is cut behind as many scalars as may be written,
  no_scalars : (before parts after : List Lexeme) → all ≡ before ++ l.Mark m.OpenCurly ∷ parts ++ after →
      ¬ Cut IsScalar MOST_WRITTEN parts
  no_scalars before parts after e c =
      let front : List Lexeme = before ++ l.Mark m.OpenCurly ∷ c.front ++ l.Mark m.Comma ∷ [] in
      let split :
      before ++ l.Mark m.OpenCurly ∷ (c.front ++ l.Mark m.Comma ∷ c.back) ++ after ≡ front ++ (c.back ++ after) =
      simp append_assoc in
      let some = c.some scalar_some in
      let here = inner front (c.back ++ after)
      (e ∙ ap (λ (ws : List Lexeme). before ++ l.Mark m.OpenCurly ∷ ws ++ after) c.whole ∙ split)
      (omega (arith, some, length-append c.back after)) in
      within (length front) here.0 cause.LongSet (record {
        exists = here.0;
        before = before;
        parts = c.front;
        scalars = c.items;
        listed = c.are;
        full = c.many;
        stands = here.1;
      })

  -- so wherever scalars are listed behind a `{` they are few.
  scalars_few :
      (before parts after : List Lexeme) (scalars : List Scalar) → AreListed IsScalar parts scalars →
      all ≡ before ++ l.Mark m.OpenCurly ∷ parts ++ after → length scalars ≤ MOST_WRITTEN
  scalars_few before parts after scalars h e = by (cases_lt MOST_WRITTEN (length scalars))
    where
      by : (MOST_WRITTEN < length scalars) ⊎ (length scalars ≤ MOST_WRITTEN) → length scalars ≤ MOST_WRITTEN
      by (inl lt) = absurd (no_scalars before parts after e (cut MOST_WRITTEN (omega arith) h lt))
      by (inr le) = le

  -- So the literals of a predicate that they are are values, where their texts fit.
  pub has_values : (p : Pred) → IsPred all p → TextsFit all → PredHasValues p
  has_values p is texts = pred_has is (record { texts = texts; sets = scalars_few })
