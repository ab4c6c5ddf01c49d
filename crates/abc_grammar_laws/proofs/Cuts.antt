-- A list of items parted by commas is cut behind the first ones.
use Rattle.std.proofs.Common.{◌≡◌, ℕ, ◌+◌, ◌≤◌, ◌<◌, ◌⊎◌, inl, inr, List, [], ◌∷◌, ◌++◌, length, refl, ap, ◌∙◌, append_assoc, length-append, arith}
use Rattle.std.proofs.lemmas.Bool.{cases_lt}
use Rattle.abc_value.specs.declared.scalar.Scalar.{Scalar}
use Rattle.abc_grammar.specs.declared.lexemes.Lexeme.{Lexeme}
use Rattle.abc_grammar.specs.declared.lexemes.Lexeme.TheVariants as l
use Rattle.abc_text.specs.declared.words.Mark.TheVariants as m
use Rattle.abc_grammar.specs.Listed.{AreListed}
use Rattle.abc_grammar.specs.Listed as listed
use Rattle.abc_grammar.specs.Literals.{IsScalar}
use Rattle.abc_grammar.specs.Literals as lit

-- so many items, a comma, and what follows
pub record Cut {A : Type 0} (Item : List Lexeme → A → Type 0) (n : ℕ) (ts : List Lexeme) : Type 0 where
  pub front : List Lexeme
  pub back : List Lexeme
  pub items : List A
  pub whole : ts ≡ front ++ l.Mark m.Comma ∷ back
  pub are : AreListed Item front items
  pub many : length items ≡ n
  -- a token follows the comma, where each item has one
  pub some : ((us : List Lexeme) (a : A) → Item us a → 0 < length us) → 0 < length back

pub cut :
    {A : Type 0} {Item : List Lexeme → A → Type 0} {ts : List Lexeme} {items : List A} (n : ℕ) → 0 < n → AreListed Item ts items →
    n < length items → Cut Item n ts
cut n above (listed.one h) lt = absurd (omega (arith, above, lt))
cut {A} {Item} n above (listed.more {ts} {us} {items} {a} first i) lt = by (cut n above first) (cases_lt n (length items))
  where
    long : length (items ++ a ∷ []) ≡ length items + 1
    long = length-append {A = A} items (a ∷ [])

    by : (n < length items → Cut Item n ts) → (n < length items) ⊎ (length items ≤ n) → Cut Item n (ts ++ l.Mark m.Comma ∷ us)
    by more (inl below) =
        let c = more below in
        record {
          front = c.front;
          back = c.back ++ l.Mark m.Comma ∷ us;
          items = c.items;
          whole = ap (λ (xs : List Lexeme). xs ++ l.Mark m.Comma ∷ us) c.whole ∙ append_assoc c.front (l.Mark m.Comma ∷ c.back) (l.Mark m.Comma ∷ us);
          are = c.are;
          many = c.many;
          some = λ each. let t = c.some each in omega (arith, t, length-append c.back (l.Mark m.Comma ∷ us));
        }
    by more (inr le) = record {
      front = ts;
      back = us;
      items = items;
      whole = refl;
      are = first;
      many = omega (arith, le, lt, long);
      some =
          λ each. each us a i;
    }

-- the first item of a list: it is alone, or a comma follows it
pub data First {A : Type 0} (Item : List Lexeme → A → Type 0) (ts : List Lexeme) : Type 0 where
  alone : (a : A) → Item ts a → First Item ts
  with_more : (item rest : List Lexeme) (a : A) → Item item a → ts ≡ item ++ l.Mark m.Comma ∷ rest → First Item ts

pub first_of : {A : Type 0} {Item : List Lexeme → A → Type 0} {ts : List Lexeme} {items : List A} → AreListed Item ts items → First Item ts
first_of (listed.one {ts} {a} h) = alone a h
first_of {A} {Item} (listed.more {ts} {us} {items} {a} first i) = by (first_of first)
  where
    by : First Item ts → First Item (ts ++ l.Mark m.Comma ∷ us)
    by (alone b h) = with_more ts us b h refl
    by (with_more item rest b h e) =
        with_more item (rest ++ l.Mark m.Comma ∷ us) b h
        (ap (λ (xs : List Lexeme). xs ++ l.Mark m.Comma ∷ us) e ∙ append_assoc item (l.Mark m.Comma ∷ rest) (l.Mark m.Comma ∷ us))

pub scalar_some : (us : List Lexeme) (x : Scalar) → IsScalar us x → 0 < length us
scalar_some _ _ (lit.number h) = omega arith
scalar_some _ _ (lit.negative h) = omega arith
scalar_some _ _ lit.text = omega arith
scalar_some _ _ lit.yes = omega arith
scalar_some _ _ lit.no = omega arith
