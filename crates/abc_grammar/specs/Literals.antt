-- The grammar of literals: which tokens are which value.
use Rattle.std.specs.Prelude.{◌≡◌, ℕ, true, false, List, [], ◌∷◌, ◌++◌, pos, neg_ℤ}
use Rattle.abc_value.specs.declared.scalar.Scalar.{Scalar}
use Rattle.abc_value.specs.declared.scalar.Scalar.TheVariants as s
use Rattle.abc_value.specs.declared.value.Value.{Value}
use Rattle.abc_value.specs.declared.value.Value.TheVariants as v
use Rattle.abc_value.specs.Values.{fits_64}
use Rattle.abc_value.specs.Sets.{set_of}
use Rattle.abc_grammar.specs.declared.lexemes.Lexeme.{Lexeme}
use Rattle.abc_grammar.specs.declared.lexemes.Lexeme.TheVariants as l
use Rattle.abc_text.specs.declared.words.Mark.TheVariants as m
use Rattle.abc_text.specs.declared.words.Keyword.TheVariants as k
use Rattle.abc_grammar.specs.Listed.{MayBeListed}

-- scalar = [ "-" ] NUMBER | TEXT | "true" | "false"
-- The value is a number of 64 bits: so 2^63 stands only behind a sign.
pub data IsScalar : List Lexeme → Scalar → Type 0 where
  number : {n : ℕ} → fits_64 (pos n) ≡ true → IsScalar (l.Number n ∷ []) (s.Number (pos n))
  negative :
      {n : ℕ} → fits_64 (neg_ℤ (pos n)) ≡ true →
      IsScalar (l.Mark m.Minus ∷ l.Number n ∷ []) (s.Number (neg_ℤ (pos n)))
  text : {bytes : List ℕ} → IsScalar (l.Text bytes ∷ []) (s.Text bytes)
  yes : IsScalar (l.Keyword k.True ∷ []) (s.Truth true)
  no : IsScalar (l.Keyword k.False ∷ []) (s.Truth false)

-- literal = scalar | "none" | "{" [ scalar { "," scalar } ] "}"
-- A set literal is the set of its members.
pub data IsLiteral : List Lexeme → Value → Type 0 where
  scalar : {ts : List Lexeme} {x : Scalar} → IsScalar ts x → IsLiteral ts (v.Scalar x)
  nothing : IsLiteral (l.Keyword k.None ∷ []) v.Nothing
  set :
      {ts : List Lexeme} {xs : List Scalar} → MayBeListed IsScalar ts xs →
      IsLiteral (l.Mark m.OpenCurly ∷ ts ++ l.Mark m.CloseCurly ∷ []) (v.Set (set_of xs))
