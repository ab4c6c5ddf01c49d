-- What is printed of a closed predicate: no more tokens than the predicate's print has, each literal counting as one, and at most
-- one bracket more.
use Rattle.std.proofs.Common.{◌≡◌, ℕ, ◌<◌, ◌⊎◌, inl, inr, Bool, true, false, List, [], ◌∷◌, ◌++◌, length, refl, subst, arith}
use Rattle.std.specs.Prelude.{if◌then◌else◌, nat_lt, pos, negsuc}
use Rattle.std.proofs.lemmas.List.Elements.{All-head, All-tail}
use Rattle.abc_value.specs.declared.scalar.Scalar.TheVariants as s
use Rattle.abc_value.specs.declared.value.Value.{Value}
use Rattle.abc_value.specs.declared.value.Value.TheVariants as v
use Rattle.abc_value.specs.Literals.{IsValue}
use Rattle.abc_pred.specs.declared.names.Name.{Name}
use Rattle.abc_pred.specs.Terms.{Operand, Pred}
use Rattle.abc_pred.specs.Terms as t
use Rattle.abc_pred.specs.Maps.{Entries, same_name, look_up}
use Rattle.abc_pred.specs.Meaning.{close_operand, close}
use Rattle.abc_text.specs.declared.words.Mark.TheVariants as m
use Rattle.abc_text.specs.declared.words.Keyword.TheVariants as k
use Rattle.abc_grammar.specs.declared.lexemes.Lexeme.{Lexeme}
use Rattle.abc_grammar.specs.declared.lexemes.Lexeme.TheVariants as l
use Rattle.abc_grammar.specs.Sizes.{Free, Behind, spot_behind}
use Rattle.abc_printed.specs.Parts.{Part, Token, Space, lexemes}
use Rattle.abc_printed.specs.Forms.{spaced, literal_parts, operand_grade, operand_parts, rounded, pred_grade, pred_parts, squared}
use Rattle.abc_printed.specs.Printable.{OperandHasValues, PredHasValues}
use Rattle.abc_printed_limits.specs.Within.{HoldsValues}
use Rattle.abc_printed_limits.proofs.Depths.{Plain, round, square}
use Rattle.abc_printed_limits.proofs.Literals.{Flat, flat_none, flat_cons}
use Rattle.abc_printed_limits.proofs.Closes.{Closes, closes_none, closes_space, closes_cons, closes_inside, closes_sides, literal_one, closes_literal}

-- ---- operands
-- a literal is of at least one token
literal_some : (x : Value) → 0 < length (lexemes (literal_parts x))
literal_some (v.Scalar (s.Number (pos n))) = omega arith
literal_some (v.Scalar (s.Number (negsuc n))) = omega arith
literal_some (v.Scalar (s.Text bytes)) = omega arith
literal_some (v.Scalar (s.Truth true)) = omega arith
literal_some (v.Scalar (s.Truth false)) = omega arith
literal_some (v.Set xs) = omega arith
literal_some v.Nothing = omega arith

-- a literal in the place of tokens without brackets
closes_flat : (ps : List Part) (x : Value) → Flat (lexemes ps) → 0 < length (lexemes ps) → Closes Free Behind ps (literal_parts x)
closes_flat ps x h some = closes_literal ps x h.closed some

-- in round brackets, where the grade of both asks for them
rounded_closes : (asked grade new : ℕ) {ps qs : List Part} → grade ≡ new → Closes Free Behind ps qs →
    Closes Free Behind (rounded asked grade ps) (rounded asked new qs)
rounded_closes asked grade new {ps} {qs} e h =
    subst (λ (g : ℕ). Closes Free Behind (rounded asked grade ps) (rounded asked g qs)) e (by (nat_lt grade asked))
  where
    by : (b : Bool) →
        Closes Free Behind (if b then Token (l.Mark m.OpenRound) ∷ ps ++ Token (l.Mark m.CloseRound) ∷ [] else ps)
        (if b then Token (l.Mark m.OpenRound) ∷ qs ++ Token (l.Mark m.CloseRound) ∷ [] else qs)
    by true = closes_inside (l.Mark m.OpenRound) (l.Mark m.CloseRound) round refl refl h
    by false = h

module _ (own vars : Entries) where
  -- a closed operand has the grade of the operand
  same_grade : (a : Operand) → operand_grade a ≡ operand_grade (close_operand a own vars)
  same_grade (t.Literal x) = refl
  same_grade (t.Attr a) = refl
  same_grade (t.This a) = refl
  same_grade (t.Var x) = refl
  same_grade (t.Add a b) = refl
  same_grade (t.Sub a b) = refl
  same_grade (t.Mul a b) = refl
  same_grade (t.Size a) = refl
  same_grade (t.Free a) = refl

  -- an operand at a place that asks so much
  abbrev Placed : ℕ → Operand → Type 0
  Placed asked a =
      Closes Free Behind (rounded asked (operand_grade a) (operand_parts a))
      (rounded asked (operand_grade (close_operand a own vars)) (operand_parts (close_operand a own vars)))

  -- it has brackets there where the operand has
  place : (asked : ℕ) (a : Operand) → Closes Free Behind (operand_parts a) (operand_parts (close_operand a own vars)) → Placed asked a
  place asked a h = rounded_closes asked (operand_grade a) (operand_grade (close_operand a own vars)) (same_grade a) h

  -- What is printed of a closed operand.
  operand_closes : (a : Operand) → Closes Free Behind (operand_parts a) (operand_parts (close_operand a own vars))
  operand_closes (t.Literal x) = let one = literal_one x in closes_literal (literal_parts x) x one.closed (literal_some x)
  operand_closes (t.Attr a) = closes_cons (l.Name a) (λ n. refl, refl) refl (closes_none Behind)
  operand_closes (t.This a) =
      closes_flat (operand_parts (t.This a)) (look_up own a)
      (flat_cons (l.Keyword k.This) _ (λ n. refl, refl) (flat_cons (l.Mark m.Dot) _ (λ n. refl, refl)
      (flat_cons (l.Name a) [] (λ n. refl, refl) flat_none)))
      (omega arith)
  operand_closes (t.Var x) =
      closes_flat (operand_parts (t.Var x)) (look_up vars x) (flat_cons (l.Variable x) [] (λ n. refl, refl) flat_none) (omega arith)
  operand_closes (t.Add a b) =
      closes_sides (l.Mark m.Plus) (λ n. refl, refl) refl (place 0 a (operand_closes a)) (place 1 b (operand_closes b))
  operand_closes (t.Sub a b) =
      closes_sides (l.Mark m.Minus) (λ n. refl, refl) refl (place 0 a (operand_closes a)) (place 1 b (operand_closes b))
  operand_closes (t.Mul a b) =
      closes_sides (l.Mark m.Star) (λ n. refl, refl) refl (place 1 a (operand_closes a)) (place 2 b (operand_closes b))
  operand_closes (t.Size a) =
      closes_cons (l.Keyword k.Size) (λ n. refl, refl) refl
      (closes_inside (l.Mark m.OpenRound) (l.Mark m.CloseRound) round refl refl (operand_closes a))
  operand_closes (t.Free a) =
      closes_cons (l.Keyword k.Free) (λ n. refl, refl) refl
      (closes_inside (l.Mark m.OpenRound) (l.Mark m.CloseRound) round refl refl (operand_closes a))

-- ---- predicates
-- A predicate ends where an operand may have ended, or not.
abbrev pub PredCloses : List Part → List Part → Type 0
PredCloses ps qs = Closes Free Behind ps qs ⊎ Closes Free Free ps qs

-- in square brackets, where the grade of both asks for them
squared_closes : (asked grade new : ℕ) {ps qs : List Part} → grade ≡ new → PredCloses ps qs →
    PredCloses (squared asked grade ps) (squared asked new qs)
squared_closes asked grade new {ps} {qs} e h =
    subst (λ (g : ℕ). PredCloses (squared asked grade ps) (squared asked g qs)) e (by (nat_lt grade asked) h)
  where
    by : (b : Bool) → PredCloses ps qs →
        PredCloses (if b then Token (l.Mark m.OpenSquare) ∷ ps ++ Token (l.Mark m.CloseSquare) ∷ [] else ps)
        (if b then Token (l.Mark m.OpenSquare) ∷ qs ++ Token (l.Mark m.CloseSquare) ∷ [] else qs)
    by true (inl i) = inr (closes_inside (l.Mark m.OpenSquare) (l.Mark m.CloseSquare) square refl refl i)
    by true (inr i) = inr (closes_inside (l.Mark m.OpenSquare) (l.Mark m.CloseSquare) square refl refl i)
    by false i = i

-- two predicates, and a word between them
sides_close : (w : Lexeme) {ps qs us vs : List Part} → Plain w → spot_behind Behind w ≡ Free → spot_behind Free w ≡ Free →
    PredCloses ps qs → PredCloses us vs → PredCloses (ps ++ spaced (Token w) ++ us) (qs ++ spaced (Token w) ++ vs)
sides_close w p e f (inl h) (inl i) = inl (closes_sides w p e h i)
sides_close w p e f (inl h) (inr i) = inr (closes_sides w p e h i)
sides_close w p e f (inr h) (inl i) = inl (closes_sides w p f h i)
sides_close w p e f (inr h) (inr i) = inr (closes_sides w p f h i)

-- behind `not`
negated : {ps qs : List Part} → PredCloses ps qs → PredCloses (Token (l.Keyword k.Not) ∷ Space ∷ ps) (Token (l.Keyword k.Not) ∷ Space ∷ qs)
negated (inl h) = inl (closes_cons (l.Keyword k.Not) (λ n. refl, refl) refl (closes_space h))
negated (inr h) = inr (closes_cons (l.Keyword k.Not) (λ n. refl, refl) refl (closes_space h))

module _ (own vars : Entries) where
  -- a closed predicate has the grade of the predicate
  same_pred_grade : (p : Pred) → pred_grade p ≡ pred_grade (close p own vars)
  same_pred_grade t.True = refl
  same_pred_grade t.False = refl
  same_pred_grade (t.Same a b) = refl
  same_pred_grade (t.Less a b) = refl
  same_pred_grade (t.Member a b) = refl
  same_pred_grade (t.Not p) = refl
  same_pred_grade (t.And p q) = refl
  same_pred_grade (t.Or p q) = refl

  -- a predicate at a place that asks so much
  place_pred : (asked : ℕ) (p : Pred) → PredCloses (pred_parts p) (pred_parts (close p own vars)) →
      PredCloses (squared asked (pred_grade p) (pred_parts p)) (squared asked (pred_grade (close p own vars)) (pred_parts (close p own vars)))
  place_pred asked p h = squared_closes asked (pred_grade p) (pred_grade (close p own vars)) (same_pred_grade p) h

  -- What is printed of a closed predicate.
  pub pred_closes : (p : Pred) → PredCloses (pred_parts p) (pred_parts (close p own vars))
  pred_closes t.True = inr (closes_cons (l.Keyword k.Tt) (λ n. refl, refl) refl (closes_none Free))
  pred_closes t.False = inr (closes_cons (l.Keyword k.Ff) (λ n. refl, refl) refl (closes_none Free))
  pred_closes (t.Same a b) = inl (closes_sides (l.Mark m.Equal) (λ n. refl, refl) refl (operand_closes own vars a) (operand_closes own vars b))
  pred_closes (t.Less a b) = inl (closes_sides (l.Mark m.Below) (λ n. refl, refl) refl (operand_closes own vars a) (operand_closes own vars b))
  pred_closes (t.Member a b) = inl (closes_sides (l.Keyword k.In) (λ n. refl, refl) refl (operand_closes own vars a) (operand_closes own vars b))
  pred_closes (t.Not p) = negated (place_pred 2 p (pred_closes p))
  pred_closes (t.And p q) =
      sides_close (l.Keyword k.And) (λ n. refl, refl) refl refl (place_pred 1 p (pred_closes p)) (place_pred 2 q (pred_closes q))
  pred_closes (t.Or p q) =
      sides_close (l.Keyword k.Or) (λ n. refl, refl) refl refl (place_pred 0 p (pred_closes p)) (place_pred 1 q (pred_closes q))

-- ---- the literals of a closed predicate are values
-- what is looked up is a value
look_up_value : (env : Entries) (n : Name) → HoldsValues env → IsValue (look_up env n)
look_up_value [] n h = tt
look_up_value (e ∷ env) n h = by (same_name e.0 n) (look_up_value env n (All-tail (λ x. IsValue x.1) e env h))
  where
    by : (b : Bool) → IsValue (look_up env n) → IsValue (if b then e.1 else look_up env n)
    by true more = All-head (λ x. IsValue x.1) e env h
    by false more = more

module _ (own vars : Entries) (owns : HoldsValues own) (holds : HoldsValues vars) where
  -- of an operand
  operand_values : (a : Operand) → OperandHasValues a → OperandHasValues (close_operand a own vars)
  operand_values (t.Literal x) h = h
  operand_values (t.Attr a) h = tt
  operand_values (t.This a) h = look_up_value own a owns
  operand_values (t.Var x) h = look_up_value vars x holds
  operand_values (t.Add a b) h = (operand_values a h.0, operand_values b h.1)
  operand_values (t.Sub a b) h = (operand_values a h.0, operand_values b h.1)
  operand_values (t.Mul a b) h = (operand_values a h.0, operand_values b h.1)
  operand_values (t.Size a) h = operand_values a h
  operand_values (t.Free a) h = operand_values a h

  -- of a predicate
  pub pred_values : (p : Pred) → PredHasValues p → PredHasValues (close p own vars)
  pred_values t.True h = tt
  pred_values t.False h = tt
  pred_values (t.Same a b) h = (operand_values a h.0, operand_values b h.1)
  pred_values (t.Less a b) h = (operand_values a h.0, operand_values b h.1)
  pred_values (t.Member a b) h = (operand_values a h.0, operand_values b h.1)
  pred_values (t.Not p) h = pred_values p h
  pred_values (t.And p q) h = (pred_values p h.0, pred_values q h.1)
  pred_values (t.Or p q) h = (pred_values p h.0, pred_values q h.1)
