-- Parts and lexemes of a predicate whose names are numbered anew.
use Rattle.std.proofs.Common.{◌≡◌, ℕ, Bool, true, false, List, [], ◌∷◌, ◌++◌, map, pos, negsuc, refl, sym, ap, ◌∙◌}
use Rattle.std.specs.Prelude.{flat_map, nat_lt, if◌then◌else◌}
use Rattle.std.proofs.lemmas.List.{map-append}
use Rattle.abc_value.specs.declared.value.Value.{Value}
use Rattle.abc_value.specs.declared.value.Value.TheVariants as v
use Rattle.abc_value.specs.declared.scalar.Scalar.{Scalar}
use Rattle.abc_value.specs.declared.scalar.Scalar.TheVariants as s
use Rattle.abc_pred.specs.declared.names.Name.{Name}
use Rattle.abc_pred.specs.Terms.{Operand, Pred}
use Rattle.abc_pred.specs.Terms as t
use Rattle.abc_pred.specs.Meaning.{IsClosedOperand, IsClosed}
use Rattle.abc_text.specs.declared.words.Mark.{Mark}
use Rattle.abc_text.specs.declared.words.Mark.TheVariants as m
use Rattle.abc_text.specs.declared.words.Keyword.TheVariants as k
use Rattle.abc_grammar.specs.declared.lexemes.Lexeme.{Lexeme}
use Rattle.abc_grammar.specs.declared.lexemes.Lexeme.TheVariants as l
use Rattle.abc_printed.specs.Parts.{Part, Token, Space, Line, mark, keyword, behind_comma, listed, bracketed, lexemes}
use Rattle.abc_printed.specs.Forms.{spaced, scalar_parts, literal_parts, operand_grade, operand_parts, rounded, pred_grade, pred_parts, squared}
use Rattle.abc_printed.specs.Printable.{OperandHasValues, PredHasValues}
use Rattle.abc_trace_preds.specs.Renaming.{renamed_operand, renamed}

module _ (r : Name → Name) where
  -- the lexeme with its name by the new number
  abbrev pub new_lexeme : Lexeme → Lexeme
  new_lexeme (l.Keyword k) = l.Keyword k
  new_lexeme (l.Mark m) = l.Mark m
  new_lexeme (l.Name n) = l.Name (r n)
  new_lexeme (l.Variable n) = l.Variable (r n)
  new_lexeme (l.Number n) = l.Number n
  new_lexeme (l.Text bytes) = l.Text bytes

  -- and the part
  abbrev pub new_part : Part → Part
  new_part (Token t) = Token (new_lexeme t)
  new_part Space = Space
  new_part Line = Line

  -- The lexemes of new parts are the new lexemes.
  pub new_lexemes : (parts : List Part) → lexemes (map new_part parts) ≡ map new_lexeme (lexemes parts)
  new_lexemes [] = refl
  new_lexemes (Token t ∷ parts) = ap (λ (ls : List Lexeme). new_lexeme t ∷ ls) (new_lexemes parts)
  new_lexemes (Space ∷ parts) = new_lexemes parts
  new_lexemes (Line ∷ parts) = new_lexemes parts

  -- ---- literals name nothing
  -- A scalar stays,
  scalar_stays : (x : Scalar) → scalar_parts x ≡ map new_part (scalar_parts x)
  scalar_stays (s.Number (pos n)) = refl
  scalar_stays (s.Number (negsuc n)) = refl
  scalar_stays (s.Text bytes) = refl
  scalar_stays (s.Truth true) = refl
  scalar_stays (s.Truth false) = refl

  -- the members of a set behind its first do,
  members_stay :
      (xs : List Scalar) →
      flat_map (behind_comma scalar_parts) xs ≡ map new_part (flat_map (behind_comma scalar_parts) xs)
  members_stay [] = refl
  members_stay (x ∷ xs) =
      let here = scalar_stays x in
      let more = members_stay xs in
      (λ i. mark m.Comma ∷ Space ∷ here i ++ more i)
      ∙ sym (map-append new_part (behind_comma scalar_parts x) (flat_map (behind_comma scalar_parts) xs))

  -- the members of a set do,
  set_stays : (xs : List Scalar) → listed scalar_parts xs ≡ map new_part (listed scalar_parts xs)
  set_stays [] = refl
  set_stays (x ∷ xs) =
      let here = scalar_stays x in
      let more = members_stay xs in
      (λ i. here i ++ more i)
      ∙ sym (map-append new_part (scalar_parts x) (flat_map (behind_comma scalar_parts) xs))

  -- and each value does.
  literal_stays : (v : Value) → literal_parts v ≡ map new_part (literal_parts v)
  literal_stays (v.Scalar x) = scalar_stays x
  literal_stays (v.Set xs) =
      let inner = set_stays xs in
      (λ i. mark m.OpenCurly ∷ inner i ++ mark m.CloseCurly ∷ [])
      ∙ sym (ap (λ (ps : List Part). mark m.OpenCurly ∷ ps)
      (map-append new_part (listed scalar_parts xs) (mark m.CloseCurly ∷ [])))
  literal_stays v.Nothing = refl

  -- ---- forms
  -- What stands in brackets is made anew inside them,
  in_brackets :
      (opener closer : Mark) (xs ys : List Part) → ys ≡ map new_part xs →
      mark opener ∷ ys ++ mark closer ∷ [] ≡ map new_part (mark opener ∷ xs ++ mark closer ∷ [])
  in_brackets opener closer xs ys e =
      ap (λ (zs : List Part). mark opener ∷ zs ++ mark closer ∷ []) e
      ∙ ap (λ (zs : List Part). mark opener ∷ zs) (sym (map-append new_part xs (mark closer ∷ [])))

  -- so it is in brackets that depend on grades,
  in_place :
      (opener closer : Mark) (asked grade : ℕ) (xs ys : List Part) → ys ≡ map new_part xs →
      bracketed opener closer asked grade ys ≡ map new_part (bracketed opener closer asked grade xs)
  in_place opener closer asked grade xs ys e = by (nat_lt grade asked)
    where
      by :
          (b : Bool) → (if b then mark opener ∷ ys ++ mark closer ∷ [] else ys)
          ≡ map new_part (if b then mark opener ∷ xs ++ mark closer ∷ [] else xs)
      by true = in_brackets opener closer xs ys e
      by false = e

  -- and two sides are made anew side by side.
  on_sides :
      (xs middle ys us vs : List Part) → us ≡ map new_part xs → middle ≡ map new_part middle →
      vs ≡ map new_part ys → us ++ middle ++ vs ≡ map new_part (xs ++ middle ++ ys)
  on_sides xs middle ys us vs e f g =
      (λ i. e i ++ f i ++ g i)
      ∙ ap (λ (zs : List Part). zs ++ map new_part ys) (sym (map-append new_part xs middle))
      ∙ sym (map-append new_part (xs ++ middle) ys)

  -- ---- operands
  -- A new number changes no grade.
  grade_stays : (a : Operand) → operand_grade (renamed_operand r a) ≡ operand_grade a
  grade_stays (t.Literal v) = refl
  grade_stays (t.Attr a) = refl
  grade_stays (t.This a) = refl
  grade_stays (t.Var x) = refl
  grade_stays (t.Add a b) = refl
  grade_stays (t.Sub a b) = refl
  grade_stays (t.Mul a b) = refl
  grade_stays (t.Size a) = refl
  grade_stays (t.Free a) = refl

  -- An operand at its place is made anew where it is alone.
  operand_place :
      (asked : ℕ) (a : Operand) → operand_parts (renamed_operand r a) ≡ map new_part (operand_parts a) →
      rounded asked (operand_grade (renamed_operand r a)) (operand_parts (renamed_operand r a))
      ≡ map new_part (rounded asked (operand_grade a) (operand_parts a))
  operand_place asked a e =
      ap (λ (grade : ℕ). rounded asked grade (operand_parts (renamed_operand r a))) (grade_stays a)
      ∙ in_place m.OpenRound m.CloseRound asked (operand_grade a) (operand_parts a)
      (operand_parts (renamed_operand r a)) e

  -- The parts of an operand that is numbered anew are its parts numbered anew.
  operand_anew : (a : Operand) → operand_parts (renamed_operand r a) ≡ map new_part (operand_parts a)
  operand_anew (t.Literal v) = literal_stays v
  operand_anew (t.Attr a) = refl
  operand_anew (t.This a) = refl
  operand_anew (t.Var x) = refl
  operand_anew (t.Add a b) =
      on_sides (rounded 0 (operand_grade a) (operand_parts a)) (spaced (mark m.Plus))
      (rounded 1 (operand_grade b) (operand_parts b)) _ _ (operand_place 0 a (operand_anew a)) refl
      (operand_place 1 b (operand_anew b))
  operand_anew (t.Sub a b) =
      on_sides (rounded 0 (operand_grade a) (operand_parts a)) (spaced (mark m.Minus))
      (rounded 1 (operand_grade b) (operand_parts b)) _ _ (operand_place 0 a (operand_anew a)) refl
      (operand_place 1 b (operand_anew b))
  operand_anew (t.Mul a b) =
      on_sides (rounded 1 (operand_grade a) (operand_parts a)) (spaced (mark m.Star))
      (rounded 2 (operand_grade b) (operand_parts b)) _ _ (operand_place 1 a (operand_anew a)) refl
      (operand_place 2 b (operand_anew b))
  operand_anew (t.Size a) =
      ap (λ (zs : List Part). keyword k.Size ∷ zs)
      (in_brackets m.OpenRound m.CloseRound (operand_parts a) (operand_parts (renamed_operand r a)) (operand_anew a))
  operand_anew (t.Free a) =
      ap (λ (zs : List Part). keyword k.Free ∷ zs)
      (in_brackets m.OpenRound m.CloseRound (operand_parts a) (operand_parts (renamed_operand r a)) (operand_anew a))

  -- ---- predicates
  -- A new number changes no grade.
  pred_grade_stays : (p : Pred) → pred_grade (renamed r p) ≡ pred_grade p
  pred_grade_stays t.True = refl
  pred_grade_stays t.False = refl
  pred_grade_stays (t.Same a b) = refl
  pred_grade_stays (t.Less a b) = refl
  pred_grade_stays (t.Member a b) = refl
  pred_grade_stays (t.Not p) = refl
  pred_grade_stays (t.And p q) = refl
  pred_grade_stays (t.Or p q) = refl

  -- A predicate at its place is made anew where it is alone.
  pred_place :
      (asked : ℕ) (p : Pred) → pred_parts (renamed r p) ≡ map new_part (pred_parts p) →
      squared asked (pred_grade (renamed r p)) (pred_parts (renamed r p))
      ≡ map new_part (squared asked (pred_grade p) (pred_parts p))
  pred_place asked p e =
      ap (λ (grade : ℕ). squared asked grade (pred_parts (renamed r p))) (pred_grade_stays p)
      ∙ in_place m.OpenSquare m.CloseSquare asked (pred_grade p) (pred_parts p) (pred_parts (renamed r p)) e

  -- The parts of a predicate that is numbered anew are its parts numbered anew.
  pub pred_anew : (p : Pred) → pred_parts (renamed r p) ≡ map new_part (pred_parts p)
  pred_anew t.True = refl
  pred_anew t.False = refl
  pred_anew (t.Same a b) =
      on_sides (operand_parts a) (spaced (mark m.Equal)) (operand_parts b) _ _ (operand_anew a) refl (operand_anew b)
  pred_anew (t.Less a b) =
      on_sides (operand_parts a) (spaced (mark m.Below)) (operand_parts b) _ _ (operand_anew a) refl (operand_anew b)
  pred_anew (t.Member a b) =
      on_sides (operand_parts a) (spaced (keyword k.In)) (operand_parts b) _ _ (operand_anew a) refl (operand_anew b)
  pred_anew (t.Not p) =
      ap (λ (zs : List Part). keyword k.Not ∷ Space ∷ zs) (pred_place 2 p (pred_anew p))
  pred_anew (t.And p q) =
      on_sides (squared 1 (pred_grade p) (pred_parts p)) (spaced (keyword k.And))
      (squared 2 (pred_grade q) (pred_parts q)) _ _ (pred_place 1 p (pred_anew p)) refl (pred_place 2 q (pred_anew q))
  pred_anew (t.Or p q) =
      on_sides (squared 0 (pred_grade p) (pred_parts p)) (spaced (keyword k.Or))
      (squared 1 (pred_grade q) (pred_parts q)) _ _ (pred_place 0 p (pred_anew p)) refl (pred_place 1 q (pred_anew q))

  -- ---- what stays
  -- An operand's literals stay values,
  operand_keeps_values : (a : Operand) → OperandHasValues a → OperandHasValues (renamed_operand r a)
  operand_keeps_values (t.Literal v) h = h
  operand_keeps_values (t.Attr a) h = tt
  operand_keeps_values (t.This a) h = tt
  operand_keeps_values (t.Var x) h = tt
  operand_keeps_values (t.Add a b) h = (operand_keeps_values a h.0, operand_keeps_values b h.1)
  operand_keeps_values (t.Sub a b) h = (operand_keeps_values a h.0, operand_keeps_values b h.1)
  operand_keeps_values (t.Mul a b) h = (operand_keeps_values a h.0, operand_keeps_values b h.1)
  operand_keeps_values (t.Size a) h = operand_keeps_values a h
  operand_keeps_values (t.Free a) h = operand_keeps_values a h

  -- and so do a predicate's.
  pub keeps_values : (p : Pred) → PredHasValues p → PredHasValues (renamed r p)
  keeps_values t.True h = tt
  keeps_values t.False h = tt
  keeps_values (t.Same a b) h = (operand_keeps_values a h.0, operand_keeps_values b h.1)
  keeps_values (t.Less a b) h = (operand_keeps_values a h.0, operand_keeps_values b h.1)
  keeps_values (t.Member a b) h = (operand_keeps_values a h.0, operand_keeps_values b h.1)
  keeps_values (t.Not p) h = keeps_values p h
  keeps_values (t.And p q) h = (keeps_values p h.0, keeps_values q h.1)
  keeps_values (t.Or p q) h = (keeps_values p h.0, keeps_values q h.1)

  -- A closed operand stays closed,
  operand_keeps_closed : (a : Operand) → IsClosedOperand a → IsClosedOperand (renamed_operand r a)
  operand_keeps_closed (t.Literal v) h = tt
  operand_keeps_closed (t.Attr a) h = tt
  operand_keeps_closed (t.This a) h = h
  operand_keeps_closed (t.Var x) h = h
  operand_keeps_closed (t.Add a b) h = (operand_keeps_closed a h.0, operand_keeps_closed b h.1)
  operand_keeps_closed (t.Sub a b) h = (operand_keeps_closed a h.0, operand_keeps_closed b h.1)
  operand_keeps_closed (t.Mul a b) h = (operand_keeps_closed a h.0, operand_keeps_closed b h.1)
  operand_keeps_closed (t.Size a) h = operand_keeps_closed a h
  operand_keeps_closed (t.Free a) h = operand_keeps_closed a h

  -- and so does a closed predicate.
  pub keeps_closed : (p : Pred) → IsClosed p → IsClosed (renamed r p)
  keeps_closed t.True h = tt
  keeps_closed t.False h = tt
  keeps_closed (t.Same a b) h = (operand_keeps_closed a h.0, operand_keeps_closed b h.1)
  keeps_closed (t.Less a b) h = (operand_keeps_closed a h.0, operand_keeps_closed b h.1)
  keeps_closed (t.Member a b) h = (operand_keeps_closed a h.0, operand_keeps_closed b h.1)
  keeps_closed (t.Not p) h = keeps_closed p h
  keeps_closed (t.And p q) h = (keeps_closed p h.0, keeps_closed q h.1)
  keeps_closed (t.Or p q) h = (keeps_closed p h.0, keeps_closed q h.1)

  -- The lexemes of a predicate that is numbered anew.
  pub lexemes_anew : (p : Pred) → lexemes (pred_parts (renamed r p)) ≡ map new_lexeme (lexemes (pred_parts p))
  lexemes_anew p = ap lexemes (pred_anew p) ∙ new_lexemes (pred_parts p)
