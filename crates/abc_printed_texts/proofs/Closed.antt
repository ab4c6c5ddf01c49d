-- The predicate of an output has literals that are values, and closing it adds no name.
use Rattle.std.proofs.Common.{ℕ, inl, inr, Bool, true, false, List, [], ◌∷◌, ◌++◌, All, pos, negsuc, subst, arith}
use Rattle.std.specs.Prelude.{flat_map, nat_lt, if◌then◌else◌}
use Rattle.std.proofs.lemmas.List.Elements.{All-nil, All-cons, All-tail}
use Rattle.abc_value.specs.declared.value.Value.{Value}
use Rattle.abc_value.specs.declared.value.Value.TheVariants as v
use Rattle.abc_value.specs.declared.scalar.Scalar.{Scalar}
use Rattle.abc_value.specs.declared.scalar.Scalar.TheVariants as s
use Rattle.abc_pred.specs.Terms.{Operand, Pred}
use Rattle.abc_pred.specs.Terms as t
use Rattle.abc_pred.specs.Maps.{Entries, look_up}
use Rattle.abc_pred.specs.Meaning.{close_operand, close}
use Rattle.abc_text.specs.declared.words.Mark.{Mark}
use Rattle.abc_text.specs.declared.words.Mark.TheVariants as m
use Rattle.abc_text.specs.declared.words.Keyword.TheVariants as k
use Rattle.abc_term.specs.Processes.{Process}
use Rattle.abc_term.specs.Processes as P
use Rattle.abc_grammar.specs.declared.lexemes.Lexeme.{Lexeme}
use Rattle.abc_grammar.specs.declared.lexemes.Lexeme.TheVariants as l
use Rattle.abc_grammar.specs.Plain.{PlainProgram}
use Rattle.abc_printed.specs.Parts.{Part, Token, Space, Line, mark, keyword, behind_comma, listed, bracketed, lexemes}
use Rattle.abc_printed.specs.Forms.{spaced, scalar_parts, literal_parts, operand_grade, operand_parts, rounded, pred_grade, pred_parts, squared}
use Rattle.abc_printed.specs.Printable.{PredHasValues, ProcessHasValues, DefinitionHasValues, ComponentHasValues, ProgramHasValues}
use Rattle.abc_printed_laws.specs.Outputs.{HasOutput, ProgramHasOutput}
use Rattle.abc_printed_texts.proofs.NamesMet.{IsNamed}

-- ---- values
-- the predicate of an output of a program whose literals are values
process_output : (A : Process) (q : Pred) → HasOutput A q → ProcessHasValues A → PredHasValues q
process_output P.Nil q o h = absurd o
process_output (P.Output es p us A) q (inl e) h = subst PredHasValues e h.1
process_output (P.Output es p us A) q (inr o) h = process_output A q o h.3
process_output (P.Input p xs us A) q o h = process_output A q o h.2
process_output (P.When p A) q o h = process_output A q o h.1
process_output (P.Choice A B) q (inl o) h = process_output A q o h.0
process_output (P.Choice A B) q (inr o) h = process_output B q o h.1
process_output (P.Par A B) q (inl o) h = process_output A q o h.0
process_output (P.Par A B) q (inr o) h = process_output B q o h.1
process_output (P.Call c) q o h = absurd o

-- And so for a whole program.
pub output_values : (p : PlainProgram) (q : Pred) → ProgramHasOutput p q → ProgramHasValues p → PredHasValues q
output_values p q (inl o) h = process_output o.1.1 q o.4 (subst DefinitionHasValues o.3 (h.definitions o.0 o.1 o.2))
output_values p q (inr o) h = process_output o.1.run q o.4 (subst ComponentHasValues o.3 (h.components o.0 o.1 o.2)).run

-- ---- names
-- each lexeme of the parts has a word at its number
abbrev pub AreNamed : List (List ℕ) → List Part → Type 0
AreNamed words [] = Unit {0}
AreNamed words (Token t ∷ rest) = IsNamed words t × AreNamed words rest
AreNamed words (Space ∷ rest) = AreNamed words rest
AreNamed words (Line ∷ rest) = AreNamed words rest

-- All lexemes of the parts, and each of the parts in turn, say the same.
from_lexemes : (words : List (List ℕ)) (parts : List Part) → All (IsNamed words) (lexemes parts) → AreNamed words parts
from_lexemes words [] h = tt
from_lexemes words (Token t ∷ rest) h = (h 0 t (omega arith), from_lexemes words rest (All-tail (IsNamed words) t (lexemes rest) h))
from_lexemes words (Space ∷ rest) h = from_lexemes words rest h
from_lexemes words (Line ∷ rest) h = from_lexemes words rest h

-- And back.
to_lexemes : (words : List (List ℕ)) (parts : List Part) → AreNamed words parts → All (IsNamed words) (lexemes parts)
to_lexemes words [] h = All-nil (IsNamed words)
to_lexemes words (Token t ∷ rest) h = All-cons (IsNamed words) t (lexemes rest) h.0 (to_lexemes words rest h.1)
to_lexemes words (Space ∷ rest) h = to_lexemes words rest h
to_lexemes words (Line ∷ rest) h = to_lexemes words rest h

module _ (words : List (List ℕ)) where
  -- Parts that stand one behind another are named where both are.
  split : (xs ys : List Part) → AreNamed words (xs ++ ys) → AreNamed words xs × AreNamed words ys
  split [] ys h = (tt, h)
  split (Token t ∷ xs) ys h = let both = split xs ys h.1 in ((h.0, both.0), both.1)
  split (Space ∷ xs) ys h = split xs ys h
  split (Line ∷ xs) ys h = split xs ys h

  -- And the other way round.
  join : (xs ys : List Part) → AreNamed words xs → AreNamed words ys → AreNamed words (xs ++ ys)
  join [] ys h g = g
  join (Token t ∷ xs) ys h g = (h.0, join xs ys h.1 g)
  join (Space ∷ xs) ys h g = join xs ys h g
  join (Line ∷ xs) ys h g = join xs ys h g

  -- A mark names nothing.
  mark_named : (m : Mark) → IsNamed words (l.Mark m)
  mark_named m = record { has = tt; numbered = tt }

  -- Where the one's lexemes have words at their numbers the other's have.
  record GoesOn (xs ys : List Part) : Type 0 where
    pub go : AreNamed words xs → AreNamed words ys

  -- Parts go on to themselves.
  same : {xs : List Part} → GoesOn xs xs
  same = record { go = λ h. h }

  -- Brackets around both change nothing.
  in_brackets :
      {xs ys : List Part} (opener closer : Mark) → GoesOn xs ys →
      GoesOn (mark opener ∷ xs ++ mark closer ∷ []) (mark opener ∷ ys ++ mark closer ∷ [])
  in_brackets {xs} {ys} opener closer f = record {
    go = λ h. (mark_named opener, join ys (mark closer ∷ []) (f.go (split xs (mark closer ∷ []) h.1).0) (mark_named closer, tt));
  }

  -- What stands in brackets, or without them, is named where the whole is.
  out_of_brackets :
      (opener closer : Mark) (b : Bool) (xs : List Part) → AreNamed words (if b then mark opener ∷ xs ++ mark closer ∷ [] else xs) → AreNamed words xs
  out_of_brackets opener closer true xs h = (split xs (mark closer ∷ []) h.1).0
  out_of_brackets opener closer false xs h = h

  -- And the whole where that is.
  into_brackets :
      (opener closer : Mark) (b : Bool) (xs : List Part) → AreNamed words xs → AreNamed words (if b then mark opener ∷ xs ++ mark closer ∷ [] else xs)
  into_brackets opener closer true xs h = (mark_named opener, join xs (mark closer ∷ []) h (mark_named closer, tt))
  into_brackets opener closer false xs h = h

  -- So each may have brackets of its own.
  in_place :
      {xs ys : List Part} (opener closer : Mark) (asked from to : ℕ) → GoesOn xs ys →
      GoesOn (bracketed opener closer asked from xs) (bracketed opener closer asked to ys)
  in_place {xs} {ys} opener closer asked from to f = record {
    go = λ h. into_brackets opener closer (nat_lt to asked) ys (f.go (out_of_brackets opener closer (nat_lt from asked) xs h));
  }

  -- Two sides go on side by side.
  on_sides : {xs ys us vs : List Part} (middle : List Part) → GoesOn xs us → GoesOn ys vs → GoesOn (xs ++ middle ++ ys) (us ++ middle ++ vs)
  on_sides {xs} {ys} {us} {vs} middle f g = record { go = go }
    where
      go : AreNamed words (xs ++ middle ++ ys) → AreNamed words (us ++ middle ++ vs)
      go h =
          let both = split (xs ++ middle) ys h in
          let front = split xs middle both.0 in
          join (us ++ middle) vs (join us middle (f.go front.0) front.1) (g.go both.1)

  -- A lexeme before both changes nothing.
  behind : {xs ys : List Part} (t : Lexeme) → GoesOn xs ys → GoesOn (Token t ∷ xs) (Token t ∷ ys)
  behind t f = record { go = λ h. (h.0, f.go h.1) }

  -- a literal names nothing
  scalar_named : (x : Scalar) → AreNamed words (scalar_parts x)
  scalar_named (s.Number (pos n)) = (record { has = tt; numbered = tt }, tt)
  scalar_named (s.Number (negsuc n)) = (record { has = tt; numbered = tt }, (record { has = tt; numbered = tt }, tt))
  scalar_named (s.Text bytes) = (record { has = tt; numbered = tt }, tt)
  scalar_named (s.Truth true) = (record { has = tt; numbered = tt }, tt)
  scalar_named (s.Truth false) = (record { has = tt; numbered = tt }, tt)

  -- Nor do the members of a set behind its first.
  members_named : (xs : List Scalar) → AreNamed words (flat_map (behind_comma scalar_parts) xs)
  members_named [] = tt
  members_named (x ∷ xs) = (mark_named m.Comma, join (scalar_parts x) (flat_map (behind_comma scalar_parts) xs) (scalar_named x) (members_named xs))

  -- Nor does a set.
  set_named : (xs : List Scalar) → AreNamed words (listed scalar_parts xs)
  set_named [] = tt
  set_named (x ∷ xs) = join (scalar_parts x) (flat_map (behind_comma scalar_parts) xs) (scalar_named x) (members_named xs)

  -- Nor does a value.
  literal_named : (v : Value) → AreNamed words (literal_parts v)
  literal_named (v.Scalar x) = scalar_named x
  literal_named (v.Set xs) =
      (mark_named m.OpenCurly, join (listed scalar_parts xs) (mark m.CloseCurly ∷ []) (set_named xs) (mark_named m.CloseCurly, tt))
  literal_named v.Nothing = (record { has = tt; numbered = tt }, tt)

  module _ (own vars : Entries) where
    -- An operand at its place goes on to the closed one.
    operand_place :
        (asked : ℕ) (a : Operand) → GoesOn (operand_parts a) (operand_parts (close_operand a own vars)) →
        GoesOn (rounded asked (operand_grade a) (operand_parts a))
        (rounded asked (operand_grade (close_operand a own vars)) (operand_parts (close_operand a own vars)))
    operand_place asked a f = in_place m.OpenRound m.CloseRound asked (operand_grade a) (operand_grade (close_operand a own vars)) f

    -- Closing an operand adds no name.
    operand_named : (a : Operand) → GoesOn (operand_parts a) (operand_parts (close_operand a own vars))
    operand_named (t.Literal v) = same
    operand_named (t.Attr a) = same
    operand_named (t.This a) = record { go = λ h. literal_named (look_up own a) }
    operand_named (t.Var x) = record { go = λ h. literal_named (look_up vars x) }
    operand_named (t.Add a b) = on_sides (spaced (mark m.Plus)) (operand_place 0 a (operand_named a)) (operand_place 1 b (operand_named b))
    operand_named (t.Sub a b) = on_sides (spaced (mark m.Minus)) (operand_place 0 a (operand_named a)) (operand_place 1 b (operand_named b))
    operand_named (t.Mul a b) = on_sides (spaced (mark m.Star)) (operand_place 1 a (operand_named a)) (operand_place 2 b (operand_named b))
    operand_named (t.Size a) = behind (l.Keyword k.Size) (in_brackets m.OpenRound m.CloseRound (operand_named a))
    operand_named (t.Free a) = behind (l.Keyword k.Free) (in_brackets m.OpenRound m.CloseRound (operand_named a))

    -- A predicate at its place goes on to the closed one.
    pred_place :
        (asked : ℕ) (p : Pred) → GoesOn (pred_parts p) (pred_parts (close p own vars)) →
        GoesOn (squared asked (pred_grade p) (pred_parts p)) (squared asked (pred_grade (close p own vars)) (pred_parts (close p own vars)))
    pred_place asked p f = in_place m.OpenSquare m.CloseSquare asked (pred_grade p) (pred_grade (close p own vars)) f

    -- Closing a predicate adds no name.
    pred_named : (p : Pred) → GoesOn (pred_parts p) (pred_parts (close p own vars))
    pred_named t.True = same
    pred_named t.False = same
    pred_named (t.Same a b) = on_sides (spaced (mark m.Equal)) (operand_named a) (operand_named b)
    pred_named (t.Less a b) = on_sides (spaced (mark m.Below)) (operand_named a) (operand_named b)
    pred_named (t.Member a b) = on_sides (spaced (keyword k.In)) (operand_named a) (operand_named b)
    pred_named (t.Not p) = record { go = (behind (l.Keyword k.Not) (pred_place 2 p (pred_named p))).go }
    pred_named (t.And p q) = on_sides (spaced (keyword k.And)) (pred_place 1 p (pred_named p)) (pred_place 2 q (pred_named q))
    pred_named (t.Or p q) = on_sides (spaced (keyword k.Or)) (pred_place 0 p (pred_named p)) (pred_place 1 q (pred_named q))

-- So the names of a closed predicate have words at their numbers where those of the predicate have.
pub closed_named :
    (words : List (List ℕ)) (own vars : Entries) (p : Pred) → All (IsNamed words) (lexemes (pred_parts p)) →
    All (IsNamed words) (lexemes (pred_parts (close p own vars)))
closed_named words own vars p h =
    to_lexemes words (pred_parts (close p own vars)) ((pred_named words own vars p).go (from_lexemes words (pred_parts p) h))
