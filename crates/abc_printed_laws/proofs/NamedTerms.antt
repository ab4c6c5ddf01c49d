-- A predicate's lexemes and its print name the same.
use Rattle.std.specs.Prelude.{true, false, pos, negsuc}
use Rattle.std.proofs.Common.{◌≡◌, ℕ, List, [], ◌∷◌, ◌++◌, refl, sym, ◌∙◌}
use Rattle.abc_value.specs.declared.scalar.Scalar.{Scalar}
use Rattle.abc_value.specs.declared.scalar.Scalar.TheVariants as s
use Rattle.abc_value.specs.declared.value.Value.{Value}
use Rattle.abc_value.specs.Sets.{set_of}
use Rattle.abc_pred.specs.Terms.{Operand, Expr, Pred}
use Rattle.abc_text.specs.declared.words.Mark.TheVariants as m
use Rattle.abc_text.specs.declared.words.Keyword.TheVariants as k
use Rattle.abc_grammar.specs.declared.lexemes.Lexeme.{Lexeme}
use Rattle.abc_grammar.specs.declared.lexemes.Lexeme.TheVariants as l
use Rattle.abc_grammar.specs.Listed.{MayBeListed}
use Rattle.abc_grammar.specs.Literals.{IsScalar, IsLiteral}
use Rattle.abc_grammar.specs.Literals as lit
use Rattle.abc_grammar.specs.Operands.{IsOperand, IsProduct, IsAtom}
use Rattle.abc_grammar.specs.Operands as o
use Rattle.abc_grammar.specs.Exprs.{IsExpr}
use Rattle.abc_grammar.specs.Exprs as e
use Rattle.abc_grammar.specs.Preds.{IsPred, IsBoth, IsTest}
use Rattle.abc_grammar.specs.Preds as p
use Rattle.abc_printed.specs.Parts.{Space, mark, listed}
use Rattle.abc_printed.specs.Forms.{scalar_parts, literal_parts, operand_grade, operand_parts, expr_parts, pred_grade, pred_parts}
use Rattle.abc_printed_laws.specs.Kept.{names_in}
use Rattle.abc_printed_laws.proofs.Operands.{placed}
use Rattle.abc_printed_laws.proofs.Preds.{placed as placed_pred}
use Rattle.abc_printed_laws.proofs.Names.{named, same_pieces, same_sides, names_closed, named_bracketed, names_of_all, listed_named, optional_names}

-- ---- literals name nothing
scalar_nameless : (x : Scalar) → named (scalar_parts x) ≡ []
scalar_nameless (s.Number (pos n)) = refl
scalar_nameless (s.Number (negsuc n)) = refl
scalar_nameless (s.Text bytes) = refl
scalar_nameless (s.Truth true) = refl
scalar_nameless (s.Truth false) = refl

-- So a scalar's print names what its lexemes do, nothing.
scalar_names : (ts : List Lexeme) (x : Scalar) → IsScalar ts x → named (scalar_parts x) ≡ names_in ts
scalar_names _ x (lit.number h) = refl
scalar_names _ x (lit.negative h) = scalar_nameless x
scalar_names _ x lit.text = refl
scalar_names _ x lit.yes = refl
scalar_names _ x lit.no = refl

-- Members of a set name nothing.
members_nameless : (xs : List Scalar) → named (listed scalar_parts xs) ≡ []
members_nameless xs = listed_named scalar_parts xs ∙ none xs
  where
    none : (ys : List Scalar) → names_of_all scalar_parts ys ≡ []
    none [] = refl
    none (y ∷ ys) = λ i. scalar_nameless y i ++ none ys i

-- A set's members, written in any order, name nothing.
set_names : (ts : List Lexeme) (xs ys : List Scalar) → MayBeListed IsScalar ts xs → named (listed scalar_parts ys) ≡ names_in ts
set_names ts xs ys h = members_nameless ys ∙ sym (members_nameless xs) ∙ optional_names scalar_parts scalar_names h

-- A literal's print names what its lexemes do, nothing.
pub literal_names : (ts : List Lexeme) (v : Value) → IsLiteral ts v → named (literal_parts v) ≡ names_in ts
literal_names ts _ (lit.scalar {x = x} h) = scalar_names ts x h
literal_names _ _ lit.nothing = refl
literal_names _ _ (lit.set {ts} {xs} h) =
    same_pieces (listed scalar_parts (set_of xs)) (mark m.CloseCurly ∷ []) ts (l.Mark m.CloseCurly ∷ []) (set_names ts xs (set_of xs) h) refl

-- ---- operands
-- The brackets of an operand at its place name nothing.
placed_names : (asked : ℕ) (a : Operand) (ts : List Lexeme) → named (operand_parts a) ≡ names_in ts → named (placed asked a) ≡ names_in ts
placed_names asked a ts h = named_bracketed m.OpenRound m.CloseRound asked (operand_grade a) (operand_parts a) ∙ h

-- An operand in round brackets.
called_names : (a : Operand) (ts : List Lexeme) → named (operand_parts a) ≡ names_in ts →
    named (operand_parts a ++ mark m.CloseRound ∷ []) ≡ names_in (ts ++ l.Mark m.CloseRound ∷ [])
called_names a ts h = same_pieces (operand_parts a) (mark m.CloseRound ∷ []) ts (l.Mark m.CloseRound ∷ []) h refl

mutual
  pub operand_names : {ts : List Lexeme} {a : Operand} → IsOperand ts a → named (operand_parts a) ≡ names_in ts
  operand_names (o.product h) = product_names h
  operand_names (o.plus {ts} {us} {a} {b} h i) =
      same_sides (placed 0 a) (l.Mark m.Plus) (placed 1 b) ts us (placed_names 0 a ts (operand_names h)) (placed_names 1 b us (product_names i))
  operand_names (o.minus {ts} {us} {a} {b} h i) =
      same_sides (placed 0 a) (l.Mark m.Minus) (placed 1 b) ts us (placed_names 0 a ts (operand_names h)) (placed_names 1 b us (product_names i))

  product_names : {ts : List Lexeme} {a : Operand} → IsProduct ts a → named (operand_parts a) ≡ names_in ts
  product_names (o.atom h) = atom_names h
  product_names (o.times {ts} {us} {a} {b} h i) =
      same_sides (placed 1 a) (l.Mark m.Star) (placed 2 b) ts us (placed_names 1 a ts (product_names h)) (placed_names 2 b us (atom_names i))

  atom_names : {ts : List Lexeme} {a : Operand} → IsAtom ts a → named (operand_parts a) ≡ names_in ts
  atom_names (o.literal {ts} {v} h) = literal_names ts v h
  atom_names o.attribute = refl
  atom_names o.own = refl
  atom_names o.variable = refl
  atom_names (o.bracketed {ts} h) = operand_names h ∙ sym (names_closed ts m.CloseRound)
  atom_names (o.size {ts} {a} h) = called_names a ts (operand_names h)
  atom_names (o.free {ts} {a} h) = called_names a ts (operand_names h)

-- ---- expressions
-- Two expressions in the round brackets of `union` and `without`
both_names : (a b : Expr) (ts us : List Lexeme) → named (expr_parts a) ≡ names_in ts → named (expr_parts b) ≡ names_in us →
    named (expr_parts a ++ mark m.Comma ∷ Space ∷ expr_parts b ++ mark m.CloseRound ∷ [])
    ≡ names_in (ts ++ l.Mark m.Comma ∷ us ++ l.Mark m.CloseRound ∷ [])
both_names a b ts us h i =
    same_pieces (expr_parts a ++ mark m.Comma ∷ Space ∷ expr_parts b) (mark m.CloseRound ∷ []) (ts ++ l.Mark m.Comma ∷ us) (l.Mark m.CloseRound ∷ [])
    (same_pieces (expr_parts a) (mark m.Comma ∷ Space ∷ expr_parts b) ts (l.Mark m.Comma ∷ us) h i) refl

pub expr_names : (ts : List Lexeme) (a : Expr) → IsExpr ts a → named (expr_parts a) ≡ names_in ts
expr_names ts _ (e.operand h) = operand_names h
expr_names _ _ (e.set {ts} {items} h) =
    same_pieces (listed operand_parts items) (mark m.CloseRound ∷ []) ts (l.Mark m.CloseRound ∷ [])
    (optional_names operand_parts (λ us a i. operand_names i) h) refl
expr_names _ _ (e.union {ts} {us} {a} {b} h i) = both_names a b ts us (expr_names ts a h) (expr_names us b i)
expr_names _ _ (e.without {ts} {us} {a} {b} h i) = both_names a b ts us (expr_names ts a h) (expr_names us b i)

-- ---- predicates
-- The brackets of a predicate at its place name nothing.
pred_placed : (asked : ℕ) (a : Pred) (ts : List Lexeme) → named (pred_parts a) ≡ names_in ts → named (placed_pred asked a) ≡ names_in ts
pred_placed asked a ts h = named_bracketed m.OpenSquare m.CloseSquare asked (pred_grade a) (pred_parts a) ∙ h

mutual
  pub pred_names : {ts : List Lexeme} {a : Pred} → IsPred ts a → named (pred_parts a) ≡ names_in ts
  pred_names (p.both h) = both_preds h
  pred_names (p.or {ts} {us} {a} {b} h i) =
      same_sides (placed_pred 0 a) (l.Keyword k.Or) (placed_pred 1 b) ts us (pred_placed 0 a ts (pred_names h)) (pred_placed 1 b us (both_preds i))

  both_preds : {ts : List Lexeme} {a : Pred} → IsBoth ts a → named (pred_parts a) ≡ names_in ts
  both_preds (p.test h) = test_names h
  both_preds (p.and {ts} {us} {a} {b} h i) =
      same_sides (placed_pred 1 a) (l.Keyword k.And) (placed_pred 2 b) ts us (pred_placed 1 a ts (both_preds h)) (pred_placed 2 b us (test_names i))

  test_names : {ts : List Lexeme} {a : Pred} → IsTest ts a → named (pred_parts a) ≡ names_in ts
  test_names p.always = refl
  test_names p.never = refl
  test_names (p.not {ts} {a} h) = pred_placed 2 a ts (test_names h)
  test_names (p.bracketed {ts} h) = pred_names h ∙ sym (names_closed ts m.CloseSquare)
  test_names (p.same {ts} {us} {a} {b} h i) =
      same_sides (operand_parts a) (l.Mark m.Equal) (operand_parts b) ts us (operand_names h) (operand_names i)
  test_names (p.below {ts} {us} {a} {b} h i) =
      same_sides (operand_parts a) (l.Mark m.Below) (operand_parts b) ts us (operand_names h) (operand_names i)
  test_names (p.member {ts} {us} {a} {b} h i) =
      same_sides (operand_parts a) (l.Keyword k.In) (operand_parts b) ts us (operand_names h) (operand_names i)
