-- The bytes of each form of operands, expressions and predicates.
use Rattle.std.proofs.Common.{◌≡◌, ℕ, ◌≤◌, List, [], ◌∷◌, ◌++◌, flat_map, map, length, codes, refl, ap, sym, ◌∙◌, append-nil, append_assoc}
use Rattle.abc_value.specs.declared.value.Value.{Value}
use Rattle.abc_value.specs.Literals.{literal}
use Rattle.abc_pred.specs.declared.names.Name.{Name}
use Rattle.abc_pred.specs.declared.syntax.Operand.{Operand as HeldOperand}
use Rattle.abc_pred.specs.declared.syntax.Expr.{Expr as HeldExpr}
use Rattle.abc_pred.specs.Terms.{Operand, Expr, Pred}
use Rattle.abc_pred.specs.Terms as t
use Rattle.abc_pred.specs.Standing.{operand_of, expr_of}
use Rattle.abc_text.specs.declared.words.Mark.TheVariants as m
use Rattle.abc_text.specs.declared.words.Keyword.TheVariants as k
use Rattle.abc_printed.specs.Parts.{Part, Space, mark, keyword, behind_comma, listed, word_at, bytes_of}
use Rattle.abc_printed.specs.Forms.{operand_grade, operand_parts, rounded, expr_parts, pred_grade, pred_parts, squared, spaced}
use Rattle.abc_printed.specs.Printed.{pred_text}
use Rattle.abc_print.specs.Bytes.{bracket, operand_bytes, operand_list, next_operand, expr_bytes, expr_list, next_expr, pred_bytes}
use Rattle.abc_print.proofs.Joined.{bytes-append, bytes-three, bytes-listed, bytes-sides, bracketed-highest, bracketed-lowest}
use Rattle.abc_print.proofs.LiteralBytes.{literals}

-- ---- operands
-- a form of the highest grade has no brackets
operand-highest :
    (words : List (List ℕ)) (asked : ℕ) (o : Operand) → operand_grade o ≡ 2 → asked ≤ 2
    → operand_bytes words asked o ≡ bytes_of words (operand_parts o)
unfolding operand_bytes
operand-highest words asked o g h =
    ap (λ grade. bytes_of words (rounded asked grade (operand_parts o))) g
    ∙ ap (bytes_of words) (bracketed-highest m.OpenRound m.CloseRound asked (operand_parts o) h)

-- nor has any where no grade is asked
operand-lowest : (words : List (List ℕ)) (o : Operand) → operand_bytes words 0 o ≡ bytes_of words (operand_parts o)
unfolding operand_bytes
operand-lowest words o = ap (bytes_of words) (bracketed-lowest m.OpenRound m.CloseRound (operand_grade o) (operand_parts o))

pub literal-bytes : (words : List (List ℕ)) (asked : ℕ) (v : Value) → asked ≤ 2 → operand_bytes words asked (t.Literal v) ≡ literal v
literal-bytes words asked v h = operand-highest words asked (t.Literal v) refl h ∙ literals words v

pub attribute-bytes : (words : List (List ℕ)) (asked : ℕ) (a : Name) → asked ≤ 2 → operand_bytes words asked (t.Attr a) ≡ word_at words a
attribute-bytes words asked a h = operand-highest words asked (t.Attr a) refl h ∙ append-nil (word_at words a)

pub own-bytes : (words : List (List ℕ)) (asked : ℕ) (a : Name) → asked ≤ 2 → operand_bytes words asked (t.This a) ≡ codes "this." ++ word_at words a
own-bytes words asked a h = operand-highest words asked (t.This a) refl h ∙ ap (λ word. codes "this." ++ word) (append-nil (word_at words a))

pub variable-bytes : (words : List (List ℕ)) (asked : ℕ) (x : Name) → asked ≤ 2 → operand_bytes words asked (t.Var x) ≡ 36 ∷ word_at words x
variable-bytes words asked x h = operand-highest words asked (t.Var x) refl h ∙ ap (λ word. 36 ∷ word) (append-nil (word_at words x))

pub sum-bytes :
    (words : List (List ℕ)) (asked : ℕ) (a b : Operand)
    → operand_bytes words asked (t.Add a b)
    ≡ bracket 40 0 asked ++ (operand_bytes words 0 a ++ (codes " + " ++ (operand_bytes words 1 b ++ bracket 41 0 asked)))
unfolding operand_bytes
sum-bytes words asked a b =
    bytes-sides words m.OpenRound m.CloseRound (mark m.Plus) asked 0
    (rounded 0 (operand_grade a) (operand_parts a)) (rounded 1 (operand_grade b) (operand_parts b))

pub difference-bytes :
    (words : List (List ℕ)) (asked : ℕ) (a b : Operand)
    → operand_bytes words asked (t.Sub a b)
    ≡ bracket 40 0 asked ++ (operand_bytes words 0 a ++ (codes " - " ++ (operand_bytes words 1 b ++ bracket 41 0 asked)))
unfolding operand_bytes
difference-bytes words asked a b =
    bytes-sides words m.OpenRound m.CloseRound (mark m.Minus) asked 0
    (rounded 0 (operand_grade a) (operand_parts a)) (rounded 1 (operand_grade b) (operand_parts b))

pub product-bytes :
    (words : List (List ℕ)) (asked : ℕ) (a b : Operand)
    → operand_bytes words asked (t.Mul a b)
    ≡ bracket 40 1 asked ++ (operand_bytes words 1 a ++ (codes " * " ++ (operand_bytes words 2 b ++ bracket 41 1 asked)))
unfolding operand_bytes
product-bytes words asked a b =
    bytes-sides words m.OpenRound m.CloseRound (mark m.Star) asked 1
    (rounded 1 (operand_grade a) (operand_parts a)) (rounded 2 (operand_grade b) (operand_parts b))

-- a word, and an operand in round brackets
called :
    (words : List (List ℕ)) (front : List Part) (a : Operand)
    → bytes_of words (front ++ operand_parts a ++ mark m.CloseRound ∷ []) ≡ bytes_of words front ++ (operand_bytes words 0 a ++ 41 ∷ [])
called words front a =
    bytes-three words front (operand_parts a) (mark m.CloseRound ∷ [])
    ∙ ap (λ inner. bytes_of words front ++ (inner ++ 41 ∷ [])) (sym (operand-lowest words a))

pub size-bytes :
    (words : List (List ℕ)) (asked : ℕ) (a : Operand) → asked ≤ 2
    → operand_bytes words asked (t.Size a) ≡ codes "size(" ++ (operand_bytes words 0 a ++ 41 ∷ [])
size-bytes words asked a h = operand-highest words asked (t.Size a) refl h ∙ called words (keyword k.Size ∷ mark m.OpenRound ∷ []) a

pub free-bytes :
    (words : List (List ℕ)) (asked : ℕ) (a : Operand) → asked ≤ 2
    → operand_bytes words asked (t.Free a) ≡ codes "free(" ++ (operand_bytes words 0 a ++ 41 ∷ [])
free-bytes words asked a h = operand-highest words asked (t.Free a) refl h ∙ called words (keyword k.Free ∷ mark m.OpenRound ∷ []) a

pub ruleset operand_forms = (
  append_assoc,
  literal-bytes,
  attribute-bytes,
  own-bytes,
  variable-bytes,
  sum-bytes,
  difference-bytes,
  product-bytes,
  size-bytes,
  free-bytes,
)

pub operand_list-nil : (words : List (List ℕ)) (xs : List HeldOperand) → length xs ≡ 0 → operand_list words (map operand_of xs) ≡ []
unfolding operand_list
operand_list-nil words [] h = refl
operand_list-nil words (x ∷ xs) h = cc

pub operand_list-cons :
    (words : List (List ℕ)) (o : HeldOperand) (os : List HeldOperand)
    → operand_list words (operand_of o ∷ map operand_of os)
    ≡ operand_bytes words 0 (operand_of o) ++ flat_map (λ x. next_operand words (operand_of x)) os
unfolding operand_list next_operand
operand_list-cons words o os =
    bytes-listed words operand_parts operand_of o os
    ∙ ap (λ first. first ++ flat_map (λ x. bytes_of words (behind_comma operand_parts (operand_of x))) os) (sym (operand-lowest words (operand_of o)))

pub next_operand-bytes : (words : List (List ℕ)) (o : Operand) → next_operand words o ≡ 44 ∷ 32 ∷ operand_bytes words 0 o
unfolding next_operand
next_operand-bytes words o = ap (λ text. 44 ∷ 32 ∷ text) (sym (operand-lowest words o))

pub ruleset operand_lists = (append_assoc, append-nil, operand_list-nil, operand_list-cons, next_operand-bytes)

-- ---- expressions
pub plain-bytes : (words : List (List ℕ)) (a : Operand) → expr_bytes words (t.Plain a) ≡ operand_bytes words 0 a
unfolding expr_bytes
plain-bytes words a = sym (operand-lowest words a)

pub set-bytes :
    (words : List (List ℕ)) (items : List Operand) → expr_bytes words (t.SetOf items) ≡ codes "set(" ++ (operand_list words items ++ 41 ∷ [])
unfolding expr_bytes operand_list
set-bytes words items = bytes-append words (keyword k.Set ∷ mark m.OpenRound ∷ listed operand_parts items) (mark m.CloseRound ∷ [])

-- a word, and two expressions in round brackets
called_on_two :
    (words : List (List ℕ)) (front : List Part) (a b : Expr)
    → bytes_of words (front ++ expr_parts a ++ mark m.Comma ∷ Space ∷ expr_parts b ++ mark m.CloseRound ∷ [])
    ≡ bytes_of words front ++ (expr_bytes words a ++ (codes ", " ++ (expr_bytes words b ++ 41 ∷ [])))
unfolding expr_bytes
called_on_two words front a b =
    bytes-append words (front ++ expr_parts a ++ mark m.Comma ∷ Space ∷ expr_parts b) (mark m.CloseRound ∷ [])
    ∙ ap (λ text. text ++ 41 ∷ []) (bytes-three words front (expr_parts a) (mark m.Comma ∷ Space ∷ expr_parts b))
    ∙ append_assoc (bytes_of words front) (bytes_of words (expr_parts a) ++ (44 ∷ 32 ∷ bytes_of words (expr_parts b))) (41 ∷ [])
    ∙ ap (λ rest. bytes_of words front ++ rest) (append_assoc (bytes_of words (expr_parts a)) (44 ∷ 32 ∷ bytes_of words (expr_parts b)) (41 ∷ []))

pub union-bytes :
    (words : List (List ℕ)) (a b : Expr)
    → expr_bytes words (t.Union a b) ≡ codes "union(" ++ (expr_bytes words a ++ (codes ", " ++ (expr_bytes words b ++ 41 ∷ [])))
unfolding expr_bytes
union-bytes words a b = called_on_two words (keyword k.Union ∷ mark m.OpenRound ∷ []) a b

pub without-bytes :
    (words : List (List ℕ)) (a b : Expr)
    → expr_bytes words (t.Without a b) ≡ codes "without(" ++ (expr_bytes words a ++ (codes ", " ++ (expr_bytes words b ++ 41 ∷ [])))
unfolding expr_bytes
without-bytes words a b = called_on_two words (keyword k.Without ∷ mark m.OpenRound ∷ []) a b

pub ruleset expr_forms = (append_assoc, plain-bytes, set-bytes, union-bytes, without-bytes)

pub expr_list-nil : (words : List (List ℕ)) (xs : List HeldExpr) → length xs ≡ 0 → expr_list words (map expr_of xs) ≡ []
unfolding expr_list
expr_list-nil words [] h = refl
expr_list-nil words (x ∷ xs) h = cc

pub expr_list-cons :
    (words : List (List ℕ)) (e : HeldExpr) (es : List HeldExpr)
    → expr_list words (expr_of e ∷ map expr_of es) ≡ expr_bytes words (expr_of e) ++ flat_map (λ x. next_expr words (expr_of x)) es
unfolding expr_list next_expr expr_bytes
expr_list-cons words e es = bytes-listed words expr_parts expr_of e es

pub next_expr-bytes : (words : List (List ℕ)) (e : Expr) → next_expr words e ≡ 44 ∷ 32 ∷ expr_bytes words e
unfolding next_expr expr_bytes
next_expr-bytes words e = refl

pub ruleset expr_lists = (append_assoc, append-nil, expr_list-nil, expr_list-cons, next_expr-bytes)

-- ---- predicates
-- a form of the highest grade has no brackets
pred-highest :
    (words : List (List ℕ)) (asked : ℕ) (p : Pred) → pred_grade p ≡ 2 → asked ≤ 2
    → pred_bytes words asked p ≡ bytes_of words (pred_parts p)
unfolding pred_bytes
pred-highest words asked p g h =
    ap (λ grade. bytes_of words (squared asked grade (pred_parts p))) g
    ∙ ap (bytes_of words) (bracketed-highest m.OpenSquare m.CloseSquare asked (pred_parts p) h)

-- nor has any where no grade is asked: the whole predicate
pub pred-lowest : (words : List (List ℕ)) (p : Pred) → pred_bytes words 0 p ≡ pred_text words p
unfolding pred_bytes
pred-lowest words p = ap (bytes_of words) (bracketed-lowest m.OpenSquare m.CloseSquare (pred_grade p) (pred_parts p))

pub truth-bytes : (words : List (List ℕ)) (asked : ℕ) → asked ≤ 2 → pred_bytes words asked t.True ≡ codes "tt"
truth-bytes words asked h = pred-highest words asked t.True refl h

pub falsehood-bytes : (words : List (List ℕ)) (asked : ℕ) → asked ≤ 2 → pred_bytes words asked t.False ≡ codes "ff"
falsehood-bytes words asked h = pred-highest words asked t.False refl h

-- two operands, and what stands between them
tested :
    (words : List (List ℕ)) (between : Part) (a b : Operand)
    → bytes_of words (operand_parts a ++ spaced between ++ operand_parts b)
    ≡ operand_bytes words 0 a ++ (bytes_of words (spaced between) ++ operand_bytes words 0 b)
tested words between a b =
    bytes-three words (operand_parts a) (spaced between) (operand_parts b)
    ∙ ap (λ left. left ++ (bytes_of words (spaced between) ++ bytes_of words (operand_parts b))) (sym (operand-lowest words a))
    ∙ ap (λ right. operand_bytes words 0 a ++ (bytes_of words (spaced between) ++ right)) (sym (operand-lowest words b))

pub same-bytes :
    (words : List (List ℕ)) (asked : ℕ) (a b : Operand) → asked ≤ 2
    → pred_bytes words asked (t.Same a b) ≡ operand_bytes words 0 a ++ (codes " = " ++ operand_bytes words 0 b)
same-bytes words asked a b h = pred-highest words asked (t.Same a b) refl h ∙ tested words (mark m.Equal) a b

pub less-bytes :
    (words : List (List ℕ)) (asked : ℕ) (a b : Operand) → asked ≤ 2
    → pred_bytes words asked (t.Less a b) ≡ operand_bytes words 0 a ++ (codes " < " ++ operand_bytes words 0 b)
less-bytes words asked a b h = pred-highest words asked (t.Less a b) refl h ∙ tested words (mark m.Below) a b

pub member-bytes :
    (words : List (List ℕ)) (asked : ℕ) (a b : Operand) → asked ≤ 2
    → pred_bytes words asked (t.Member a b) ≡ operand_bytes words 0 a ++ (codes " in " ++ operand_bytes words 0 b)
member-bytes words asked a b h = pred-highest words asked (t.Member a b) refl h ∙ tested words (keyword k.In) a b

pub not-bytes : (words : List (List ℕ)) (asked : ℕ) (p : Pred) → asked ≤ 2 → pred_bytes words asked (t.Not p) ≡ codes "not " ++ pred_bytes words 2 p
unfolding pred_bytes
not-bytes words asked p h = pred-highest words asked (t.Not p) refl h

pub and-bytes :
    (words : List (List ℕ)) (asked : ℕ) (p q : Pred)
    → pred_bytes words asked (t.And p q)
    ≡ bracket 91 1 asked ++ (pred_bytes words 1 p ++ (codes " and " ++ (pred_bytes words 2 q ++ bracket 93 1 asked)))
unfolding pred_bytes
and-bytes words asked p q =
    bytes-sides words m.OpenSquare m.CloseSquare (keyword k.And) asked 1
    (squared 1 (pred_grade p) (pred_parts p)) (squared 2 (pred_grade q) (pred_parts q))

pub or-bytes :
    (words : List (List ℕ)) (asked : ℕ) (p q : Pred)
    → pred_bytes words asked (t.Or p q)
    ≡ bracket 91 0 asked ++ (pred_bytes words 0 p ++ (codes " or " ++ (pred_bytes words 1 q ++ bracket 93 0 asked)))
unfolding pred_bytes
or-bytes words asked p q =
    bytes-sides words m.OpenSquare m.CloseSquare (keyword k.Or) asked 0
    (squared 0 (pred_grade p) (pred_parts p)) (squared 1 (pred_grade q) (pred_parts q))

pub ruleset pred_whole = (append_assoc, pred-lowest)

pub ruleset pred_forms = (append_assoc, truth-bytes, falsehood-bytes, same-bytes, less-bytes, member-bytes, not-bytes, and-bytes, or-bytes)
