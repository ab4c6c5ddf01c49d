-- Bindings are seen by their look-ups alone, and values put for variables by what each variable becomes.
use Rattle.std.proofs.Common.{◌≡◌, not, ◌&&◌, ◌||◌, Bool, true, false, if◌then◌else◌, List, [], ◌∷◌, map, refl, ap, sym, ◌∙◌}
use Rattle.abc_value.specs.Values.{number_value, sum_of, rest_of, product_of, size_of, free_of, set_value, union_value, without_value, is_same, is_less, is_member}
use Rattle.abc_pred.specs.declared.names.Name.{Name}
use Rattle.abc_pred.specs.Terms.{Operand, Literal, Attr, This, Var, Add, Sub, Mul, Size, Free, Expr, Plain, SetOf, Union, Without, Pred, True, False, Same, Less, Member, Not, And, Or}
use Rattle.abc_pred.specs.Maps.{Entries, ShowsTheSame, lists, same_name}
use Rattle.abc_pred.specs.Meaning.{val, expr_in, sat, close, close_operand}
use Rattle.abc_pred.proofs.Shown.{same_name-eq}
use Rattle.abc_term.specs.Processes.{Process, Nil, Output, Input, When, Choice, Par, Call, Update}
use Rattle.abc_term.specs.Substitution.{Values, put_variable, put_operand, put_expr, put_pred, put_updates, put, outside}

-- ---- look-ups
module _ (own other vars vars' : Entries) (same : ShowsTheSame vars vars') where
  val-vars : (o : Operand) → val o own other vars ≡ val o own other vars'
  val-vars (Literal v) = refl
  val-vars (Attr n) = refl
  val-vars (This n) = refl
  val-vars (Var n) = same n
  val-vars (Add a b) = λ i. number_value (sum_of (val-vars a i) (val-vars b i))
  val-vars (Sub a b) = λ i. number_value (rest_of (val-vars a i) (val-vars b i))
  val-vars (Mul a b) = λ i. number_value (product_of (val-vars a i) (val-vars b i))
  val-vars (Size a) = ap (λ v. number_value (size_of v)) (val-vars a)
  val-vars (Free a) = ap (λ v. number_value (free_of v)) (val-vars a)

  pub sat-vars : (p : Pred) → sat p own other vars ≡ sat p own other vars'
  sat-vars True = refl
  sat-vars False = refl
  sat-vars (Same a b) = λ i. is_same (val-vars a i) (val-vars b i)
  sat-vars (Less a b) = λ i. is_less (val-vars a i) (val-vars b i)
  sat-vars (Member a b) = λ i. is_member (val-vars a i) (val-vars b i)
  sat-vars (Not p) = ap not (sat-vars p)
  sat-vars (And p q) = λ i. sat-vars p i && sat-vars q i
  sat-vars (Or p q) = λ i. sat-vars p i || sat-vars q i

  vals-vars : (os : List Operand) → map (λ o. val o own other vars) os ≡ map (λ o. val o own other vars') os
  vals-vars [] = refl
  vals-vars (o ∷ os) = λ i. val-vars o i ∷ vals-vars os i

  pub expr_in-vars : (e : Expr) → expr_in e own other vars ≡ expr_in e own other vars'
  expr_in-vars (Plain o) = val-vars o
  expr_in-vars (SetOf os) = ap set_value (vals-vars os)
  expr_in-vars (Union l r) = λ i. union_value (expr_in-vars l i) (expr_in-vars r i)
  expr_in-vars (Without l r) = λ i. without_value (expr_in-vars l i) (expr_in-vars r i)

module _ (own vars vars' : Entries) (same : ShowsTheSame vars vars') where
  close_operand-vars : (o : Operand) → close_operand o own vars ≡ close_operand o own vars'
  close_operand-vars (Literal v) = refl
  close_operand-vars (Attr n) = refl
  close_operand-vars (This n) = refl
  close_operand-vars (Var n) = ap Literal (same n)
  close_operand-vars (Add a b) = λ i. Add (close_operand-vars a i) (close_operand-vars b i)
  close_operand-vars (Sub a b) = λ i. Sub (close_operand-vars a i) (close_operand-vars b i)
  close_operand-vars (Mul a b) = λ i. Mul (close_operand-vars a i) (close_operand-vars b i)
  close_operand-vars (Size a) = ap Size (close_operand-vars a)
  close_operand-vars (Free a) = ap Free (close_operand-vars a)

  pub close-vars : (p : Pred) → close p own vars ≡ close p own vars'
  close-vars True = refl
  close-vars False = refl
  close-vars (Same a b) = λ i. Same (close_operand-vars a i) (close_operand-vars b i)
  close-vars (Less a b) = λ i. Less (close_operand-vars a i) (close_operand-vars b i)
  close-vars (Member a b) = λ i. Member (close_operand-vars a i) (close_operand-vars b i)
  close-vars (Not p) = ap Not (close-vars p)
  close-vars (And p q) = λ i. And (close-vars p i) (close-vars q i)
  close-vars (Or p q) = λ i. Or (close-vars p i) (close-vars q i)

-- ---- values put
-- each variable becomes the same
abbrev pub PutTheSame : Values → Values → Type 0
PutTheSame a b = (x : Name) → put_variable a x ≡ put_variable b x

module _ (a b : Values) (same : PutTheSame a b) where
  operand-same : (o : Operand) → put_operand a o ≡ put_operand b o
  operand-same (Literal v) = refl
  operand-same (Attr n) = refl
  operand-same (This n) = refl
  operand-same (Var x) = same x
  operand-same (Add l r) = λ i. Add (operand-same l i) (operand-same r i)
  operand-same (Sub l r) = λ i. Sub (operand-same l i) (operand-same r i)
  operand-same (Mul l r) = λ i. Mul (operand-same l i) (operand-same r i)
  operand-same (Size o) = ap Size (operand-same o)
  operand-same (Free o) = ap Free (operand-same o)

  operands-same : (os : List Operand) → map (put_operand a) os ≡ map (put_operand b) os
  operands-same [] = refl
  operands-same (o ∷ os) = λ i. operand-same o i ∷ operands-same os i

  expr-same : (e : Expr) → put_expr a e ≡ put_expr b e
  expr-same (Plain o) = ap Plain (operand-same o)
  expr-same (SetOf os) = ap SetOf (operands-same os)
  expr-same (Union l r) = λ i. Union (expr-same l i) (expr-same r i)
  expr-same (Without l r) = λ i. Without (expr-same l i) (expr-same r i)

  exprs-same : (es : List Expr) → map (put_expr a) es ≡ map (put_expr b) es
  exprs-same [] = refl
  exprs-same (e ∷ es) = λ i. expr-same e i ∷ exprs-same es i

  updates-same : (us : List Update) → put_updates a us ≡ put_updates b us
  updates-same [] = refl
  updates-same (u ∷ us) = λ i. (u.0, expr-same u.1 i) ∷ updates-same us i

  pred-same : (p : Pred) → put_pred a p ≡ put_pred b p
  pred-same True = refl
  pred-same False = refl
  pred-same (Same l r) = λ i. Same (operand-same l i) (operand-same r i)
  pred-same (Less l r) = λ i. Less (operand-same l i) (operand-same r i)
  pred-same (Member l r) = λ i. Member (operand-same l i) (operand-same r i)
  pred-same (Not p) = ap Not (pred-same p)
  pred-same (And p q) = λ i. And (pred-same p i) (pred-same q i)
  pred-same (Or p q) = λ i. Or (pred-same p i) (pred-same q i)

lists-eq : (m n : Name) (xs : List Name) → same_name m n ≡ true → lists xs m ≡ lists xs n
lists-eq m n xs h = ap (lists xs) (same_name-eq m n h)

variable-if : (h : Bool) (b : Name × _) (bs : Values) (x : Name) → put_variable (if h then b ∷ bs else bs) x ≡ (if h then put_variable (b ∷ bs) x else put_variable bs x)
variable-if true b bs x = refl
variable-if false b bs x = refl

outside-step : (h s l : Bool) (v x less rest : Operand) → (s ≡ true → h ≡ l) → less ≡ (if l then x else rest) → (if not h then (if s then v else less) else less) ≡ (if l then x else (if s then v else rest))
outside-step true true true v x less rest same e = e
outside-step true true false v x less rest same e = cc (same refl)
outside-step true false true v x less rest same e = e
outside-step true false false v x less rest same e = e
outside-step false true true v x less rest same e = cc (same refl)
outside-step false true false v x less rest same e = refl
outside-step false false true v x less rest same e = e
outside-step false false false v x less rest same e = e

itself-if : (l : Bool) (x : Name) → Var x ≡ (if l then Var x else Var x)
itself-if true x = refl
itself-if false x = refl

-- an input's own variables stay, and the others become what they become outside
pub variable-outside : (xs : List Name) (bs : Values) (x : Name) → put_variable (outside xs bs) x ≡ (if lists xs x then Var x else put_variable bs x)
variable-outside xs [] x = itself-if (lists xs x) x
variable-outside xs (b ∷ bs) x =
    variable-if (not (lists xs b.0)) b (outside xs bs) x
    ∙ outside-step (lists xs b.0) (same_name b.0 x) (lists xs x) (Literal b.1) (Var x) (put_variable (outside xs bs) x) (put_variable bs x) (λ h. lists-eq b.0 x xs h) (variable-outside xs bs x)

outside-same : (xs : List Name) (a b : Values) → PutTheSame a b → PutTheSame (outside xs a) (outside xs b)
outside-same xs a b same x = variable-outside xs a x ∙ ap (λ o. if lists xs x then Var x else o) (same x) ∙ sym (variable-outside xs b x)

pub put-same : (a b : Values) → PutTheSame a b → (P : Process) → put a P ≡ put b P
put-same a b s Nil = refl
put-same a b s (Output es p us P) = λ i. Output (exprs-same a b s es i) (pred-same a b s p i) (updates-same a b s us i) (put-same a b s P i)
put-same a b s (Input p xs us P) =
    let t = outside-same xs a b s in
    λ i. Input (pred-same (outside xs a) (outside xs b) t p i) xs (updates-same (outside xs a) (outside xs b) t us i) (put-same (outside xs a) (outside xs b) t P i)
put-same a b s (When g P) = λ i. When (pred-same a b s g i) (put-same a b s P i)
put-same a b s (Choice P Q) = λ i. Choice (put-same a b s P i) (put-same a b s Q i)
put-same a b s (Par P Q) = λ i. Par (put-same a b s P i) (put-same a b s Q i)
put-same a b s (Call c) = refl
