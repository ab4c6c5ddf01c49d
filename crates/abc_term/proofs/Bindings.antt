-- Bindings stand for substitution.
use Rattle.std.proofs.Common.{◌≡◌, Bool, true, false, not, ◌&&◌, ◌||◌, if◌then◌else◌, List, [], ◌∷◌, ◌++◌, map, Option, Some, None, refl, sym, ap, ◌∙◌}
use Rattle.std.proofs.lemmas.Bool.{true≢false}
use Rattle.abc_value.specs.declared.value.Value.{Value}
use Rattle.abc_value.specs.Values.{number_value, set_value, union_value, without_value, sum_of, rest_of, product_of, size_of, free_of, is_same, is_less, is_member}
use Rattle.abc_pred.specs.declared.names.Name.{Name}
use Rattle.abc_pred.specs.Maps.{Entries, look_up, same_name, lists}
use Rattle.abc_pred.proofs.Shown.{same_name-eq}
use Rattle.abc_pred.specs.Terms.{Operand, Literal, Attr, This, Var, Add, Sub, Mul, Size, Free, Expr, Plain, SetOf, Union, Without, Pred, True, False, Same, Less, Member, Not, And, Or}
use Rattle.abc_pred.specs.Meaning.{val, expr_in, close_operand}
use Rattle.abc_term.specs.Processes.{Process, Nil, Output, Input, When, Choice, Par, Call, Update}
use Rattle.abc_term.specs.Laws.{PutPredicateIsBound, PutPredicateCloses, PutExpressionIsBound, PuttingTwice, PuttingNothing}
use Rattle.abc_term.specs.Substitution.{Values, put_variable, put_operand, put_expr, put_pred, put_updates, put, outside}

-- ---- the value of what is put is the value under the bindings
val-put_variable : (bs : Values) (x : Name) (own other : Entries) → val (put_variable bs x) own other [] ≡ look_up bs x
val-put_variable [] x own other = refl
val-put_variable (b ∷ bs) x own other =
    elim (same_name b.0 x) as (λ s. val (if s then Literal b.1 else put_variable bs x) own other [] ≡ (if s then b.1 else look_up bs x)) [
      | true ↦ refl
      | false ↦ val-put_variable bs x own other
    ]

pub val-put : (bs : Values) (o : Operand) (own other : Entries) → val (put_operand bs o) own other [] ≡ val o own other bs
val-put bs (Literal v) own other = refl
val-put bs (Attr a) own other = refl
val-put bs (This a) own other = refl
val-put bs (Var x) own other = val-put_variable bs x own other
val-put bs (Add l r) own other = λ i. number_value (sum_of (val-put bs l own other i) (val-put bs r own other i))
val-put bs (Sub l r) own other = λ i. number_value (rest_of (val-put bs l own other i) (val-put bs r own other i))
val-put bs (Mul l r) own other = λ i. number_value (product_of (val-put bs l own other i) (val-put bs r own other i))
val-put bs (Size o) own other = λ i. number_value (size_of (val-put bs o own other i))
val-put bs (Free o) own other = λ i. number_value (free_of (val-put bs o own other i))

pub sat-put : PutPredicateIsBound
sat-put bs True own other = refl
sat-put bs False own other = refl
sat-put bs (Same l r) own other = λ i. is_same (val-put bs l own other i) (val-put bs r own other i)
sat-put bs (Less l r) own other = λ i. is_less (val-put bs l own other i) (val-put bs r own other i)
sat-put bs (Member l r) own other = λ i. is_member (val-put bs l own other i) (val-put bs r own other i)
sat-put bs (Not p) own other = ap not (sat-put bs p own other)
sat-put bs (And p q) own other = λ i. sat-put bs p own other i && sat-put bs q own other i
sat-put bs (Or p q) own other = λ i. sat-put bs p own other i || sat-put bs q own other i

vals-put : (bs : Values) (os : List Operand) (own other : Entries) → map (λ o. val o own other []) (map (put_operand bs) os) ≡ map (λ o. val o own other bs) os
vals-put bs [] own other = refl
vals-put bs (o ∷ os) own other = λ i. val-put bs o own other i ∷ vals-put bs os own other i

expr_in-put : (bs : Values) (e : Expr) (own other : Entries) → expr_in (put_expr bs e) own other [] ≡ expr_in e own other bs
expr_in-put bs (Plain o) own other = val-put bs o own other
expr_in-put bs (SetOf os) own other = ap set_value (vals-put bs os own other)
expr_in-put bs (Union l r) own other = λ i. union_value (expr_in-put bs l own other i) (expr_in-put bs r own other i)
expr_in-put bs (Without l r) own other = λ i. without_value (expr_in-put bs l own other i) (expr_in-put bs r own other i)

pub expr-bound : PutExpressionIsBound
expr-bound bs e own = expr_in-put bs e own own

-- ---- closing what is put
close-put_variable : (bs : Values) (x : Name) (own : Entries) → close_operand (put_variable bs x) own [] ≡ Literal (look_up bs x)
close-put_variable [] x own = refl
close-put_variable (b ∷ bs) x own =
    elim (same_name b.0 x) as (λ s. close_operand (if s then Literal b.1 else put_variable bs x) own [] ≡ Literal (if s then b.1 else look_up bs x)) [
      | true ↦ refl
      | false ↦ close-put_variable bs x own
    ]

close_operand-put : (bs : Values) (o : Operand) (own : Entries) → close_operand (put_operand bs o) own [] ≡ close_operand o own bs
close_operand-put bs (Literal v) own = refl
close_operand-put bs (Attr a) own = refl
close_operand-put bs (This a) own = refl
close_operand-put bs (Var x) own = close-put_variable bs x own
close_operand-put bs (Add l r) own = λ i. Add (close_operand-put bs l own i) (close_operand-put bs r own i)
close_operand-put bs (Sub l r) own = λ i. Sub (close_operand-put bs l own i) (close_operand-put bs r own i)
close_operand-put bs (Mul l r) own = λ i. Mul (close_operand-put bs l own i) (close_operand-put bs r own i)
close_operand-put bs (Size o) own = ap Size (close_operand-put bs o own)
close_operand-put bs (Free o) own = ap Free (close_operand-put bs o own)

pub close-put : PutPredicateCloses
close-put bs True own = refl
close-put bs False own = refl
close-put bs (Same l r) own = λ i. Same (close_operand-put bs l own i) (close_operand-put bs r own i)
close-put bs (Less l r) own = λ i. Less (close_operand-put bs l own i) (close_operand-put bs r own i)
close-put bs (Member l r) own = λ i. Member (close_operand-put bs l own i) (close_operand-put bs r own i)
close-put bs (Not p) own = ap Not (close-put bs p own)
close-put bs (And p q) own = λ i. And (close-put bs p own i) (close-put bs q own i)
close-put bs (Or p q) own = λ i. Or (close-put bs p own i) (close-put bs q own i)

-- ---- one putting after another
-- what a variable stands for, where it is bound
abbrev pub bound : Values → Name → Option Value
bound [] x = None
bound (b ∷ bs) x = if same_name b.0 x then Some b.1 else bound bs x

abbrev pub or_else : Option Value → Option Value → Option Value
or_else None o = o
or_else (Some v) o = Some v

abbrev literal_or : Name → Option Value → Operand
literal_or x None = Var x
literal_or x (Some v) = Literal v

put_variable-bound : (bs : Values) (x : Name) → put_variable bs x ≡ literal_or x (bound bs x)
put_variable-bound [] x = refl
put_variable-bound (b ∷ bs) x =
    elim (same_name b.0 x) as (λ s. (if s then Literal b.1 else put_variable bs x) ≡ literal_or x (if s then Some b.1 else bound bs x)) [ true ↦ refl | false ↦ put_variable-bound bs x ]

-- e binds what d binds, and else what c does
abbrev pub Joins : Values → Values → Values → Type 0
Joins c d e = (x : Name) → bound e x ≡ or_else (bound d x) (bound c x)

put_operand-literal_or : (c : Values) (x : Name) (o p : Option Value) → bound c x ≡ p → put_operand c (literal_or x o) ≡ literal_or x (or_else o p)
put_operand-literal_or c x None p e = put_variable-bound c x ∙ ap (literal_or x) e
put_operand-literal_or c x (Some v) p e = refl

module _ (c d e : Values) (joins : Joins c d e) where
  operand-put : (o : Operand) → put_operand c (put_operand d o) ≡ put_operand e o
  operand-put (Literal v) = refl
  operand-put (Attr a) = refl
  operand-put (This a) = refl
  operand-put (Var x) =
      ap (put_operand c) (put_variable-bound d x) ∙ put_operand-literal_or c x (bound d x) (bound c x) refl ∙ ap (literal_or x) (sym (joins x)) ∙ sym (put_variable-bound e x)
  operand-put (Add l r) = λ i. Add (operand-put l i) (operand-put r i)
  operand-put (Sub l r) = λ i. Sub (operand-put l i) (operand-put r i)
  operand-put (Mul l r) = λ i. Mul (operand-put l i) (operand-put r i)
  operand-put (Size o) = ap Size (operand-put o)
  operand-put (Free o) = ap Free (operand-put o)

  operands-put : (os : List Operand) → map (put_operand c) (map (put_operand d) os) ≡ map (put_operand e) os
  operands-put [] = refl
  operands-put (o ∷ os) = λ i. operand-put o i ∷ operands-put os i

  expr-put : (x : Expr) → put_expr c (put_expr d x) ≡ put_expr e x
  expr-put (Plain o) = ap Plain (operand-put o)
  expr-put (SetOf os) = ap SetOf (operands-put os)
  expr-put (Union l r) = λ i. Union (expr-put l i) (expr-put r i)
  expr-put (Without l r) = λ i. Without (expr-put l i) (expr-put r i)

  exprs-put : (xs : List Expr) → map (put_expr c) (map (put_expr d) xs) ≡ map (put_expr e) xs
  exprs-put [] = refl
  exprs-put (x ∷ xs) = λ i. expr-put x i ∷ exprs-put xs i

  updates-put : (us : List Update) → put_updates c (put_updates d us) ≡ put_updates e us
  updates-put [] = refl
  updates-put (u ∷ us) = λ i. (u.0, expr-put u.1 i) ∷ updates-put us i

  pred-put : (p : Pred) → put_pred c (put_pred d p) ≡ put_pred e p
  pred-put True = refl
  pred-put False = refl
  pred-put (Same l r) = λ i. Same (operand-put l i) (operand-put r i)
  pred-put (Less l r) = λ i. Less (operand-put l i) (operand-put r i)
  pred-put (Member l r) = λ i. Member (operand-put l i) (operand-put r i)
  pred-put (Not p) = ap Not (pred-put p)
  pred-put (And p q) = λ i. And (pred-put p i) (pred-put q i)
  pred-put (Or p q) = λ i. Or (pred-put p i) (pred-put q i)

-- what is bound where an input's variables are hidden
lists-eq : (m n : Name) (xs : List Name) → same_name m n ≡ true → lists xs m ≡ lists xs n
lists-eq m n xs h = ap (lists xs) (same_name-eq m n h)

hidden-step : (h s l : Bool) (v : Value) (rest : Option Value) (less : Option Value) → (s ≡ true → h ≡ l) → less ≡ (if l then None else rest) → (if not h then (if s then Some v else less) else less) ≡ (if l then None else (if s then Some v else rest))
hidden-step true true true v rest less same e = e
hidden-step true true false v rest less same e = absurd (true≢false (same refl))
hidden-step true false true v rest less same e = e
hidden-step true false false v rest less same e = e
hidden-step false true true v rest less same e = absurd (true≢false (sym (same refl)))
hidden-step false true false v rest less same e = refl
hidden-step false false true v rest less same e = e
hidden-step false false false v rest less same e = e

bound-if : (h : Bool) (b : Name × Value) (bs : Values) (x : Name) → bound (if h then b ∷ bs else bs) x ≡ (if h then (if same_name b.0 x then Some b.1 else bound bs x) else bound bs x)
bound-if true b bs x = refl
bound-if false b bs x = refl

none-if : (l : Bool) → ◌≡◌ {A = Option Value} None (if l then None else None)
none-if true = refl
none-if false = refl

bound-outside : (xs : List Name) (bs : Values) (x : Name) → bound (outside xs bs) x ≡ (if lists xs x then None else bound bs x)
bound-outside xs [] x = none-if (lists xs x)
bound-outside xs (b ∷ bs) x =
    bound-if (not (lists xs b.0)) b (outside xs bs) x ∙ hidden-step (lists xs b.0) (same_name b.0 x) (lists xs x) b.1 (bound bs x) (bound (outside xs bs) x) (λ h. lists-eq b.0 x xs h) (bound-outside xs bs x)

joined-if : (l : Bool) (o p : Option Value) → (if l then None else or_else o p) ≡ or_else (if l then None else o) (if l then None else p)
joined-if true o p = refl
joined-if false o p = refl

outside-joins : (xs : List Name) (c d e : Values) → Joins c d e → Joins (outside xs c) (outside xs d) (outside xs e)
outside-joins xs c d e joins x =
    bound-outside xs e x ∙ ap (λ o. if lists xs x then None else o) (joins x) ∙ joined-if (lists xs x) (bound d x) (bound c x)
    ∙ (λ i. or_else (sym (bound-outside xs d x) i) (sym (bound-outside xs c x) i))

-- putting one after another is putting both at once
pub put-put : (c d e : Values) → Joins c d e → (P : Process) → put c (put d P) ≡ put e P
put-put c d e joins Nil = refl
put-put c d e joins (Output es p us P) = λ i. Output (exprs-put c d e joins es i) (pred-put c d e joins p i) (updates-put c d e joins us i) (put-put c d e joins P i)
put-put c d e joins (Input p xs us P) =
    let j = outside-joins xs c d e joins in
    λ i. Input (pred-put (outside xs c) (outside xs d) (outside xs e) j p i) xs (updates-put (outside xs c) (outside xs d) (outside xs e) j us i) (put-put (outside xs c) (outside xs d) (outside xs e) j P i)
put-put c d e joins (When g P) = λ i. When (pred-put c d e joins g i) (put-put c d e joins P i)
put-put c d e joins (Choice P Q) = λ i. Choice (put-put c d e joins P i) (put-put c d e joins Q i)
put-put c d e joins (Par P Q) = λ i. Par (put-put c d e joins P i) (put-put c d e joins Q i)
put-put c d e joins (Call k) = refl

-- the list of both binds what the first does, and else what the second does
bound-append : (d c : Values) → Joins c d (d ++ c)
bound-append [] c x = refl
bound-append (b ∷ d) c x =
    elim (same_name b.0 x) as (λ s. (if s then Some b.1 else bound (d ++ c) x) ≡ or_else (if s then Some b.1 else bound d x) (bound c x)) [
      | true ↦ refl
      | false ↦ bound-append d c x
    ]

pub putting_twice : PuttingTwice
putting_twice first second P = put-put second first (first ++ second) (bound-append first second) P

-- ---- nothing put
operand-nothing : (o : Operand) → put_operand [] o ≡ o
operand-nothing (Literal v) = refl
operand-nothing (Attr a) = refl
operand-nothing (This a) = refl
operand-nothing (Var x) = refl
operand-nothing (Add l r) = λ i. Add (operand-nothing l i) (operand-nothing r i)
operand-nothing (Sub l r) = λ i. Sub (operand-nothing l i) (operand-nothing r i)
operand-nothing (Mul l r) = λ i. Mul (operand-nothing l i) (operand-nothing r i)
operand-nothing (Size o) = ap Size (operand-nothing o)
operand-nothing (Free o) = ap Free (operand-nothing o)

operands-nothing : (os : List Operand) → map (put_operand []) os ≡ os
operands-nothing [] = refl
operands-nothing (o ∷ os) = λ i. operand-nothing o i ∷ operands-nothing os i

expr-nothing : (e : Expr) → put_expr [] e ≡ e
expr-nothing (Plain o) = ap Plain (operand-nothing o)
expr-nothing (SetOf os) = ap SetOf (operands-nothing os)
expr-nothing (Union l r) = λ i. Union (expr-nothing l i) (expr-nothing r i)
expr-nothing (Without l r) = λ i. Without (expr-nothing l i) (expr-nothing r i)

exprs-nothing : (es : List Expr) → map (put_expr []) es ≡ es
exprs-nothing [] = refl
exprs-nothing (e ∷ es) = λ i. expr-nothing e i ∷ exprs-nothing es i

updates-nothing : (us : List Update) → put_updates [] us ≡ us
updates-nothing [] = refl
updates-nothing (u ∷ us) = λ i. (u.0, expr-nothing u.1 i) ∷ updates-nothing us i

pred-nothing : (p : Pred) → put_pred [] p ≡ p
pred-nothing True = refl
pred-nothing False = refl
pred-nothing (Same l r) = λ i. Same (operand-nothing l i) (operand-nothing r i)
pred-nothing (Less l r) = λ i. Less (operand-nothing l i) (operand-nothing r i)
pred-nothing (Member l r) = λ i. Member (operand-nothing l i) (operand-nothing r i)
pred-nothing (Not p) = ap Not (pred-nothing p)
pred-nothing (And p q) = λ i. And (pred-nothing p i) (pred-nothing q i)
pred-nothing (Or p q) = λ i. Or (pred-nothing p i) (pred-nothing q i)

pub putting_nothing : PuttingNothing
putting_nothing Nil = refl
putting_nothing (Output es p us P) = λ i. Output (exprs-nothing es i) (pred-nothing p i) (updates-nothing us i) (putting_nothing P i)
putting_nothing (Input p xs us P) = λ i. Input (pred-nothing p i) xs (updates-nothing us i) (putting_nothing P i)
putting_nothing (When g P) = λ i. When (pred-nothing g i) (putting_nothing P i)
putting_nothing (Choice P Q) = λ i. Choice (putting_nothing P i) (putting_nothing Q i)
putting_nothing (Par P Q) = λ i. Par (putting_nothing P i) (putting_nothing Q i)
putting_nothing (Call c) = refl
