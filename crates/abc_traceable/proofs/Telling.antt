-- What is kept as a process moves: each output that stands in it can be told by a line of a trace.
use Rattle.std.proofs.Common.{◌≡◌, ◌≤◌, ℕ, Bool, true, false, List, [], ◌∷◌, ◌++◌, length, map, All, refl, sym, subst}
use Rattle.std.specs.Prelude.{if◌then◌else◌, not}
use Rattle.std.proofs.lemmas.List.{length-map}
use Rattle.std.proofs.lemmas.List.Elements.{All-head, All-tail, All-append, All-filter, All-map, All-weaker}
use Rattle.abc_value.specs.Literals.{IsValue}
use Rattle.abc_pred.specs.declared.names.Name.{Name}
use Rattle.abc_pred.specs.Terms.{Operand, Literal, Attr, This, Var, Add, Sub, Mul, Size, Free, Expr, Plain, SetOf, Union, Without, Pred, True, False, Same, Less, Member, Not, And, Or}
use Rattle.abc_pred.specs.Maps.{Entries, look_up, same_name, lists}
use Rattle.abc_pred.specs.Meaning.{close_operand, close}
use Rattle.abc_term.specs.Processes.{Process, Nil, Output, Input, When, Choice, Par, Call, Update}
use Rattle.abc_term.specs.Substitution.{Values, put_variable, put_operand, put_expr, put_pred, put_updates, outside, put}
use Rattle.abc_grammar.specs.declared.limits.TheConstants.{MOST_PARTS}
use Rattle.abc_printed.specs.Printable.{OperandHasValues, ExprHasValues}
use Rattle.abc_printed_limits.specs.Within.{HoldsValues}
use Rattle.abc_trace.specs.WellFormed.{IsNamed, IsSent}

-- ---- what is asked of a process
module _ (words : List (List ℕ)) where
  -- closed under any values, the predicate is one that is sent
  abbrev pub IsSendable : Pred → Type 0
  IsSendable q = (own vars : Entries) → HoldsValues own → HoldsValues vars →
      IsSent words (close q own vars)

  -- the attribute has a word, and the literals of what it is set to are values
  abbrev pub IsSettable : Update → Type 0
  IsSettable u = IsNamed words u.0 × ExprHasValues u.1

  abbrev pub CanTell : Process → Type 0
  CanTell Nil = Unit {0}
  CanTell (Output es q us P) =
      (length es ≤ MOST_PARTS) × All ExprHasValues es × IsSendable q × All IsSettable us × CanTell P
  CanTell (Input q xs us P) = All IsSettable us × CanTell P
  CanTell (When g P) = CanTell P
  CanTell (Choice P Q) = CanTell P × CanTell Q
  CanTell (Par P Q) = CanTell P × CanTell Q
  CanTell (Call c) = Unit {0}

-- ---- values put for variables
-- Closing what values are put in is closing with these values in front of the others.
variable_put : (bs : Values) (own vars : Entries) (x : Name) →
    close_operand (put_variable bs x) own vars ≡ Literal (look_up (bs ++ vars) x)
variable_put [] own vars x = refl
variable_put (b ∷ bs) own vars x = by (same_name b.0 x) (variable_put bs own vars x)
  where
    by : (t : Bool) → close_operand (put_variable bs x) own vars ≡ Literal
        (look_up (bs ++ vars) x) →
        close_operand (if t then Literal b.1 else put_variable bs x) own vars ≡ Literal
        (if t then b.1 else look_up (bs ++ vars) x)
    by true e = refl
    by false e = e

module _ (bs : Values) (own vars : Entries) where
  operand_put : (o : Operand) →
      close_operand (put_operand bs o) own vars ≡ close_operand o own (bs ++ vars)
  operand_put (Literal v) = refl
  operand_put (Attr a) = refl
  operand_put (This a) = refl
  operand_put (Var x) = variable_put bs own vars x
  operand_put (Add l r) = λ i. Add (operand_put l i) (operand_put r i)
  operand_put (Sub l r) = λ i. Sub (operand_put l i) (operand_put r i)
  operand_put (Mul l r) = λ i. Mul (operand_put l i) (operand_put r i)
  operand_put (Size o) = λ i. Size (operand_put o i)
  operand_put (Free o) = λ i. Free (operand_put o i)

  pub close-put : (q : Pred) → close (put_pred bs q) own vars ≡ close q own (bs ++ vars)
  close-put True = refl
  close-put False = refl
  close-put (Same l r) = λ i. Same (operand_put l i) (operand_put r i)
  close-put (Less l r) = λ i. Less (operand_put l i) (operand_put r i)
  close-put (Member l r) = λ i. Member (operand_put l i) (operand_put r i)
  close-put (Not p) = λ i. Not (close-put p i)
  close-put (And p q) = λ i. And (close-put p i) (close-put q i)
  close-put (Or p q) = λ i. Or (close-put p i) (close-put q i)

-- ---- literals stay values
variable_values : (bs : Values) → HoldsValues bs → (x : Name) → OperandHasValues (put_variable bs x)
variable_values [] h x = tt
variable_values (b ∷ bs) h x =
    by (same_name b.0 x) (variable_values bs (All-tail (λ e. IsValue e.1) b bs h) x)
  where
    by : (t : Bool) → OperandHasValues (put_variable bs x) →
        OperandHasValues (if t then Literal b.1 else put_variable bs x)
    by true k = All-head (λ e. IsValue e.1) b bs h
    by false k = k

module _ (bs : Values) (holds : HoldsValues bs) where
  operand_stays : (o : Operand) → OperandHasValues o → OperandHasValues (put_operand bs o)
  operand_stays (Literal v) h = h
  operand_stays (Attr a) h = tt
  operand_stays (This a) h = tt
  operand_stays (Var x) h = variable_values bs holds x
  operand_stays (Add l r) h = (operand_stays l h.0, operand_stays r h.1)
  operand_stays (Sub l r) h = (operand_stays l h.0, operand_stays r h.1)
  operand_stays (Mul l r) h = (operand_stays l h.0, operand_stays r h.1)
  operand_stays (Size o) h = operand_stays o h
  operand_stays (Free o) h = operand_stays o h

  operands_stay : (os : List Operand) → All OperandHasValues os →
      All OperandHasValues (map (put_operand bs) os)
  operands_stay os h = All-map OperandHasValues (put_operand bs) os
      (All-weaker OperandHasValues (λ o. OperandHasValues (put_operand bs o)) operand_stays os h)

  pub expr_stays : (e : Expr) → ExprHasValues e → ExprHasValues (put_expr bs e)
  expr_stays (Plain o) h = operand_stays o h
  expr_stays (SetOf os) h = operands_stay os h
  expr_stays (Union l r) h = (expr_stays l h.0, expr_stays r h.1)
  expr_stays (Without l r) h = (expr_stays l h.0, expr_stays r h.1)

module _ (words : List (List ℕ)) where
  -- A predicate that can be sent can be sent with values put in it,
  sendable_put : (bs : Values) → HoldsValues bs → (q : Pred) → IsSendable words q →
      IsSendable words (put_pred bs q)
  sendable_put bs holds q h own vars owns held =
      subst (IsSent words) (sym (close-put bs own vars q))
      (h own (bs ++ vars) owns (All-append (λ e. IsValue e.1) bs vars holds held))

  -- updates stay such,
  pub updates_stay : (bs : Values) → HoldsValues bs → (us : List Update) →
      All (IsSettable words) us → All (IsSettable words) (put_updates bs us)
  updates_stay bs holds us h =
      All-map (IsSettable words) (λ u. (u.0, put_expr bs u.1)) us
      (All-weaker (IsSettable words) (λ u. IsSettable words (u.0, put_expr bs u.1))
      (λ u k. (k.0, expr_stays bs holds u.1 k.1)) us h)

  -- and so does a whole process.
  pub tells_put : (P : Process) (bs : Values) → HoldsValues bs → CanTell words P →
      CanTell words (put bs P)
  tells_put Nil bs holds h = tt
  tells_put (Output es q us P) bs holds h = (
    subst (λ (n : ℕ). n ≤ MOST_PARTS) (sym (length-map es (put_expr bs))) h.0,
    All-map ExprHasValues (put_expr bs) es
        (All-weaker ExprHasValues (λ e. ExprHasValues (put_expr bs e))
        (expr_stays bs holds) es h.1),
    sendable_put bs holds q h.2,
    updates_stay bs holds us h.3,
    tells_put P bs holds h.4,
  )
  tells_put (Input q xs us P) bs holds h =
      let kept : HoldsValues (outside xs bs) =
      All-filter (λ b. not (lists xs b.0)) (λ e. IsValue e.1) bs holds in
      (updates_stay (outside xs bs) kept us h.0, tells_put P (outside xs bs) kept h.1)
  tells_put (When g P) bs holds h = tells_put P bs holds h
  tells_put (Choice P Q) bs holds h = (tells_put P bs holds h.0, tells_put Q bs holds h.1)
  tells_put (Par P Q) bs holds h = (tells_put P bs holds h.0, tells_put Q bs holds h.1)
  tells_put (Call c) bs holds h = tt
