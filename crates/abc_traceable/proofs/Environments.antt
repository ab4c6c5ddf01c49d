-- Environments stay such that a trace tells them: attributes have words and values.
use Rattle.std.proofs.Common.{ℕ, Bool, true, false, List, [], ◌∷◌, map, All}
use Rattle.std.specs.Prelude.{if◌then◌else◌, nat_lt}
use Rattle.std.proofs.lemmas.List.Elements.{All-nil, All-cons, All-head, All-tail, All-map, All-weaker}
use Rattle.abc_value.specs.declared.value.Value.{Value}
use Rattle.abc_value.specs.declared.value.Value.TheVariants.{Scalar as One, Set, Nothing}
use Rattle.abc_value.specs.Literals.{IsValue}
use Rattle.abc_pred.specs.declared.names.Name.{Name}
use Rattle.abc_pred.specs.Terms.{Operand, Literal, Attr, This, Var, Add, Sub, Mul, Size, Free, Expr, Plain, SetOf, Union, Without}
use Rattle.abc_pred.specs.Maps.{Entries, look_up, same_name, without, with_entry, set_to}
use Rattle.abc_pred.specs.Meaning.{val, expr_in, expr_val}
use Rattle.abc_term.specs.Processes.{Update}
use Rattle.abc_term.specs.Speaking.{updated, values_of}
use Rattle.abc_term.specs.Standing.{set_all}
use Rattle.abc_printed.specs.Printable.{OperandHasValues, ExprHasValues}
use Rattle.abc_printed_limits.specs.Within.{HoldsValues}
use Rattle.abc_trace.specs.WellFormed.{IsNamed}
use Rattle.abc_traceable.proofs.Values.{sum_value, rest_value, product_value, size_value, free_value, union_is_value, without_is_value, set_is_value}
use Rattle.abc_traceable.proofs.Telling.{IsSettable}

-- ---- what expressions come to
look_up_value : (env : Entries) (n : Name) → HoldsValues env → IsValue (look_up env n)
look_up_value [] n h = tt
look_up_value (e ∷ env) n h =
    by (same_name e.0 n) (look_up_value env n (All-tail (λ x. IsValue x.1) e env h))
  where
    by : (b : Bool) → IsValue (look_up env n) → IsValue (if b then e.1 else look_up env n)
    by true more = All-head (λ x. IsValue x.1) e env h
    by false more = more

module _ (own other vars : Entries) (owns : HoldsValues own) (others : HoldsValues other)
    (holds : HoldsValues vars) where
  val_value : (o : Operand) → OperandHasValues o → IsValue (val o own other vars)
  val_value (Literal v) h = h
  val_value (Attr a) h = look_up_value other a others
  val_value (This a) h = look_up_value own a owns
  val_value (Var x) h = look_up_value vars x holds
  val_value (Add l r) h = sum_value (val l own other vars) (val r own other vars)
  val_value (Sub l r) h = rest_value (val l own other vars) (val r own other vars)
  val_value (Mul l r) h = product_value (val l own other vars) (val r own other vars)
  val_value (Size o) h = size_value (val o own other vars) (val_value o h)
  val_value (Free o) h = free_value (val o own other vars) (val_value o h)

  expr_in_value : (e : Expr) → ExprHasValues e → IsValue (expr_in e own other vars)
  expr_in_value (Plain o) h = val_value o h
  expr_in_value (SetOf os) h =
      set_is_value (map (λ o. val o own other vars) os)
      (All-map IsValue (λ o. val o own other vars) os
      (All-weaker OperandHasValues (λ o. IsValue (val o own other vars)) val_value os h))
  expr_in_value (Union l r) h =
      union_is_value (expr_in l own other vars) (expr_in r own other vars) (expr_in_value l h.0)
      (expr_in_value r h.1)
  expr_in_value (Without l r) h =
      without_is_value (expr_in l own other vars) (expr_in r own other vars) (expr_in_value l h.0)
      (expr_in_value r h.1)

-- So the value of an expression in an environment of values is a value,
pub expr_value : (e : Expr) (env : Entries) → HoldsValues env → ExprHasValues e →
    IsValue (expr_val e env [])
expr_value e env holds h = expr_in_value env env [] holds holds (All-nil (λ x. IsValue x.1)) e h

-- and those of a tuple are values.
pub tuple_values : (es : List Expr) (env : Entries) → HoldsValues env → All ExprHasValues es →
    All IsValue (values_of es env)
tuple_values es env holds h =
    All-map IsValue (λ e. expr_val e env []) es
    (All-weaker ExprHasValues (λ e. IsValue (expr_val e env []))
    (λ e k. expr_value e env holds k) es h)

-- ---- what is set
-- What holds of all entries holds when one is taken away,
without_all : (P : Name × Value → Type 0) (n : Name) (es : Entries) → All P es →
    All P (without n es)
without_all P n [] h = h
without_all P n (e ∷ es) h =
    by (same_name e.0 n) (nat_lt n.0 e.0.0) (without_all P n es (All-tail P e es h))
  where
    by : (same less : Bool) → All P (without n es) →
        All P (if same then es else (if less then e ∷ es else e ∷ without n es))
    by true less more = All-tail P e es h
    by false true more = h
    by false false more = All-cons P e (without n es) (All-head P e es h) more

-- and when one of which it holds is put in.
with_all : (P : Name × Value → Type 0) (n : Name) (v : Value) (es : Entries) → P (n, v) → All P es →
    All P (with_entry n v es)
with_all P n v [] p h = All-cons P (n, v) [] p h
with_all P n v (e ∷ es) p h =
    by (same_name e.0 n) (nat_lt n.0 e.0.0) (with_all P n v es p (All-tail P e es h))
  where
    by : (same less : Bool) → All P (with_entry n v es) →
        All P (if same then (n, v) ∷ es else
        (if less then (n, v) ∷ (e ∷ es) else e ∷ with_entry n v es))
    by true less more = All-cons P (n, v) es p (All-tail P e es h)
    by false true more = All-cons P (n, v) (e ∷ es) p h
    by false false more = All-cons P e (with_entry n v es) (All-head P e es h) more

set_keeps : (P : Name × Value → Type 0) (v : Value) (n : Name) (es : Entries) → P (n, v) →
    All P es → All P (set_to v n es)
set_keeps P Nothing n es p h = without_all P n es h
set_keeps P (One x) n es p h = with_all P n (One x) es p h
set_keeps P (Set s) n es p h = with_all P n (Set s) es p h

module _ (words : List (List ℕ)) where
  -- the attribute has a word, and a value
  abbrev pub IsHeld : Name × Value → Type 0
  IsHeld e = IsNamed words e.0 × IsValue e.1

  -- attributes that have values have values
  pub held_values : (env : Entries) → All IsHeld env → HoldsValues env
  held_values env h = All-weaker IsHeld (λ e. IsValue e.1) (λ e k. k.1) env h

  pub updated_holds : (us : List Update) (env : Entries) → All (IsSettable words) us →
      All IsHeld env → All IsHeld (updated us env)
  updated_holds [] env h k = k
  updated_holds (u ∷ us) env h k =
      let here = All-head (IsSettable words) u us h in
      let v = expr_val u.1 env [] in
      updated_holds us (set_to v u.0 env) (All-tail (IsSettable words) u us h)
      (set_keeps IsHeld v u.0 env (here.0, expr_value u.1 env (held_values env k) here.1) k)

  pub all_held : (first : List (Name × Value)) (env : Entries) → All IsHeld first → All IsHeld env →
      All IsHeld (set_all first env)
  all_held [] env h k = k
  all_held (a ∷ first) env h k =
      all_held first (set_to a.1 a.0 env) (All-tail IsHeld a first h)
      (set_keeps IsHeld a.1 a.0 env (All-head IsHeld a first h) k)
