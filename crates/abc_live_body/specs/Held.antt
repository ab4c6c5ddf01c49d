-- Each plain term is that of some value: the same forms in boxes, all of which may lie at one place, since what a value
-- stands for doesn't depend on it. So processes have a code, by which proofs tell them apart.
use Rattle.std.proofs.Common.{◌≡◌, ◌∙◌, ℕ, List, [], ◌∷◌, map, refl, ap}
use Rattle.std.proofs.Math.Path.{ap₂}
use Rattle.std.specs.Coded.{Coded, code_by}
use Rattle.std.specs.Global.{Box}
use denote.RawPtr.{null_ptr}
use Rattle.abc_pred.specs.Terms as term
use Rattle.abc_pred.specs.declared.syntax.Operand.{Operand}
use Rattle.abc_pred.specs.declared.syntax.Operand as held
use Rattle.abc_pred.specs.declared.syntax.Expr.{Expr}
use Rattle.abc_pred.specs.declared.syntax.Expr as held_expr
use Rattle.abc_pred.specs.declared.syntax.Pred.{Pred}
use Rattle.abc_pred.specs.declared.syntax.Pred as held_pred
use Rattle.abc_pred.specs.Standing.{operand_of, expr_of, pred_of}
use Rattle.abc_term.specs.Processes as process
use Rattle.abc_term.specs.declared.terms.Update.{Update}
use Rattle.abc_term.specs.declared.terms.Process.{Process}
use Rattle.abc_term.specs.declared.terms.Process as held_process
use Rattle.abc_term.specs.contracts.terms.Process as stored
use Rattle.abc_term.specs.Standing.{updates_of, process_of}

abbrev box : Box (Unit {0})
box = record { ptr = null_ptr; alloc = record { memory = record { seal = tt } }; value = tt }

abbrev pub hold_operand : term.Operand → Operand
hold_operand (term.Literal v) = held.Literal v
hold_operand (term.Attr a) = held.Attr a
hold_operand (term.This a) = held.This a
hold_operand (term.Var x) = held.Var x
hold_operand (term.Add l r) = held.Add' box (hold_operand l) box (hold_operand r)
hold_operand (term.Sub l r) = held.Sub' box (hold_operand l) box (hold_operand r)
hold_operand (term.Mul l r) = held.Mul' box (hold_operand l) box (hold_operand r)
hold_operand (term.Size o) = held.Size' box (hold_operand o)
hold_operand (term.Free o) = held.Free' box (hold_operand o)

operand_held : (o : term.Operand) → operand_of (hold_operand o) ≡ o
operand_held (term.Literal v) = refl
operand_held (term.Attr a) = refl
operand_held (term.This a) = refl
operand_held (term.Var x) = refl
operand_held (term.Add l r) = ap₂ term.Add (operand_held l) (operand_held r)
operand_held (term.Sub l r) = ap₂ term.Sub (operand_held l) (operand_held r)
operand_held (term.Mul l r) = ap₂ term.Mul (operand_held l) (operand_held r)
operand_held (term.Size o) = ap term.Size (operand_held o)
operand_held (term.Free o) = ap term.Free (operand_held o)

-- where each item is held, so is their list
all_held : {A B : Type 0} (of : B → A) (hold : A → B) → ((a : A) → of (hold a) ≡ a) → (xs : List A)
    → map of (map hold xs) ≡ xs
all_held of hold each [] = refl
all_held of hold each (a ∷ xs) = ap₂ (λ b bs. b ∷ bs) (each a) (all_held of hold each xs)

abbrev pub hold_expr : term.Expr → Expr
hold_expr (term.Plain o) = held_expr.Plain (hold_operand o)
hold_expr (term.SetOf os) = held_expr.SetOf (map hold_operand os)
hold_expr (term.Union l r) = held_expr.Union' box (hold_expr l) box (hold_expr r)
hold_expr (term.Without l r) = held_expr.Without' box (hold_expr l) box (hold_expr r)

expr_held : (e : term.Expr) → expr_of (hold_expr e) ≡ e
expr_held (term.Plain o) = ap term.Plain (operand_held o)
expr_held (term.SetOf os) = ap term.SetOf (all_held operand_of hold_operand operand_held os)
expr_held (term.Union l r) = ap₂ term.Union (expr_held l) (expr_held r)
expr_held (term.Without l r) = ap₂ term.Without (expr_held l) (expr_held r)

abbrev pub hold_pred : term.Pred → Pred
hold_pred term.True = held_pred.True
hold_pred term.False = held_pred.False
hold_pred (term.Same l r) = held_pred.Same (hold_operand l) (hold_operand r)
hold_pred (term.Less l r) = held_pred.Less (hold_operand l) (hold_operand r)
hold_pred (term.Member l r) = held_pred.Member (hold_operand l) (hold_operand r)
hold_pred (term.Not p) = held_pred.Not' box (hold_pred p)
hold_pred (term.And p q) = held_pred.And' box (hold_pred p) box (hold_pred q)
hold_pred (term.Or p q) = held_pred.Or' box (hold_pred p) box (hold_pred q)

pub pred_held : (p : term.Pred) → pred_of (hold_pred p) ≡ p
pred_held term.True = refl
pred_held term.False = refl
pred_held (term.Same l r) = ap₂ term.Same (operand_held l) (operand_held r)
pred_held (term.Less l r) = ap₂ term.Less (operand_held l) (operand_held r)
pred_held (term.Member l r) = ap₂ term.Member (operand_held l) (operand_held r)
pred_held (term.Not p) = ap term.Not (pred_held p)
pred_held (term.And p q) = ap₂ term.And (pred_held p) (pred_held q)
pred_held (term.Or p q) = ap₂ term.Or (pred_held p) (pred_held q)

abbrev pub hold_update : process.Update → Update
hold_update u = record { name = u.0; value = hold_expr u.1 }

update_held : (u : process.Update) → ((hold_update u).name, expr_of (hold_update u).value) ≡ u
update_held u = ap (λ e. (u.0, e)) (expr_held u.1)

abbrev pub hold_process : process.Process → Process
hold_process process.Nil = held_process.Nil
hold_process (process.Output es p us P) =
    held_process.Output' (map hold_expr es) (hold_pred p) (map hold_update us) box (hold_process P)
hold_process (process.Input p xs us P) = held_process.Input' (hold_pred p) xs (map hold_update us) box (hold_process P)
hold_process (process.When g P) = held_process.When' (hold_pred g) box (hold_process P)
hold_process (process.Choice P Q) = held_process.Choice' box (hold_process P) box (hold_process Q)
hold_process (process.Par P Q) = held_process.Par' box (hold_process P) box (hold_process Q)
hold_process (process.Call c) = held_process.Call c

updates_held : (us : List process.Update) → updates_of (map hold_update us) ≡ us
updates_held us = all_held (λ (u : Update). (u.name, expr_of u.value)) hold_update update_held us

pub process_held : (P : process.Process) → process_of (hold_process P) ≡ P
process_held process.Nil = refl
process_held (process.Output es p us P) =
    ap (λ fs. process.Output fs (pred_of (hold_pred p)) (updates_of (map hold_update us)) (process_of (hold_process P)))
    (all_held expr_of hold_expr expr_held es)
    ∙ ap (λ q. process.Output es q (updates_of (map hold_update us)) (process_of (hold_process P))) (pred_held p)
    ∙ ap₂ (λ vs Q. process.Output es p vs Q) (updates_held us) (process_held P)
process_held (process.Input p xs us P) =
    ap (λ q. process.Input q xs (updates_of (map hold_update us)) (process_of (hold_process P))) (pred_held p)
    ∙ ap₂ (λ vs Q. process.Input p xs vs Q) (updates_held us) (process_held P)
process_held (process.When g P) = ap₂ process.When (pred_held g) (process_held P)
process_held (process.Choice P Q) = ap₂ process.Choice (process_held P) (process_held Q)
process_held (process.Par P Q) = ap₂ process.Par (process_held P) (process_held Q)
process_held (process.Call c) = refl

-- A process is stored as one in boxes.
abbrev pub process_code : Coded process.Process
process_code = code_by Process stored.the_row.coded hold_process process_of process_held
