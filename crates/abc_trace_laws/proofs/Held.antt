-- A predicate in its boxes, its names by new numbers.
use Rattle.std.proofs.Common.{◌≡◌, refl, ap}
use Rattle.abc_pred.specs.declared.names.Name.{Name}
use Rattle.abc_pred.specs.declared.syntax.Operand.{Operand}
use Rattle.abc_pred.specs.declared.syntax.Operand as held
use Rattle.abc_pred.specs.declared.syntax.Pred.{Pred}
use Rattle.abc_pred.specs.declared.syntax.Pred as held_pred
use Rattle.abc_pred.specs.Terms as t
use Rattle.abc_pred.specs.Standing.{operand_of, pred_of}
use Rattle.abc_trace_preds.specs.Renaming.{renamed_operand, renamed}

module _ (r : Name → Name) where
  -- The boxes stay where they are.
  abbrev pub hold_operand : Operand → Operand
  hold_operand (held.Literal v) = held.Literal v
  hold_operand (held.Attr a) = held.Attr (r a)
  hold_operand (held.This a) = held.This (r a)
  hold_operand (held.Var x) = held.Var (r x)
  hold_operand (held.Add' p a q b) = held.Add' p (hold_operand a) q (hold_operand b)
  hold_operand (held.Sub' p a q b) = held.Sub' p (hold_operand a) q (hold_operand b)
  hold_operand (held.Mul' p a q b) = held.Mul' p (hold_operand a) q (hold_operand b)
  hold_operand (held.Size' p a) = held.Size' p (hold_operand a)
  hold_operand (held.Free' p a) = held.Free' p (hold_operand a)

  abbrev pub hold_pred : Pred → Pred
  hold_pred held_pred.True = held_pred.True
  hold_pred held_pred.False = held_pred.False
  hold_pred (held_pred.Same a b) = held_pred.Same (hold_operand a) (hold_operand b)
  hold_pred (held_pred.Less a b) = held_pred.Less (hold_operand a) (hold_operand b)
  hold_pred (held_pred.Member a b) = held_pred.Member (hold_operand a) (hold_operand b)
  hold_pred (held_pred.Not' p a) = held_pred.Not' p (hold_pred a)
  hold_pred (held_pred.And' p a q b) = held_pred.And' p (hold_pred a) q (hold_pred b)
  hold_pred (held_pred.Or' p a q b) = held_pred.Or' p (hold_pred a) q (hold_pred b)

  -- It stands for the plain operand by the new numbers,
  operand_held : (o : Operand) → operand_of (hold_operand o) ≡ renamed_operand r (operand_of o)
  operand_held (held.Literal v) = refl
  operand_held (held.Attr a) = refl
  operand_held (held.This a) = refl
  operand_held (held.Var x) = refl
  operand_held (held.Add' p a q b) = let x = operand_held a in let y = operand_held b in λ i. t.Add (x i) (y i)
  operand_held (held.Sub' p a q b) = let x = operand_held a in let y = operand_held b in λ i. t.Sub (x i) (y i)
  operand_held (held.Mul' p a q b) = let x = operand_held a in let y = operand_held b in λ i. t.Mul (x i) (y i)
  operand_held (held.Size' p a) = ap t.Size (operand_held a)
  operand_held (held.Free' p a) = ap t.Free (operand_held a)

  -- and so does the predicate.
  pub pred_held : (o : Pred) → pred_of (hold_pred o) ≡ renamed r (pred_of o)
  pred_held held_pred.True = refl
  pred_held held_pred.False = refl
  pred_held (held_pred.Same a b) = let x = operand_held a in let y = operand_held b in λ i. t.Same (x i) (y i)
  pred_held (held_pred.Less a b) = let x = operand_held a in let y = operand_held b in λ i. t.Less (x i) (y i)
  pred_held (held_pred.Member a b) = let x = operand_held a in let y = operand_held b in λ i. t.Member (x i) (y i)
  pred_held (held_pred.Not' p a) = ap t.Not (pred_held a)
  pred_held (held_pred.And' p a q b) = let x = pred_held a in let y = pred_held b in λ i. t.And (x i) (y i)
  pred_held (held_pred.Or' p a q b) = let x = pred_held a in let y = pred_held b in λ i. t.Or (x i) (y i)
