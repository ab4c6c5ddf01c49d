-- Values and truth see the other's environment by its look-ups alone, and an own expression doesn't see it.
use Rattle.std.proofs.Common.{◌≡◌, not, ◌&&◌, ◌||◌, List, [], ◌∷◌, map, refl, ap, sym, ◌∙◌}
use Rattle.abc_value.specs.Values.{number_value, sum_of, rest_of, product_of, size_of, free_of, set_value, union_value, without_value, is_same, is_less, is_member}
use Rattle.abc_pred.specs.Terms.{Operand, Literal, Attr, This, Var, Add, Sub, Mul, Size, Free, Expr, Plain, SetOf, Union, Without, Pred, True, False, Same, Less, Member, Not, And, Or}
use Rattle.abc_pred.specs.Maps.{Entries, ShowsTheSame, shown}
use Rattle.abc_pred.specs.Meaning.{val, expr_in, sat, IsOwn, IsOwnOperand, AreOwnOperands}
use Rattle.abc_pred.specs.Laws.{TruthIsOfTheCutMap, OwnDependsOnOwnAlone}
use Rattle.abc_pred.proofs.Shown.{look_up-shown}

module _ (own other other' vars : Entries) (same : ShowsTheSame other other') where
  val-shows : (o : Operand) → val o own other vars ≡ val o own other' vars
  val-shows (Literal v) = refl
  val-shows (Attr n) = same n
  val-shows (This n) = refl
  val-shows (Var n) = refl
  val-shows (Add a b) = λ i. number_value (sum_of (val-shows a i) (val-shows b i))
  val-shows (Sub a b) = λ i. number_value (rest_of (val-shows a i) (val-shows b i))
  val-shows (Mul a b) = λ i. number_value (product_of (val-shows a i) (val-shows b i))
  val-shows (Size a) = ap (λ v. number_value (size_of v)) (val-shows a)
  val-shows (Free a) = ap (λ v. number_value (free_of v)) (val-shows a)

  sat-shows : (p : Pred) → sat p own other vars ≡ sat p own other' vars
  sat-shows True = refl
  sat-shows False = refl
  sat-shows (Same a b) = λ i. is_same (val-shows a i) (val-shows b i)
  sat-shows (Less a b) = λ i. is_less (val-shows a i) (val-shows b i)
  sat-shows (Member a b) = λ i. is_member (val-shows a i) (val-shows b i)
  sat-shows (Not p) = ap not (sat-shows p)
  sat-shows (And p q) = λ i. sat-shows p i && sat-shows q i
  sat-shows (Or p q) = λ i. sat-shows p i || sat-shows q i

pub truth_is_of_the_cut_map : TruthIsOfTheCutMap
truth_is_of_the_cut_map p own env other vars i h =
    sat-shows own other (shown env i) vars (λ a. h a ∙ sym (look_up-shown env i a)) p

module _ (own other other' vars : Entries) where
  val-own : (o : Operand) → IsOwnOperand o → val o own other vars ≡ val o own other' vars
  val-own (Literal v) h = refl
  val-own (Attr n) h = absurd h
  val-own (This n) h = refl
  val-own (Var n) h = refl
  val-own (Add a b) h = λ i. number_value (sum_of (val-own a h.0 i) (val-own b h.1 i))
  val-own (Sub a b) h = λ i. number_value (rest_of (val-own a h.0 i) (val-own b h.1 i))
  val-own (Mul a b) h = λ i. number_value (product_of (val-own a h.0 i) (val-own b h.1 i))
  val-own (Size a) h = ap (λ v. number_value (size_of v)) (val-own a h)
  val-own (Free a) h = ap (λ v. number_value (free_of v)) (val-own a h)

  vals-own : (os : List Operand) → AreOwnOperands os → map (λ o. val o own other vars) os ≡ map (λ o. val o own other' vars) os
  vals-own [] h = refl
  vals-own (o ∷ os) h = λ i. val-own o h.0 i ∷ vals-own os h.1 i

  expr-own : (e : Expr) → IsOwn e → expr_in e own other vars ≡ expr_in e own other' vars
  expr-own (Plain o) h = val-own o h
  expr-own (SetOf os) h = ap set_value (vals-own os h)
  expr-own (Union a b) h = λ i. union_value (expr-own a h.0 i) (expr-own b h.1 i)
  expr-own (Without a b) h = λ i. without_value (expr-own a h.0 i) (expr-own b h.1 i)

pub own_depends_on_own_alone : OwnDependsOnOwnAlone
own_depends_on_own_alone e h own other other' vars = expr-own own other other' vars e h
