-- Terms and their canonical text, worked through the definitions.
use Rattle.std.specs.Prelude.{◌≡◌, ℕ, List, [], ◌∷◌, ◌++◌, codes, pos, negsuc, flat_map, true, false}
use Rattle.abc_value.specs.declared.scalar.Scalar.{Scalar}
use Rattle.abc_value.specs.declared.scalar.Scalar.TheVariants as s
use Rattle.abc_value.specs.declared.value.Value.TheVariants as v
use Rattle.abc_pred.specs.declared.names.Name.{Name}
use Rattle.abc_pred.specs.Terms.{Operand, Expr, Pred}
use Rattle.abc_pred.specs.Terms as t
use Rattle.abc_term.specs.Processes.{Process}
use Rattle.abc_term.specs.Processes as P
use Rattle.abc_grammar.specs.Plain.{PlainComponent, PlainProgram}
use Rattle.abc_printed.specs.Parts.{bytes_of}
use Rattle.abc_printed.specs.Forms.{operand_parts, expr_parts, pred_parts, process_parts, program_parts}

-- ---- how the examples are written
-- the names 0 to 6 are the words A, B, a, b, c, x and n
abbrev pub words : List (List ℕ)
words = codes "A" ∷ codes "B" ∷ codes "a" ∷ codes "b" ∷ codes "c" ∷ codes "x" ∷ codes "n" ∷ []

abbrev pub name_of : ℕ → Name
name_of n = record { 0 = n }

abbrev pub A : Process
A = P.Call (name_of 0)

abbrev pub B : Process
B = P.Call (name_of 1)

abbrev pub a : Operand
a = t.Attr (name_of 2)

abbrev pub b : Operand
b = t.Attr (name_of 3)

abbrev pub c : Operand
c = t.Attr (name_of 4)

abbrev pub integer : ℕ → Scalar
integer n = s.Number (pos n)

abbrev pub one : Operand
one = t.Literal (v.Scalar (integer 1))

abbrev pub minus_one : Operand
minus_one = t.Literal (v.Scalar (s.Number (negsuc 0)))

abbrev pub operand_text : Operand → List ℕ
operand_text o = bytes_of words (operand_parts o)

abbrev pub expr_text : Expr → List ℕ
expr_text e = bytes_of words (expr_parts e)

abbrev pub guard_text : Pred → List ℕ
guard_text p = bytes_of words (pred_parts p)

abbrev pub process_text : Process → List ℕ
process_text P = bytes_of words (process_parts P)

-- ---- operands and expressions
pub record WorkedOperands : Type 0 where
  pub to_the_left : operand_text (t.Sub (t.Sub a b) c) ≡ codes "a - b - c"
  pub to_the_right : operand_text (t.Sub a (t.Sub b c)) ≡ codes "a - (b - c)"
  pub sum_to_the_right : operand_text (t.Add a (t.Add b c)) ≡ codes "a + (b + c)"
  pub product_in_sum : operand_text (t.Add (t.Mul a b) (t.Mul b c)) ≡ codes "a * b + b * c"
  pub sum_in_product : operand_text (t.Mul (t.Add a b) (t.Sub b c)) ≡ codes "(a + b) * (b - c)"
  pub product_to_the_right : operand_text (t.Mul (t.Mul a b) (t.Mul b c)) ≡ codes "a * b * (b * c)"
  pub negative : operand_text (t.Sub minus_one minus_one) ≡ codes "-1 - -1"
  pub own_and_variable :
      operand_text (t.Add (t.This (name_of 2)) (t.Var (name_of 5))) ≡ codes "this.a + $x"
  pub size_and_free : operand_text (t.Size (t.Free (t.Add a one))) ≡ codes "size(free(a + 1))"
  pub set_of_all_kinds :
      operand_text (t.Literal (v.Set
      (s.Number (negsuc 2) ∷ integer 0 ∷ s.Text (codes "q\"\\") ∷ s.Truth false ∷ s.Truth true ∷ [])))
      ≡ codes "{-3, 0, \"q\\\"\\\\\", false, true}"
  pub empty_set_and_none :
      expr_text (t.SetOf (t.Literal (v.Set []) ∷ t.Literal v.Nothing ∷ [])) ≡ codes "set({}, none)"
  pub union_and_without :
      expr_text (t.Union (t.SetOf []) (t.Without (t.Plain a) (t.Plain b)))
      ≡ codes "union(set(), without(a, b))"

-- ---- predicates
abbrev pub same : Pred
same = t.Same a one

abbrev pub below : Pred
below = t.Less a b

pub record WorkedPreds : Type 0 where
  pub and_in_or :
      guard_text (t.Or (t.And same below) (t.And below same))
      ≡ codes "a = 1 and a < b or a < b and a = 1"
  pub or_in_and :
      guard_text (t.And (t.Or same below) (t.Or below same))
      ≡ codes "[a = 1 or a < b] and [a < b or a = 1]"
  pub to_the_right :
      guard_text (t.Or same (t.Or same (t.And same (t.And same below))))
      ≡ codes "a = 1 or [a = 1 or a = 1 and [a = 1 and a < b]]"
  pub not_all :
      guard_text (t.Not (t.Not (t.And t.True (t.Member a b)))) ≡ codes "not not [tt and a in b]"
  pub not_one : guard_text (t.And (t.Not same) (t.Not t.False)) ≡ codes "not a = 1 and not ff"

-- ---- processes
pub record WorkedProcesses : Type 0 where
  pub par_in_choice : process_text (P.Choice (P.Par A B) (P.Choice A B)) ≡ codes "{A | B} + {A + B}"
  pub choice_in_par :
      process_text (P.Par (P.Par A (P.Choice A B)) (P.Par A B)) ≡ codes "A | A + B | {A | B}"
  pub guards :
      process_text (P.When t.True (P.When same (P.Choice A B)))
      ≡ codes "when (tt) when (a = 1) {A + B}"
  pub output :
      process_text
      (P.Output (t.Plain one ∷ t.Plain a ∷ []) t.True ((name_of 2, t.Plain b) ∷ []) (P.Par A P.Nil))
      ≡ codes "(1, a) @ (tt) . [a := b] {A | 0}"
  pub empty_tuple : process_text (P.Output [] t.False [] P.Nil) ≡ codes "() @ (ff) . 0"
  pub input :
      process_text
      (P.Input same (name_of 5 ∷ name_of 6 ∷ []) ((name_of 2, t.Plain b) ∷ (name_of 3, t.Plain a) ∷ []) A)
      ≡ codes "? (a = 1) ($x, $n) . [a := b] [b := a] A"
  pub no_variables : process_text (P.Input t.True [] [] A) ≡ codes "? (tt) () . A"

-- ---- a program
-- lines, each with its end
abbrev pub lines : List (List ℕ) → List ℕ
lines ls = flat_map (λ line. line ++ 10 ∷ []) ls

abbrev pub idle : PlainComponent
idle = record { name = name_of 2; initial = []; show = []; run = P.Nil }

abbrev pub busy : PlainComponent
busy =
    record {
      name = name_of 3;
      initial = (name_of 4, v.Scalar (integer 7)) ∷ (name_of 6, v.Set []) ∷ [];
      show = name_of 4 ∷ name_of 6 ∷ [];
      run = P.Par A B;
    }

abbrev pub small : PlainProgram
small =
    record { definitions = (name_of 0, P.Choice B P.Nil) ∷ (name_of 1, A) ∷ []; components = idle ∷ busy ∷ [] }

abbrev pub WorkedProgram : Type 0
WorkedProgram =
    bytes_of words (program_parts small)
    ≡ lines (codes "abc 1;" ∷ codes "def A = B + 0;" ∷ codes "def B = A;"
    ∷ codes "comp a {" ∷ codes "  show;" ∷ codes "  run 0;" ∷ codes "}"
    ∷ codes "comp b {" ∷ codes "  c = 7;" ∷ codes "  n = {};" ∷ codes "  show c, n;"
    ∷ codes "  run A | B;" ∷ codes "}" ∷ [])
