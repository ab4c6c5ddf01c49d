-- The signs of a text of the grammar are the `-` of its signed literals, and no other `-`.
use Rattle.std.specs.Prelude.{◌≡◌, Bool, true, false, not, ◌&&◌, List, [], ◌∷◌, ◌++◌}
use Rattle.abc_value.specs.declared.scalar.Scalar.{Scalar}
use Rattle.abc_value.specs.declared.value.Value.{Value}
use Rattle.abc_pred.specs.declared.names.Name.{Name}
use Rattle.abc_pred.specs.Terms.{Operand, Expr, Pred}
use Rattle.abc_term.specs.Processes.{Process, Update}
use Rattle.abc_grammar.specs.declared.lexemes.Lexeme.{Lexeme}
use Rattle.abc_grammar.specs.Listed.{AreListed, MayBeListed, AreRepeated, IsName, IsVariable}
use Rattle.abc_grammar.specs.Listed as l
use Rattle.abc_grammar.specs.Literals.{IsScalar, IsLiteral}
use Rattle.abc_grammar.specs.Literals as lit
use Rattle.abc_grammar.specs.Operands.{IsOperand, IsProduct, IsAtom}
use Rattle.abc_grammar.specs.Operands as o
use Rattle.abc_grammar.specs.Exprs.{IsExpr}
use Rattle.abc_grammar.specs.Exprs as e
use Rattle.abc_grammar.specs.Preds.{IsPred, IsBoth, IsTest}
use Rattle.abc_grammar.specs.Preds as p
use Rattle.abc_grammar.specs.Plain.{PlainComponent, PlainProgram}
use Rattle.abc_grammar.specs.Processes.{IsUpdate, IsProcess, IsChoice, IsPrefix, IsAfter}
use Rattle.abc_grammar.specs.Processes as q
use Rattle.abc_grammar.specs.Programs.{IsDefinition, IsInitial, IsComponent, IsProgram}
use Rattle.abc_grammar.specs.Programs as g
use Rattle.abc_grammar.specs.Sizes.{ends_operand, is_minus}

-- ---- by the token before
-- Which tokens are signs: each `-` that is the first token, or whose token before it may end no operand. The flag says that
-- the token before may end one.
abbrev pub signs : Bool → List Lexeme → List Bool
signs behind [] = []
signs behind (t ∷ ts) = (is_minus t && not behind) ∷ signs (ends_operand t) ts

-- ---- by the grammar
-- Which tokens are the `-` of a signed literal, by the rules that make the term.
abbrev pub scalar_signs : (ts : List Lexeme) (x : Scalar) → IsScalar ts x → List Bool
scalar_signs _ _ (lit.number h) = false ∷ []
scalar_signs _ _ (lit.negative h) = true ∷ false ∷ []
scalar_signs _ _ lit.text = false ∷ []
scalar_signs _ _ lit.yes = false ∷ []
scalar_signs _ _ lit.no = false ∷ []

module _ {A : Type 0} {Item : List Lexeme → A → Type 0} (each : (ts : List Lexeme) (a : A) → Item ts a → List Bool) where
  abbrev pub listed_signs : {ts : List Lexeme} {items : List A} → AreListed Item ts items → List Bool
  listed_signs (l.one {ts} {a} h) = each ts a h
  listed_signs (l.more {us = us} {a = a} first h) = listed_signs first ++ false ∷ each us a h

  abbrev pub optional_signs : {ts : List Lexeme} {items : List A} → MayBeListed Item ts items → List Bool
  optional_signs l.none = []
  optional_signs (l.some h) = listed_signs h

  abbrev pub repeated_signs : {ts : List Lexeme} {items : List A} → AreRepeated Item ts items → List Bool
  repeated_signs l.none = []
  repeated_signs (l.more {us = us} {a = a} first h) = repeated_signs first ++ each us a h

abbrev pub name_signs : (ts : List Lexeme) (a : Name) → IsName ts a → List Bool
name_signs ts a h = false ∷ []

abbrev pub variable_signs : (ts : List Lexeme) (a : Name) → IsVariable ts a → List Bool
variable_signs ts a h = false ∷ []

abbrev pub literal_signs : {ts : List Lexeme} {v : Value} → IsLiteral ts v → List Bool
literal_signs (lit.scalar {ts} {x} h) = scalar_signs ts x h
literal_signs lit.nothing = false ∷ []
literal_signs (lit.set h) = false ∷ optional_signs scalar_signs h ++ false ∷ []

abbrev mutual
  pub operand_signs : {ts : List Lexeme} {a : Operand} → IsOperand ts a → List Bool
  operand_signs (o.product h) = product_signs h
  operand_signs (o.plus h i) = operand_signs h ++ false ∷ product_signs i
  operand_signs (o.minus h i) = operand_signs h ++ false ∷ product_signs i

  pub product_signs : {ts : List Lexeme} {a : Operand} → IsProduct ts a → List Bool
  product_signs (o.atom h) = atom_signs h
  product_signs (o.times h i) = product_signs h ++ false ∷ atom_signs i

  pub atom_signs : {ts : List Lexeme} {a : Operand} → IsAtom ts a → List Bool
  atom_signs (o.literal h) = literal_signs h
  atom_signs o.attribute = false ∷ []
  atom_signs o.own = false ∷ false ∷ false ∷ []
  atom_signs o.variable = false ∷ []
  atom_signs (o.bracketed h) = false ∷ operand_signs h ++ false ∷ []
  atom_signs (o.size h) = false ∷ false ∷ operand_signs h ++ false ∷ []
  atom_signs (o.free h) = false ∷ false ∷ operand_signs h ++ false ∷ []

abbrev pub expr_signs : {ts : List Lexeme} {a : Expr} → IsExpr ts a → List Bool
expr_signs (e.operand h) = operand_signs h
expr_signs (e.set h) = false ∷ false ∷ optional_signs (λ ts a i. operand_signs i) h ++ false ∷ []
expr_signs (e.union h i) = false ∷ false ∷ expr_signs h ++ false ∷ expr_signs i ++ false ∷ []
expr_signs (e.without h i) = false ∷ false ∷ expr_signs h ++ false ∷ expr_signs i ++ false ∷ []

abbrev mutual
  pub pred_signs : {ts : List Lexeme} {a : Pred} → IsPred ts a → List Bool
  pred_signs (p.both h) = both_signs h
  pred_signs (p.or h i) = pred_signs h ++ false ∷ both_signs i

  pub both_signs : {ts : List Lexeme} {a : Pred} → IsBoth ts a → List Bool
  both_signs (p.test h) = test_signs h
  both_signs (p.and h i) = both_signs h ++ false ∷ test_signs i

  pub test_signs : {ts : List Lexeme} {a : Pred} → IsTest ts a → List Bool
  test_signs p.always = false ∷ []
  test_signs p.never = false ∷ []
  test_signs (p.not h) = false ∷ test_signs h
  test_signs (p.bracketed h) = false ∷ pred_signs h ++ false ∷ []
  test_signs (p.same h i) = operand_signs h ++ false ∷ operand_signs i
  test_signs (p.below h i) = operand_signs h ++ false ∷ operand_signs i
  test_signs (p.member h i) = operand_signs h ++ false ∷ operand_signs i

abbrev pub update_signs : (ts : List Lexeme) (u : Update) → IsUpdate ts u → List Bool
update_signs _ _ (q.update h) = false ∷ false ∷ false ∷ expr_signs h ++ false ∷ []

abbrev mutual
  pub process_signs : {ts : List Lexeme} {A : Process} → IsProcess ts A → List Bool
  process_signs (q.choice h) = choice_signs h
  process_signs (q.par h i) = process_signs h ++ false ∷ choice_signs i

  pub choice_signs : {ts : List Lexeme} {A : Process} → IsChoice ts A → List Bool
  choice_signs (q.prefix h) = prefix_signs h
  choice_signs (q.plus h i) = choice_signs h ++ false ∷ prefix_signs i

  pub prefix_signs : {ts : List Lexeme} {A : Process} → IsPrefix ts A → List Bool
  prefix_signs q.nil = false ∷ []
  prefix_signs q.call = false ∷ []
  prefix_signs (q.braced h) = false ∷ process_signs h ++ false ∷ []
  prefix_signs (q.when h i) = false ∷ false ∷ pred_signs h ++ false ∷ prefix_signs i
  prefix_signs (q.output h i j) =
      false ∷ optional_signs (λ ts a k. expr_signs k) h ++ false ∷ false ∷ false ∷ pred_signs i ++ false ∷ false ∷ after_signs j
  prefix_signs (q.input h i j) = false ∷ false ∷ pred_signs h ++ false ∷ false ∷ optional_signs variable_signs i ++ false ∷ false ∷ after_signs j

  pub after_signs : {ts : List Lexeme} {us : List Update} {A : Process} → IsAfter ts us A → List Bool
  after_signs (q.after h i) = repeated_signs update_signs h ++ prefix_signs i

abbrev pub definition_signs : (ts : List Lexeme) (d : Name × Process) → IsDefinition ts d → List Bool
definition_signs _ _ (g.definition h) = false ∷ false ∷ false ∷ process_signs h ++ false ∷ []

abbrev pub initial_signs : (ts : List Lexeme) (x : Name × Value) → IsInitial ts x → List Bool
initial_signs _ _ (g.initial h) = false ∷ false ∷ literal_signs h ++ false ∷ []

abbrev pub component_signs : (ts : List Lexeme) (C : PlainComponent) → IsComponent ts C → List Bool
component_signs _ _ (g.component h i j) =
    false ∷ false ∷ false ∷ repeated_signs initial_signs h ++ false ∷ optional_signs name_signs i ++ false ∷ false ∷ process_signs j ++ false ∷ false ∷ []

abbrev pub program_signs : {ts : List Lexeme} {p : PlainProgram} → IsProgram ts p → List Bool
program_signs (g.headed_1 h i) = false ∷ false ∷ false ∷ repeated_signs definition_signs h ++ repeated_signs component_signs i

-- ---- the two agree
pub record SignsAreOfLiterals : Type 0 where
  pub programs : (ts : List Lexeme) (p : PlainProgram) (h : IsProgram ts p) → signs false ts ≡ program_signs h
  pub preds : (ts : List Lexeme) (a : Pred) (h : IsPred ts a) → signs false ts ≡ pred_signs h
