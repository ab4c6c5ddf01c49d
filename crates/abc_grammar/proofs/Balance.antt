-- Brackets of terms are balanced.
use Rattle.std.proofs.Common.{◌≡◌, ℕ, ◌+◌, ◌-◌, List, [], ◌∷◌, ◌++◌, refl, ap, ◌∙◌, append_assoc, arith}
use Rattle.abc_value.specs.declared.scalar.Scalar.{Scalar}
use Rattle.abc_value.specs.declared.value.Value.{Value}
use Rattle.abc_pred.specs.declared.names.Name.{Name}
use Rattle.abc_pred.specs.Terms.{Operand, Expr, Pred}
use Rattle.abc_term.specs.Processes.{Process, Update}
use Rattle.abc_grammar.specs.declared.lexemes.Lexeme.{Lexeme}
use Rattle.abc_grammar.specs.declared.lexemes.Lexeme.TheVariants as l
use Rattle.abc_text.specs.declared.words.Mark.TheVariants as m
use Rattle.abc_text.specs.declared.words.Keyword.TheVariants as k
use Rattle.abc_grammar.specs.Listed.{AreListed, MayBeListed, AreRepeated, IsName, IsVariable}
use Rattle.abc_grammar.specs.Listed as listed
use Rattle.abc_grammar.specs.Literals.{IsScalar, IsLiteral}
use Rattle.abc_grammar.specs.Literals as lit
use Rattle.abc_grammar.specs.Operands.{IsOperand, IsProduct, IsAtom}
use Rattle.abc_grammar.specs.Operands as o
use Rattle.abc_grammar.specs.Preds.{IsPred, IsBoth, IsTest}
use Rattle.abc_grammar.specs.Preds as p
use Rattle.abc_grammar.specs.Exprs.{IsExpr}
use Rattle.abc_grammar.specs.Exprs as e
use Rattle.abc_grammar.specs.Plain.{PlainComponent, PlainProgram}
use Rattle.abc_grammar.specs.Processes.{IsUpdate, IsProcess, IsChoice, IsPrefix, IsAfter}
use Rattle.abc_grammar.specs.Processes as q
use Rattle.abc_grammar.specs.Programs.{IsDefinition, IsInitial, IsComponent, IsProgram}
use Rattle.abc_grammar.specs.Programs as g
use Rattle.abc_grammar.specs.Limits.{open_with, open_behind}
use Rattle.abc_grammar.specs.Laws.{Balanced}

pub open_behind-append : (ts us : List Lexeme) (n : ℕ) → open_behind n (ts ++ us) ≡ open_behind (open_behind n ts) us
open_behind-append [] us n = refl
open_behind-append (t ∷ ts) us n = open_behind-append ts us (open_with n t)

-- one list behind another
both : (ts us : List Lexeme) → Balanced ts → Balanced us → Balanced (ts ++ us)
both ts us h k n = open_behind-append ts us n ∙ ap (λ m. open_behind m us) (h n) ∙ k n

-- a bracket, and what closes it: the token that closes takes one off again
closed : (t : Lexeme) (ts : List Lexeme) → ((n : ℕ) → open_with (n + 1) t ≡ n) → Balanced ts → (n : ℕ) → open_behind (n + 1) (ts ++ t ∷ []) ≡ n
closed t ts e h n = open_behind-append ts (t ∷ []) (n + 1) ∙ ap (λ m. open_with m t) (h (n + 1)) ∙ e n

one_less : (n : ℕ) → n + 1 - 1 ≡ n
one_less n = omega arith

pub listed_balance : {A : Type 0} {Item : List Lexeme → A → Type 0} {ts : List Lexeme} {items : List A} →
    ((us : List Lexeme) (a : A) → Item us a → Balanced us) → AreListed Item ts items → Balanced ts
listed_balance each (listed.one {ts} {a} h) = each ts a h
listed_balance each (listed.more {ts} {us} {a = a} before h) = both ts (l.Mark m.Comma ∷ us) (listed_balance each before) (each us a h)

pub optional_balance : {A : Type 0} {Item : List Lexeme → A → Type 0} {ts : List Lexeme} {items : List A} →
    ((us : List Lexeme) (a : A) → Item us a → Balanced us) → MayBeListed Item ts items → Balanced ts
optional_balance each listed.none = λ n. refl
optional_balance each (listed.some h) = listed_balance each h

pub scalar_balance : (ts : List Lexeme) (x : Scalar) → IsScalar ts x → Balanced ts
scalar_balance _ _ (lit.number h) n = refl
scalar_balance _ _ (lit.negative h) n = refl
scalar_balance _ _ lit.text n = refl
scalar_balance _ _ lit.yes n = refl
scalar_balance _ _ lit.no n = refl

literal_balance : {ts : List Lexeme} {v : Value} → IsLiteral ts v → Balanced ts
literal_balance (lit.scalar {ts} {x} h) = scalar_balance ts x h
literal_balance lit.nothing = λ n. refl
literal_balance (lit.set {ts} h) = closed (l.Mark m.CloseCurly) ts one_less (optional_balance scalar_balance h)

mutual
  pub operand_balance : {ts : List Lexeme} {a : Operand} → IsOperand ts a → Balanced ts
  operand_balance (o.product h) = product_balance h
  operand_balance (o.plus {ts} {us} h i) = both ts (l.Mark m.Plus ∷ us) (operand_balance h) (product_balance i)
  operand_balance (o.minus {ts} {us} h i) = both ts (l.Mark m.Minus ∷ us) (operand_balance h) (product_balance i)

  product_balance : {ts : List Lexeme} {a : Operand} → IsProduct ts a → Balanced ts
  product_balance (o.atom h) = atom_balance h
  product_balance (o.times {ts} {us} h i) = both ts (l.Mark m.Star ∷ us) (product_balance h) (atom_balance i)

  atom_balance : {ts : List Lexeme} {a : Operand} → IsAtom ts a → Balanced ts
  atom_balance (o.literal h) = literal_balance h
  atom_balance o.attribute = λ n. refl
  atom_balance o.own = λ n. refl
  atom_balance o.variable = λ n. refl
  atom_balance (o.bracketed {ts} h) = closed (l.Mark m.CloseRound) ts one_less (operand_balance h)
  atom_balance (o.size {ts} h) = closed (l.Mark m.CloseRound) ts one_less (operand_balance h)
  atom_balance (o.free {ts} h) = closed (l.Mark m.CloseRound) ts one_less (operand_balance h)

mutual
  pub pred_balance : {ts : List Lexeme} {a : Pred} → IsPred ts a → Balanced ts
  pred_balance (p.both h) = both_balance h
  pred_balance (p.or {ts} {us} h i) = both ts (l.Keyword k.Or ∷ us) (pred_balance h) (both_balance i)

  both_balance : {ts : List Lexeme} {a : Pred} → IsBoth ts a → Balanced ts
  both_balance (p.test h) = test_balance h
  both_balance (p.and {ts} {us} h i) = both ts (l.Keyword k.And ∷ us) (both_balance h) (test_balance i)

  test_balance : {ts : List Lexeme} {a : Pred} → IsTest ts a → Balanced ts
  test_balance p.always = λ n. refl
  test_balance p.never = λ n. refl
  test_balance (p.not h) = test_balance h
  test_balance (p.bracketed {ts} h) = closed (l.Mark m.CloseSquare) ts one_less (pred_balance h)
  test_balance (p.same {ts} {us} h i) = both ts (l.Mark m.Equal ∷ us) (operand_balance h) (operand_balance i)
  test_balance (p.below {ts} {us} h i) = both ts (l.Mark m.Below ∷ us) (operand_balance h) (operand_balance i)
  test_balance (p.member {ts} {us} h i) = both ts (l.Keyword k.In ∷ us) (operand_balance h) (operand_balance i)

-- ---- expressions, processes and programs
-- balanced tokens, and then tokens that close one bracket
closed_by : (ts tail : List Lexeme) → ((n : ℕ) → open_behind (n + 1) tail ≡ n) → Balanced ts → (n : ℕ) → open_behind (n + 1) (ts ++ tail) ≡ n
closed_by ts tail e h n = open_behind-append ts tail (n + 1) ∙ ap (λ m. open_behind m tail) (h (n + 1)) ∙ e n

round_then : (ts us : List Lexeme) → Balanced ts → Balanced us → (n : ℕ) → open_behind (n + 1) (ts ++ l.Mark m.CloseRound ∷ us) ≡ n
round_then ts us h k n = closed_by ts (l.Mark m.CloseRound ∷ us) (λ i. ap (λ j. open_behind j us) (one_less i) ∙ k i) h n

repeated_balance : {A : Type 0} {Item : List Lexeme → A → Type 0} {ts : List Lexeme} {items : List A} → ((us : List Lexeme) (a : A) → Item us a → Balanced us) → AreRepeated Item ts items → Balanced ts
repeated_balance each listed.none = λ n. refl
repeated_balance each (listed.more {ts} {us} {a = a} first h) = both ts us (repeated_balance each first) (each us a h)

pub expr_balance : {ts : List Lexeme} {a : Expr} → IsExpr ts a → Balanced ts
expr_balance (e.operand h) = operand_balance h
expr_balance (e.set {ts} h) = closed (l.Mark m.CloseRound) ts one_less (optional_balance (λ us a i. operand_balance i) h)
expr_balance (e.union {ts} {us} h i) = closed (l.Mark m.CloseRound) (ts ++ l.Mark m.Comma ∷ us) one_less (both ts (l.Mark m.Comma ∷ us) (expr_balance h) (expr_balance i))
expr_balance (e.without {ts} {us} h i) = closed (l.Mark m.CloseRound) (ts ++ l.Mark m.Comma ∷ us) one_less (both ts (l.Mark m.Comma ∷ us) (expr_balance h) (expr_balance i))

name_balance : (ts : List Lexeme) (a : Name) → IsName ts a → Balanced ts
name_balance _ _ listed.name = λ n. refl

pub variable_balance : (ts : List Lexeme) (a : Name) → IsVariable ts a → Balanced ts
variable_balance _ _ listed.variable = λ n. refl

update_balance : (ts : List Lexeme) (u : Update) → IsUpdate ts u → Balanced ts
update_balance _ _ (q.update {ts = ts} h) = closed (l.Mark m.CloseSquare) ts one_less (expr_balance h)

mutual
  process_balance : {ts : List Lexeme} {A : Process} → IsProcess ts A → Balanced ts
  process_balance (q.choice h) = choice_balance h
  process_balance (q.par {ts} {us} h i) = both ts (l.Mark m.Bar ∷ us) (process_balance h) (choice_balance i)

  choice_balance : {ts : List Lexeme} {A : Process} → IsChoice ts A → Balanced ts
  choice_balance (q.prefix h) = prefix_balance h
  choice_balance (q.plus {ts} {us} h i) = both ts (l.Mark m.Plus ∷ us) (choice_balance h) (prefix_balance i)

  prefix_balance : {ts : List Lexeme} {A : Process} → IsPrefix ts A → Balanced ts
  prefix_balance q.nil = λ n. refl
  prefix_balance q.call = λ n. refl
  prefix_balance (q.braced {ts} h) = closed (l.Mark m.CloseCurly) ts one_less (process_balance h)
  prefix_balance (q.when {ts} {us} h i) = round_then ts us (pred_balance h) (prefix_balance i)
  prefix_balance (q.output {ts} {us} {vs} h i j) = λ n.
      ap (open_behind (n + 1)) (append_assoc ts (l.Mark m.CloseRound ∷ l.Mark m.At ∷ l.Mark m.OpenRound ∷ us) (l.Mark m.CloseRound ∷ l.Mark m.Dot ∷ vs))
      ∙ round_then ts (l.Mark m.At ∷ l.Mark m.OpenRound ∷ (us ++ l.Mark m.CloseRound ∷ l.Mark m.Dot ∷ vs)) (optional_balance (λ ws a x. expr_balance x) h)
      (round_then us (l.Mark m.Dot ∷ vs) (pred_balance i) (after_balance j)) n
  prefix_balance (q.input {ts} {us} {vs} h i j) = λ n.
      ap (open_behind (n + 1)) (append_assoc ts (l.Mark m.CloseRound ∷ l.Mark m.OpenRound ∷ us) (l.Mark m.CloseRound ∷ l.Mark m.Dot ∷ vs))
      ∙ round_then ts (l.Mark m.OpenRound ∷ (us ++ l.Mark m.CloseRound ∷ l.Mark m.Dot ∷ vs)) (pred_balance h)
      (round_then us (l.Mark m.Dot ∷ vs) (optional_balance variable_balance i) (after_balance j)) n

  after_balance : {ts : List Lexeme} {us : List Update} {A : Process} → IsAfter ts us A → Balanced ts
  after_balance (q.after {ts} {us} h i) = both ts us (repeated_balance update_balance h) (prefix_balance i)

-- balanced tokens, and one that is no bracket
with_last : (ts : List Lexeme) (t : Lexeme) → ((n : ℕ) → open_with n t ≡ n) → Balanced ts → Balanced (ts ++ t ∷ [])
with_last ts t e h = both ts (t ∷ []) h e

definition_balance : (ts : List Lexeme) (d : Name × Process) → IsDefinition ts d → Balanced ts
definition_balance _ _ (g.definition {ts = ts} h) = with_last ts (l.Mark m.Semicolon) (λ n. refl) (process_balance h)

initial_balance : (ts : List Lexeme) (x : Name × Value) → IsInitial ts x → Balanced ts
initial_balance _ _ (g.initial {ts = ts} h) = with_last ts (l.Mark m.Semicolon) (λ n. refl) (literal_balance h)

component_balance : (ts : List Lexeme) (C : PlainComponent) → IsComponent ts C → Balanced ts
component_balance _ _ (g.component {ts = ts} {us} {vs} h i j) =
    closed_by (ts ++ l.Keyword k.Show ∷ us ++ l.Mark m.Semicolon ∷ l.Keyword k.Run ∷ vs) (l.Mark m.Semicolon ∷ l.Mark m.CloseCurly ∷ []) one_less
    (both (ts ++ l.Keyword k.Show ∷ us) (l.Mark m.Semicolon ∷ l.Keyword k.Run ∷ vs)
    (both ts (l.Keyword k.Show ∷ us) (repeated_balance initial_balance h) (optional_balance name_balance i)) (process_balance j))

pub program_balance : {ts : List Lexeme} {p : PlainProgram} → IsProgram ts p → Balanced ts
program_balance (g.headed_1 {ts} {us} h i) = both ts us (repeated_balance definition_balance h) (repeated_balance component_balance i)
