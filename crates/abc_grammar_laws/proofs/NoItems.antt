-- No token of a term is `def` or `comp`: these begin definitions and components alone.
use Rattle.std.proofs.Common.{◌≡◌, Bool, true, List, [], ◌∷◌, ◌++◌, refl, ◌∙◌}
use Rattle.std.specs.Prelude.{not}
use Rattle.std.specs.List.{list_all}
use Rattle.std.proofs.lemmas.Bool.{and_from}
use Rattle.std.proofs.lemmas.List.Folds.{list_all-append}
use Rattle.abc_value.specs.declared.scalar.Scalar.{Scalar}
use Rattle.abc_value.specs.declared.value.Value.{Value}
use Rattle.abc_pred.specs.declared.names.Name.{Name}
use Rattle.abc_pred.specs.Terms.{Operand, Expr, Pred}
use Rattle.abc_term.specs.Processes.{Process, Update}
use Rattle.abc_grammar.specs.declared.lexemes.Lexeme.{Lexeme}
use Rattle.abc_grammar.specs.declared.lexemes.Lexeme.TheVariants as l
use Rattle.abc_text.specs.declared.words.Mark.TheVariants as m
use Rattle.abc_text.specs.declared.words.Keyword.TheVariants as k
use Rattle.abc_grammar.specs.Listed.{AreListed, MayBeListed, AreRepeated, IsName, IsVariable}
use Rattle.abc_grammar.specs.Listed as gl
use Rattle.abc_grammar.specs.Literals.{IsScalar, IsLiteral}
use Rattle.abc_grammar.specs.Literals as gs
use Rattle.abc_grammar.specs.Operands.{IsOperand, IsProduct, IsAtom}
use Rattle.abc_grammar.specs.Operands as og
use Rattle.abc_grammar.specs.Exprs.{IsExpr}
use Rattle.abc_grammar.specs.Exprs as eg
use Rattle.abc_grammar.specs.Preds.{IsPred, IsBoth, IsTest}
use Rattle.abc_grammar.specs.Preds as pg
use Rattle.abc_grammar.specs.Processes.{IsUpdate, IsProcess, IsChoice, IsPrefix, IsAfter}
use Rattle.abc_grammar.specs.Processes as q
use Rattle.abc_grammar.specs.Programs.{IsInitial}
use Rattle.abc_grammar.specs.Programs as g
use Rattle.abc_grammar.specs.Limits.{starts_item}

-- no definition or component begins with this token, or with any of these
abbrev pub is_inside : Lexeme → Bool
is_inside t = not (starts_item t)

abbrev pub NoItem : List Lexeme → Type 0
NoItem ts = list_all is_inside ts ≡ true

-- one list behind another
pub both : (ts us : List Lexeme) → NoItem ts → NoItem us → NoItem (ts ++ us)
both ts us h i = list_all-append is_inside ts us ∙ and_from (list_all is_inside ts) (list_all is_inside us) h i

-- ---- lists of items
listed_no_item :
    {A : Type 0} {Item : List Lexeme → A → Type 0} {ts : List Lexeme} {items : List A} →
    ((us : List Lexeme) (a : A) → Item us a → NoItem us) → AreListed Item ts items → NoItem ts
listed_no_item each (gl.one {ts} {a} h) = each ts a h
listed_no_item each (gl.more {ts} {us} {a = a} h i) =
    both ts (l.Mark m.Comma ∷ us) (listed_no_item each h) (each us a i)

pub optional_no_item :
    {A : Type 0} {Item : List Lexeme → A → Type 0} {ts : List Lexeme} {items : List A} →
    ((us : List Lexeme) (a : A) → Item us a → NoItem us) → MayBeListed Item ts items → NoItem ts
optional_no_item each gl.none = refl
optional_no_item each (gl.some h) = listed_no_item each h

pub repeated_no_item :
    {A : Type 0} {Item : List Lexeme → A → Type 0} {ts : List Lexeme} {items : List A} →
    ((us : List Lexeme) (a : A) → Item us a → NoItem us) → AreRepeated Item ts items → NoItem ts
repeated_no_item each gl.none = refl
repeated_no_item each (gl.more {ts} {us} {a = a} h i) = both ts us (repeated_no_item each h) (each us a i)

pub name_no_item : (ts : List Lexeme) (a : Name) → IsName ts a → NoItem ts
name_no_item _ _ gl.name = refl

variable_no_item : (ts : List Lexeme) (a : Name) → IsVariable ts a → NoItem ts
variable_no_item _ _ gl.variable = refl

-- ---- literals and operands
scalar_no_item : (ts : List Lexeme) (x : Scalar) → IsScalar ts x → NoItem ts
scalar_no_item _ _ (gs.number h) = refl
scalar_no_item _ _ (gs.negative h) = refl
scalar_no_item _ _ gs.text = refl
scalar_no_item _ _ gs.yes = refl
scalar_no_item _ _ gs.no = refl

literal_no_item : {ts : List Lexeme} {v : Value} → IsLiteral ts v → NoItem ts
literal_no_item (gs.scalar {ts} {x} h) = scalar_no_item ts x h
literal_no_item gs.nothing = refl
literal_no_item (gs.set {ts} h) = both ts (l.Mark m.CloseCurly ∷ []) (optional_no_item scalar_no_item h) refl

mutual
  operand_no_item : {ts : List Lexeme} {a : Operand} → IsOperand ts a → NoItem ts
  operand_no_item (og.product h) = product_no_item h
  operand_no_item (og.plus {ts} {us} h i) = both ts (l.Mark m.Plus ∷ us) (operand_no_item h) (product_no_item i)
  operand_no_item (og.minus {ts} {us} h i) = both ts (l.Mark m.Minus ∷ us) (operand_no_item h) (product_no_item i)

  product_no_item : {ts : List Lexeme} {a : Operand} → IsProduct ts a → NoItem ts
  product_no_item (og.atom h) = atom_no_item h
  product_no_item (og.times {ts} {us} h i) = both ts (l.Mark m.Star ∷ us) (product_no_item h) (atom_no_item i)

  atom_no_item : {ts : List Lexeme} {a : Operand} → IsAtom ts a → NoItem ts
  atom_no_item (og.literal h) = literal_no_item h
  atom_no_item og.attribute = refl
  atom_no_item og.own = refl
  atom_no_item og.variable = refl
  atom_no_item (og.bracketed {ts} h) = both ts (l.Mark m.CloseRound ∷ []) (operand_no_item h) refl
  atom_no_item (og.size {ts} h) = both ts (l.Mark m.CloseRound ∷ []) (operand_no_item h) refl
  atom_no_item (og.free {ts} h) = both ts (l.Mark m.CloseRound ∷ []) (operand_no_item h) refl

-- ---- expressions and predicates
pair_no_item :
    (ts us : List Lexeme) → NoItem ts → NoItem us →
    NoItem (ts ++ l.Mark m.Comma ∷ us ++ l.Mark m.CloseRound ∷ [])
pair_no_item ts us h i =
    both (ts ++ l.Mark m.Comma ∷ us) (l.Mark m.CloseRound ∷ []) (both ts (l.Mark m.Comma ∷ us) h i) refl

expr_no_item : (ts : List Lexeme) (a : Expr) → IsExpr ts a → NoItem ts
expr_no_item _ _ (eg.operand h) = operand_no_item h
expr_no_item _ _ (eg.set {ts} h) =
    both ts (l.Mark m.CloseRound ∷ []) (optional_no_item (λ us a i. operand_no_item i) h) refl
expr_no_item _ _ (eg.union {ts} {us} {a} {b} h i) = pair_no_item ts us (expr_no_item ts a h) (expr_no_item us b i)
expr_no_item _ _ (eg.without {ts} {us} {a} {b} h i) = pair_no_item ts us (expr_no_item ts a h) (expr_no_item us b i)

mutual
  pred_no_item : {ts : List Lexeme} {a : Pred} → IsPred ts a → NoItem ts
  pred_no_item (pg.both h) = both_no_item h
  pred_no_item (pg.or {ts} {us} h i) = both ts (l.Keyword k.Or ∷ us) (pred_no_item h) (both_no_item i)

  both_no_item : {ts : List Lexeme} {a : Pred} → IsBoth ts a → NoItem ts
  both_no_item (pg.test h) = test_no_item h
  both_no_item (pg.and {ts} {us} h i) = both ts (l.Keyword k.And ∷ us) (both_no_item h) (test_no_item i)

  test_no_item : {ts : List Lexeme} {a : Pred} → IsTest ts a → NoItem ts
  test_no_item pg.always = refl
  test_no_item pg.never = refl
  test_no_item (pg.not h) = test_no_item h
  test_no_item (pg.bracketed {ts} h) = both ts (l.Mark m.CloseSquare ∷ []) (pred_no_item h) refl
  test_no_item (pg.same {ts} {us} h i) = both ts (l.Mark m.Equal ∷ us) (operand_no_item h) (operand_no_item i)
  test_no_item (pg.below {ts} {us} h i) = both ts (l.Mark m.Below ∷ us) (operand_no_item h) (operand_no_item i)
  test_no_item (pg.member {ts} {us} h i) = both ts (l.Keyword k.In ∷ us) (operand_no_item h) (operand_no_item i)

-- ---- processes and first values
update_no_item : (ts : List Lexeme) (u : Update) → IsUpdate ts u → NoItem ts
update_no_item _ _ (q.update {ts = ts} {e} h) = both ts (l.Mark m.CloseSquare ∷ []) (expr_no_item ts e h) refl

mutual
  pub process_no_item : {ts : List Lexeme} {A : Process} → IsProcess ts A → NoItem ts
  process_no_item (q.choice h) = choice_no_item h
  process_no_item (q.par {ts} {us} h i) = both ts (l.Mark m.Bar ∷ us) (process_no_item h) (choice_no_item i)

  choice_no_item : {ts : List Lexeme} {A : Process} → IsChoice ts A → NoItem ts
  choice_no_item (q.prefix h) = prefix_no_item h
  choice_no_item (q.plus {ts} {us} h i) = both ts (l.Mark m.Plus ∷ us) (choice_no_item h) (prefix_no_item i)

  prefix_no_item : {ts : List Lexeme} {A : Process} → IsPrefix ts A → NoItem ts
  prefix_no_item q.nil = refl
  prefix_no_item q.call = refl
  prefix_no_item (q.braced {ts} h) = both ts (l.Mark m.CloseCurly ∷ []) (process_no_item h) refl
  prefix_no_item (q.when {ts} {us} h i) = both ts (l.Mark m.CloseRound ∷ us) (pred_no_item h) (prefix_no_item i)
  prefix_no_item (q.output {ts} {us} {vs} h i j) =
      both (ts ++ l.Mark m.CloseRound ∷ l.Mark m.At ∷ l.Mark m.OpenRound ∷ us)
      (l.Mark m.CloseRound ∷ l.Mark m.Dot ∷ vs)
      (both ts (l.Mark m.CloseRound ∷ l.Mark m.At ∷ l.Mark m.OpenRound ∷ us) (optional_no_item expr_no_item h)
      (pred_no_item i))
      (after_no_item j)
  prefix_no_item (q.input {ts} {us} {vs} h i j) =
      both (ts ++ l.Mark m.CloseRound ∷ l.Mark m.OpenRound ∷ us) (l.Mark m.CloseRound ∷ l.Mark m.Dot ∷ vs)
      (both ts (l.Mark m.CloseRound ∷ l.Mark m.OpenRound ∷ us) (pred_no_item h) (optional_no_item variable_no_item i))
      (after_no_item j)

  after_no_item : {ts : List Lexeme} {us : List Update} {A : Process} → IsAfter ts us A → NoItem ts
  after_no_item (q.after {ts} {us} h i) = both ts us (repeated_no_item update_no_item h) (prefix_no_item i)

pub initial_no_item : (ts : List Lexeme) (x : Name × Value) → IsInitial ts x → NoItem ts
initial_no_item _ _ (g.initial {ts = ts} h) = both ts (l.Mark m.Semicolon ∷ []) (literal_no_item h) refl
