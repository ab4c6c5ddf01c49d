-- Signs by the token before are those of signed literals.
use Rattle.std.proofs.Common.{◌≡◌, Bool, true, false, List, [], ◌∷◌, ◌++◌, refl, ap, ◌∙◌}
use Rattle.std.specs.Prelude.{not, ◌&&◌}
use Rattle.abc_value.specs.declared.scalar.Scalar.{Scalar}
use Rattle.abc_value.specs.declared.value.Value.{Value}
use Rattle.abc_pred.specs.declared.names.Name.{Name}
use Rattle.abc_pred.specs.Terms.{Operand, Expr, Pred}
use Rattle.abc_term.specs.Processes.{Process, Update}
use Rattle.abc_grammar.specs.declared.lexemes.Lexeme.{Lexeme}
use Rattle.abc_grammar.specs.declared.lexemes.Lexeme.TheVariants as l
use Rattle.abc_text.specs.declared.words.Mark.TheVariants as m
use Rattle.abc_text.specs.declared.words.Keyword.TheVariants as k
use Rattle.abc_grammar.specs.Listed.{AreListed, MayBeListed, AreRepeated, IsName, IsVariable}
use Rattle.abc_grammar.specs.Listed as listed
use Rattle.abc_grammar.specs.Literals.{IsScalar, IsLiteral}
use Rattle.abc_grammar.specs.Literals as lit
use Rattle.abc_grammar.specs.Operands.{IsOperand, IsProduct, IsAtom}
use Rattle.abc_grammar.specs.Operands as o
use Rattle.abc_grammar.specs.Exprs.{IsExpr}
use Rattle.abc_grammar.specs.Exprs as e
use Rattle.abc_grammar.specs.Preds.{IsPred, IsBoth, IsTest}
use Rattle.abc_grammar.specs.Preds as p
use Rattle.abc_grammar.specs.Plain.{PlainComponent, PlainProgram}
use Rattle.abc_grammar.specs.Processes.{IsUpdate, IsProcess, IsChoice, IsPrefix, IsAfter}
use Rattle.abc_grammar.specs.Processes as q
use Rattle.abc_grammar.specs.Programs.{IsDefinition, IsInitial, IsComponent, IsProgram}
use Rattle.abc_grammar.specs.Programs as g
use Rattle.abc_grammar.specs.Sizes.{ends_operand, is_minus}
use Rattle.abc_grammar.specs.SignLaws.{signs, scalar_signs, listed_signs, optional_signs, repeated_signs, name_signs, variable_signs, literal_signs, operand_signs, product_signs, atom_signs, expr_signs, pred_signs, both_signs, test_signs, update_signs, process_signs, choice_signs, prefix_signs, after_signs, definition_signs, initial_signs, component_signs, program_signs, SignsAreOfLiterals}

-- whether an operand may end with the last of these tokens
abbrev pub ends : Bool → List Lexeme → Bool
ends behind [] = behind
ends behind (t ∷ ts) = ends (ends_operand t) ts

pub signs-append : (ts us : List Lexeme) (b : Bool) → signs b (ts ++ us) ≡ signs b ts ++ signs (ends b ts) us
signs-append [] us b = refl
signs-append (t ∷ ts) us b = ap (λ fs. (is_minus t && not b) ∷ fs) (signs-append ts us (ends_operand t))

ends-append : (ts us : List Lexeme) (b : Bool) → ends b (ts ++ us) ≡ ends (ends b ts) us
ends-append [] us b = refl
ends-append (t ∷ ts) us b = ends-append ts us (ends_operand t)

-- two lists with a token between them that is no -
parted :
    (ts us : List Lexeme) (t : Lexeme) (b : Bool) (f h : List Bool) → is_minus t ≡ false → signs b ts ≡ f → signs (ends_operand t) us ≡ h →
    signs b (ts ++ t ∷ us) ≡ f ++ false ∷ h
parted ts us t b f h e i j =
    signs-append ts (t ∷ us) b ∙ ap (λ x. signs b ts ++ ((x && not (ends b ts)) ∷ signs (ends_operand t) us)) e ∙ (λ x. i x ++ false ∷ j x)

-- and one that is, behind an operand
subtracted :
    (ts us : List Lexeme) (b : Bool) (f h : List Bool) → ends b ts ≡ true → signs b ts ≡ f → signs false us ≡ h →
    signs b (ts ++ l.Mark m.Minus ∷ us) ≡ f ++ false ∷ h
subtracted ts us b f h e i j = signs-append ts (l.Mark m.Minus ∷ us) b ∙ ap (λ x. signs b ts ++ (not x ∷ signs false us)) e ∙ (λ x. i x ++ false ∷ j x)

-- ---- lists of items
module _ {A : Type 0} {Item : List Lexeme → A → Type 0} (each : (ts : List Lexeme) (a : A) → Item ts a → List Bool) where
  listed_same :
      {ts : List Lexeme} {items : List A} → ((us : List Lexeme) (a : A) (i : Item us a) → signs false us ≡ each us a i) → (h : AreListed Item ts items) →
      signs false ts ≡ listed_signs each h
  listed_same same (listed.one {ts} {a} h) = same ts a h
  listed_same same (listed.more {ts} {us} {a = a} first h) = parted ts us (l.Mark m.Comma) false _ _ refl (listed_same same first) (same us a h)

  optional_same :
      {ts : List Lexeme} {items : List A} → ((us : List Lexeme) (a : A) (i : Item us a) → signs false us ≡ each us a i) → (h : MayBeListed Item ts items) →
      signs false ts ≡ optional_signs each h
  optional_same same listed.none = refl
  optional_same same (listed.some h) = listed_same same h

  repeated_same :
      {ts : List Lexeme} {items : List A} → ((b : Bool) (us : List Lexeme) (a : A) (i : Item us a) → signs b us ≡ each us a i) → (b : Bool) (h : AreRepeated Item ts items) →
      signs b ts ≡ repeated_signs each h
  repeated_same same b listed.none = refl
  repeated_same same b (listed.more {ts} {us} {a = a} first h) = signs-append ts us b ∙ (λ x. repeated_same same b first x ++ same (ends b ts) us a h x)

-- ---- literals and operands
scalar_same : (ts : List Lexeme) (x : Scalar) (h : IsScalar ts x) → signs false ts ≡ scalar_signs ts x h
scalar_same _ _ (lit.number h) = refl
scalar_same _ _ (lit.negative h) = refl
scalar_same _ _ lit.text = refl
scalar_same _ _ lit.yes = refl
scalar_same _ _ lit.no = refl

scalar_ends : (ts : List Lexeme) (x : Scalar) (h : IsScalar ts x) → ends false ts ≡ true
scalar_ends _ _ (lit.number h) = refl
scalar_ends _ _ (lit.negative h) = refl
scalar_ends _ _ lit.text = refl
scalar_ends _ _ lit.yes = refl
scalar_ends _ _ lit.no = refl

literal_same : {ts : List Lexeme} {v : Value} (h : IsLiteral ts v) → signs false ts ≡ literal_signs h
literal_same (lit.scalar {ts} {x} h) = scalar_same ts x h
literal_same lit.nothing = refl
literal_same (lit.set {ts} h) = ap (λ fs. false ∷ fs) (parted ts [] (l.Mark m.CloseCurly) false _ [] refl (optional_same scalar_signs scalar_same h) refl)

literal_ends : {ts : List Lexeme} {v : Value} → IsLiteral ts v → ends false ts ≡ true
literal_ends (lit.scalar {ts} {x} h) = scalar_ends ts x h
literal_ends lit.nothing = refl
literal_ends (lit.set {ts} h) = ends-append ts (l.Mark m.CloseCurly ∷ []) false

mutual
  operand_same : {ts : List Lexeme} {a : Operand} (h : IsOperand ts a) → signs false ts ≡ operand_signs h
  operand_same (o.product h) = product_same h
  operand_same (o.plus {ts} {us} h i) = parted ts us (l.Mark m.Plus) false _ _ refl (operand_same h) (product_same i)
  operand_same (o.minus {ts} {us} h i) = subtracted ts us false _ _ (operand_ends h) (operand_same h) (product_same i)

  product_same : {ts : List Lexeme} {a : Operand} (h : IsProduct ts a) → signs false ts ≡ product_signs h
  product_same (o.atom h) = atom_same h
  product_same (o.times {ts} {us} h i) = parted ts us (l.Mark m.Star) false _ _ refl (product_same h) (atom_same i)

  atom_same : {ts : List Lexeme} {a : Operand} (h : IsAtom ts a) → signs false ts ≡ atom_signs h
  atom_same (o.literal h) = literal_same h
  atom_same o.attribute = refl
  atom_same o.own = refl
  atom_same o.variable = refl
  atom_same (o.bracketed {ts} h) = ap (λ fs. false ∷ fs) (parted ts [] (l.Mark m.CloseRound) false _ [] refl (operand_same h) refl)
  atom_same (o.size {ts} h) = ap (λ fs. false ∷ false ∷ fs) (parted ts [] (l.Mark m.CloseRound) false _ [] refl (operand_same h) refl)
  atom_same (o.free {ts} h) = ap (λ fs. false ∷ false ∷ fs) (parted ts [] (l.Mark m.CloseRound) false _ [] refl (operand_same h) refl)

  operand_ends : {ts : List Lexeme} {a : Operand} → IsOperand ts a → ends false ts ≡ true
  operand_ends (o.product h) = product_ends h
  operand_ends (o.plus {ts} {us} h i) = ends-append ts (l.Mark m.Plus ∷ us) false ∙ product_ends i
  operand_ends (o.minus {ts} {us} h i) = ends-append ts (l.Mark m.Minus ∷ us) false ∙ product_ends i

  product_ends : {ts : List Lexeme} {a : Operand} → IsProduct ts a → ends false ts ≡ true
  product_ends (o.atom h) = atom_ends h
  product_ends (o.times {ts} {us} h i) = ends-append ts (l.Mark m.Star ∷ us) false ∙ atom_ends i

  atom_ends : {ts : List Lexeme} {a : Operand} → IsAtom ts a → ends false ts ≡ true
  atom_ends (o.literal h) = literal_ends h
  atom_ends o.attribute = refl
  atom_ends o.own = refl
  atom_ends o.variable = refl
  atom_ends (o.bracketed {ts} h) = ends-append ts (l.Mark m.CloseRound ∷ []) false
  atom_ends (o.size {ts} h) = ends-append ts (l.Mark m.CloseRound ∷ []) false
  atom_ends (o.free {ts} h) = ends-append ts (l.Mark m.CloseRound ∷ []) false

-- ---- expressions and predicates
expr_same : {ts : List Lexeme} {a : Expr} (h : IsExpr ts a) → signs false ts ≡ expr_signs h
expr_same (e.operand h) = operand_same h
expr_same (e.set {ts} h) =
    ap (λ fs. false ∷ false ∷ fs) (parted ts [] (l.Mark m.CloseRound) false _ [] refl (optional_same (λ us a i. operand_signs i) (λ us a i. operand_same i) h) refl)
expr_same (e.union {ts} {us} h i) =
    ap (λ fs. false ∷ false ∷ fs)
    (parted (ts ++ l.Mark m.Comma ∷ us) [] (l.Mark m.CloseRound) false _ [] refl (parted ts us (l.Mark m.Comma) false _ _ refl (expr_same h) (expr_same i)) refl)
expr_same (e.without {ts} {us} h i) =
    ap (λ fs. false ∷ false ∷ fs)
    (parted (ts ++ l.Mark m.Comma ∷ us) [] (l.Mark m.CloseRound) false _ [] refl (parted ts us (l.Mark m.Comma) false _ _ refl (expr_same h) (expr_same i)) refl)

mutual
  pred_same : {ts : List Lexeme} {a : Pred} (h : IsPred ts a) → signs false ts ≡ pred_signs h
  pred_same (p.both h) = both_same h
  pred_same (p.or {ts} {us} h i) = parted ts us (l.Keyword k.Or) false _ _ refl (pred_same h) (both_same i)

  both_same : {ts : List Lexeme} {a : Pred} (h : IsBoth ts a) → signs false ts ≡ both_signs h
  both_same (p.test h) = test_same h
  both_same (p.and {ts} {us} h i) = parted ts us (l.Keyword k.And) false _ _ refl (both_same h) (test_same i)

  test_same : {ts : List Lexeme} {a : Pred} (h : IsTest ts a) → signs false ts ≡ test_signs h
  test_same p.always = refl
  test_same p.never = refl
  test_same (p.not h) = ap (λ fs. false ∷ fs) (test_same h)
  test_same (p.bracketed {ts} h) = ap (λ fs. false ∷ fs) (parted ts [] (l.Mark m.CloseSquare) false _ [] refl (pred_same h) refl)
  test_same (p.same {ts} {us} h i) = parted ts us (l.Mark m.Equal) false _ _ refl (operand_same h) (operand_same i)
  test_same (p.below {ts} {us} h i) = parted ts us (l.Mark m.Below) false _ _ refl (operand_same h) (operand_same i)
  test_same (p.member {ts} {us} h i) = parted ts us (l.Keyword k.In) false _ _ refl (operand_same h) (operand_same i)

-- ---- processes, which begin with no -
update_same : (b : Bool) (ts : List Lexeme) (u : Update) (h : IsUpdate ts u) → signs b ts ≡ update_signs ts u h
update_same b _ _ (q.update {ts = ts} h) = ap (λ fs. false ∷ false ∷ false ∷ fs) (parted ts [] (l.Mark m.CloseSquare) false _ [] refl (expr_same h) refl)

variable_same : (ts : List Lexeme) (a : Name) (h : IsVariable ts a) → signs false ts ≡ variable_signs ts a h
variable_same _ _ listed.variable = refl

name_same : (ts : List Lexeme) (a : Name) (h : IsName ts a) → signs false ts ≡ name_signs ts a h
name_same _ _ listed.name = refl

mutual
  process_same : {ts : List Lexeme} {A : Process} (h : IsProcess ts A) → (b : Bool) → signs b ts ≡ process_signs h
  process_same (q.choice h) b = choice_same h b
  process_same (q.par {ts} {us} h i) b = parted ts us (l.Mark m.Bar) b _ _ refl (process_same h b) (choice_same i false)

  choice_same : {ts : List Lexeme} {A : Process} (h : IsChoice ts A) → (b : Bool) → signs b ts ≡ choice_signs h
  choice_same (q.prefix h) b = prefix_same h b
  choice_same (q.plus {ts} {us} h i) b = parted ts us (l.Mark m.Plus) b _ _ refl (choice_same h b) (prefix_same i false)

  prefix_same : {ts : List Lexeme} {A : Process} (h : IsPrefix ts A) → (b : Bool) → signs b ts ≡ prefix_signs h
  prefix_same q.nil b = refl
  prefix_same q.call b = refl
  prefix_same (q.braced {ts} h) b = ap (λ fs. false ∷ fs) (parted ts [] (l.Mark m.CloseCurly) false _ [] refl (process_same h false) refl)
  prefix_same (q.when {ts} {us} h i) b = ap (λ fs. false ∷ false ∷ fs) (parted ts us (l.Mark m.CloseRound) false _ _ refl (pred_same h) (prefix_same i true))
  prefix_same (q.output {ts} {us} {vs} h i j) b =
      parted (l.Mark m.OpenRound ∷ ts ++ l.Mark m.CloseRound ∷ l.Mark m.At ∷ l.Mark m.OpenRound ∷ us) (l.Mark m.Dot ∷ vs) (l.Mark m.CloseRound) b _ _ refl
      (ap (λ fs. false ∷ fs)
      (parted ts (l.Mark m.At ∷ l.Mark m.OpenRound ∷ us) (l.Mark m.CloseRound) false _ _ refl (optional_same (λ ws a x. expr_signs x) (λ ws a x. expr_same x) h)
      (ap (λ fs. false ∷ false ∷ fs) (pred_same i))))
      (ap (λ fs. false ∷ fs) (after_same j false))
  prefix_same (q.input {ts} {us} {vs} h i j) b =
      parted (l.Mark m.Question ∷ l.Mark m.OpenRound ∷ ts ++ l.Mark m.CloseRound ∷ l.Mark m.OpenRound ∷ us) (l.Mark m.Dot ∷ vs) (l.Mark m.CloseRound) b _ _ refl
      (ap (λ fs. false ∷ false ∷ fs)
      (parted ts (l.Mark m.OpenRound ∷ us) (l.Mark m.CloseRound) false _ _ refl (pred_same h) (ap (λ fs. false ∷ fs) (optional_same variable_signs variable_same i))))
      (ap (λ fs. false ∷ fs) (after_same j false))

  after_same : {ts : List Lexeme} {us : List Update} {A : Process} (h : IsAfter ts us A) → (b : Bool) → signs b ts ≡ after_signs h
  after_same (q.after {ts} {us} h i) b = signs-append ts us b ∙ (λ x. repeated_same update_signs update_same b h x ++ prefix_same i (ends b ts) x)

-- ---- programs
definition_same : (b : Bool) (ts : List Lexeme) (d : Name × Process) (h : IsDefinition ts d) → signs b ts ≡ definition_signs ts d h
definition_same b _ _ (g.definition {ts = ts} h) = ap (λ fs. false ∷ false ∷ false ∷ fs) (parted ts [] (l.Mark m.Semicolon) false _ [] refl (process_same h false) refl)

initial_same : (b : Bool) (ts : List Lexeme) (x : Name × Value) (h : IsInitial ts x) → signs b ts ≡ initial_signs ts x h
initial_same b _ _ (g.initial {ts = ts} h) = ap (λ fs. false ∷ false ∷ fs) (parted ts [] (l.Mark m.Semicolon) false _ [] refl (literal_same h) refl)

component_same : (b : Bool) (ts : List Lexeme) (C : PlainComponent) (h : IsComponent ts C) → signs b ts ≡ component_signs ts C h
component_same b _ _ (g.component {c} {ts} {us} {vs} h i j) =
    let head : List Lexeme = l.Keyword k.Comp ∷ l.Name c ∷ l.Mark m.OpenCurly ∷ ts in
    parted (head ++ l.Keyword k.Show ∷ us ++ l.Mark m.Semicolon ∷ l.Keyword k.Run ∷ vs) (l.Mark m.CloseCurly ∷ []) (l.Mark m.Semicolon) b _ (false ∷ []) refl
    (parted (head ++ l.Keyword k.Show ∷ us) (l.Keyword k.Run ∷ vs) (l.Mark m.Semicolon) b _ _ refl
    (parted head us (l.Keyword k.Show) b _ _ refl (ap (λ fs. false ∷ false ∷ false ∷ fs) (repeated_same initial_signs initial_same false h)) (optional_same name_signs name_same i))
    (ap (λ fs. false ∷ fs) (process_same j false)))
    refl

program_same : (ts : List Lexeme) (p : PlainProgram) (h : IsProgram ts p) → signs false ts ≡ program_signs h
program_same _ _ (g.headed_1 {ts} {us} h i) =
    ap (λ fs. false ∷ false ∷ false ∷ fs)
    (signs-append ts us false ∙ (λ x. repeated_same definition_signs definition_same false h x ++ repeated_same component_signs component_same (ends false ts) i x))

pub signs_are_of_literals : SignsAreOfLiterals
signs_are_of_literals = record { programs = program_same; preds = λ ts a h. pred_same h }
