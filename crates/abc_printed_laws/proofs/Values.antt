-- The literals of a term of sound lexemes are values.
use Rattle.std.specs.Prelude.{All}
use Rattle.std.proofs.Common.{List, [], ◌∷◌, ◌++◌, refl, arith}
use Rattle.std.proofs.lemmas.List.Elements.{All-nil, All-cons, All-push}
use Rattle.abc_value.specs.declared.scalar.Scalar.{Scalar}
use Rattle.abc_value.specs.declared.value.Value.{Value}
use Rattle.abc_value.specs.declared.value.Value.TheVariants as v
use Rattle.abc_value.specs.Sets.{set_of}
use Rattle.abc_value.specs.Literals as value
use Rattle.abc_pred.specs.declared.names.Name.{Name}
use Rattle.abc_pred.specs.Terms.{Operand, Expr, Pred}
use Rattle.abc_text.specs.declared.words.Mark.TheVariants as m
use Rattle.abc_text.specs.declared.words.Keyword.TheVariants as k
use Rattle.abc_term.specs.Processes.{Process, Update}
use Rattle.abc_grammar.specs.declared.lexemes.Lexeme.{Lexeme}
use Rattle.abc_grammar.specs.declared.lexemes.Lexeme.TheVariants as l
use Rattle.abc_grammar.specs.Listed.{AreListed, MayBeListed, AreRepeated}
use Rattle.abc_grammar.specs.Listed as listed
use Rattle.abc_grammar.specs.Literals.{IsScalar, IsLiteral}
use Rattle.abc_grammar.specs.Literals as lit
use Rattle.abc_grammar.specs.Operands.{IsOperand, IsProduct, IsAtom}
use Rattle.abc_grammar.specs.Operands as o
use Rattle.abc_grammar.specs.Exprs.{IsExpr}
use Rattle.abc_grammar.specs.Exprs as e
use Rattle.abc_grammar.specs.Preds.{IsPred, IsBoth, IsTest}
use Rattle.abc_grammar.specs.Preds as p
use Rattle.abc_grammar.specs.Plain.{PlainComponent, PlainProgram}
use Rattle.abc_grammar.specs.Processes.{IsUpdate, IsProcess, IsChoice, IsPrefix, IsAfter}
use Rattle.abc_grammar.specs.Processes as q
use Rattle.abc_grammar.specs.Programs.{IsDefinition, IsInitial, IsComponent, IsProgram}
use Rattle.abc_grammar.specs.Programs as g
use Rattle.abc_printed.specs.Printable.{OperandHasValues, ExprHasValues, PredHasValues, UpdateHasValues, ProcessHasValues, DefinitionHasValues, InitialHasValue, ComponentHasValues, ProgramHasValues}
use Rattle.abc_printed_laws.specs.Grammar.{ProgramsHaveValues}
use Rattle.abc_printed_laws.proofs.Sound.{IsSound, written_set, set_all, front, back, behind, behind_two, inside, right, accepted_sound}

-- ---- lists of items
module _ {A : Type 0} {Item : List Lexeme → A → Type 0} (Good : A → Type 0)
    (each : (us : List Lexeme) (a : A) → Item us a → IsSound us → Good a) where
  listed_good : {ts : List Lexeme} {items : List A} → AreListed Item ts items → IsSound ts → All Good items
  listed_good (listed.one {ts} {a} h) s = All-cons Good a [] (each ts a h s) (All-nil Good)
  listed_good (listed.more {ts} {us} {items} {a} h i) s =
      All-push Good items a (listed_good h (front ts (l.Mark m.Comma ∷ us) s)) (each us a i (right ts (l.Mark m.Comma) us s))

  optional_good : {ts : List Lexeme} {items : List A} → MayBeListed Item ts items → IsSound ts → All Good items
  optional_good listed.none s = All-nil Good
  optional_good (listed.some h) s = listed_good h s

  repeated_good : {ts : List Lexeme} {items : List A} → AreRepeated Item ts items → IsSound ts → All Good items
  repeated_good listed.none s = All-nil Good
  repeated_good (listed.more {ts} {us} {items} {a} h i) s = All-push Good items a (repeated_good h (front ts us s)) (each us a i (back ts us s))

-- ---- literals
scalar_has : (ts : List Lexeme) (x : Scalar) → IsScalar ts x → IsSound ts → value.IsScalar x
scalar_has _ _ (lit.number h) s = h
scalar_has _ _ (lit.negative h) s = h
scalar_has _ _ lit.text s = s.texts.0
scalar_has _ _ lit.yes s = tt
scalar_has _ _ lit.no s = tt

-- the set of the scalars between `{` and `}`
set_has : (ts : List Lexeme) (xs : List Scalar) → MayBeListed IsScalar ts xs → IsSound (l.Mark m.OpenCurly ∷ ts ++ l.Mark m.CloseCurly ∷ []) →
    value.IsValue (v.Set (set_of xs))
set_has _ _ listed.none s = (written_set [] (omega arith), All-nil value.IsScalar)
set_has ts xs (listed.some h) s =
    let inner = front ts (l.Mark m.CloseCurly ∷ []) (behind (l.Mark m.OpenCurly) (ts ++ l.Mark m.CloseCurly ∷ []) s) in (
      written_set xs (s.sets [] ts (l.Mark m.CloseCurly ∷ []) xs h refl),
      set_all value.IsScalar xs (listed_good value.IsScalar scalar_has h inner),
    )

literal_has : (ts : List Lexeme) (x : Value) → IsLiteral ts x → IsSound ts → value.IsValue x
literal_has ts _ (lit.scalar {x = x} h) s = scalar_has ts x h s
literal_has _ _ lit.nothing s = tt
literal_has _ _ (lit.set {ts} {xs} h) s = set_has ts xs h s

-- ---- operands, expressions and predicates
-- what stands in the round brackets behind a keyword
called : (t : Lexeme) (ts : List Lexeme) → IsSound (t ∷ l.Mark m.OpenRound ∷ ts ++ l.Mark m.CloseRound ∷ []) → IsSound ts
called t ts s = inside (l.Mark m.OpenRound) ts (l.Mark m.CloseRound) (behind t (l.Mark m.OpenRound ∷ ts ++ l.Mark m.CloseRound ∷ []) s)

mutual
  operand_has : {ts : List Lexeme} {a : Operand} → IsOperand ts a → IsSound ts → OperandHasValues a
  operand_has (o.product h) s = product_has h s
  operand_has (o.plus {ts} {us} h i) s = (operand_has h (front ts (l.Mark m.Plus ∷ us) s), product_has i (right ts (l.Mark m.Plus) us s))
  operand_has (o.minus {ts} {us} h i) s = (operand_has h (front ts (l.Mark m.Minus ∷ us) s), product_has i (right ts (l.Mark m.Minus) us s))

  product_has : {ts : List Lexeme} {a : Operand} → IsProduct ts a → IsSound ts → OperandHasValues a
  product_has (o.atom h) s = atom_has h s
  product_has (o.times {ts} {us} h i) s = (product_has h (front ts (l.Mark m.Star ∷ us) s), atom_has i (right ts (l.Mark m.Star) us s))

  atom_has : {ts : List Lexeme} {a : Operand} → IsAtom ts a → IsSound ts → OperandHasValues a
  atom_has (o.literal {ts} {v} h) s = literal_has ts v h s
  atom_has o.attribute s = tt
  atom_has o.own s = tt
  atom_has o.variable s = tt
  atom_has (o.bracketed {ts} h) s = operand_has h (inside (l.Mark m.OpenRound) ts (l.Mark m.CloseRound) s)
  atom_has (o.size {ts} h) s = operand_has h (called (l.Keyword k.Size) ts s)
  atom_has (o.free {ts} h) s = operand_has h (called (l.Keyword k.Free) ts s)

expr_has : (ts : List Lexeme) (a : Expr) → IsExpr ts a → IsSound ts → ExprHasValues a
expr_has ts _ (e.operand h) s = operand_has h s
expr_has _ _ (e.set {ts} h) s = optional_good OperandHasValues (λ us a i. operand_has i) h (called (l.Keyword k.Set) ts s)
expr_has _ _ (e.union {ts} {us} {a} {b} h i) s =
    let both = called (l.Keyword k.Union) (ts ++ l.Mark m.Comma ∷ us) s in
    (expr_has ts a h (front ts (l.Mark m.Comma ∷ us) both), expr_has us b i (right ts (l.Mark m.Comma) us both))
expr_has _ _ (e.without {ts} {us} {a} {b} h i) s =
    let both = called (l.Keyword k.Without) (ts ++ l.Mark m.Comma ∷ us) s in
    (expr_has ts a h (front ts (l.Mark m.Comma ∷ us) both), expr_has us b i (right ts (l.Mark m.Comma) us both))

mutual
  pred_has : {ts : List Lexeme} {a : Pred} → IsPred ts a → IsSound ts → PredHasValues a
  pred_has (p.both h) s = both_has h s
  pred_has (p.or {ts} {us} h i) s = (pred_has h (front ts (l.Keyword k.Or ∷ us) s), both_has i (right ts (l.Keyword k.Or) us s))

  both_has : {ts : List Lexeme} {a : Pred} → IsBoth ts a → IsSound ts → PredHasValues a
  both_has (p.test h) s = test_has h s
  both_has (p.and {ts} {us} h i) s = (both_has h (front ts (l.Keyword k.And ∷ us) s), test_has i (right ts (l.Keyword k.And) us s))

  test_has : {ts : List Lexeme} {a : Pred} → IsTest ts a → IsSound ts → PredHasValues a
  test_has p.always s = tt
  test_has p.never s = tt
  test_has (p.not {ts} h) s = test_has h (behind (l.Keyword k.Not) ts s)
  test_has (p.bracketed {ts} h) s = pred_has h (inside (l.Mark m.OpenSquare) ts (l.Mark m.CloseSquare) s)
  test_has (p.same {ts} {us} h i) s = (operand_has h (front ts (l.Mark m.Equal ∷ us) s), operand_has i (right ts (l.Mark m.Equal) us s))
  test_has (p.below {ts} {us} h i) s = (operand_has h (front ts (l.Mark m.Below ∷ us) s), operand_has i (right ts (l.Mark m.Below) us s))
  test_has (p.member {ts} {us} h i) s = (operand_has h (front ts (l.Keyword k.In ∷ us) s), operand_has i (right ts (l.Keyword k.In) us s))

-- ---- processes
update_has : (ts : List Lexeme) (u : Update) → IsUpdate ts u → IsSound ts → UpdateHasValues u
update_has _ _ (q.update {a} {ts} {e} h) s =
    expr_has ts e h
    (front ts (l.Mark m.CloseSquare ∷ []) (back (l.Mark m.OpenSquare ∷ l.Name a ∷ l.Mark m.Becomes ∷ []) (ts ++ l.Mark m.CloseSquare ∷ []) s))

mutual
  process_has : {ts : List Lexeme} {A : Process} → IsProcess ts A → IsSound ts → ProcessHasValues A
  process_has (q.choice h) s = choice_has h s
  process_has (q.par {ts} {us} h i) s = (process_has h (front ts (l.Mark m.Bar ∷ us) s), choice_has i (right ts (l.Mark m.Bar) us s))

  choice_has : {ts : List Lexeme} {A : Process} → IsChoice ts A → IsSound ts → ProcessHasValues A
  choice_has (q.prefix h) s = prefix_has h s
  choice_has (q.plus {ts} {us} h i) s = (choice_has h (front ts (l.Mark m.Plus ∷ us) s), prefix_has i (right ts (l.Mark m.Plus) us s))

  prefix_has : {ts : List Lexeme} {A : Process} → IsPrefix ts A → IsSound ts → ProcessHasValues A
  prefix_has q.nil s = tt
  prefix_has q.call s = tt
  prefix_has (q.braced {ts} h) s = process_has h (inside (l.Mark m.OpenCurly) ts (l.Mark m.CloseCurly) s)
  prefix_has (q.when {ts} {us} h i) s =
      let rest = back (l.Keyword k.When ∷ l.Mark m.OpenRound ∷ []) (ts ++ l.Mark m.CloseRound ∷ us) s in
      (pred_has h (front ts (l.Mark m.CloseRound ∷ us) rest), prefix_has i (right ts (l.Mark m.CloseRound) us rest))
  prefix_has (q.output {ts} {us} {vs} h i j) s =
      let between : List Lexeme = l.Mark m.CloseRound ∷ l.Mark m.At ∷ l.Mark m.OpenRound ∷ us in
      let end : List Lexeme = l.Mark m.CloseRound ∷ l.Mark m.Dot ∷ vs in
      let rest = behind (l.Mark m.OpenRound) (ts ++ between ++ end) s in
      let head = front (ts ++ between) end rest in
      let after = after_has j (behind_two (l.Mark m.CloseRound) (l.Mark m.Dot) vs (back (ts ++ between) end rest)) in (
        optional_good ExprHasValues expr_has h (front ts between head),
        pred_has i (back (l.Mark m.CloseRound ∷ l.Mark m.At ∷ l.Mark m.OpenRound ∷ []) us (back ts between head)),
        after.0,
        after.1,
      )
  prefix_has (q.input {ts} {us} {vs} h i j) s =
      let between : List Lexeme = l.Mark m.CloseRound ∷ l.Mark m.OpenRound ∷ us in
      let end : List Lexeme = l.Mark m.CloseRound ∷ l.Mark m.Dot ∷ vs in
      let rest = back (l.Mark m.Question ∷ l.Mark m.OpenRound ∷ []) (ts ++ between ++ end) s in
      let after = after_has j (behind_two (l.Mark m.CloseRound) (l.Mark m.Dot) vs (back (ts ++ between) end rest)) in
      (pred_has h (front ts between (front (ts ++ between) end rest)), after.0, after.1)

  after_has : {ts : List Lexeme} {us : List Update} {A : Process} → IsAfter ts us A → IsSound ts → All UpdateHasValues us × ProcessHasValues A
  after_has (q.after {ts} {us} h i) s = (repeated_good UpdateHasValues update_has h (front ts us s), prefix_has i (back ts us s))

-- ---- programs
definition_has : (ts : List Lexeme) (d : Name × Process) → IsDefinition ts d → IsSound ts → DefinitionHasValues d
definition_has _ _ (g.definition {c} {ts} h) s =
    process_has h (front ts (l.Mark m.Semicolon ∷ []) (back (l.Keyword k.Def ∷ l.Name c ∷ l.Mark m.Equal ∷ []) (ts ++ l.Mark m.Semicolon ∷ []) s))

initial_has : (ts : List Lexeme) (x : Name × Value) → IsInitial ts x → IsSound ts → InitialHasValue x
initial_has _ _ (g.initial {a} {ts} {v} h) s =
    literal_has ts v h (front ts (l.Mark m.Semicolon ∷ []) (back (l.Name a ∷ l.Mark m.Equal ∷ []) (ts ++ l.Mark m.Semicolon ∷ []) s))

component_has : (ts : List Lexeme) (C : PlainComponent) → IsComponent ts C → IsSound ts → ComponentHasValues C
component_has _ _ (g.component {c} {ts} {us} {vs} h i j) s =
    let shown : List Lexeme = l.Keyword k.Show ∷ us in
    let run : List Lexeme = l.Mark m.Semicolon ∷ l.Keyword k.Run ∷ vs in
    let end : List Lexeme = l.Mark m.Semicolon ∷ l.Mark m.CloseCurly ∷ [] in
    let body = front (ts ++ shown ++ run) end (back (l.Keyword k.Comp ∷ l.Name c ∷ l.Mark m.OpenCurly ∷ []) (ts ++ shown ++ run ++ end) s) in
    record {
      initial = repeated_good InitialHasValue initial_has h (front ts shown (front (ts ++ shown) run body));
      run = process_has j (behind_two (l.Mark m.Semicolon) (l.Keyword k.Run) vs (back (ts ++ shown) run body));
    }

program_has : {ts : List Lexeme} {x : PlainProgram} → IsProgram ts x → IsSound ts → ProgramHasValues x
program_has (g.headed_1 {ts} {us} h i) s =
    let body = back (l.Keyword k.Abc ∷ l.Number 1 ∷ l.Mark m.Semicolon ∷ []) (ts ++ us) s in
    record {
      definitions = repeated_good DefinitionHasValues definition_has h (front ts us body);
      components = repeated_good ComponentHasValues component_has i (back ts us body);
    }

pub programs_have_values : ProgramsHaveValues
programs_have_values bytes ts p h = program_has h.text.grammar (accepted_sound bytes ts p h)
