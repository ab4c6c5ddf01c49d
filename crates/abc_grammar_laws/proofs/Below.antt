-- The names that a text's terms hold are numbers of its words.
use Rattle.std.proofs.Common.{ℕ, zero, suc, List, [], ◌∷◌, ◌++◌, length, Option, Some, None, sym, subst, arith}
use Rattle.std.specs.Prelude.{All}
use Rattle.std.specs.Option.{option_map}
use Rattle.std.proofs.lemmas.List.Elements.{All-append}
use Rattle.abc_value.specs.declared.value.Value.{Value}
use Rattle.abc_pred.specs.declared.names.Name.{Name}
use Rattle.abc_pred.specs.Terms.{Operand, Expr, Pred}
use Rattle.abc_text.specs.declared.lexical.Token.{Token}
use Rattle.abc_text.specs.Meanings.{named, names_of, HasName}
use Rattle.abc_text.proofs.Growing.{named_have_numbers, number_below}
use Rattle.abc_term.specs.Processes.{Process, Update}
use Rattle.abc_grammar.specs.declared.lexemes.Lexeme.{Lexeme}
use Rattle.abc_grammar.specs.declared.lexemes.Lexeme.TheVariants as l
use Rattle.abc_text.specs.declared.words.Mark.TheVariants as m
use Rattle.abc_text.specs.declared.words.Keyword.TheVariants as k
use Rattle.abc_grammar.specs.Lexemes.{name_in, lexemes_of, name_of}
use Rattle.abc_grammar.specs.Listed.{AreListed, MayBeListed, AreRepeated, IsName, IsVariable}
use Rattle.abc_grammar.specs.Listed as listed
use Rattle.abc_grammar.specs.Operands.{IsOperand, IsProduct, IsAtom}
use Rattle.abc_grammar.specs.Operands as o
use Rattle.abc_grammar.specs.Exprs.{IsExpr}
use Rattle.abc_grammar.specs.Exprs as e
use Rattle.abc_grammar.specs.Preds.{IsPred, IsBoth, IsTest}
use Rattle.abc_grammar.specs.Preds as p
use Rattle.abc_grammar.specs.Plain.{PlainComponent, PlainProgram, plain_program}
use Rattle.abc_grammar.specs.Processes.{IsUpdate, IsProcess, IsChoice, IsPrefix, IsAfter}
use Rattle.abc_grammar.specs.Processes as q
use Rattle.abc_grammar.specs.Programs.{IsDefinition, IsInitial, IsComponent, IsProgram}
use Rattle.abc_grammar.specs.Programs as g
use Rattle.abc_grammar.proofs.LexemesMeant.{lexemes_agree}
use Rattle.abc_grammar_laws.specs.Numbered.{IsBelow, OperandBelow, ExprBelow, PredBelow, UpdateBelow, ProcessBelow, DefinitionBelow, ComponentBelow, ProgramBelow, NamesAreNumbered}

module _ (n : ℕ) where
  -- the name of a token, if it has one
  abbrev NameBelow : Option Name → Type 0
  NameBelow None = Unit {0}
  NameBelow (Some a) = IsBelow n a

  abbrev Tokens : List Lexeme → Type 0
  Tokens [] = Unit {0}
  Tokens (t ∷ ts) = NameBelow (name_of t) × Tokens ts

  front : (ts us : List Lexeme) → Tokens (ts ++ us) → Tokens ts
  front [] us h = tt
  front (t ∷ ts) us h = (h.0, front ts us h.1)

  back : (ts us : List Lexeme) → Tokens (ts ++ us) → Tokens us
  back [] us h = h
  back (t ∷ ts) us h = back ts us h.1

  only : {A : Type 0} (B : A → Type 0) (a : A) → B a → All B (a ∷ [])
  only B a h zero d lt = h
  only B a h (suc i) d lt = absurd (omega (arith, lt))

  module _ {A : Type 0} {Item : List Lexeme → A → Type 0} (B : A → Type 0) (each : (us : List Lexeme) (a : A) → Item us a → Tokens us → B a) where
    listed_below : {ts : List Lexeme} {items : List A} → AreListed Item ts items → Tokens ts → All B items
    listed_below (listed.one {ts} {a} h) k = only B a (each ts a h k)
    listed_below (listed.more {ts} {us} {items} {a} h i) k =
        All-append B items (a ∷ []) (listed_below h (front ts (l.Mark m.Comma ∷ us) k)) (only B a (each us a i (back ts (l.Mark m.Comma ∷ us) k).1))

    optional_below : {ts : List Lexeme} {items : List A} → MayBeListed Item ts items → Tokens ts → All B items
    optional_below listed.none k = λ i d lt. absurd (omega (arith, lt))
    optional_below (listed.some h) k = listed_below h k

    repeated_below : {ts : List Lexeme} {items : List A} → AreRepeated Item ts items → Tokens ts → All B items
    repeated_below listed.none k = λ i d lt. absurd (omega (arith, lt))
    repeated_below (listed.more {ts} {us} {items} {a} h i) k = All-append B items (a ∷ []) (repeated_below h (front ts us k))
        (only B a (each us a i (back ts us k)))

  mutual
    operand_below : {ts : List Lexeme} {a : Operand} → IsOperand ts a → Tokens ts → OperandBelow n a
    operand_below (o.product h) k = product_below h k
    operand_below (o.plus {ts} {us} h i) k = (operand_below h (front ts (l.Mark m.Plus ∷ us) k), product_below i (back ts (l.Mark m.Plus ∷ us) k).1)
    operand_below (o.minus {ts} {us} h i) k =
        (operand_below h (front ts (l.Mark m.Minus ∷ us) k), product_below i (back ts (l.Mark m.Minus ∷ us) k).1)

    product_below : {ts : List Lexeme} {a : Operand} → IsProduct ts a → Tokens ts → OperandBelow n a
    product_below (o.atom h) k = atom_below h k
    product_below (o.times {ts} {us} h i) k = (product_below h (front ts (l.Mark m.Star ∷ us) k), atom_below i (back ts (l.Mark m.Star ∷ us) k).1)

    atom_below : {ts : List Lexeme} {a : Operand} → IsAtom ts a → Tokens ts → OperandBelow n a
    atom_below (o.literal h) k = tt
    atom_below o.attribute k = k.0
    atom_below o.own k = k.1.1.0
    atom_below o.variable k = k.0
    atom_below (o.bracketed {ts} h) k = operand_below h (front ts (l.Mark m.CloseRound ∷ []) k.1)
    atom_below (o.size {ts} h) k = operand_below h (front ts (l.Mark m.CloseRound ∷ []) k.1.1)
    atom_below (o.free {ts} h) k = operand_below h (front ts (l.Mark m.CloseRound ∷ []) k.1.1)

  expr_below : {ts : List Lexeme} {a : Expr} → IsExpr ts a → Tokens ts → ExprBelow n a
  expr_below (e.operand h) k = operand_below h k
  expr_below (e.set {ts} h) k = optional_below (OperandBelow n) (λ us a i. operand_below i) h (front ts (l.Mark m.CloseRound ∷ []) k.1.1)
  expr_below (e.union {ts} {us} h i) k =
      let both = front (ts ++ l.Mark m.Comma ∷ us) (l.Mark m.CloseRound ∷ []) k.1.1 in
      (expr_below h (front ts (l.Mark m.Comma ∷ us) both), expr_below i (back ts (l.Mark m.Comma ∷ us) both).1)
  expr_below (e.without {ts} {us} h i) k =
      let both = front (ts ++ l.Mark m.Comma ∷ us) (l.Mark m.CloseRound ∷ []) k.1.1 in
      (expr_below h (front ts (l.Mark m.Comma ∷ us) both), expr_below i (back ts (l.Mark m.Comma ∷ us) both).1)

  mutual
    pred_below : {ts : List Lexeme} {a : Pred} → IsPred ts a → Tokens ts → PredBelow n a
    pred_below (p.both h) k = both_below h k
    pred_below (p.or {ts} {us} h i) k' = (pred_below h (front ts (l.Keyword k.Or ∷ us) k'), both_below i (back ts (l.Keyword k.Or ∷ us) k').1)

    both_below : {ts : List Lexeme} {a : Pred} → IsBoth ts a → Tokens ts → PredBelow n a
    both_below (p.test h) k' = test_below h k'
    both_below (p.and {ts} {us} h i) k' = (both_below h (front ts (l.Keyword k.And ∷ us) k'), test_below i (back ts (l.Keyword k.And ∷ us) k').1)

    test_below : {ts : List Lexeme} {a : Pred} → IsTest ts a → Tokens ts → PredBelow n a
    test_below p.always k' = tt
    test_below p.never k' = tt
    test_below (p.not h) k' = test_below h k'.1
    test_below (p.bracketed {ts} h) k' = pred_below h (front ts (l.Mark m.CloseSquare ∷ []) k'.1)
    test_below (p.same {ts} {us} h i) k' = (operand_below h (front ts (l.Mark m.Equal ∷ us) k'), operand_below i (back ts (l.Mark m.Equal ∷ us) k').1)
    test_below (p.below {ts} {us} h i) k' =
        (operand_below h (front ts (l.Mark m.Below ∷ us) k'), operand_below i (back ts (l.Mark m.Below ∷ us) k').1)
    test_below (p.member {ts} {us} h i) k' =
        (operand_below h (front ts (l.Keyword k.In ∷ us) k'), operand_below i (back ts (l.Keyword k.In ∷ us) k').1)

  update_below : (ts : List Lexeme) (u : Update) → IsUpdate ts u → Tokens ts → UpdateBelow n u
  update_below _ _ (q.update {ts = ts} h) k = (k.1.0, expr_below h (front ts (l.Mark m.CloseSquare ∷ []) k.1.1.1))

  name_below : (ts : List Lexeme) (a : Name) → IsName ts a → Tokens ts → IsBelow n a
  name_below _ _ listed.name k = k.0

  variable_below : (ts : List Lexeme) (a : Name) → IsVariable ts a → Tokens ts → IsBelow n a
  variable_below _ _ listed.variable k = k.0

  mutual
    process_below : {ts : List Lexeme} {A : Process} → IsProcess ts A → Tokens ts → ProcessBelow n A
    process_below (q.choice h) k = choice_below h k
    process_below (q.par {ts} {us} h i) k = (process_below h (front ts (l.Mark m.Bar ∷ us) k), choice_below i (back ts (l.Mark m.Bar ∷ us) k).1)

    choice_below : {ts : List Lexeme} {A : Process} → IsChoice ts A → Tokens ts → ProcessBelow n A
    choice_below (q.prefix h) k = prefix_below h k
    choice_below (q.plus {ts} {us} h i) k = (choice_below h (front ts (l.Mark m.Plus ∷ us) k), prefix_below i (back ts (l.Mark m.Plus ∷ us) k).1)

    prefix_below : {ts : List Lexeme} {A : Process} → IsPrefix ts A → Tokens ts → ProcessBelow n A
    prefix_below q.nil k = tt
    prefix_below q.call k = k.0
    prefix_below (q.braced {ts} h) k = process_below h (front ts (l.Mark m.CloseCurly ∷ []) k.1)
    prefix_below (q.when {ts} {us} h i) k =
        (pred_below h (front ts (l.Mark m.CloseRound ∷ us) k.1.1), prefix_below i (back ts (l.Mark m.CloseRound ∷ us) k.1.1).1)
    prefix_below (q.output {ts} {us} {vs} h i j) k =
        let head = front (ts ++ l.Mark m.CloseRound ∷ l.Mark m.At ∷ l.Mark m.OpenRound ∷ us) (l.Mark m.CloseRound ∷ l.Mark m.Dot ∷ vs) k.1 in
        let tail = back (ts ++ l.Mark m.CloseRound ∷ l.Mark m.At ∷ l.Mark m.OpenRound ∷ us) (l.Mark m.CloseRound ∷ l.Mark m.Dot ∷ vs) k.1 in
        let after = after_below j tail.1.1 in (
          optional_below (ExprBelow n) (λ ws a x. expr_below x) h (front ts (l.Mark m.CloseRound ∷ l.Mark m.At ∷ l.Mark m.OpenRound ∷ us) head),
          pred_below i (back ts (l.Mark m.CloseRound ∷ l.Mark m.At ∷ l.Mark m.OpenRound ∷ us) head).1.1.1,
          after.0,
          after.1,
        )
    prefix_below (q.input {ts} {us} {vs} h i j) k =
        let head = front (ts ++ l.Mark m.CloseRound ∷ l.Mark m.OpenRound ∷ us) (l.Mark m.CloseRound ∷ l.Mark m.Dot ∷ vs) k.1.1 in
        let tail = back (ts ++ l.Mark m.CloseRound ∷ l.Mark m.OpenRound ∷ us) (l.Mark m.CloseRound ∷ l.Mark m.Dot ∷ vs) k.1.1 in
        let after = after_below j tail.1.1 in (
          pred_below h (front ts (l.Mark m.CloseRound ∷ l.Mark m.OpenRound ∷ us) head),
          optional_below (IsBelow n) variable_below i (back ts (l.Mark m.CloseRound ∷ l.Mark m.OpenRound ∷ us) head).1.1,
          after.0,
          after.1,
        )

    after_below : {ts : List Lexeme} {us : List Update} {A : Process} → IsAfter ts us A → Tokens ts → All (UpdateBelow n) us × ProcessBelow n A
    after_below (q.after {ts} {us} h i) k = (repeated_below (UpdateBelow n) update_below h (front ts us k), prefix_below i (back ts us k))

  definition_below : (ts : List Lexeme) (d : Name × Process) → IsDefinition ts d → Tokens ts → DefinitionBelow n d
  definition_below _ _ (g.definition {ts = ts} h) k = (k.1.0, process_below h (front ts (l.Mark m.Semicolon ∷ []) k.1.1.1))

  initial_below : (ts : List Lexeme) (x : Name × Value) → IsInitial ts x → Tokens ts → IsBelow n x.0
  initial_below _ _ (g.initial h) k = k.0

  component_below : (ts : List Lexeme) (C : PlainComponent) → IsComponent ts C → Tokens ts → ComponentBelow n C
  component_below _ _ (g.component {c} {ts} {us} {vs} h i j) t =
      let shown : List Lexeme = l.Keyword k.Show ∷ us in
      let run : List Lexeme = l.Mark m.Semicolon ∷ l.Keyword k.Run ∷ vs in
      let end : List Lexeme = l.Mark m.Semicolon ∷ l.Mark m.CloseCurly ∷ [] in
      let body = t.1.1.1 in
      let first = front (ts ++ shown ++ run) end body in
      let head = front (ts ++ shown) run first in
      record {
        name = t.1.0;
        initial = repeated_below (λ (x : Name × Value). IsBelow n x.0) initial_below h (front ts shown head);
        show = optional_below (IsBelow n) name_below i (back ts shown head).1;
        run = process_below j (back (ts ++ shown) run first).1.1;
      }

  program_below : {ts : List Lexeme} {x : PlainProgram} → IsProgram ts x → Tokens ts → ProgramBelow n x
  program_below (g.headed_1 {ts} {us} h i) k = record {
    definitions = repeated_below (DefinitionBelow n) definition_below h (front ts us k.1.1.1);
    components = repeated_below (ComponentBelow n) component_below i (back ts us k.1.1.1);
  }

-- ---- the tokens of a text
name_numbered : (words : List (List ℕ)) (named : Option (List ℕ)) → HasName words named → NameBelow (length words) (option_map (name_in words) named)
name_numbered words None h = tt
name_numbered words (Some word) h = number_below words word h

tokens_numbered : (words : List (List ℕ)) (bytes : List ℕ) (ts : List Token) → All (λ t. HasName words (named bytes t)) ts →
    Tokens (length words) (lexemes_of words bytes ts)
tokens_numbered words bytes [] h = tt
tokens_numbered words bytes (t ∷ ts) h = (
  subst (NameBelow (length words)) (sym (lexemes_agree words bytes t)) (name_numbered words (named bytes t) (h 0 t (omega arith))),
  tokens_numbered words bytes ts (λ i d lt. h (suc i) d (omega (arith, lt))),
)

pub names_are_numbered : NamesAreNumbered
names_are_numbered bytes ts p h =
    let words : List (List ℕ) = names_of bytes ts in
    let tokens : Tokens (length words) h.text.lexemes =
    subst (Tokens (length words)) (sym h.text.scanned.meant) (tokens_numbered words bytes ts (named_have_numbers [] bytes ts)) in
    subst (λ (ws : List (List ℕ)). ProgramBelow (length ws) (plain_program p)) (sym h.text.names) (program_below (length words) h.text.grammar tokens)
