-- What stands around each token of a text of the grammar, as far as its marks need it.
use Rattle.std.proofs.Common.{◌≡◌, List, [], ◌∷◌, ◌++◌, refl, sym, ap, subst, append_assoc, append-nil}
use Rattle.abc_value.specs.declared.scalar.Scalar.{Scalar}
use Rattle.abc_value.specs.declared.value.Value.{Value}
use Rattle.abc_pred.specs.declared.names.Name.{Name}
use Rattle.abc_pred.specs.Terms.{Operand, Expr, Pred}
use Rattle.abc_term.specs.Processes.{Process, Update}
use Rattle.abc_grammar.specs.declared.lexemes.Lexeme.{Lexeme}
use Rattle.abc_grammar.specs.declared.lexemes.Lexeme.TheVariants as l
use Rattle.abc_text.specs.declared.words.Mark.TheVariants as m
use Rattle.abc_text.specs.declared.words.Keyword.TheVariants as k
use Rattle.abc_grammar.specs.Listed.{AreListed, MayBeListed, AreRepeated, IsName, IsVariable}
use Rattle.abc_grammar.specs.Listed as listed
use Rattle.abc_grammar.specs.Literals.{IsScalar, IsLiteral}
use Rattle.abc_grammar.specs.Literals as lit
use Rattle.abc_grammar.specs.Operands.{IsOperand, IsProduct, IsAtom}
use Rattle.abc_grammar.specs.Operands as o
use Rattle.abc_grammar.specs.Exprs.{IsExpr}
use Rattle.abc_grammar.specs.Exprs as e
use Rattle.abc_grammar.specs.Preds.{IsPred, IsBoth, IsTest}
use Rattle.abc_grammar.specs.Preds as p
use Rattle.abc_grammar.specs.Plain.{PlainComponent, PlainProgram}
use Rattle.abc_grammar.specs.Processes.{IsUpdate, IsProcess, IsChoice, IsPrefix, IsAfter}
use Rattle.abc_grammar.specs.Processes as q
use Rattle.abc_grammar.specs.Programs.{IsDefinition, IsInitial, IsComponent, IsProgram}
use Rattle.abc_grammar.specs.Programs as g
use Rattle.abc_grammar_laws.specs.Marks.{FollowsAt, EndsTuple}

-- before a `.`: `this`, the predicate of an output, or the variables of an input
pub data Dotted (before : List Lexeme) : Type 0 where
  own : (front : List Lexeme) → before ≡ front ++ l.Keyword k.This ∷ [] → Dotted before
  output : (front us : List Lexeme) (x : Pred) → before ≡ front ++ l.Mark m.At ∷ l.Mark m.OpenRound ∷ us ++ l.Mark m.CloseRound ∷ [] →
      IsPred us x → Dotted before
  input :
      (front us ws : List Lexeme) (x : Pred) (xs : List Name) →
      before ≡ front ++ l.Mark m.Question ∷ l.Mark m.OpenRound ∷ us ++ l.Mark m.CloseRound ∷ l.Mark m.OpenRound ∷ ws ++ l.Mark m.CloseRound ∷ [] →
      IsPred us x → MayBeListed IsVariable ws xs → Dotted before

-- behind a `{`: the scalars of a set literal, a process in braces, or the first values of a component
pub data Opened (after : List Lexeme) : Type 0 where
  literal : (us rest : List Lexeme) (xs : List Scalar) → after ≡ us ++ l.Mark m.CloseCurly ∷ rest → MayBeListed IsScalar us xs → Opened after
  braced : (us rest : List Lexeme) (A : Process) → after ≡ us ++ l.Mark m.CloseCurly ∷ rest → IsProcess us A → Opened after
  component : (us rest : List Lexeme) (xs : List (Name × Value)) → after ≡ us ++ l.Keyword k.Show ∷ rest → AreRepeated IsInitial us xs → Opened after

abbrev pub Stands : Lexeme → List Lexeme → List Lexeme → Type 0
Stands (l.Mark m.At) before after = EndsTuple before × FollowsAt after
Stands (l.Mark m.Dot) before after = Dotted before
Stands (l.Mark m.OpenCurly) before after = Opened after
Stands _ before after = Unit {0}

-- each of these tokens, where others stand before and after them
abbrev pub Each : List Lexeme → List Lexeme → List Lexeme → Type 0
Each [] before after = Unit {0}
Each (t ∷ ts) before after = Stands t before (ts ++ after) × Each ts (before ++ t ∷ []) after

abbrev Fine : List Lexeme → Type 0
Fine ts = (before after : List Lexeme) → Each ts before after

each-append : (ts us before after : List Lexeme) → Each ts before (us ++ after) → Each us (before ++ ts) after → Each (ts ++ us) before after
each-append [] us before after h k = subst (λ (b : List Lexeme). Each us b after) (append-nil before) k
each-append (t ∷ ts) us before after h k = (
  subst (Stands t before) (sym (append_assoc ts us after)) h.0,
  each-append ts us (before ++ t ∷ []) after h.1 (subst (λ (b : List Lexeme). Each us b after) (sym (append_assoc before (t ∷ []) ts)) k),
)

-- ---- ways to put tokens together
nothing : Fine []
nothing before after = tt

both : (ts us : List Lexeme) → Fine ts → Fine us → Fine (ts ++ us)
both ts us h k before after = each-append ts us before after (h before (us ++ after)) (k (before ++ ts) after)

flat : (t : Lexeme) (ts : List Lexeme) → ((before after : List Lexeme) → Stands t before after) → Fine ts → Fine (t ∷ ts)
flat t ts is h before after = (is before (ts ++ after), h (before ++ t ∷ []) after)

joined : (ts us : List Lexeme) (t : Lexeme) → ((before after : List Lexeme) → Stands t before after) → Fine ts → Fine us → Fine (ts ++ t ∷ us)
joined ts us t is h k = both ts (t ∷ us) h (flat t us is k)

closed : (ts : List Lexeme) (t : Lexeme) → ((before after : List Lexeme) → Stands t before after) → Fine ts → Fine (ts ++ t ∷ [])
closed ts t is h = joined ts [] t is h nothing

-- a word, and brackets
called : (t : Lexeme) (ts : List Lexeme) → ((before after : List Lexeme) → Stands t before after) → Fine ts →
    Fine (t ∷ l.Mark m.OpenRound ∷ ts ++ l.Mark m.CloseRound ∷ [])
called t ts is h =
    flat t (l.Mark m.OpenRound ∷ ts ++ l.Mark m.CloseRound ∷ []) is
    (flat (l.Mark m.OpenRound) (ts ++ l.Mark m.CloseRound ∷ []) (λ b r. tt) (closed ts (l.Mark m.CloseRound) (λ b r. tt) h))

module _ {A : Type 0} {Item : List Lexeme → A → Type 0} (each : (us : List Lexeme) (a : A) → Item us a → Fine us) where
  listed_fine : {ts : List Lexeme} {items : List A} → AreListed Item ts items → Fine ts
  listed_fine (listed.one {ts} {a} h) = each ts a h
  listed_fine (listed.more {ts} {us} {a = a} first i) = joined ts us (l.Mark m.Comma) (λ b r. tt) (listed_fine first) (each us a i)

  optional_fine : {ts : List Lexeme} {items : List A} → MayBeListed Item ts items → Fine ts
  optional_fine listed.none = nothing
  optional_fine (listed.some h) = listed_fine h

  repeated_fine : {ts : List Lexeme} {items : List A} → AreRepeated Item ts items → Fine ts
  repeated_fine listed.none = nothing
  repeated_fine (listed.more {ts} {us} {a = a} first i) = both ts us (repeated_fine first) (each us a i)

-- ---- literals, operands, expressions, predicates
scalar_fine : (ts : List Lexeme) (x : Scalar) → IsScalar ts x → Fine ts
scalar_fine _ _ (lit.number h) before after = (tt, tt)
scalar_fine _ _ (lit.negative h) before after = (tt, (tt, tt))
scalar_fine _ _ lit.text before after = (tt, tt)
scalar_fine _ _ lit.yes before after = (tt, tt)
scalar_fine _ _ lit.no before after = (tt, tt)

literal_fine : {ts : List Lexeme} {v : Value} → IsLiteral ts v → Fine ts
literal_fine (lit.scalar {ts} {x} h) = scalar_fine ts x h
literal_fine lit.nothing = λ before after. (tt, tt)
literal_fine (lit.set {ts} {xs} h) = λ before after. (
  literal ts after xs (append_assoc ts (l.Mark m.CloseCurly ∷ []) after) h,
  closed ts (l.Mark m.CloseCurly) (λ b r. tt) (optional_fine scalar_fine h) (before ++ l.Mark m.OpenCurly ∷ []) after,
)

mutual
  operand_fine : {ts : List Lexeme} {a : Operand} → IsOperand ts a → Fine ts
  operand_fine (o.product h) = product_fine h
  operand_fine (o.plus {ts} {us} h i) = joined ts us (l.Mark m.Plus) (λ b r. tt) (operand_fine h) (product_fine i)
  operand_fine (o.minus {ts} {us} h i) = joined ts us (l.Mark m.Minus) (λ b r. tt) (operand_fine h) (product_fine i)

  product_fine : {ts : List Lexeme} {a : Operand} → IsProduct ts a → Fine ts
  product_fine (o.atom h) = atom_fine h
  product_fine (o.times {ts} {us} h i) = joined ts us (l.Mark m.Star) (λ b r. tt) (product_fine h) (atom_fine i)

  atom_fine : {ts : List Lexeme} {a : Operand} → IsAtom ts a → Fine ts
  atom_fine (o.literal h) = literal_fine h
  atom_fine o.attribute = λ before after. (tt, tt)
  atom_fine o.own = λ before after. (tt, (own before refl, (tt, tt)))
  atom_fine o.variable = λ before after. (tt, tt)
  atom_fine (o.bracketed {ts} h) = flat (l.Mark m.OpenRound) (ts ++ l.Mark m.CloseRound ∷ []) (λ b r. tt)
      (closed ts (l.Mark m.CloseRound) (λ b r. tt) (operand_fine h))
  atom_fine (o.size {ts} h) = called (l.Keyword k.Size) ts (λ b r. tt) (operand_fine h)
  atom_fine (o.free {ts} h) = called (l.Keyword k.Free) ts (λ b r. tt) (operand_fine h)

expr_fine : {ts : List Lexeme} {a : Expr} → IsExpr ts a → Fine ts
expr_fine (e.operand h) = operand_fine h
expr_fine (e.set {ts} h) = called (l.Keyword k.Set) ts (λ b r. tt) (optional_fine (λ us a i. operand_fine i) h)
expr_fine (e.union {ts} {us} h i) = called (l.Keyword k.Union) (ts ++ l.Mark m.Comma ∷ us) (λ b r. tt)
    (joined ts us (l.Mark m.Comma) (λ b r. tt) (expr_fine h) (expr_fine i))
expr_fine (e.without {ts} {us} h i) = called (l.Keyword k.Without) (ts ++ l.Mark m.Comma ∷ us) (λ b r. tt)
    (joined ts us (l.Mark m.Comma) (λ b r. tt) (expr_fine h) (expr_fine i))

mutual
  pred_fine : {ts : List Lexeme} {a : Pred} → IsPred ts a → Fine ts
  pred_fine (p.both h) = both_fine h
  pred_fine (p.or {ts} {us} h i) = joined ts us (l.Keyword k.Or) (λ b r. tt) (pred_fine h) (both_fine i)

  both_fine : {ts : List Lexeme} {a : Pred} → IsBoth ts a → Fine ts
  both_fine (p.test h) = test_fine h
  both_fine (p.and {ts} {us} h i) = joined ts us (l.Keyword k.And) (λ b r. tt) (both_fine h) (test_fine i)

  test_fine : {ts : List Lexeme} {a : Pred} → IsTest ts a → Fine ts
  test_fine p.always = λ before after. (tt, tt)
  test_fine p.never = λ before after. (tt, tt)
  test_fine (p.not {ts} h) = flat (l.Keyword k.Not) ts (λ b r. tt) (test_fine h)
  test_fine (p.bracketed {ts} h) = flat (l.Mark m.OpenSquare) (ts ++ l.Mark m.CloseSquare ∷ []) (λ b r. tt)
      (closed ts (l.Mark m.CloseSquare) (λ b r. tt) (pred_fine h))
  test_fine (p.same {ts} {us} h i) = joined ts us (l.Mark m.Equal) (λ b r. tt) (operand_fine h) (operand_fine i)
  test_fine (p.below {ts} {us} h i) = joined ts us (l.Mark m.Below) (λ b r. tt) (operand_fine h) (operand_fine i)
  test_fine (p.member {ts} {us} h i) = joined ts us (l.Keyword k.In) (λ b r. tt) (operand_fine h) (operand_fine i)

-- ---- processes
update_fine : (ts : List Lexeme) (u : Update) → IsUpdate ts u → Fine ts
update_fine _ _ (q.update {a = a} {ts = ts} h) =
    let back : List Lexeme = ts ++ l.Mark m.CloseSquare ∷ [] in
    flat (l.Mark m.OpenSquare) (l.Name a ∷ l.Mark m.Becomes ∷ back) (λ b r. tt)
    (flat (l.Name a) (l.Mark m.Becomes ∷ back) (λ b r. tt)
    (flat (l.Mark m.Becomes) back (λ b r. tt) (closed ts (l.Mark m.CloseSquare) (λ b r. tt) (expr_fine h))))

variable_fine : (ts : List Lexeme) (a : Name) → IsVariable ts a → Fine ts
variable_fine _ _ listed.variable before after = (tt, tt)

name_fine : (ts : List Lexeme) (a : Name) → IsName ts a → Fine ts
name_fine _ _ listed.name before after = (tt, tt)

-- an output's tokens, from those of its parts
output_fine :
    (ts us vs : List Lexeme) (es : List Expr) (x : Pred) (updates : List Update) (A : Process) → MayBeListed IsExpr ts es → IsPred us x →
    IsAfter vs updates A → Fine vs →
    Fine (l.Mark m.OpenRound ∷ ts ++ l.Mark m.CloseRound ∷ l.Mark m.At ∷ l.Mark m.OpenRound ∷ us ++ l.Mark m.CloseRound ∷ l.Mark m.Dot ∷ vs)
output_fine ts us vs es x updates A h i j rest before after =
    let head : List Lexeme = l.Mark m.OpenRound ∷ ts in
    let middle : List Lexeme = l.Mark m.CloseRound ∷ l.Mark m.At ∷ l.Mark m.OpenRound ∷ us in
    let back : List Lexeme = l.Mark m.CloseRound ∷ l.Mark m.Dot ∷ vs in
    let tuple : Fine head = flat (l.Mark m.OpenRound) ts (λ b r. tt) (optional_fine (λ ws a y. expr_fine y) h) in
    let pred : Fine (l.Mark m.OpenRound ∷ us) = flat (l.Mark m.OpenRound) us (λ b r. tt) (pred_fine i) in
    let ends : EndsTuple (before ++ head ++ l.Mark m.CloseRound ∷ []) =
    record { front = before; parts = ts; exprs = es; stands = refl; listed = h } in
    let follows : FollowsAt (l.Mark m.OpenRound ∷ us ++ (back ++ after)) =
    record {
      us = us;
      vs = vs;
      rest = after;
      p = x;
      updates = updates;
      next = A;
      stands = sym (append_assoc (l.Mark m.OpenRound ∷ us) back after);
      pred = i;
      behind = j;
    } in
    let shift : before ++ (head ++ middle) ++ l.Mark m.CloseRound ∷ [] ≡ (before ++ head ++ l.Mark m.CloseRound ∷ []) ++ l.Mark m.At ∷ l.Mark
    m.OpenRound ∷ us ++ l.Mark m.CloseRound ∷ [] = simp append_assoc in
    each-append (head ++ middle) back before after
    (each-append head middle before (back ++ after) (tuple before (middle ++ (back ++ after)))
    (tt, ((ends, follows), pred (before ++ head ++ l.Mark m.CloseRound ∷ [] ++ l.Mark m.At ∷ []) (back ++ after)))) (
      tt,
      (
        output (before ++ head ++ l.Mark m.CloseRound ∷ []) us x shift i,
        rest (before ++ (head ++ middle) ++ l.Mark m.CloseRound ∷ [] ++ l.Mark m.Dot ∷ []) after,
      ),
    )

input_fine :
    (ts us vs : List Lexeme) (x : Pred) (xs : List Name) → IsPred ts x → MayBeListed IsVariable us xs → Fine vs →
    Fine (l.Mark m.Question ∷ l.Mark m.OpenRound ∷ ts ++ l.Mark m.CloseRound ∷ l.Mark m.OpenRound ∷ us ++ l.Mark m.CloseRound ∷ l.Mark m.Dot ∷ vs)
input_fine ts us vs x xs h i rest before after =
    let head : List Lexeme = l.Mark m.Question ∷ l.Mark m.OpenRound ∷ ts in
    let middle : List Lexeme = l.Mark m.CloseRound ∷ l.Mark m.OpenRound ∷ us in
    let back : List Lexeme = l.Mark m.CloseRound ∷ l.Mark m.Dot ∷ vs in
    let pred : Fine head = flat (l.Mark m.Question) (l.Mark m.OpenRound ∷ ts) (λ b r. tt) (flat (l.Mark m.OpenRound) ts (λ b r. tt) (pred_fine h)) in
    let variables : Fine middle = flat (l.Mark m.CloseRound) (l.Mark m.OpenRound ∷ us) (λ b r. tt)
    (flat (l.Mark m.OpenRound) us (λ b r. tt) (optional_fine variable_fine i)) in
    let shift : before ++ (head ++ middle) ++ l.Mark m.CloseRound ∷ [] ≡ before ++ head ++ middle ++ l.Mark m.CloseRound ∷ [] =
    ap (λ (ws : List Lexeme). ws ++ l.Mark m.CloseRound ∷ []) (sym (append_assoc before head middle)) in
    each-append (head ++ middle) back before after (both head middle pred variables before (back ++ after))
    (tt, (input before ts us x xs shift h i, rest (before ++ (head ++ middle) ++ l.Mark m.CloseRound ∷ [] ++ l.Mark m.Dot ∷ []) after))

mutual
  process_fine : {ts : List Lexeme} {A : Process} → IsProcess ts A → Fine ts
  process_fine (q.choice h) = choice_fine h
  process_fine (q.par {ts} {us} h i) = joined ts us (l.Mark m.Bar) (λ b r. tt) (process_fine h) (choice_fine i)

  choice_fine : {ts : List Lexeme} {A : Process} → IsChoice ts A → Fine ts
  choice_fine (q.prefix h) = prefix_fine h
  choice_fine (q.plus {ts} {us} h i) = joined ts us (l.Mark m.Plus) (λ b r. tt) (choice_fine h) (prefix_fine i)

  prefix_fine : {ts : List Lexeme} {A : Process} → IsPrefix ts A → Fine ts
  prefix_fine q.nil = λ before after. (tt, tt)
  prefix_fine q.call = λ before after. (tt, tt)
  prefix_fine (q.braced {ts} {A} h) = λ before after. (
    braced ts after A (append_assoc ts (l.Mark m.CloseCurly ∷ []) after) h,
    closed ts (l.Mark m.CloseCurly) (λ b r. tt) (process_fine h) (before ++ l.Mark m.OpenCurly ∷ []) after,
  )
  prefix_fine (q.when {ts} {us} h i) =
      flat (l.Keyword k.When) (l.Mark m.OpenRound ∷ ts ++ l.Mark m.CloseRound ∷ us) (λ b r. tt)
      (flat (l.Mark m.OpenRound) (ts ++ l.Mark m.CloseRound ∷ us) (λ b r. tt)
      (joined ts us (l.Mark m.CloseRound) (λ b r. tt) (pred_fine h) (prefix_fine i)))
  prefix_fine (q.output {ts} {us} {vs} {es} {p = x} {updates} {A} h i j) = output_fine ts us vs es x updates A h i j (after_fine j)
  prefix_fine (q.input {ts} {us} {vs} {p = x} {xs} h i j) = input_fine ts us vs x xs h i (after_fine j)

  after_fine : {ts : List Lexeme} {us : List Update} {A : Process} → IsAfter ts us A → Fine ts
  after_fine (q.after {ts} {us} h i) = both ts us (repeated_fine update_fine h) (prefix_fine i)

-- ---- programs
definition_fine : (ts : List Lexeme) (d : Name × Process) → IsDefinition ts d → Fine ts
definition_fine _ _ (g.definition {c = c} {ts = ts} h) =
    let back : List Lexeme = ts ++ l.Mark m.Semicolon ∷ [] in
    flat (l.Keyword k.Def) (l.Name c ∷ l.Mark m.Equal ∷ back) (λ b r. tt)
    (flat (l.Name c) (l.Mark m.Equal ∷ back) (λ b r. tt)
    (flat (l.Mark m.Equal) back (λ b r. tt) (closed ts (l.Mark m.Semicolon) (λ b r. tt) (process_fine h))))

initial_fine : (ts : List Lexeme) (x : Name × Value) → IsInitial ts x → Fine ts
initial_fine _ _ (g.initial {a = a} {ts = ts} h) =
    let back : List Lexeme = ts ++ l.Mark m.Semicolon ∷ [] in
    flat (l.Name a) (l.Mark m.Equal ∷ back) (λ b r. tt)
    (flat (l.Mark m.Equal) back (λ b r. tt) (closed ts (l.Mark m.Semicolon) (λ b r. tt) (literal_fine h)))

component_fine : (ts : List Lexeme) (C : PlainComponent) → IsComponent ts C → Fine ts
component_fine _ _ (g.component {c = c} {ts = ts} {us} {vs} {first} h i j) before after =
    let head : List Lexeme = l.Keyword k.Comp ∷ l.Name c ∷ l.Mark m.OpenCurly ∷ ts in
    let shown : List Lexeme = l.Keyword k.Show ∷ us in
    let run : List Lexeme = l.Mark m.Semicolon ∷ l.Keyword k.Run ∷ vs in
    let end : List Lexeme = l.Mark m.Semicolon ∷ l.Mark m.CloseCurly ∷ [] in
    let shown_fine : Fine shown = flat (l.Keyword k.Show) us (λ b r. tt) (optional_fine name_fine i) in
    let run_fine : Fine run = flat (l.Mark m.Semicolon) (l.Keyword k.Run ∷ vs) (λ b r. tt) (flat (l.Keyword k.Run) vs (λ b r. tt) (process_fine j)) in
    each-append (head ++ shown ++ run) end before after
    (each-append (head ++ shown) run before (end ++ after)
    (each-append head shown before (run ++ (end ++ after)) (
      tt,
      (
        tt,
        (
          component ts (us ++ (run ++ (end ++ after))) first refl h,
          repeated_fine initial_fine h (before ++ l.Keyword k.Comp ∷ [] ++ l.Name c ∷ [] ++ l.Mark m.OpenCurly ∷ [])
              (shown ++ (run ++ (end ++ after))),
        ),
      ),
    )
    (shown_fine (before ++ head) (run ++ (end ++ after))))
    (run_fine (before ++ (head ++ shown)) (end ++ after)))
    (tt, (tt, tt))

program_fine : {ts : List Lexeme} {x : PlainProgram} → IsProgram ts x → Fine ts
program_fine (g.headed_1 {ts} {us} h i) =
    both (l.Keyword k.Abc ∷ l.Number 1 ∷ l.Mark m.Semicolon ∷ ts) us
    (flat (l.Keyword k.Abc) (l.Number 1 ∷ l.Mark m.Semicolon ∷ ts) (λ b r. tt)
    (flat (l.Number 1) (l.Mark m.Semicolon ∷ ts) (λ b r. tt) (flat (l.Mark m.Semicolon) ts (λ b r. tt) (repeated_fine definition_fine h))))
    (repeated_fine component_fine i)

-- ---- one token of a text
each_at : (xs ys : List Lexeme) (t : Lexeme) (before after : List Lexeme) → Each (xs ++ t ∷ ys) before after → Stands t (before ++ xs) (ys ++ after)
each_at [] ys t before after h = subst (λ (b : List Lexeme). Stands t b (ys ++ after)) (sym (append-nil before)) h.0
each_at (x ∷ xs) ys t before after h =
    subst (λ (b : List Lexeme). Stands t b (ys ++ after)) (append_assoc before (x ∷ []) xs) (each_at xs ys t (before ++ x ∷ []) after h.1)

pub token_at : {ts : List Lexeme} {x : PlainProgram} → IsProgram ts x → (before after : List Lexeme) (t : Lexeme) → ts ≡ before ++ t ∷ after →
    Stands t before after
token_at h before after t is =
    subst (Stands t before) (append-nil after) (each_at before after t [] [] (subst (λ (us : List Lexeme). Each us [] []) is (program_fine h [] [])))
