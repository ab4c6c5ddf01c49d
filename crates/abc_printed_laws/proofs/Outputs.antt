-- The predicate of each output stands in round brackets in every text of its program.
use Rattle.std.specs.Prelude.{Any}
use Rattle.std.proofs.Common.{◌≡◌, zero, suc, ◌⊎◌, inl, inr, List, [], ◌∷◌, ◌++◌, sym, ap, ◌∙◌, subst, append_assoc, arith}
use Rattle.abc_pred.specs.declared.names.Name.{Name}
use Rattle.abc_pred.specs.Terms.{Pred}
use Rattle.abc_text.specs.declared.words.Mark.TheVariants as m
use Rattle.abc_text.specs.declared.words.Keyword.TheVariants as k
use Rattle.abc_term.specs.Processes.{Process, Update}
use Rattle.abc_grammar.specs.declared.lexemes.Lexeme.{Lexeme}
use Rattle.abc_grammar.specs.declared.lexemes.Lexeme.TheVariants as l
use Rattle.abc_grammar.specs.Listed.{AreRepeated}
use Rattle.abc_grammar.specs.Listed as listed
use Rattle.abc_grammar.specs.Preds.{IsPred}
use Rattle.abc_grammar.specs.Plain.{PlainComponent}
use Rattle.abc_grammar.specs.Processes.{IsProcess, IsChoice, IsPrefix, IsAfter}
use Rattle.abc_grammar.specs.Processes as q
use Rattle.abc_grammar.specs.Programs.{IsDefinition, IsComponent, IsProgram}
use Rattle.abc_grammar.specs.Programs as g
use Rattle.abc_printed_laws.specs.Outputs.{HasOutput, StandsInside, OutputsStand}

-- What stands inside lexemes stands inside more of them, in front and behind.
in_front : (x : Pred) (ts us : List Lexeme) → StandsInside ts x → StandsInside (ts ++ us) x
in_front x ts us h =
    let opened : List Lexeme = h.before ++ l.Mark m.OpenRound ∷ h.inside in
    record {
      before = h.before;
      inside = h.inside;
      after = h.after ++ us;
      stands = ap (λ (ws : List Lexeme). ws ++ us) h.stands ∙ append_assoc opened (l.Mark m.CloseRound ∷ h.after) us;
      pred = h.pred;
    }

behind : (x : Pred) (ts us : List Lexeme) → StandsInside us x → StandsInside (ts ++ us) x
behind x ts us h =
    let opened : List Lexeme = l.Mark m.OpenRound ∷ h.inside in
    let closed : List Lexeme = l.Mark m.CloseRound ∷ h.after in
    record {
      before = ts ++ h.before;
      inside = h.inside;
      after = h.after;
      stands = ap (λ (ws : List Lexeme). ts ++ ws) h.stands ∙ sym (append_assoc ts (h.before ++ opened) closed)
          ∙ ap (λ (ws : List Lexeme). ws ++ closed) (sym (append_assoc ts h.before opened));
      pred = h.pred;
    }

-- The predicate of an output itself.
here : (sent inside rest : List Lexeme) (p x : Pred) → IsPred inside p → p ≡ x →
    StandsInside
    (l.Mark m.OpenRound ∷ sent ++ l.Mark m.CloseRound ∷ l.Mark m.At ∷ l.Mark m.OpenRound ∷ inside ++ l.Mark m.CloseRound ∷ rest) x
here sent inside rest p x h e = record {
  before = l.Mark m.OpenRound ∷ sent ++ l.Mark m.CloseRound ∷ l.Mark m.At ∷ [];
  inside = inside;
  after = rest;
  stands =
      ap (λ (ws : List Lexeme). l.Mark m.OpenRound ∷ ws ++ l.Mark m.CloseRound ∷ rest)
      (sym (append_assoc sent (l.Mark m.CloseRound ∷ l.Mark m.At ∷ []) (l.Mark m.OpenRound ∷ inside)));
  pred = subst (IsPred inside) e h;
}

-- ---- processes
mutual
  process_stands : (x : Pred) {ts : List Lexeme} {A : Process} → IsProcess ts A → HasOutput A x → StandsInside ts x
  process_stands x (q.choice h) has = choice_stands x h has
  process_stands x (q.par {ts} {us} h i) (inl has) = in_front x ts (l.Mark m.Bar ∷ us) (process_stands x h has)
  process_stands x (q.par {ts} {us} h i) (inr has) = behind x ts (l.Mark m.Bar ∷ us) (behind x (l.Mark m.Bar ∷ []) us (choice_stands x i has))

  choice_stands : (x : Pred) {ts : List Lexeme} {A : Process} → IsChoice ts A → HasOutput A x → StandsInside ts x
  choice_stands x (q.prefix h) has = prefix_stands x h has
  choice_stands x (q.plus {ts} {us} h i) (inl has) = in_front x ts (l.Mark m.Plus ∷ us) (choice_stands x h has)
  choice_stands x (q.plus {ts} {us} h i) (inr has) = behind x ts (l.Mark m.Plus ∷ us) (behind x (l.Mark m.Plus ∷ []) us (prefix_stands x i has))

  prefix_stands : (x : Pred) {ts : List Lexeme} {A : Process} → IsPrefix ts A → HasOutput A x → StandsInside ts x
  prefix_stands x q.nil has = absurd has
  prefix_stands x q.call has = absurd has
  prefix_stands x (q.braced {ts} h) has =
      behind x (l.Mark m.OpenCurly ∷ []) (ts ++ l.Mark m.CloseCurly ∷ []) (in_front x ts (l.Mark m.CloseCurly ∷ []) (process_stands x h has))
  prefix_stands x (q.when {ts} {us} h i) has =
      behind x (l.Keyword k.When ∷ l.Mark m.OpenRound ∷ ts) (l.Mark m.CloseRound ∷ us)
      (behind x (l.Mark m.CloseRound ∷ []) us (prefix_stands x i has))
  prefix_stands x (q.output {ts} {us} {vs} {p = p} h i j) (inl same) = here ts us (l.Mark m.Dot ∷ vs) p x i same
  prefix_stands x (q.output {ts} {us} {vs} h i j) (inr has) =
      behind x (l.Mark m.OpenRound ∷ ts ++ l.Mark m.CloseRound ∷ l.Mark m.At ∷ l.Mark m.OpenRound ∷ us)
      (l.Mark m.CloseRound ∷ l.Mark m.Dot ∷ vs)
      (behind x (l.Mark m.CloseRound ∷ l.Mark m.Dot ∷ []) vs (after_stands x j has))
  prefix_stands x (q.input {ts} {us} {vs} h i j) has =
      behind x (l.Mark m.Question ∷ l.Mark m.OpenRound ∷ ts ++ l.Mark m.CloseRound ∷ l.Mark m.OpenRound ∷ us)
      (l.Mark m.CloseRound ∷ l.Mark m.Dot ∷ vs)
      (behind x (l.Mark m.CloseRound ∷ l.Mark m.Dot ∷ []) vs (after_stands x j has))

  after_stands : (x : Pred) {ts : List Lexeme} {us : List Update} {A : Process} → IsAfter ts us A → HasOutput A x → StandsInside ts x
  after_stands x (q.after {ts} {us} h i) has = behind x ts us (prefix_stands x i has)

-- ---- programs
definition_stands : (x : Pred) (ts : List Lexeme) (d : Name × Process) → IsDefinition ts d → HasOutput d.1 x → StandsInside ts x
definition_stands x _ _ (g.definition {c} {ts} h) has =
    behind x (l.Keyword k.Def ∷ l.Name c ∷ l.Mark m.Equal ∷ []) (ts ++ l.Mark m.Semicolon ∷ [])
    (in_front x ts (l.Mark m.Semicolon ∷ []) (process_stands x h has))

component_stands : (x : Pred) (ts : List Lexeme) (C : PlainComponent) → IsComponent ts C → HasOutput C.run x → StandsInside ts x
component_stands x _ _ (g.component {c} {ts} {us} {vs} h i j) has =
    let end : List Lexeme = l.Mark m.Semicolon ∷ l.Mark m.CloseCurly ∷ [] in
    let head : List Lexeme = l.Keyword k.Comp ∷ l.Name c ∷ l.Mark m.OpenCurly ∷ ts ++ l.Keyword k.Show ∷ us in
    in_front x (head ++ l.Mark m.Semicolon ∷ l.Keyword k.Run ∷ vs) end
    (behind x head (l.Mark m.Semicolon ∷ l.Keyword k.Run ∷ vs) (behind x (l.Mark m.Semicolon ∷ l.Keyword k.Run ∷ []) vs (process_stands x j has)))

-- Some item of a list and one more behind it: one of the list, or that one.
some_item : {A : Type 0} (Has : A → Type 0) (items : List A) (a : A) → Any Has (items ++ a ∷ []) → Any Has items ⊎ Has a
some_item Has [] a (zero, y, lt, at, has) = inr (subst Has (sym at) has)
some_item Has [] a (suc i, y, lt, at, has) = absurd (omega (arith, lt))
some_item Has (b ∷ items) a (zero, y, lt, at, has) = inl (0, y, omega arith, at, has)
some_item Has (b ∷ items) a (suc i, y, lt, at, has) = by (some_item Has items a (i, y, omega (arith, lt), at, has))
  where
    by : Any Has items ⊎ Has a → Any Has (b ∷ items) ⊎ Has a
    by (inl some) = inl (suc some.0, some.1, omega (arith, some.2), some.3, some.4)
    by (inr last) = inr last

module _ {A : Type 0} {Item : List Lexeme → A → Type 0} (x : Pred) (Has : A → Type 0)
    (each : (us : List Lexeme) (a : A) → Item us a → Has a → StandsInside us x) where
  repeated_stands : {ts : List Lexeme} {items : List A} → AreRepeated Item ts items → Any Has items → StandsInside ts x
  repeated_stands listed.none some = absurd (omega (arith, some.2))
  repeated_stands (listed.more {ts} {us} {items} {a} h i) some = by (repeated_stands h) (some_item Has items a some)
    where
      by : (Any Has items → StandsInside ts x) → Any Has items ⊎ Has a → StandsInside (ts ++ us) x
      by more (inl before) = in_front x ts us (more before)
      by more (inr last) = behind x ts us (each us a i last)

pub outputs_stand : OutputsStand
outputs_stand _ _ (g.headed_1 {ts} {us} h i) x (inl has) =
    behind x (l.Keyword k.Abc ∷ l.Number 1 ∷ l.Mark m.Semicolon ∷ []) (ts ++ us)
    (in_front x ts us (repeated_stands x (λ d. HasOutput d.1 x) (definition_stands x) h has))
outputs_stand _ _ (g.headed_1 {ts} {us} h i) x (inr has) =
    behind x (l.Keyword k.Abc ∷ l.Number 1 ∷ l.Mark m.Semicolon ∷ []) (ts ++ us)
    (behind x ts us (repeated_stands x (λ C. HasOutput C.run x) (component_stands x) i has))
