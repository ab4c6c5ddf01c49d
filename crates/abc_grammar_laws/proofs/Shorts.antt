-- In an accepted text set literals are short; and what stands around the tuples of outputs and the variables of inputs.
use Rattle.std.proofs.Common.{◌≡◌, ℕ, ◌≤◌, ◌<◌, ◌⊎◌, inl, inr, List, [], ◌∷◌, ◌++◌, length, take, sym, ap, ◌∙◌, append_assoc, length-append, arith}
use Rattle.std.proofs.Math.Seq.{take-append_seam}
use Rattle.std.proofs.lemmas.Bool.{cases_lt}
use Rattle.abc_value.specs.declared.scalar.Scalar.{Scalar}
use Rattle.abc_pred.specs.declared.names.Name.{Name}
use Rattle.abc_pred.specs.Terms.{Expr, Pred}
use Rattle.abc_cause.specs.declared.Cause.TheVariants as cause
use Rattle.abc_term.specs.Processes.{Process, Update}
use Rattle.abc_term.specs.Processes as P
use Rattle.abc_grammar.specs.declared.lexemes.Lexeme.{Lexeme}
use Rattle.abc_grammar.specs.declared.lexemes.Lexeme.TheVariants as l
use Rattle.abc_text.specs.declared.words.Mark.TheVariants as m
use Rattle.abc_grammar.specs.declared.limits.TheConstants.{MOST_WRITTEN}
use Rattle.abc_grammar.specs.Listed.{AreListed, MayBeListed, IsVariable}
use Rattle.abc_grammar.specs.Literals.{IsScalar}
use Rattle.abc_grammar.specs.Exprs.{IsExpr}
use Rattle.abc_grammar.specs.Preds.{IsPred}
use Rattle.abc_grammar.specs.Processes.{IsProcess, IsChoice, IsPrefix, IsAfter}
use Rattle.abc_grammar.specs.Processes as q
use Rattle.abc_grammar.specs.Limits.{IsTooLarge}
use Rattle.abc_grammar.specs.Refusals.{IsSomeProgram, IsWithin}
use Rattle.abc_grammar_laws.specs.Short.{SetsAreShort}
use Rattle.abc_grammar_laws.proofs.Cuts.{Cut, cut, scalar_some}

-- what follows an action, whatever its updates
pub SomeAfter : List Lexeme → Process → Type 0
SomeAfter ts A = (us : List Update) × IsAfter ts us A

pub some_after : (ts : List Lexeme) (us : List Update) (A : Process) → IsAfter ts us A → SomeAfter ts A
unfolding SomeAfter
some_after ts us A h = (us, h)

pub after_output :
    (ts us : List Lexeme) (es : List Expr) (x : Pred) → MayBeListed IsExpr ts es → IsPred us x → (ws : List Lexeme) (A : Process) → SomeAfter ws A →
    (B : Process) × IsPrefix
    (l.Mark m.OpenRound ∷ ts ++ l.Mark m.CloseRound ∷ l.Mark m.At ∷ l.Mark m.OpenRound ∷ us ++ l.Mark m.CloseRound ∷ l.Mark m.Dot ∷ ws) B
unfolding SomeAfter
after_output ts us es x h i ws A j = (P.Output es x j.0 A, q.output h i j.1)

pub after_input :
    (ts us : List Lexeme) (x : Pred) (xs : List Name) → IsPred ts x → MayBeListed IsVariable us xs →
    (ws : List Lexeme) (A : Process) → SomeAfter ws A →
    (B : Process) × IsPrefix
    (l.Mark m.Question ∷ l.Mark m.OpenRound ∷ ts ++ l.Mark m.CloseRound ∷ l.Mark m.OpenRound ∷ us ++ l.Mark m.CloseRound ∷ l.Mark m.Dot ∷ ws) B
unfolding SomeAfter
after_input ts us x xs h i ws A j = (P.Input x xs j.0 A, q.input h i j.1)

-- the variables of an input, cut behind some of them, and closed behind them
pub cut_list :
    (head front back rest : List Lexeme) →
    (head ++ l.Mark m.CloseRound ∷ l.Mark m.OpenRound ∷ (front ++ l.Mark m.Comma ∷ back)) ++ rest
    ≡ ((head ++ l.Mark m.CloseRound ∷ []) ++ l.Mark m.OpenRound ∷ front ++ l.Mark m.Comma ∷ []) ++ (back ++ rest)
cut_list head front back rest =
    append_assoc head (l.Mark m.CloseRound ∷ l.Mark m.OpenRound ∷ (front ++ l.Mark m.Comma ∷ back)) rest
    ∙ ap (λ (ws : List Lexeme). head ++ l.Mark m.CloseRound ∷ l.Mark m.OpenRound ∷ ws) (append_assoc front (l.Mark m.Comma ∷ back) rest)
    ∙ sym (append_assoc ((head ++ l.Mark m.CloseRound ∷ []) ++ l.Mark m.OpenRound ∷ front) (l.Mark m.Comma ∷ []) (back ++ rest)
    ∙ append_assoc (head ++ l.Mark m.CloseRound ∷ []) (l.Mark m.OpenRound ∷ front) (l.Mark m.Comma ∷ (back ++ rest))
    ∙ append_assoc head (l.Mark m.CloseRound ∷ []) (l.Mark m.OpenRound ∷ (front ++ l.Mark m.Comma ∷ (back ++ rest))))

pub closed_list :
    (head front rest : List Lexeme) →
    (head ++ l.Mark m.CloseRound ∷ l.Mark m.OpenRound ∷ front) ++ l.Mark m.CloseRound ∷ l.Mark m.Dot ∷ rest
    ≡ ((head ++ l.Mark m.CloseRound ∷ []) ++ l.Mark m.OpenRound ∷ front ++ l.Mark m.CloseRound ∷ l.Mark m.Dot ∷ []) ++ rest
closed_list head front rest =
    sym (append_assoc ((head ++ l.Mark m.CloseRound ∷ []) ++ l.Mark m.OpenRound ∷ front) (l.Mark m.CloseRound ∷ l.Mark m.Dot ∷ []) rest
    ∙ ap (λ (ws : List Lexeme). ws ++ l.Mark m.CloseRound ∷ l.Mark m.Dot ∷ rest)
    (append_assoc head (l.Mark m.CloseRound ∷ []) (l.Mark m.OpenRound ∷ front)))

module _ (all : List Lexeme) (within : IsWithin IsSomeProgram IsTooLarge all (length all)) where
  -- a token behind these ones is there
  inner : (front back : List Lexeme) → all ≡ front ++ back → 0 < length back → (length front < length all) × (take (length front) all ≡ front)
  inner front back e some = (
    omega (arith, ap (length {A = Lexeme}) e, length-append front back, some),
    ap (take (length front)) e ∙ take-append_seam front back,
  )

  at_most : {A : Type 0} {Item : List Lexeme → A → Type 0} {ts : List Lexeme} {items : List A} (n : ℕ) → 0 < n → AreListed Item ts items →
      (Cut Item n ts → ⊥) → length items ≤ n
  at_most {items = items} n above h never = by (cases_lt n (length items))
    where
      by : (n < length items) ⊎ (length items ≤ n) → length items ≤ n
      by (inl lt) = absurd (never (cut n above h lt))
      by (inr le) = le

  -- ---- sets
  no_scalars : (before parts after : List Lexeme) → all ≡ before ++ l.Mark m.OpenCurly ∷ parts ++ after → ¬ Cut IsScalar MOST_WRITTEN parts
  no_scalars before parts after e c =
      let front : List Lexeme = before ++ l.Mark m.OpenCurly ∷ c.front ++ l.Mark m.Comma ∷ [] in
      let split : before ++ l.Mark m.OpenCurly ∷ (c.front ++ l.Mark m.Comma ∷ c.back) ++ after ≡ front ++ (c.back ++ after) = simp append_assoc in
      let some = c.some scalar_some in
      let here = inner front (c.back ++ after) (e ∙ ap (λ (ws : List Lexeme). before ++ l.Mark m.OpenCurly ∷ ws ++ after) c.whole ∙ split)
      (omega (arith, some, length-append c.back after)) in
      within (length front) here.0 cause.LongSet
      (record { exists = here.0; before = before; parts = c.front; scalars = c.items; listed = c.are; full = c.many; stands = here.1 })

  pub scalars_short :
      (before parts after : List Lexeme) (scalars : List Scalar) → AreListed IsScalar parts scalars →
      all ≡ before ++ l.Mark m.OpenCurly ∷ parts ++ after → length scalars ≤ MOST_WRITTEN
  scalars_short before parts after scalars h e = at_most MOST_WRITTEN (omega arith) h (no_scalars before parts after e)

pub sets_are_short : SetsAreShort
sets_are_short bytes ts p h before parts after scalars are e = scalars_short h.text.lexemes h.text.within before parts after scalars are e
