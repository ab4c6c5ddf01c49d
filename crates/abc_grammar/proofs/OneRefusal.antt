-- The first cause against a text is one.
use Rattle.std.proofs.Common.{◌≡◌, ℕ, zero, suc, ◌<◌, ◌⊎◌, inl, inr, List, [], ◌∷◌, Option, Some, None, refl, ap, sym, ◌∙◌, subst, arith}
use Rattle.std.specs.Prelude.{IsSomeAnd, slice_get}
use Rattle.std.proofs.lemmas.Bool.{cases_order}
use Rattle.abc_cause.specs.declared.Cause.{Cause}
use Rattle.abc_cause.specs.declared.Cause.TheVariants as cause
use Rattle.abc_text.specs.declared.lexical.Fault.{Fault}
use Rattle.abc_text.specs.Tokens.{IsLexical}
use Rattle.abc_grammar.specs.declared.lexemes.Lexeme.{Lexeme}
use Rattle.abc_grammar.specs.Refusals.{order, Applies, IsFirstCause}
use Rattle.abc_grammar.specs.Laws.{ComesFirst, CausesInOrder}

-- a bad token has one cause
one_fault : (fault : Option Fault) (c d : Cause) → IsSomeAnd fault (λ f. f.cause ≡ c) → IsSomeAnd fault (λ f. f.cause ≡ d) → c ≡ d
one_fault None c d h k = absurd h
one_fault (Some f) c d h k = sym h ∙ k

-- the cause of an order, behind the lexical ones
abbrev of_order : ℕ → Option Cause
of_order zero = None
of_order (suc n) = slice_get (cause.Syntax ∷ cause.TooDeep ∷ cause.TooLarge ∷ cause.LongTuple ∷ cause.LongSet ∷ []) n

module _ (IsWhole : List Lexeme → Type 0) (IsOneTooMany : List Lexeme → ℕ → Type 0) where
  -- a cause that applies is that of a bad token, or known by its order
  kind_of :
      (c : Cause) (ts : List Lexeme) (fault : Option Fault) (k : ℕ) → Applies IsWhole IsOneTooMany c ts fault k →
      ((order c ≡ 0) × IsSomeAnd fault (λ f. f.cause ≡ c)) ⊎ (of_order (order c) ≡ Some c)
  kind_of cause.BadByte ts fault k h = inl (refl, h.1)
  kind_of cause.BadText ts fault k h = inl (refl, h.1)
  kind_of cause.LongText ts fault k h = inl (refl, h.1)
  kind_of cause.LongName ts fault k h = inl (refl, h.1)
  kind_of cause.WideNumber ts fault k h = inl (refl, h.1)
  kind_of cause.Syntax ts fault k h = inr refl
  kind_of cause.TooDeep ts fault k h = inr refl
  kind_of cause.TooLarge ts fault k h = inr refl
  kind_of cause.LongTuple ts fault k h = inr refl
  kind_of cause.LongSet ts fault k h = inr refl
  kind_of (cause.Check c) ts fault k h = absurd h

  -- two causes that apply and have one order are one
  same_order :
      (c d : Cause) (fault : Option Fault) → order c ≡ order d →
      ((order c ≡ 0) × IsSomeAnd fault (λ f. f.cause ≡ c)) ⊎ (of_order (order c) ≡ Some c) →
      ((order d ≡ 0) × IsSomeAnd fault (λ f. f.cause ≡ d)) ⊎ (of_order (order d) ≡ Some d) → c ≡ d
  same_order c d fault e (inl h) (inl k) = one_fault fault c d h.1 k.1
  same_order c d fault e (inl h) (inr k) = let x : of_order (order d) ≡ None = ap of_order (sym e ∙ h.0) in cc
  same_order c d fault e (inr h) (inl k) = let x : of_order (order c) ≡ None = ap of_order (e ∙ k.0) in cc
  same_order c d fault e (inr h) (inr k) = let x : of_order (order c) ≡ of_order (order d) = ap of_order e in cc

  same_token :
      (ts : List Lexeme) (fault : Option Fault) (c d : Cause) (k : ℕ) → (order c ≡ order d) ⊎ ((order c < order d) ⊎ (order d < order c)) →
      IsFirstCause IsWhole IsOneTooMany ts fault c k → IsFirstCause IsWhole IsOneTooMany ts fault d k → c ≡ d
  same_token ts fault c d k (inl e) h i = same_order c d fault e (kind_of c ts fault k h.applies) (kind_of d ts fault k i.applies)
  same_token ts fault c d k (inr (inl lt)) h i = absurd (i.first c lt h.applies)
  same_token ts fault c d k (inr (inr lt)) h i = absurd (h.first d lt i.applies)

  by_place :
      (ts : List Lexeme) (fault : Option Fault) (c d : Cause) (j k : ℕ) → (j ≡ k) ⊎ ((j < k) ⊎ (k < j)) →
      IsFirstCause IsWhole IsOneTooMany ts fault c j → IsFirstCause IsWhole IsOneTooMany ts fault d k → (c ≡ d) × (j ≡ k)
  by_place ts fault c d j k (inl e) h i =
      (same_token ts fault c d k (cases_order (order c) (order d)) (subst (λ n. IsFirstCause IsWhole IsOneTooMany ts fault c n) e h) i, e)
  by_place ts fault c d j k (inr (inl lt)) h i = absurd (i.least j lt c h.applies)
  by_place ts fault c d j k (inr (inr lt)) h i = absurd (h.least k lt d i.applies)

  pub one_refusal :
      (ts : List Lexeme) (fault : Option Fault) (c d : Cause) (j k : ℕ) →
      IsFirstCause IsWhole IsOneTooMany ts fault c j → IsFirstCause IsWhole IsOneTooMany ts fault d k → (c ≡ d) × (j ≡ k)
  one_refusal ts fault c d j k h i = by_place ts fault c d j k (cases_order j k) h i

-- ---- the order
-- a cause of tokens comes first of all
pub order-lexical : (c : Cause) → IsLexical c → order c ≡ 0
order-lexical cause.BadByte h = refl
order-lexical cause.BadText h = refl
order-lexical cause.LongText h = refl
order-lexical cause.LongName h = refl
order-lexical cause.WideNumber h = refl
order-lexical cause.Syntax h = absurd h
order-lexical cause.TooDeep h = absurd h
order-lexical cause.TooLarge h = absurd h
order-lexical cause.LongTuple h = absurd h
order-lexical cause.LongSet h = absurd h
order-lexical (cause.Check d) h = absurd h

comes_first : (c d : Cause) → order c < order d → ComesFirst c d
comes_first c d lt = record { programs = λ ts fault k applies h. h.first c lt applies; preds = λ ts fault k applies h. h.first c lt applies }

pub causes_in_order : CausesInOrder
causes_in_order = record {
  lexical = λ c h. comes_first c cause.Syntax (let e = order-lexical c h in omega (arith, e));
  syntax_first = comes_first cause.Syntax cause.TooDeep (omega arith);
  deep = comes_first cause.TooDeep cause.TooLarge (omega arith);
  large = comes_first cause.TooLarge cause.LongTuple (omega arith);
  long = comes_first cause.LongTuple cause.LongSet (omega arith);
}
