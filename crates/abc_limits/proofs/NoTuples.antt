-- A predicate holds neither an `@` nor a `.` behind a bracket, so no token of one passes a limit of tuples.
use Rattle.std.proofs.Common.{◌≡◌, ℕ, Bool, true, false, List, [], ◌∷◌, ◌++◌, Option, Some, None, refl, sym, ap, ◌∙◌, append_assoc}
use Rattle.abc_value.specs.declared.scalar.Scalar.{Scalar}
use Rattle.abc_value.specs.declared.value.Value.{Value}
use Rattle.abc_pred.specs.Terms.{Operand, Pred}
use Rattle.abc_grammar.specs.declared.lexemes.Lexeme.{Lexeme}
use Rattle.abc_grammar.specs.declared.lexemes.Lexeme.TheVariants as l
use Rattle.abc_text.specs.declared.words.Mark.TheVariants as m
use Rattle.abc_text.specs.declared.words.Keyword.TheVariants as k
use Rattle.abc_grammar.specs.Listed.{AreListed, MayBeListed}
use Rattle.abc_grammar.specs.Listed as gl
use Rattle.abc_grammar.specs.Literals.{IsScalar, IsLiteral}
use Rattle.abc_grammar.specs.Literals as gs
use Rattle.abc_grammar.specs.Operands.{IsOperand, IsProduct, IsAtom}
use Rattle.abc_grammar.specs.Operands as og
use Rattle.abc_grammar.specs.Preds.{IsPred, IsBoth, IsTest}
use Rattle.abc_grammar.specs.Preds as pg
use Rattle.abc_grammar.specs.Limits.{BeginsExtraExpr, BeginsExtraVariable}
use Rattle.abc_grammar.specs.Refusals.{IsSomePred}

-- Whether `this` stands right before the next token; none once an `@`, or a `.` without `this`, was met.
abbrev dot : Bool → Option Bool
dot true = Some false
dot false = None

abbrev clean : Bool → Lexeme → Option Bool
clean b (l.Mark m.At) = None
clean b (l.Mark m.Dot) = dot b
clean b (l.Keyword k.This) = Some true
clean b t = Some false

abbrev clean_on : Option Bool → List Lexeme → Option Bool
clean_on None ts = None
clean_on (Some b) [] = Some b
clean_on (Some b) (t ∷ ts) = clean_on (clean b t) ts

none_on : (ts : List Lexeme) → clean_on None ts ≡ None
none_on ts = refl

clean_append : (o : Option Bool) (ts us : List Lexeme) → clean_on o (ts ++ us) ≡ clean_on (clean_on o ts) us
clean_append None ts us = refl
clean_append (Some b) [] us = refl
clean_append (Some b) (t ∷ ts) us = clean_append (clean b t) ts us

abbrev IsClean : List Lexeme → Type 0
IsClean ts = (b : Bool) → clean_on (Some b) ts ≡ Some false

joined_clean : (ts us : List Lexeme) (t : Lexeme) → ((b : Bool) → clean b t ≡ Some false) → IsClean ts → IsClean us →
    IsClean (ts ++ t ∷ us)
joined_clean ts us t flat h q b = clean_append (Some b) ts (t ∷ us)
    ∙ ap (λ (o : Option Bool). clean_on o (t ∷ us)) (h b) ∙ ap (λ (o : Option Bool). clean_on o us) (flat false)
    ∙ q false

closed_clean : (ts : List Lexeme) (t : Lexeme) → ((b : Bool) → clean b t ≡ Some false) → IsClean ts →
    IsClean (ts ++ t ∷ [])
closed_clean ts t flat h b = clean_append (Some b) ts (t ∷ []) ∙ ap (λ (o : Option Bool). clean_on o (t ∷ [])) (h b)
    ∙ ap (λ (o : Option Bool). clean_on o []) (flat false)

scalar_clean : {ts : List Lexeme} {x : Scalar} → IsScalar ts x → IsClean ts
scalar_clean (gs.number e) b = refl
scalar_clean (gs.negative e) b = refl
scalar_clean gs.text b = refl
scalar_clean gs.yes b = refl
scalar_clean gs.no b = refl

scalars_clean : {ts : List Lexeme} {xs : List Scalar} → AreListed IsScalar ts xs → IsClean ts
scalars_clean (gl.one h) b = scalar_clean h b
scalars_clean (gl.more {ts} {us} h q) b =
    joined_clean ts us (l.Mark m.Comma) (λ c. refl) (scalars_clean h) (scalar_clean q) b

members_clean : {ts : List Lexeme} {xs : List Scalar} → MayBeListed IsScalar ts xs →
    IsClean (ts ++ l.Mark m.CloseCurly ∷ [])
members_clean gl.none b = refl
members_clean (gl.some {ts} h) b = closed_clean ts (l.Mark m.CloseCurly) (λ c. refl) (scalars_clean h) b

literal_clean : {ts : List Lexeme} {x : Value} → IsLiteral ts x → IsClean ts
literal_clean (gs.scalar h) b = scalar_clean h b
literal_clean gs.nothing b = refl
literal_clean (gs.set h) b = members_clean h false

mutual
  operand_clean : {ts : List Lexeme} {a : Operand} → IsOperand ts a → IsClean ts
  operand_clean (og.product h) b = product_clean h b
  operand_clean (og.plus {ts} {us} h q) b =
      joined_clean ts us (l.Mark m.Plus) (λ c. refl) (operand_clean h) (product_clean q) b
  operand_clean (og.minus {ts} {us} h q) b =
      joined_clean ts us (l.Mark m.Minus) (λ c. refl) (operand_clean h) (product_clean q) b

  product_clean : {ts : List Lexeme} {a : Operand} → IsProduct ts a → IsClean ts
  product_clean (og.atom h) b = atom_clean h b
  product_clean (og.times {ts} {us} h q) b =
      joined_clean ts us (l.Mark m.Star) (λ c. refl) (product_clean h) (atom_clean q) b

  atom_clean : {ts : List Lexeme} {a : Operand} → IsAtom ts a → IsClean ts
  atom_clean (og.literal h) b = literal_clean h b
  atom_clean og.attribute b = refl
  atom_clean og.own b = refl
  atom_clean og.variable b = refl
  atom_clean (og.bracketed {ts} h) b = closed_clean ts (l.Mark m.CloseRound) (λ c. refl) (operand_clean h) false
  atom_clean (og.size {ts} h) b = closed_clean ts (l.Mark m.CloseRound) (λ c. refl) (operand_clean h) false
  atom_clean (og.free {ts} h) b = closed_clean ts (l.Mark m.CloseRound) (λ c. refl) (operand_clean h) false

mutual
  pred_clean : {ts : List Lexeme} {a : Pred} → IsPred ts a → IsClean ts
  pred_clean (pg.both h) b = both_clean h b
  pred_clean (pg.or {ts} {us} h q) b = joined_clean ts us (l.Keyword k.Or) (λ c. refl) (pred_clean h) (both_clean q) b

  both_clean : {ts : List Lexeme} {a : Pred} → IsBoth ts a → IsClean ts
  both_clean (pg.test h) b = test_clean h b
  both_clean (pg.and {ts} {us} h q) b = joined_clean ts us (l.Keyword k.And) (λ c. refl) (both_clean h) (test_clean q) b

  test_clean : {ts : List Lexeme} {a : Pred} → IsTest ts a → IsClean ts
  test_clean pg.always b = refl
  test_clean pg.never b = refl
  test_clean (pg.not h) b = test_clean h false
  test_clean (pg.bracketed {ts} h) b = closed_clean ts (l.Mark m.CloseSquare) (λ c. refl) (pred_clean h) false
  test_clean (pg.same {ts} {us} h q) b =
      joined_clean ts us (l.Mark m.Equal) (λ c. refl) (operand_clean h) (operand_clean q) b
  test_clean (pg.below {ts} {us} h q) b =
      joined_clean ts us (l.Mark m.Below) (λ c. refl) (operand_clean h) (operand_clean q) b
  test_clean (pg.member {ts} {us} h q) b =
      joined_clean ts us (l.Keyword k.In) (λ c. refl) (operand_clean h) (operand_clean q) b

-- behind a `)` these are refused
unclean : (t : Lexeme) → ((b : Bool) → clean false t ≡ None) → (ts us : List Lexeme) (o : Option Bool) →
    clean_on o (ts ++ l.Mark m.CloseRound ∷ t ∷ us) ≡ None
unclean t bad ts us o = clean_append o ts (l.Mark m.CloseRound ∷ t ∷ us) ∙ go (clean_on o ts)
  where
    go : (p : Option Bool) → clean_on p (l.Mark m.CloseRound ∷ t ∷ us) ≡ None
    go None = refl
    go (Some b) = ap (λ (q : Option Bool). clean_on q us) (bad false)

no_pred : (t : Lexeme) → ((b : Bool) → clean false t ≡ None) → (before parts more : List Lexeme) (a : Pred) →
    IsPred (((before ++ (l.Mark m.OpenRound ∷ parts)) ++ l.Mark m.CloseRound ∷ t ∷ []) ++ more) a → ⊥
no_pred t bad before parts more a h =
    let whole = append_assoc (before ++ (l.Mark m.OpenRound ∷ parts)) (l.Mark m.CloseRound ∷ t ∷ []) more in
    let e : None ≡ Some false = sym (ap (clean_on (Some false)) whole ∙ unclean t bad
    (before ++ (l.Mark m.OpenRound ∷ parts)) more (Some false)) ∙ pred_clean h false in
    cc

pub no_extra_expr : (ts : List Lexeme) (n : ℕ) → BeginsExtraExpr IsSomePred ts n → ⊥
no_extra_expr ts n h = no_pred (l.Mark m.At) (λ b. refl) h.before h.parts h.output.0 h.output.1.0 h.output.1.1

pub no_extra_variable : (ts : List Lexeme) (n : ℕ) → BeginsExtraVariable IsSomePred ts n → ⊥
no_extra_variable ts n h = no_pred (l.Mark m.Dot) (λ b. refl) h.before h.parts h.input.0 h.input.1.0 h.input.1.1
