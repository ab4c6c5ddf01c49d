-- The reader of fronts is exact: the longest front that is a predicate, or the first cause against all of them.
use Rattle.std.proofs.Common.{◌≡◌, ℕ, zero, suc, ◌+◌, ◌<◌, ◌≤◌, [], ◌∷◌, ◌++◌, length, take, Option, Some, None, refl, sym, ap, ◌∙◌, subst, append_assoc, append-nil, length-append, arith}
use Rattle.abc_pred.specs.Terms.{Pred}
use Rattle.abc_cause.specs.declared.Cause.{Cause}
use Rattle.abc_grammar.specs.declared.lexemes.Lexeme.{Lexeme}
use Rattle.abc_grammar.specs.Preds.{IsPred}
use Rattle.abc_grammar.specs.Limits.{Begins}
use Rattle.abc_grammar.specs.Refusals.{IsSomePred}
use Rattle.abc_reading.specs.Reading.{Read, Cut, Refused}
use Rattle.abc_reading.proofs.Laws.{first, Owes}
use Rattle.abc_reading.proofs.Chain.{Reaches}
use Rattle.abc_readers.specs.Operands.{Tokens, Reading}
use Rattle.abc_readers.specs.Preds.{pred}
use Rattle.abc_readers.proofs.PredReads.{pred_reads}
use Rattle.abc_readers.proofs.PredWhole.{pred_reach}

-- ---- what the plain reader says of all tokens that it gets
pub owed : (ts : Tokens) (x : Reading Pred) → pred ts ≡ x → Owes IsPred pred [] ts x
owed ts x e = subst (λ (y : Reading Pred). Owes IsPred pred [] ts y) e (pred_reads ts)

pub reached : (ts mid us : Tokens) (a : Pred) (x : Reading Pred) → ts ≡ mid ++ us → IsPred mid a → pred ts ≡ x → Reaches (length us) x
reached ts mid us a x whole h e = subst (λ (y : Reading Pred). Reaches (length us) y) (sym (ap pred whole) ∙ e) (pred_reach h us)

pub refused_fits : (ts : Tokens) (c : Cause) (vs : Tokens) → pred ts ≡ Refused c vs → length vs ≤ length ts
refused_fits ts c vs e = let h = owed ts (Refused c vs) e in omega (arith, ap (length {A = Lexeme}) h.whole, length-append {A = Lexeme} h.mid vs)

-- what is left behind a front
pub record IsPart (ts : Tokens) (p : Pred) (rest : Tokens) : Type 0 where
  pub mid : Tokens
  pub whole : ts ≡ mid ++ rest
  pub is : IsPred mid p
  pub most : (n us : Tokens) (q : Pred) → ts ≡ n ++ us → IsPred n q → length rest ≤ length us

pub read_part : (ts : Tokens) (p : Pred) (rest : Tokens) → pred ts ≡ Read p rest → IsPart ts p rest
read_part ts p rest e = let h = owed ts (Read p rest) e in record { mid = h.mid; whole = h.whole; is = h.is; most = λ n us q w i. reached ts n us q (Read p rest) w i e }

pub cut_part : (ts : Tokens) (p : Pred) (rest : Tokens) (c : Cause) (ahead : Tokens) → pred ts ≡ Cut p rest c ahead → IsPart ts p rest
cut_part ts p rest c ahead e = let h = owed ts (Cut p rest c ahead) e in record { mid = h.mid; whole = h.whole; is = h.is; most = λ n us q w i. reached ts n us q (Cut p rest c ahead) w i e }

-- refused before a token, no text of the grammar goes on with it
pub wrong_token : (mid vs : Tokens) (t : Lexeme) (c : Cause) → ((ws : Tokens) → first ws ≡ Some t → pred (mid ++ ws) ≡ Refused c ws) → Begins IsSomePred (mid ++ t ∷ []) → ⊥
wrong_token mid vs t c same b =
    let h = rw (append_assoc mid (t ∷ []) b.0) at b.1.1 in
    reached (mid ++ t ∷ b.0) (mid ++ t ∷ b.0) [] b.1.0 (Refused c (t ∷ b.0)) (sym (append-nil (mid ++ t ∷ b.0))) h (same (t ∷ b.0) refl)
