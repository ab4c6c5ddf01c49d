-- Laws of fronts, and of accepted and refused texts.
use Rattle.std.specs.Prelude.{◌≡◌, ℕ, List}
use Rattle.abc_pred.specs.Terms.{Pred}
use Rattle.abc_cause.specs.declared.Cause.{Cause}
use Rattle.abc_text.specs.declared.lexical.Token.{Token}
use Rattle.abc_term.specs.declared.terms.Program.{Program}
use Rattle.abc_grammar.specs.declared.lexemes.Lexeme.{Lexeme}
use Rattle.abc_grammar.specs.Plain.{plain_program}
use Rattle.abc_grammar.specs.Fronts.{IsLongest, BeginsWithPred, BeginsWithNoPred}
use Rattle.abc_grammar.specs.Accepted.{IsAccepted, IsRefused}

-- A text begins with at most one predicate, in one way, or with none and is refused at most at one place for one cause, and not both.
pub record FrontsAreOne : Type 0 where
  pub longest : (ts : List Lexeme) (m n : ℕ) (p q : Pred) → IsLongest ts m p → IsLongest ts n q → (m ≡ n) × (p ≡ q)
  pub found :
      (words : List (List ℕ)) (bytes : List ℕ) (p q : Pred) (m n : ℕ) (us vs : List (List ℕ)) →
      BeginsWithPred words bytes p m us → BeginsWithPred words bytes q n vs → (p ≡ q) × (m ≡ n) × (us ≡ vs)
  pub refused :
      (words : List (List ℕ)) (bytes : List ℕ) (i j : ℕ) (c d : Cause) →
      BeginsWithNoPred words bytes i c → BeginsWithNoPred words bytes j d → (i ≡ j) × (c ≡ d)
  pub apart :
      (words : List (List ℕ)) (bytes : List ℕ) (p : Pred) (n : ℕ) (us : List (List ℕ)) (i : ℕ) (c : Cause) →
      BeginsWithPred words bytes p n us → ¬ BeginsWithNoPred words bytes i c

-- two programs that differ at most in where they lie in memory
pub record AreAlike (p q : Program) : Type 0 where
  pub terms : plain_program p ≡ plain_program q
  pub names : p.names ≡ q.names

-- A text is accepted as at most one program, or refused at most at one place for one cause, and not both.
pub record TextsAreOne : Type 0 where
  pub accepted : (bytes : List ℕ) (ts us : List Token) (p q : Program) → IsAccepted bytes ts p → IsAccepted bytes us q → (ts ≡ us) × AreAlike p q
  pub refused : (bytes : List ℕ) (i j : ℕ) (c d : Cause) → IsRefused bytes i c → IsRefused bytes j d → (i ≡ j) × (c ≡ d)
  pub apart : (bytes : List ℕ) (ts : List Token) (p : Program) (i : ℕ) (c : Cause) → IsAccepted bytes ts p → ¬ IsRefused bytes i c
