-- A grammar of three levels, and the brackets that bring a term of the lowest level to the highest: what is printed with brackets
-- where its grade asks for them is of the level that its place asks.
use Rattle.std.proofs.Common.{ℕ, zero, suc, List, [], ◌∷◌, ◌++◌, true, false, nat_lt, if◌then◌else◌}
use Rattle.abc_text.specs.declared.words.Mark.{Mark}
use Rattle.abc_grammar.specs.declared.lexemes.Lexeme.{Lexeme}
use Rattle.abc_grammar.specs.declared.lexemes.Lexeme.TheVariants as l
use Rattle.abc_printed.specs.Parts.{Part, mark, lexemes, bracketed}
use Rattle.abc_printed_laws.proofs.Parts.{of_pieces}

-- the levels, each in the next lower one, and the brackets
pub record IsGraded {A : Type 0} (Low Mid High : List Lexeme → A → Type 0) (opener closer : Mark) : Type 0 where
  pub low : {ts : List Lexeme} {a : A} → Mid ts a → Low ts a
  pub mid : {ts : List Lexeme} {a : A} → High ts a → Mid ts a
  pub around : {ts : List Lexeme} {a : A} → Low ts a → High (l.Mark opener ∷ ts ++ l.Mark closer ∷ []) a

-- the level of a grade
abbrev pub AtGrade : {A : Type 0} (Low Mid High : List Lexeme → A → Type 0) → ℕ → List Lexeme → A → Type 0
AtGrade Low Mid High zero = Low
AtGrade Low Mid High (suc zero) = Mid
AtGrade Low Mid High (suc (suc n)) = High

module _ {A : Type 0} {Low Mid High : List Lexeme → A → Type 0} {opener closer : Mark} (levels : IsGraded Low Mid High opener closer) where
  -- each level is in the lowest
  pub lowest : (grade : ℕ) (ts : List Lexeme) (a : A) → AtGrade Low Mid High grade ts a → Low ts a
  lowest zero ts a h = h
  lowest (suc zero) ts a h = levels.low h
  lowest (suc (suc n)) ts a h = levels.low (levels.mid h)

  -- what is printed in brackets
  in_brackets : (parts : List Part) (a : A) → Low (lexemes parts) a → High (lexemes (mark opener ∷ parts ++ mark closer ∷ [])) a
  in_brackets parts a h = of_pieces (λ ts. High (l.Mark opener ∷ ts) a) parts (mark closer ∷ []) (levels.around h)

  -- where the lowest level is asked
  pub at_low :
      (grade : ℕ) (parts : List Part) (a : A) → AtGrade Low Mid High grade (lexemes parts) a →
      Low (lexemes (bracketed opener closer 0 grade parts)) a
  at_low grade parts a h =
      let plain = lowest grade (lexemes parts) a h in
      elim (nat_lt grade 0) as (λ b. Low (lexemes (if b then mark opener ∷ parts ++ mark closer ∷ [] else parts)) a) [
        | true ↦ levels.low (levels.mid (in_brackets parts a plain))
        | false ↦ plain
      ]

  -- where the middle one is
  pub at_mid :
      (grade : ℕ) (parts : List Part) (a : A) → AtGrade Low Mid High grade (lexemes parts) a →
      Mid (lexemes (bracketed opener closer 1 grade parts)) a
  at_mid zero parts a h = levels.mid (in_brackets parts a h)
  at_mid (suc zero) parts a h = h
  at_mid (suc (suc n)) parts a h =
      elim (nat_lt (suc (suc n)) 1) as (λ b. Mid (lexemes (if b then mark opener ∷ parts ++ mark closer ∷ [] else parts)) a) [
        | true ↦ levels.mid (in_brackets parts a (levels.low (levels.mid h)))
        | false ↦ levels.mid h
      ]

  -- where the highest one is
  pub at_high :
      (grade : ℕ) (parts : List Part) (a : A) → AtGrade Low Mid High grade (lexemes parts) a →
      High (lexemes (bracketed opener closer 2 grade parts)) a
  at_high zero parts a h = in_brackets parts a h
  at_high (suc zero) parts a h = in_brackets parts a (levels.low h)
  at_high (suc (suc n)) parts a h =
      elim (nat_lt (suc (suc n)) 2) as (λ b. High (lexemes (if b then mark opener ∷ parts ++ mark closer ∷ [] else parts)) a) [
        | true ↦ in_brackets parts a (levels.low (levels.mid h))
        | false ↦ h
      ]
