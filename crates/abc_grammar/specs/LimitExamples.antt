-- Worked examples of the limits, on both sides of each.
use Rattle.std.specs.Prelude.{ℕ, List, [], ◌∷◌, ◌++◌, replicate}
use Rattle.abc_grammar.specs.declared.lexemes.Lexeme.{Lexeme}
use Rattle.abc_grammar.specs.declared.lexemes.Lexeme.TheVariants as l
use Rattle.abc_text.specs.declared.words.Mark.TheVariants as m
use Rattle.abc_text.specs.declared.words.Keyword.TheVariants as k
use Rattle.abc_grammar.specs.Limits.{IsTooDeep, IsTooLarge, BeginsExtraToken, BeginsExtraExpr, BeginsExtraVariable, BeginsExtraScalar}
use Rattle.abc_grammar.specs.Refusals.{IsSomeProgram}
use Rattle.abc_grammar.specs.Examples.{run_a, ones, variables}

-- so many times the number 0
abbrev pub zeros : ℕ → List Lexeme
zeros n = replicate n (l.Number 0)

-- ---- brackets: of each kind 100 may be open, and what closes one makes room for another
abbrev pub Brackets : Lexeme → Type 0
Brackets t = IsTooDeep (replicate 100 (l.Mark m.OpenRound) ++ t ∷ []) 100

pub record BracketLimits : Type 0 where
  pub round : Brackets (l.Mark m.OpenRound)
  pub square : Brackets (l.Mark m.OpenSquare)
  pub curly : Brackets (l.Mark m.OpenCurly)
  pub hundred : (i : ℕ) → ¬ IsTooDeep (replicate 100 (l.Mark m.OpenCurly)) i
  pub closed : ¬ IsTooDeep (replicate 100 (l.Mark m.OpenSquare) ++ l.Mark m.CloseSquare ∷ l.Mark m.OpenSquare ∷ []) 101

-- ---- tokens: of a component, as of a definition in Examples, the 2,049th is too many, and no other; the next `def` or
-- `comp` begins to count anew
pub record TokenLimits : Type 0 where
  pub component : IsTooLarge (l.Keyword k.Comp ∷ zeros 2048) 2048
  pub whole : (i : ℕ) → ¬ IsTooLarge (l.Keyword k.Comp ∷ zeros 2047) i
  pub next_definition : (i : ℕ) → ¬ IsTooLarge (l.Keyword k.Def ∷ zeros 2047 ++ l.Keyword k.Def ∷ []) i
  pub next_component : (i : ℕ) → ¬ IsTooLarge (l.Keyword k.Def ∷ zeros 2047 ++ l.Keyword k.Comp ∷ []) i
  -- of a predicate the 2,049th token
  pub pred : BeginsExtraToken (replicate 2048 (l.Keyword k.Not) ++ l.Number 0 ∷ []) 2048
  pub whole_pred : (i : ℕ) → ¬ BeginsExtraToken (replicate 2048 (l.Keyword k.Not)) i

-- ---- parts: of an output the ninth expression is too many, of an input the ninth variable, of a set literal the 257th
-- scalar, as Examples has it, and no other
pub record PartLimits : Type 0 where
  pub eight_exprs : (i : ℕ) → ¬ BeginsExtraExpr IsSomeProgram (run_a ++ l.Mark m.OpenRound ∷ ones 7 ++ l.Mark m.CloseRound ∷ []) i
  pub eight_variables :
      (i : ℕ) →
      ¬ BeginsExtraVariable IsSomeProgram
      (run_a ++ l.Mark m.Question ∷ l.Mark m.OpenRound ∷ l.Keyword k.Tt ∷ l.Mark m.CloseRound ∷ l.Mark m.OpenRound ∷ variables 7 ++ l.Mark
      m.CloseRound ∷ []) i
  pub scalars : (i : ℕ) → ¬ BeginsExtraScalar (l.Mark m.OpenCurly ∷ ones 255 ++ l.Mark m.CloseCurly ∷ []) i
