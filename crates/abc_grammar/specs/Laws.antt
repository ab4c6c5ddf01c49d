-- Laws of the grammar and of refusals.
use Rattle.std.specs.Prelude.{◌≡◌, ℕ, List, Option}
use Rattle.abc_cause.specs.declared.Cause.{Cause}
use Rattle.abc_cause.specs.declared.Cause.TheVariants as cause
use Rattle.abc_text.specs.declared.lexical.Fault.{Fault}
use Rattle.abc_text.specs.Tokens.{IsLexical}
use Rattle.abc_pred.specs.Terms.{Operand, Expr, Pred}
use Rattle.abc_term.specs.Processes.{Process}
use Rattle.abc_grammar.specs.declared.lexemes.Lexeme.{Lexeme}
use Rattle.abc_grammar.specs.Operands.{IsOperand}
use Rattle.abc_grammar.specs.Exprs.{IsExpr}
use Rattle.abc_grammar.specs.Preds.{IsPred}
use Rattle.abc_grammar.specs.Plain.{PlainProgram}
use Rattle.abc_grammar.specs.Processes.{IsProcess}
use Rattle.abc_grammar.specs.Programs.{IsProgram}
use Rattle.abc_grammar.specs.Limits.{open_behind, IsTooLarge, BeginsExtraToken}
use Rattle.abc_grammar.specs.Refusals.{Applies, IsSomeProgram, IsSomePred, IsFirstOfProgram, IsFirstOfPred}

-- ---- one term
-- A list of tokens is at most one operand, one expression, one predicate.
abbrev pub OneOperand : Type 0
OneOperand = (ts : List Lexeme) (a b : Operand) → IsOperand ts a → IsOperand ts b → a ≡ b

abbrev pub OneExpr : Type 0
OneExpr = (ts : List Lexeme) (a b : Expr) → IsExpr ts a → IsExpr ts b → a ≡ b

abbrev pub OnePred : Type 0
OnePred = (ts : List Lexeme) (a b : Pred) → IsPred ts a → IsPred ts b → a ≡ b

-- and at most one process, and one program
abbrev pub OneProcess : Type 0
OneProcess = (ts : List Lexeme) (A B : Process) → IsProcess ts A → IsProcess ts B → A ≡ B

abbrev pub OneProgram : Type 0
OneProgram = (ts : List Lexeme) (p q : PlainProgram) → IsProgram ts p → IsProgram ts q → p ≡ q

-- ---- brackets
-- The tokens of a term close each bracket that they open and no other: as many are open behind them as before.
abbrev pub Balanced : List Lexeme → Type 0
Balanced ts = (n : ℕ) → open_behind n ts ≡ n

pub record TermsBalance : Type 0 where
  pub preds : (ts : List Lexeme) (a : Pred) → IsPred ts a → Balanced ts
  pub programs : (ts : List Lexeme) (p : PlainProgram) → IsProgram ts p → Balanced ts

-- ---- one refusal
-- A text has at most one refusal as a program, and at most one as a predicate: one token and one cause.
abbrev pub OneRefusal : (List Lexeme → Option Fault → Cause → ℕ → Type 0) → Type 0
OneRefusal IsFirst =
    (ts : List Lexeme) (fault : Option Fault) (c d : Cause) (j k : ℕ) → IsFirst ts fault c j → IsFirst ts fault d k → (c ≡ d) × (j ≡ k)

-- ---- the order of causes
-- Where both causes apply at one token, no text is refused there for the second one.
pub record ComesFirst (c d : Cause) : Type 0 where
  pub programs : (ts : List Lexeme) (fault : Option Fault) (k : ℕ) → Applies IsSomeProgram IsTooLarge c ts fault k → ¬ IsFirstOfProgram ts fault d k
  pub preds : (ts : List Lexeme) (fault : Option Fault) (k : ℕ) → Applies IsSomePred BeginsExtraToken c ts fault k → ¬ IsFirstOfPred ts fault d k

-- The order: the fault of the token, that it is wrong there, brackets, tokens, expressions and variables, scalars.
pub record CausesInOrder : Type 0 where
  pub lexical : (c : Cause) → IsLexical c → ComesFirst c cause.Syntax
  pub syntax_first : ComesFirst cause.Syntax cause.TooDeep
  pub deep : ComesFirst cause.TooDeep cause.TooLarge
  pub large : ComesFirst cause.TooLarge cause.LongTuple
  pub long : ComesFirst cause.LongTuple cause.LongSet

pub record RefusalsAreOne : Type 0 where
  pub programs : OneRefusal IsFirstOfProgram
  pub preds : OneRefusal IsFirstOfPred
