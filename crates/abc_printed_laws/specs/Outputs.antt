-- Where the predicates of a program's outputs stand in its text.
use Rattle.std.specs.Prelude.{◌≡◌, ◌⊎◌, List, ◌∷◌, ◌++◌, Any}
use Rattle.abc_pred.specs.Terms.{Pred}
use Rattle.abc_term.specs.Processes.{Process, Nil, Output, Input, When, Choice, Par, Call}
use Rattle.abc_grammar.specs.declared.lexemes.Lexeme.{Lexeme}
use Rattle.abc_grammar.specs.declared.lexemes.Lexeme.TheVariants as l
use Rattle.abc_text.specs.declared.words.Mark.TheVariants as m
use Rattle.abc_grammar.specs.Preds.{IsPred}
use Rattle.abc_grammar.specs.Plain.{PlainProgram}
use Rattle.abc_grammar.specs.Programs.{IsProgram}

-- the predicate of an output of a process
abbrev pub HasOutput : Process → Pred → Type 0
HasOutput Nil q = ⊥
HasOutput (Output es p us A) q = (p ≡ q) ⊎ HasOutput A q
HasOutput (Input p xs us A) q = HasOutput A q
HasOutput (When p A) q = HasOutput A q
HasOutput (Choice A B) q = HasOutput A q ⊎ HasOutput B q
HasOutput (Par A B) q = HasOutput A q ⊎ HasOutput B q
HasOutput (Call c) q = ⊥

-- of a definition or a component
abbrev pub ProgramHasOutput : PlainProgram → Pred → Type 0
ProgramHasOutput p q =
    Any (λ d. HasOutput d.1 q) p.definitions ⊎ Any (λ C. HasOutput C.run q) p.components

-- the tokens of a predicate stand in round brackets in these
pub record StandsInside (ts : List Lexeme) (q : Pred) : Type 0 where
  pub before : List Lexeme
  pub inside : List Lexeme
  pub after : List Lexeme
  pub stands : ts ≡ before ++ l.Mark m.OpenRound ∷ inside ++ l.Mark m.CloseRound ∷ after
  pub pred : IsPred inside q

abbrev pub OutputsStand : Type 0
OutputsStand = (ts : List Lexeme) (p : PlainProgram) → IsProgram ts p → (q : Pred) →
    ProgramHasOutput p q → StandsInside ts q
