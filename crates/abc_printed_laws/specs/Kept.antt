-- The names of a text stand in its print in the same order.
use Rattle.std.specs.Prelude.{◌≡◌, List, filter, is_some}
use Rattle.abc_pred.specs.Terms.{Pred}
use Rattle.abc_grammar.specs.declared.lexemes.Lexeme.{Lexeme}
use Rattle.abc_grammar.specs.Lexemes.{name_of}
use Rattle.abc_grammar.specs.Preds.{IsPred}
use Rattle.abc_grammar.specs.Programs.{IsProgram}
use Rattle.abc_grammar.specs.Plain.{PlainProgram}
use Rattle.abc_printed.specs.Parts.{lexemes}
use Rattle.abc_printed.specs.Forms.{pred_parts, program_parts}

-- the lexemes that name something
abbrev pub names_in : List Lexeme → List Lexeme
names_in ts = filter (λ t. is_some (name_of t)) ts

pub record NamesAreKept : Type 0 where
  pub preds : (ts : List Lexeme) (p : Pred) → IsPred ts p →
      names_in (lexemes (pred_parts p)) ≡ names_in ts
  pub programs : (ts : List Lexeme) (p : PlainProgram) → IsProgram ts p →
      names_in (lexemes (program_parts p)) ≡ names_in ts
