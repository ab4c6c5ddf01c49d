-- The canonical text of a program and of a predicate.
use Rattle.std.specs.Prelude.{ℕ, List}
use Rattle.abc_pred.specs.Terms.{Pred}
use Rattle.abc_term.specs.declared.terms.Program.{Program}
use Rattle.abc_grammar.specs.Plain.{plain_program}
use Rattle.abc_printed.specs.Parts.{bytes_of}
use Rattle.abc_printed.specs.Forms.{pred_parts, program_parts}

-- where `words` has each word at its number
abbrev pub pred_text : List (List ℕ) → Pred → List ℕ
pred_text words p = bytes_of words (pred_parts p)

abbrev pub program_text : Program → List ℕ
program_text p = bytes_of p.names (program_parts (plain_program p))
