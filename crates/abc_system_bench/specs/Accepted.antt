-- Programs of accepted texts.
use Rattle.std.specs.Prelude.{ℕ, List}
use Rattle.abc_text.specs.declared.lexical.Token.{Token}
use Rattle.abc_term.specs.declared.terms.Program.{Program}
use Rattle.abc_grammar.specs.Accepted.{IsAccepted}

-- Some text is accepted as this program.
abbrev pub IsAcceptedProgram : Program → Type 0
IsAcceptedProgram p = (bytes : List ℕ) × (ts : List Token) × IsAccepted bytes ts p
