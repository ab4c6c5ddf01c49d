-- Every accepted program is one whose runs traces tell.
use Rattle.std.proofs.Common.{List, [], ℕ, All, sym, subst}
use Rattle.abc_text.specs.declared.lexical.Token.{Token}
use Rattle.abc_text.specs.Meanings.{AreDifferent}
use Rattle.abc_lexemes.proofs.NewWords.{behind_different}
use Rattle.abc_term.specs.declared.terms.Program.{Program}
use Rattle.abc_grammar.specs.Plain.{plain_program}
use Rattle.abc_grammar.specs.Accepted.{IsAccepted}
use Rattle.abc_grammar_laws.proofs.Crowded.{tuples_are_short}
use Rattle.abc_printed.specs.Parts.{lexemes}
use Rattle.abc_printed.specs.Forms.{program_parts}
use Rattle.abc_printed.specs.Printable.{HasWord}
use Rattle.abc_printed_laws.proofs.Values.{programs_have_values}
use Rattle.abc_printed_laws.proofs.NamedPrograms.{names_are_kept}
use Rattle.abc_printed_limits.proofs.Alone.{closed_prints_are_within}
use Rattle.abc_printed_texts.proofs.PrintsAccepted.{lexemes_named, kept_named, named_have}
use Rattle.abc_traceable.specs.Traceable.{AcceptedAreTraceable}

-- The names that stand in the print are those of the text, which have words.
print_named : (bytes : List ℕ) (ts : List Token) (p : Program) → IsAccepted bytes ts p →
    All (HasWord p.names) (lexemes (program_parts (plain_program p)))
print_named bytes ts p h =
    let plain = plain_program p in
    let ls = lexemes (program_parts plain) in
    named_have p.names ls
    (kept_named p.names h.text.lexemes ls
    (names_are_kept.programs h.text.lexemes plain h.text.grammar)
    (lexemes_named bytes ts p h.text))

-- What the grammar, the limits and the checks of a text say of its program.
pub accepted_are_traceable : AcceptedAreTraceable
accepted_are_traceable bytes ts p h =
    let plain = plain_program p in
    let values = programs_have_values bytes ts p h in
    record {
      checked = h.checked;
      different = subst AreDifferent (sym h.text.names) (behind_different bytes [] ts tt);
      named = print_named bytes ts p h;
      values = values;
      short = tuples_are_short bytes ts p h;
      within = λ q o own vars holds held.
          closed_prints_are_within h.text.lexemes plain h.text.grammar values h.text.within q o own
          vars holds held;
    }
