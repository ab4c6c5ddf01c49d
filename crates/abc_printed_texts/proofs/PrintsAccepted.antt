-- The print of an accepted program is accepted as that program, so printing is canonical.
use Rattle.std.proofs.Common.{◌≡◌, ℕ, List, [], None, All, sym, ap, ◌∙◌, subst}
use Rattle.std.proofs.lemmas.List.Elements.{All-filter}
use Rattle.std.specs.Prelude.{is_some}
use Rattle.abc_text.specs.declared.lexical.Before.TheVariants.{Open}
use Rattle.abc_text.specs.declared.lexical.Token.{Token}
use Rattle.abc_text.specs.Meanings.{named, HasName}
use Rattle.abc_text.proofs.Standing.{tokens_stand}
use Rattle.abc_text.proofs.Growing.{named_have_numbers}
use Rattle.abc_term.specs.declared.terms.Program.{Program}
use Rattle.abc_grammar.specs.declared.lexemes.Lexeme.{Lexeme}
use Rattle.abc_grammar.specs.Lexemes.{lexemes_of, name_of}
use Rattle.abc_grammar.specs.Plain.{plain_program}
use Rattle.abc_grammar.specs.Accepted.{IsTextOf, IsAccepted}
use Rattle.abc_grammar.specs.TextLaws.{AreAlike, TextsAreOne}
use Rattle.abc_printed.specs.Parts.{lexemes, bytes_of}
use Rattle.abc_printed.specs.Forms.{program_parts}
use Rattle.abc_printed.specs.Printable.{HasWord, ProgramHasValues}
use Rattle.abc_printed.specs.Printed.{program_text}
use Rattle.abc_printed_laws.specs.Grammar.{PrintsAreTerms, ProgramsHaveValues}
use Rattle.abc_printed_laws.specs.Kept.{names_in, NamesAreKept}
use Rattle.abc_printed_limits.specs.Within.{PrintsAreWithin}
use Rattle.abc_printed_texts.specs.ReadBack.{PrintsAreAccepted, PrintsAreCanonical}
use Rattle.abc_printed_texts.proofs.ReadParts.{tokens_from, good_are_read}
use Rattle.abc_printed_texts.proofs.Terms.{program_good}
use Rattle.abc_printed_texts.proofs.NamesMet.{met, met_names, IsNamed, named_all, all_fit, IsScannedAs, scanned_as}
use Rattle.abc_printed_texts.proofs.TextNames.{text_named, text_met}

-- ---- the lexemes of a text that is a program
-- Its tokens stand for the lexemes, where the program's names have their numbers,
text_lexemes : (bytes : List ℕ) (ts : List Token) (p : Program) (h : IsTextOf bytes ts p) → h.lexemes ≡ lexemes_of p.names bytes ts
text_lexemes bytes ts p h = h.scanned.meant ∙ ap (λ (ws : List (List ℕ)). lexemes_of ws bytes ts) (sym h.names)

-- and each name has one.
have_numbers : (bytes : List ℕ) (ts : List Token) (p : Program) (h : IsTextOf bytes ts p) → All (λ t. HasName p.names (named bytes t)) ts
have_numbers bytes ts p h =
    subst (λ (ws : List (List ℕ)). All (λ t. HasName ws (named bytes t)) ts) (sym h.names) (named_have_numbers [] bytes ts)

-- all have words at their numbers
pub lexemes_named : (bytes : List ℕ) (ts : List Token) (p : Program) (h : IsTextOf bytes ts p) → All (IsNamed p.names) h.lexemes
lexemes_named bytes ts p h =
    subst (All (IsNamed p.names)) (sym (text_lexemes bytes ts p h))
    (text_named p.names bytes ts (tokens_stand bytes ts None h.scanned.read) (have_numbers bytes ts p h))

-- and name the program's names
lexemes_met : (bytes : List ℕ) (ts : List Token) (p : Program) (h : IsTextOf bytes ts p) → met p.names [] h.lexemes ≡ p.names
lexemes_met bytes ts p h =
    ap (met p.names []) (text_lexemes bytes ts p h) ∙ text_met p.names bytes [] ts (have_numbers bytes ts p h) ∙ sym h.names

-- lexemes with the same names in the same order
pub kept_named : (words : List (List ℕ)) (ls ms : List Lexeme) → names_in ms ≡ names_in ls → All (IsNamed words) ls → All (IsNamed words) ms
kept_named words ls ms e h =
    named_all words ms (subst (All (IsNamed words)) (sym e) (All-filter (λ t. is_some (name_of t)) (IsNamed words) ls h))

-- They name the same words.
kept_met : (words known : List (List ℕ)) (ls ms : List Lexeme) → names_in ms ≡ names_in ls → met words known ms ≡ met words known ls
kept_met words known ls ms e = met_names words known ms ∙ ap (met words known) e ∙ sym (met_names words known ls)

-- lexemes that have words at their numbers have words
pub named_have : (words : List (List ℕ)) (ls : List Lexeme) → All (IsNamed words) ls → All (HasWord words) ls
named_have words ls h k d lt = (h k d lt).has

-- ---- the print
-- The print is tokens that stand for its lexemes, and they name the program's names.
print_scanned :
    (bytes : List ℕ) (ts : List Token) (p : Program) (h : IsTextOf bytes ts p) → NamesAreKept → ProgramHasValues (plain_program p) →
    IsScannedAs [] p.names (program_text p) (tokens_from p.names 0 (program_parts (plain_program p))) (lexemes (program_parts (plain_program p)))
print_scanned bytes ts p h kept values =
    let parts = program_parts (plain_program p) in
    let good = program_good (plain_program p) values in
    let same = kept.programs h.lexemes (plain_program p) h.grammar in
    let named = kept_named p.names h.lexemes (lexemes parts) same (lexemes_named bytes ts p h) in
    scanned_as [] p.names (program_text p) (tokens_from p.names 0 parts) (lexemes parts)
    (good_are_read p.names parts (named_have p.names (lexemes parts) named) good) named (all_fit Open parts good)
    (kept_met p.names [] h.lexemes (lexemes parts) same ∙ lexemes_met bytes ts p h)

-- So it is a text of that program, within the limits.
pub prints_are_accepted : PrintsAreTerms → ProgramsHaveValues → NamesAreKept → PrintsAreWithin → PrintsAreAccepted
prints_are_accepted terms have kept within bytes ts p h =
    let plain = plain_program p in
    let values = have bytes ts p h in
    let scan = print_scanned bytes ts p h.text kept values in (
      tokens_from p.names 0 (program_parts plain),
      record {
        text = record {
          lexemes = lexemes (program_parts plain);
          scanned = scan.scanned;
          grammar = terms.programs plain values;
          within = within h.text.lexemes plain h.text.grammar values h.text.within;
          names = scan.names;
        };
        checked = h.checked;
      },
    )

-- Prints that are the same text are prints of the same program.
pub prints_are_canonical : TextsAreOne → PrintsAreAccepted → PrintsAreCanonical
prints_are_canonical one accepted = record {
  alike = λ p q same i. bytes_of (same.names i) (program_parts (same.terms i));
  apart = apart;
}
  where
    apart :
        (bytes cs : List ℕ) (ts us : List Token) (p q : Program) → IsAccepted bytes ts p → IsAccepted cs us q →
        program_text p ≡ program_text q → AreAlike p q
    apart bytes cs ts us p q h k e =
        let left = accepted bytes ts p h in
        let right = accepted cs us q k in
        (one.accepted (program_text q) left.0 right.0 p q (subst (λ (bs : List ℕ). IsAccepted bs left.0 p) e left.1) right.1).1
