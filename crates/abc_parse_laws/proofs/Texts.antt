-- Each text is accepted or refused, and none is both.
use Rattle.std.proofs.Common.{◌≡◌, ℕ, zero, suc, ◌<◌, ◌⊎◌, inl, inr, List, [], ◌∷◌, length, Option, Some, None}
use Rattle.std.proofs.Common.{refl, sym, ap, ◌∙◌, subst, arith}
use Rattle.std.specs.Prelude.{slice_get}
use Rattle.std.proofs.lemmas.List.{length-map}
use Rattle.abc_cause.specs.declared.Cause.{Cause}
use Rattle.abc_cause.specs.declared.Cause.TheVariants as cause
use Rattle.abc_text.specs.declared.lexical.Token.{Token}
use Rattle.abc_text.specs.declared.lexical.Fault.{Fault}
use Rattle.abc_text.specs.Tokens.{Reads}
use Rattle.abc_text.specs.Meanings.{names_of}
use Rattle.abc_text.proofs.Reading.{one_reading}
use Rattle.abc_text.proofs.Faults.{faults_are_lexical}
use Rattle.abc_pred.specs.declared.names.Name.{Name}
use Rattle.abc_term.specs.Processes.{Process}
use Rattle.abc_term.specs.Standing.{process_of}
use Rattle.abc_term.specs.declared.terms.Definition.{Definition}
use Rattle.abc_term.specs.declared.terms.Program.{Program}
use Rattle.abc_checks.specs.declared.causes.Site.{Site}
use Rattle.abc_checks.specs.declared.causes.Site.TheVariants as site
use Rattle.abc_checks.specs.Facts.{IsChecked}
use Rattle.abc_checks_laws.specs.FirstFacts.{IsBad, IsSiteOf}
use Rattle.abc_checks_laws.proofs.Finding.{each_is_checked_or_bad, facts_hold_at_sites}
use Rattle.abc_grammar.specs.declared.lexemes.Lexeme.{Lexeme}
use Rattle.abc_grammar.specs.Lexemes.{lexeme_of, lexemes_of}
use Rattle.abc_grammar.specs.Plain.{PlainProgram, plain_component, plain_program}
use Rattle.abc_grammar.specs.Programs.{IsProgram}
use Rattle.abc_grammar.specs.Refusals.{HasLexical, place_at}
use Rattle.abc_grammar.specs.Accepted.{definition_places, component_places, site_place, IsTextOf, IsNoText, IsRefused}
use Rattle.abc_grammar.proofs.OneText.{texts_are_one}
use Rattle.abc_grammar_laws.proofs.NamePlaces.{places_are_named}
use Rattle.abc_parse_laws.specs.EachText.{IsAcceptedText, IsRefusedText, EachIsAcceptedOrRefused, NoneIsBoth}
use Rattle.abc_parse_laws.proofs.Holding.{hold_program, program_held, names_held}
use Rattle.abc_parse_laws.proofs.Verdicts.{Fits, Verdict, good, bad, verdict_of}

-- ---- Places of facts

got : (xs : List ℕ) (i : ℕ) → i < length xs → (x : ℕ) × (slice_get xs i ≡ Some x)
got [] i h = absurd (omega arith)
got (x ∷ xs) zero h = (x, refl)
got (x ∷ xs) (suc i) h = got xs i (omega arith)

-- each site of a program has a place in its text
site_stands : (p : Program) (ls : List Lexeme) (ts : List Token) (size : ℕ) → IsProgram ls (plain_program p) →
    length ts ≡ length ls → (s : Site) → IsSiteOf p s → (place : ℕ) × (site_place ls ts size s ≡ Some place)
site_stands p ls ts size h same (site.Definition i) lt =
    let named = places_are_named ls ts (plain_program p) h same in
    let many = length-map {B = Name × Process} p.definitions (λ (d : Definition). (d.name, process_of d.body)) in
    got (definition_places ls ts) i (omega (arith, lt, named.definitions.count, many))
site_stands p ls ts size h same (site.Component i) lt =
    let named = places_are_named ls ts (plain_program p) h same in
    let many = length-map p.components plain_component in
    got (component_places ls ts) i (omega (arith, lt, named.components.count, many))
site_stands p ls ts size h same site.Whole t = (size, refl)

-- ---- Refusals

-- no check speaks against tokens that are no program
no_text : (bytes : List ℕ) (place : ℕ) (c : Cause) → IsNoText bytes place c → IsRefused bytes place c
no_text bytes place cause.BadByte h = h
no_text bytes place cause.BadText h = h
no_text bytes place cause.LongText h = h
no_text bytes place cause.LongName h = h
no_text bytes place cause.WideNumber h = h
no_text bytes place cause.Syntax h = h
no_text bytes place cause.TooDeep h = h
no_text bytes place cause.TooLarge h = h
no_text bytes place cause.LongTuple h = h
no_text bytes place cause.LongSet h = h
no_text bytes place (cause.Check c) h = absurd h.first.applies

-- a bad token is bad for a cause of tokens
faults_lexical : (bytes : List ℕ) (ts : List Token) (fault : Option Fault) → Reads bytes ts fault → HasLexical fault
faults_lexical bytes ts None h = tt
faults_lexical bytes ts (Some fault) h = faults_are_lexical bytes ts fault h

-- ---- The tokens of a text

module _ (bytes : List ℕ) (ts : List Token) where
  abbrev Found : Type 0
  Found = IsAcceptedText bytes ⊎ IsRefusedText bytes

  abbrev names : List (List ℕ)
  names = names_of bytes ts

  abbrev lexemes : List Lexeme
  lexemes = lexemes_of names bytes ts

  by_checks : (p : Program) → IsTextOf bytes ts p → IsChecked p ⊎ IsBad p → Found
  by_checks p text (inl checked) = inl (ts, p, record { text = text; checked = checked })
  by_checks p text (inr (c, s, first)) =
      let same : length ts ≡ length text.lexemes =
      sym (ap (length {A = Lexeme}) text.scanned.meant ∙ length-map ts (lexeme_of names bytes)) in
      let site_is = facts_hold_at_sites p c s first.holds in
      let at = site_stands p text.lexemes ts (length bytes) text.grammar same s site_is in
      inr
      (at.0, cause.Check c, record { tokens = ts; program = p; text = text; site = s; first = first; stands = at.1 })

  text_of : (p : PlainProgram) → Reads bytes ts None → IsProgram lexemes p → Fits lexemes (length lexemes)
      → IsTextOf bytes ts (hold_program names p)
  text_of p reads h fits = record {
    lexemes = lexemes;
    scanned = record { read = reads; meant = refl };
    grammar = subst (λ (q : PlainProgram). IsProgram lexemes q) (sym (program_held names p)) h;
    within = fits;
    names = names_held names p;
  }

  by_verdict : (fault : Option Fault) → Reads bytes ts fault → Verdict lexemes fault → Found
  by_verdict fault reads (good p h fits none) =
      let reads_all = subst (λ (f : Option Fault). Reads bytes ts f) none reads in
      let program : Program = hold_program names p in
      by_checks program (text_of p reads_all h fits) (each_is_checked_or_bad program)
  by_verdict fault reads (bad n c first) =
      let place : ℕ = place_at ts fault (length bytes) n in
      inr (
        place,
        c,
        no_text bytes place c (record {
          tokens = ts;
          fault = fault;
          lexemes = lexemes;
          scanned = record { read = reads; meant = refl };
          number = n;
          first = first;
          stands = refl;
        }),
      )

pub each_is_accepted_or_refused : EachIsAcceptedOrRefused
each_is_accepted_or_refused bytes =
    let (ts, fault, reads) = (one_reading bytes).some in
    by_verdict bytes ts fault reads (verdict_of (lexemes bytes ts) fault (faults_lexical bytes ts fault reads))

pub none_is_both : NoneIsBoth
none_is_both bytes (ts, p, accepted) (place, c, refused) = texts_are_one.apart bytes ts p place c accepted refused
