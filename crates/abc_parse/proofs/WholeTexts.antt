-- What a whole text is: parsed or refused, and not both.
use Rattle.std.proofs.Common.{◌≡◌, ℕ, zero, suc, ◌+◌, ◌<◌, ◌≤◌, ◌^◌, Bool, true, false, List, [], ◌∷◌, ◌++◌, length, map, take, append_assoc, if◌then◌else◌, Option, Some, None, Result, Ok, Err, refl, sym, ap, ◌∙◌, subst, arith}
use Rattle.std.specs.Prelude.{slice_get, slice_index_or}
use Rattle.std.specs.Option.{option_map_or}
use Rattle.std.proofs.lemmas.List.{length-map}
use Rattle.abc_cause.specs.declared.Cause.{Cause}
use Rattle.abc_cause.specs.declared.Cause.TheVariants as cause
use Rattle.abc_cause.specs.declared.CheckCause.{CheckCause}
use Rattle.abc_cause.specs.declared.CheckCause.TheVariants as check
use Rattle.abc_text.specs.declared.lexical.Token.{Token}
use Rattle.abc_text.specs.declared.lexical.Fault.{Fault}
use Rattle.abc_term.specs.declared.terms.Definition.{Definition}
use Rattle.abc_term.specs.declared.terms.Program.{Program}
use Rattle.abc_term.specs.Standing.{process_of}
use Rattle.abc_lexer.specs.declared.refusal.TextRefusal.{TextRefusal}
use Rattle.abc_lexer.specs.declared.refusal.TextRefusal.TheVariants as refusal
use Rattle.abc_checks.specs.declared.causes.Site.{Site}
use Rattle.abc_checks.specs.declared.causes.Site.TheVariants as site
use Rattle.abc_checks.specs.Facts.{HasFact, IsChecked, IsFirstFact}
use Rattle.abc_grammar.specs.declared.lexemes.Lexeme.{Lexeme}
use Rattle.abc_text.specs.Meanings.{names_behind}
use Rattle.abc_grammar.specs.Lexemes.{lexeme_of}
use Rattle.abc_grammar.specs.Plain.{PlainProgram, plain_component, plain_program}
use Rattle.abc_grammar_laws.specs.NamePlaces.{HasNamePlaces}
use Rattle.abc_grammar_laws.proofs.NamePlaces.{places_are_named}
use Rattle.abc_parse.proofs.Texts.{tokens_fewer, faults_lexical}
use Rattle.abc_parse.proofs.Programs.{program_then_fault}
use Rattle.abc_grammar.specs.Limits.{IsTooLarge}
use Rattle.abc_grammar.specs.Refusals.{end_cause, HasLexical, place_at, IsSomeProgram, IsWithin, IsFirstOfProgram}
use Rattle.abc_grammar.specs.Programs.{IsProgram}
use Rattle.abc_grammar.specs.Scanned.{IsScanned}
use Rattle.abc_grammar.specs.Accepted.{is_def, is_comp, places_behind, definition_places, component_places, site_place, IsAccepted, IsNoText, IsUnchecked, IsRefused}
use Rattle.abc_grammar.proofs.OneText.{texts_are_one}
use Rattle.abc_parse.specs.declared.parsing.Parsed.{Parsed}
use Rattle.abc_parse.specs.Reading.{IsRefusedFor}
use Rattle.abc_parse.specs.WholeTexts.{place_of, IsTextWith, IsParsed, IsTextRefusal, IsParsedAs, AnswersText}

-- ---- places of facts
-- a fact of a definition, and of a component, is one of an item that is there
definition_there : (p : Program) (c : CheckCause) (i : ℕ) → HasFact c p (site.Definition i) → i < length p.definitions
definition_there p check.DoubleName i h = h.0
definition_there p check.UnknownName i h = h.0
definition_there p check.OpenVariable i h = h.0
definition_there p check.Unguarded i h = h.0
definition_there p check.ParallelCycle i h = h.0
definition_there p check.TooWide i h = h.0
definition_there p check.TooManyMoves i h = h.0
definition_there p check.NoComponent i h = absurd h
definition_there p check.TooManyComponents i h = absurd h

component_there : (p : Program) (c : CheckCause) (i : ℕ) → HasFact c p (site.Component i) → i < length p.components
component_there p check.DoubleName i h = h.0
component_there p check.UnknownName i h = h.0
component_there p check.OpenVariable i h = h.0
component_there p check.Unguarded i h = h.0
component_there p check.ParallelCycle i h = h.0
component_there p check.TooWide i h = h.0
component_there p check.TooManyMoves i h = h.0
component_there p check.NoComponent i h = absurd h
component_there p check.TooManyComponents i h = absurd h

got : (xs : List ℕ) (i d : ℕ) → i < length xs → slice_get xs i ≡ Some (slice_index_or xs i d)
got [] i d h = absurd (omega arith)
got (x ∷ xs) zero d h = refl
got (x ∷ xs) (suc i) d h = got xs i d (omega arith)

-- ---- places, token by token
pub no_tokens : (is : Lexeme → Bool) (b : Bool) (ls : List Lexeme) → places_behind is b ls [] ≡ []
no_tokens is true [] = refl
no_tokens is true (x ∷ ls) = refl
no_tokens is false [] = refl
no_tokens is false (x ∷ ls) = refl

pub no_lexemes : (is : Lexeme → Bool) (b : Bool) (ts : List Token) → places_behind is b [] ts ≡ []
no_lexemes is true ts = refl
no_lexemes is false ts = refl

pub one_more : (is : Lexeme → Bool) (b : Bool) (found : List ℕ) (x : Lexeme) (t : Token) (ls : List Lexeme) (ts : List Token) →
    (if b then found ++ t.place ∷ [] else found) ++ places_behind is (is x) ls ts ≡ found ++ places_behind is b (x ∷ ls) (t ∷ ts)
one_more is true found x t ls ts = append_assoc found (t.place ∷ []) (places_behind is (is x) ls ts)
one_more is false found x t ls ts = refl

-- no more places than tokens
pub places_few : (is : Lexeme → Bool) (b : Bool) (ls : List Lexeme) (ts : List Token) → length (places_behind is b ls ts) ≤ length ts
places_few is true [] ts = omega arith
places_few is true (x ∷ ls) [] = omega arith
places_few is true (x ∷ ls) (t ∷ ts) = let le = places_few is (is x) ls ts in omega (arith, le)
places_few is false [] ts = omega arith
places_few is false (x ∷ ls) [] = omega arith
places_few is false (x ∷ ls) (t ∷ ts) = let le = places_few is (is x) ls ts in omega (arith, le)

module _ (bytes : List ℕ) (parsed : Parsed) (h : IsTextWith bytes parsed) where
  same : length h.tokens ≡ length h.text.lexemes
  same =
      sym (ap (length {A = Lexeme}) h.text.scanned.meant
      ∙ length-map h.tokens (lexeme_of (names_behind [] bytes h.tokens) bytes))

  named : HasNamePlaces h.text.lexemes h.tokens (plain_program parsed.program)
  named = places_are_named h.text.lexemes h.tokens (plain_program parsed.program) h.text.grammar same

  -- each definition and each component has a place
  pub definitions_placed : length (definition_places h.text.lexemes h.tokens) ≡ length parsed.program.definitions
  definitions_placed = named.definitions.count ∙ length-map parsed.program.definitions (λ (d : Definition). (d.name, process_of d.body))

  pub components_placed : length (component_places h.text.lexemes h.tokens) ≡ length parsed.program.components
  components_placed = named.components.count ∙ length-map parsed.program.components plain_component

  -- so they are fewer than the bytes
  pub few_definitions : length parsed.program.definitions ≤ length bytes
  few_definitions =
      let few = places_few is_def false h.text.lexemes h.tokens in
      omega (arith, few, definitions_placed, tokens_fewer bytes h.tokens None h.text.scanned.read)

  pub few_components : length parsed.program.components ≤ length bytes
  few_components =
      let few = places_few is_comp false h.text.lexemes h.tokens in
      omega (arith, few, components_placed, tokens_fewer bytes h.tokens None h.text.scanned.read)

  stands : (c : CheckCause) (s : Site) → HasFact c parsed.program s → site_place h.text.lexemes h.tokens (length bytes) s ≡ Some (place_of parsed.places s)
  stands c (site.Definition i) f =
      ap (λ (ps : List ℕ). slice_get ps i) (sym h.places.definitions)
      ∙ got parsed.places.definitions i parsed.places.end
      (let lt = definition_there parsed.program c i f in omega (arith, lt, definitions_placed, ap (length {A = ℕ}) h.places.definitions))
  stands c (site.Component i) f =
      ap (λ (ps : List ℕ). slice_get ps i) (sym h.places.components)
      ∙ got parsed.places.components i parsed.places.end
      (let lt = component_there parsed.program c i f in omega (arith, lt, components_placed, ap (length {A = ℕ}) h.places.components))
  stands c site.Whole f = ap (λ (n : ℕ). Some n) (sym h.places.end)

  pub unchecked : (c : CheckCause) (s : Site) → IsFirstFact parsed.program c s → IsUnchecked bytes (place_of parsed.places s) c
  unchecked c s f = record { tokens = h.tokens; program = parsed.program; text = h.text; site = s; first = f; stands = stands c s f.holds }

pub accepted : (bytes : List ℕ) (parsed : Parsed) → IsTextWith bytes parsed → IsChecked parsed.program → IsParsed bytes parsed
accepted bytes parsed h checked = record { tokens = h.tokens; accepted = record { text = h.text; checked = checked }; places = h.places }

-- ---- refusals
-- no check speaks against tokens that are no program
pub no_text : (bytes : List ℕ) (place : ℕ) (c : Cause) → IsNoText bytes place c → IsRefused bytes place c
no_text bytes place cause.BadByte h = h
no_text bytes place cause.BadText h = h
no_text bytes place cause.LongText h = h
no_text bytes place cause.LongName h = h
no_text bytes place cause.WideNumber h = h
no_text bytes place cause.Syntax h = h
no_text bytes place cause.TooDeep h = h
no_text bytes place cause.TooLarge h = h
no_text bytes place cause.LongTuple h = h
no_text bytes place cause.LongSet h = h
no_text bytes place (cause.Check c) h = absurd h.first.applies

pub first_against : (bytes : List ℕ) (tokens : List Token) (fault : Option Fault) (ls : List Lexeme) (n : ℕ) (c : Cause) (place : ℕ) →
    IsScanned [] bytes tokens fault ls → IsFirstOfProgram ls fault c n → place ≡ place_at tokens fault (length bytes) n → IsNoText bytes place c
first_against bytes tokens fault ls n c place scanned first stands =
    record { tokens = tokens; fault = fault; lexemes = ls; scanned = scanned; number = n; first = first; stands = stands }

-- behind the last token comes the end, or the bad one
past_end : (ts : List Token) → slice_get ts (length ts) ≡ None
past_end [] = refl
past_end (t ∷ ts) = past_end ts

pub all_taken : (ts : List Token) → take (length ts) ts ≡ ts
all_taken [] = refl
all_taken (t ∷ ts) = ap (λ (us : List Token). t ∷ us) (all_taken ts)

as_many : (bytes : List ℕ) (tokens : List Token) (fault : Option Fault) (ls : List Lexeme) → IsScanned [] bytes tokens fault ls → length ls ≡ length tokens
as_many bytes tokens fault ls h = ap (length {A = Lexeme}) h.meant ∙ length-map tokens (lexeme_of (names_behind [] bytes tokens) bytes)

pub bad_behind : (bytes : List ℕ) (tokens : List Token) (fault : Fault) (ls : List Lexeme) (p : PlainProgram) → IsScanned [] bytes tokens (Some fault) ls →
    IsProgram ls p → IsWithin IsSomeProgram IsTooLarge ls (length ls) → IsNoText bytes fault.place fault.cause
bad_behind bytes tokens fault ls p scanned h within =
    let at_end : slice_get tokens (length ls) ≡ None = ap (slice_get tokens) (as_many bytes tokens (Some fault) ls scanned) ∙ past_end tokens in
    first_against bytes tokens (Some fault) ls (length ls) fault.cause fault.place scanned
    (program_then_fault ls p fault (faults_lexical bytes tokens (Some fault) scanned.read) h within)
    (sym (ap (λ (t : Option Token). option_map_or (λ t. t.place) t fault.place) at_end))

pub ended : (bytes : List ℕ) (tokens : List Token) (fault : Option Fault) (ls : List Lexeme) (place : ℕ) → IsScanned [] bytes tokens fault ls →
    ((f : Option Fault) → HasLexical f → IsFirstOfProgram ls f (end_cause f) (length ls)) → place ≡ place_at tokens fault (length bytes) (length ls) →
    IsNoText bytes place (end_cause fault)
ended bytes tokens fault ls place scanned first stands =
    first_against bytes tokens fault ls (length ls) (end_cause fault) place scanned (first fault (faults_lexical bytes tokens fault scanned.read)) stands

-- ---- not both
pub refused : (bytes : List ℕ) (i : ℕ) (c : Cause) → IsRefused bytes i c → AnswersText bytes (Err (refusal.Refused i c))
refused bytes i c h = record {
  accepted = λ tokens p a. texts_are_one.apart bytes tokens p i c a h;
  refused = λ place d r. texts_are_one.refused bytes i place c d h r;
}

pub answers : (bytes : List ℕ) (answer : Result Parsed TextRefusal) →
    ((parsed : Parsed) → answer ≡ Ok parsed → IsParsed bytes parsed) →
    ((r : TextRefusal) → answer ≡ Err r → IsTextRefusal bytes r) → AnswersText bytes answer
answers bytes (Ok parsed) ok err =
    let h = ok parsed refl in record {
      accepted = λ tokens p a. (texts_are_one.accepted bytes h.tokens tokens parsed.program p h.accepted a).1;
      refused = λ place c r. texts_are_one.apart bytes h.tokens parsed.program place c h.accepted r;
    }
answers bytes (Err (refusal.Refused i c)) ok err = refused bytes i c (err (refusal.Refused i c) refl)
answers bytes (Err refusal.NoMemory) ok err = record { accepted = λ tokens p a. tt; refused = λ place c r. tt }
