-- Accepted texts, and the refusal of every other.
use Rattle.std.specs.Prelude.{◌≡◌, ℕ, Bool, true, false, List, [], ◌∷◌, length, slice_get, Option, Some, None}
use Rattle.abc_cause.specs.declared.Cause.{Cause}
use Rattle.abc_cause.specs.declared.Cause.TheVariants.{Check}
use Rattle.abc_cause.specs.declared.CheckCause.{CheckCause}
use Rattle.abc_text.specs.declared.lexical.Token.{Token}
use Rattle.abc_text.specs.declared.lexical.Fault.{Fault}
use Rattle.abc_text.specs.Meanings.{names_of}
use Rattle.abc_term.specs.declared.terms.Program.{Program}
use Rattle.abc_checks.specs.declared.causes.Site.{Site}
use Rattle.abc_checks.specs.declared.causes.Site.TheVariants.{Definition, Component, Whole}
use Rattle.abc_checks.specs.Facts.{IsChecked, IsFirstFact}
use Rattle.abc_grammar.specs.declared.lexemes.Lexeme.{Lexeme}
use Rattle.abc_grammar.specs.declared.lexemes.Lexeme.TheVariants as l
use Rattle.abc_text.specs.declared.words.Keyword.TheVariants as k
use Rattle.abc_grammar.specs.Plain.{plain_program}
use Rattle.abc_grammar.specs.Programs.{IsProgram}
use Rattle.abc_grammar.specs.Limits.{IsTooLarge}
use Rattle.abc_grammar.specs.Refusals.{IsSomeProgram, IsWithin, IsFirstOfProgram, place_at}
use Rattle.abc_grammar.specs.Scanned.{IsScanned}

-- ---- the program of a text
-- The tokens of the text to its end are this program, within the limits; no word has a number before.
pub record IsTextOf (bytes : List ℕ) (ts : List Token) (p : Program) : Type 0 where
  pub lexemes : List Lexeme
  pub scanned : IsScanned [] bytes ts None lexemes
  pub grammar : IsProgram lexemes (plain_program p)
  pub within : IsWithin IsSomeProgram IsTooLarge lexemes (length lexemes)
  pub names : p.names ≡ names_of bytes ts

-- The text is accepted as this program: no fact of the checks holds of it.
pub record IsAccepted (bytes : List ℕ) (ts : List Token) (p : Program) : Type 0 where
  pub text : IsTextOf bytes ts p
  pub checked : IsChecked p

-- ---- places of names
abbrev pub is_def : Lexeme → Bool
is_def (l.Keyword k.Def) = true
is_def _ = false

abbrev pub is_comp : Lexeme → Bool
is_comp (l.Keyword k.Comp) = true
is_comp _ = false

-- The places of the tokens that stand right behind one that passes the test; the flag says that the first does.
abbrev pub places_behind : (Lexeme → Bool) → Bool → List Lexeme → List Token → List ℕ
places_behind is true (x ∷ ls) (t ∷ ts) = t.place ∷ places_behind is (is x) ls ts
places_behind is false (x ∷ ls) (t ∷ ts) = places_behind is (is x) ls ts
places_behind is _ _ _ = []

-- The name of a definition stands right behind `def`, that of a component behind `comp`, and these stand nowhere else.
abbrev pub definition_places : List Lexeme → List Token → List ℕ
definition_places ls ts = places_behind is_def false ls ts

abbrev pub component_places : List Lexeme → List Token → List ℕ
component_places ls ts = places_behind is_comp false ls ts

-- the place of a check's fact: that of the name, or for the whole program the end
abbrev pub site_place : List Lexeme → List Token → ℕ → Site → Option ℕ
site_place ls ts size (Definition i) = slice_get (definition_places ls ts) i
site_place ls ts size (Component i) = slice_get (component_places ls ts) i
site_place ls ts size Whole = Some size

-- ---- refusals
-- The text is no program within the limits: the first cause against it stands at this place.
pub record IsNoText (bytes : List ℕ) (place : ℕ) (c : Cause) : Type 0 where
  pub tokens : List Token
  pub fault : Option Fault
  pub lexemes : List Lexeme
  pub scanned : IsScanned [] bytes tokens fault lexemes
  pub number : ℕ
  pub first : IsFirstOfProgram lexemes fault c number
  pub stands : place ≡ place_at tokens fault (length bytes) number

-- The text is a program, of which this is the first fact of the checks.
pub record IsUnchecked (bytes : List ℕ) (place : ℕ) (c : CheckCause) : Type 0 where
  pub tokens : List Token
  pub program : Program
  pub text : IsTextOf bytes tokens program
  pub site : Site
  pub first : IsFirstFact program c site
  pub stands : site_place text.lexemes tokens (length bytes) site ≡ Some place

-- A refusal's place and cause: those of the text, or where the text is a program those of the checks.
abbrev pub IsRefused : List ℕ → ℕ → Cause → Type 0
IsRefused bytes place (Check c) = IsUnchecked bytes place c
IsRefused bytes place c = IsNoText bytes place c
