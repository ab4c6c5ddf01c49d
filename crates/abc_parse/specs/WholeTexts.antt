-- What reading a whole text answers.
use Rattle.std.specs.Prelude.{◌≡◌, ℕ, Bool, List, length, slice_index_or, Result, Ok, Err}
use Rattle.abc_cause.specs.declared.Cause.{Cause}
use Rattle.abc_text.specs.declared.lexical.Token.{Token}
use Rattle.abc_term.specs.declared.terms.Program.{Program}
use Rattle.abc_lexer.specs.declared.refusal.TextRefusal.{TextRefusal}
use Rattle.abc_lexer.specs.declared.refusal.TextRefusal.TheVariants as refusal
use Rattle.abc_grammar.specs.declared.lexemes.Lexeme.{Lexeme}
use Rattle.abc_checks.specs.declared.causes.Site.{Site}
use Rattle.abc_checks.specs.declared.causes.Site.TheVariants as site
use Rattle.abc_grammar.specs.Accepted.{is_def, is_comp, definition_places, component_places, IsTextOf, IsAccepted, IsNoText, IsRefused}
use Rattle.abc_grammar.specs.TextLaws.{AreAlike}
use Rattle.abc_parse.specs.Reading.{IsRefusedFor}
use Rattle.abc_parse.specs.declared.places.Kind.{Kind}
use Rattle.abc_parse.specs.declared.places.Kind.TheVariants.{Definition, Component}
use Rattle.abc_parse.specs.declared.parsing.Places.{Places}
use Rattle.abc_parse.specs.declared.parsing.Parsed.{Parsed}
use Rattle.abc_parse.specs.declared.parsing.Text.{Text}
use Rattle.abc_parse.specs.declared.parsing.Text.TheVariants as text

abbrev pub begins : Kind → Lexeme → Bool
begins Definition = is_def
begins Component = is_comp

-- the places of the definitions' and components' names in a text of this size, and its end
pub record ArePlaces (lexemes : List Lexeme) (tokens : List Token) (size : ℕ) (places : Places) : Type 0 where
  pub definitions : places.definitions ≡ definition_places lexemes tokens
  pub components : places.components ≡ component_places lexemes tokens
  pub end : places.end ≡ size

-- the place of a site's name, or the end for the whole program
abbrev pub place_of : Places → Site → ℕ
place_of places (site.Definition i) = slice_index_or places.definitions i places.end
place_of places (site.Component i) = slice_index_or places.components i places.end
place_of places site.Whole = places.end

-- The text is this program of the grammar within the limits, with its places.
pub record IsTextWith (bytes : List ℕ) (parsed : Parsed) : Type 0 where
  pub tokens : List Token
  pub text : IsTextOf bytes tokens parsed.program
  pub places : ArePlaces text.lexemes tokens (length bytes) parsed.places

-- The text is accepted as this program, with its places.
pub record IsParsed (bytes : List ℕ) (parsed : Parsed) : Type 0 where
  pub tokens : List Token
  pub accepted : IsAccepted bytes tokens parsed.program
  pub places : ArePlaces accepted.text.lexemes tokens (length bytes) parsed.places

-- The checks aside: a program, or the place and the cause of the first thing wrong.
abbrev pub IsText : List ℕ → Text → Type 0
IsText bytes (text.Program parsed) = IsTextWith bytes parsed
IsText bytes (text.Refused place c) = IsNoText bytes place c

-- The text is refused so; want of memory says nothing.
abbrev pub IsTextRefusal : List ℕ → TextRefusal → Type 0
IsTextRefusal bytes (refusal.Refused place c) = IsRefused bytes place c
IsTextRefusal bytes refusal.NoMemory = Unit {0}

-- It is parsed as this program, but for where it lies in memory; want of memory says nothing.
abbrev pub IsParsedAs : Program → Result Parsed TextRefusal → Type 0
IsParsedAs p (Ok parsed) = AreAlike parsed.program p
IsParsedAs p (Err (refusal.Refused place c)) = ⊥
IsParsedAs p (Err refusal.NoMemory) = Unit {0}

-- An accepted text is parsed, and a refused one is refused there and for that.
pub record AnswersText (bytes : List ℕ) (answer : Result Parsed TextRefusal) : Type 0 where
  pub accepted : (tokens : List Token) (p : Program) → IsAccepted bytes tokens p → IsParsedAs p answer
  pub refused : (place : ℕ) (c : Cause) → IsRefused bytes place c → IsRefusedFor place c answer
