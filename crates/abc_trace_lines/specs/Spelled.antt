-- Which lines in words keep what the text of a trace asks of a line alone.
use Rattle.std.specs.Prelude.{◌≡◌, ◌≤◌, ◌<◌, ◌^◌, ℕ, List, length, map, All, Option, Some, None}
use Rattle.abc_value.specs.declared.value.Value.{Value}
use Rattle.abc_value.specs.declared.value.Value.TheVariants.{Nothing}
use Rattle.abc_value.specs.Literals.{IsValue}
use Rattle.abc_text.specs.Meanings.{AreDifferent}
use Rattle.abc_grammar.specs.declared.limits.TheConstants.{MOST_PARTS}
use Rattle.abc_trace.specs.declared.limits.TheConstants.{MOST_PLACE}
use Rattle.abc_trace.specs.WellFormed.{IsName, HeadIsWellFormed}
use Rattle.abc_trace_lines.specs.Plain.{Said, Line, First, Number, Env, Node, Last}
use Rattle.abc_trace_lines.specs.Plain as plain

-- the words of those that heard are different, as are those of attributes
abbrev pub hearers_words : List (List ℕ × ℕ) → List (List ℕ)
hearers_words heard = map (λ h. h.0) heard

abbrev pub entries_words : List (List ℕ × Value) → List (List ℕ)
entries_words entries = map (λ e. e.0) entries

abbrev pub IsHearer : List ℕ × ℕ → Type 0
IsHearer h = IsName h.0 × (h.1 ≤ MOST_PLACE)

-- its predicate aside
pub record SaidIsSpelled (s : Said) : Type 0 where
  pub place : s.place ≤ MOST_PLACE
  pub few : length s.values ≤ MOST_PARTS
  pub values : All IsValue s.values
  pub heard : All IsHearer s.heard
  pub once : AreDifferent (hearers_words s.heard)

abbrev pub TailIsSpelled : Option Said → Type 0
TailIsSpelled None = Unit {0}
TailIsSpelled (Some s) = SaidIsSpelled s

abbrev pub IsEntry : List ℕ × Value → Type 0
IsEntry e = IsName e.0 × IsValue e.1 × ¬ (e.1 ≡ Nothing)

-- Numbers have at most 64 bits; what predicates, and lines together, must be is said elsewhere.
abbrev pub IsSpelled : Line → Type 0
IsSpelled (First head) = HeadIsWellFormed head
IsSpelled (Number n sender said) = (n < 2 ^ 64) × IsName sender × TailIsSpelled said
IsSpelled (Env component entries) =
    IsName component × All IsEntry entries × AreDifferent (entries_words entries)
IsSpelled (Node node handled) = (node < 2 ^ 64) × (handled < 2 ^ 64)
IsSpelled (Last limited count) = count < 2 ^ 64

-- A line's text fixes what it says.
abbrev pub LinesAreOne : Type 0
LinesAreOne =
    (x y : Line) → IsSpelled x → IsSpelled y → plain.line_text x ≡ plain.line_text y → x ≡ y
