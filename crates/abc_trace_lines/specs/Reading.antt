-- What reading a line, or a part of one, answers.
use Rattle.std.specs.Prelude.{◌≡◌, ◌<◌, ◌≤◌, ◌^◌, ℕ, List, ◌∷◌, ◌++◌, ◌==◌, not, length, map, codes, decimal, All, Option, Some, None}
use Rattle.std.specs.List.{AllPass}
use Rattle.abc_value.specs.declared.value.Value.{Value}
use Rattle.abc_value.specs.Literals.{literal, IsValue}
use Rattle.abc_text.specs.Meanings.{AreDifferent}
use Rattle.abc_grammar.specs.declared.limits.TheConstants.{MOST_PARTS}
use Rattle.abc_shape.specs.declared.shape.Shape.{Shape}
use Rattle.abc_trace.specs.declared.trace.Head.TheVariants.{Solo, Net}
use Rattle.abc_trace.specs.Lines.{spaced, parted, shape_word}
use Rattle.abc_trace.specs.WellFormed.{HeadIsWellFormed}
use Rattle.abc_trace_lines.specs.Plain.{Line, First, Number, Env, Node, Last, hearers_text, tail_text, entries_text, line_text}
use Rattle.abc_trace_lines.specs.Plain as plain
use Rattle.abc_trace_lines.specs.Spelled.{hearers_words, entries_words, IsHearer, IsEntry, SaidIsSpelled, TailIsSpelled, IsSpelled}
use Rattle.abc_trace_lines.specs.declared.parts.SaidParts.{SaidParts}
use Rattle.abc_trace_lines.specs.declared.parts.LineParts.{LineParts}
use Rattle.abc_trace_lines.specs.declared.parts.LineParts.TheVariants as parts

-- what the parts of a line say
abbrev pub plain_said : SaidParts → plain.Said
plain_said s = record {
  place = s.place;
  values = s.values;
  pred = s.pred.now;
  heard = map (λ h. (h.0.now, h.1)) s.heard;
}

abbrev pub plain_tail : Option SaidParts → Option plain.Said
plain_tail None = None
plain_tail (Some s) = Some (plain_said s)

abbrev pub plain_line : LineParts → Line
plain_line (parts.First head) = First head
plain_line (parts.Number n sender said) = Number n sender.now (plain_tail said)
plain_line (parts.Env component entries) = Env component.now (map (λ e. (e.0.now, e.1)) entries)
plain_line (parts.Node node handled) = Node node handled
plain_line (parts.Last limited count) = Last limited count

-- These bytes are the text of this line, or of none.
abbrev pub IsReadLine : List ℕ → Option LineParts → Type 0
IsReadLine bytes None = (x : Line) → IsSpelled x → ¬ (line_text x ≡ bytes)
IsReadLine bytes (Some parts) = IsSpelled
    (plain_line parts) × (line_text (plain_line parts) ≡ bytes)

-- these bytes are the text of this line
pub record IsLine (bytes : List ℕ) (x : Line) : Type 0 where
  pub spelled : IsSpelled x
  pub text : line_text x ≡ bytes

-- ---- the numbers of a line
-- two numbers, parted by a space
pub record IsTwoNumbers (bytes : List ℕ) (m n : ℕ) : Type 0 where
  pub first : m < 2 ^ 64
  pub second : n < 2 ^ 64
  pub text : bytes ≡ spaced (decimal m) (decimal n)

-- LIMIT PICK
pub record IsSoloNumbers (bytes : List ℕ) (limit pick : ℕ) : Type 0 where
  pub within : HeadIsWellFormed (Solo limit pick)
  pub text : bytes ≡ spaced (decimal limit) (decimal pick)

-- LIMIT NODES PICK
pub record IsNetNumbers (shape : Shape) (bytes : List ℕ) (limit nodes pick : ℕ) : Type 0 where
  pub within : HeadIsWellFormed (Net shape limit nodes pick)
  pub text : bytes ≡ spaced (decimal limit) (spaced (decimal nodes) (decimal pick))

-- a shape's word, a space, and more
pub record IsShapeFront (bytes : List ℕ) (shape : Shape) (more : List ℕ) : Type 0 where
  pub text : bytes ≡ spaced (shape_word shape) more

-- ---- those that heard
-- these bytes tell those that heard
pub record AreHearers (bytes : List ℕ) (heard : List (List ℕ × ℕ)) : Type 0 where
  pub good : All IsHearer heard
  pub once : AreDifferent (hearers_words heard)
  pub text : bytes ≡ hearers_text heard

-- ---- what was said
-- the bytes hold no )
abbrev pub HasNoClose : List ℕ → Type 0
HasNoClose bytes = AllPass (λ b. not (b == 41)) bytes

-- what stands before the last ), and what stands behind it
pub record IsCutLast (bytes front more : List ℕ) : Type 0 where
  pub text : bytes ≡ front ++ 41 ∷ more
  pub last : HasNoClose more

-- PRED) -> HEARERS: a predicate as it is written, and those that heard
pub record IsSent (bytes pred : List ℕ) (heard : List (List ℕ × ℕ)) : Type 0 where
  pub good : All IsHearer heard
  pub once : AreDifferent (hearers_words heard)
  pub text : bytes ≡ pred ++ (codes ") -> " ++ hearers_text heard)

-- (VALUES) @ (PRED) -> HEARERS, behind this place
pub record IsMulticast (place : ℕ) (bytes : List ℕ) (s : plain.Said) : Type 0 where
  pub same : s.place ≡ place
  pub few : length s.values ≤ MOST_PARTS
  pub values : All IsValue s.values
  pub good : All IsHearer s.heard
  pub once : AreDifferent (hearers_words s.heard)
  pub text :
      bytes
      ≡ codes "(" ++ (parted literal s.values
      ++ (codes ") @ (" ++ (s.pred ++ (codes ") -> " ++ hearers_text s.heard))))

-- PLACE (VALUES) @ (PRED) -> HEARERS
pub record IsSaid (bytes : List ℕ) (s : plain.Said) : Type 0 where
  pub spelled : SaidIsSpelled s
  pub text : 58 ∷ bytes ≡ tail_text (Some s)

-- what a line has behind its sender
pub record IsTail (bytes : List ℕ) (said : Option plain.Said) : Type 0 where
  pub spelled : TailIsSpelled said
  pub text : bytes ≡ tail_text said

-- ---- attributes
-- {}, or { A = V; B = W; }
pub record AreEntries (bytes : List ℕ) (entries : List (List ℕ × Value)) : Type 0 where
  pub good : All IsEntry entries
  pub once : AreDifferent (entries_words entries)
  pub text : bytes ≡ entries_text entries

-- ---- the kinds of lines
abbrev pub IsFirst : Line → Type 0
IsFirst (First head) = Unit {0}
IsFirst (Number n sender said) = ⊥
IsFirst (Env component entries) = ⊥
IsFirst (Node node handled) = ⊥
IsFirst (Last limited count) = ⊥

abbrev pub IsNumber : Line → Type 0
IsNumber (First head) = ⊥
IsNumber (Number n sender said) = Unit {0}
IsNumber (Env component entries) = ⊥
IsNumber (Node node handled) = ⊥
IsNumber (Last limited count) = ⊥

abbrev pub IsEnv : Line → Type 0
IsEnv (First head) = ⊥
IsEnv (Number n sender said) = ⊥
IsEnv (Env component entries) = Unit {0}
IsEnv (Node node handled) = ⊥
IsEnv (Last limited count) = ⊥

abbrev pub IsNode : Line → Type 0
IsNode (First head) = ⊥
IsNode (Number n sender said) = ⊥
IsNode (Env component entries) = ⊥
IsNode (Node node handled) = Unit {0}
IsNode (Last limited count) = ⊥

abbrev pub IsLast : Line → Type 0
IsLast (First head) = ⊥
IsLast (Number n sender said) = ⊥
IsLast (Env component entries) = ⊥
IsLast (Node node handled) = ⊥
IsLast (Last limited count) = Unit {0}

-- What reading a line as one of a kind answers: these bytes are the text of this line, or of none
-- of the kind.
abbrev pub IsReadAs : (Line → Type 0) → List ℕ → Option LineParts → Type 0
IsReadAs Kind bytes None = (x : Line) → Kind x → ¬ (IsLine bytes x)
IsReadAs Kind bytes (Some parts) = IsLine bytes (plain_line parts)
