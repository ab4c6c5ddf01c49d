-- The lines of traces in words: what a line says, before any name has a number.
use Rattle.std.specs.Prelude.{ℕ, Bool, List, [], ◌∷◌, ◌++◌, flat_map, codes, decimal, Option, Some, None, if◌then◌else◌}
use Rattle.abc_value.specs.declared.value.Value.{Value}
use Rattle.abc_value.specs.Literals.{literal}
use Rattle.abc_trace.specs.declared.trace.Head.{Head}
use Rattle.abc_trace.specs.declared.trace.Head.TheVariants.{Solo, Net}
use Rattle.abc_trace.specs.Lines.{spaced, parted, shape_word}

-- a multicast, with its predicate as it is written
pub record Said : Type 0 where
  pub place : ℕ
  pub values : List Value
  pub pred : List ℕ
  pub heard : List (List ℕ × ℕ)

-- the first line, that of a number, of an environment, of a node, and the last one
pub data Line : Type 0 where
  First : (head : Head) → Line
  Number : (n : ℕ) → (sender : List ℕ) → (said : Option Said) → Line
  Env : (component : List ℕ) → (entries : List (List ℕ × Value)) → Line
  Node : (node : ℕ) → (handled : ℕ) → Line
  Last : (limited : Bool) → (count : ℕ) → Line

-- ---- their texts, without the end of the line
-- abc-trace 1 solo LIMIT PICK, or abc-trace 1 SHAPE LIMIT NODES PICK
abbrev pub head_words : Head → List ℕ
head_words (Solo limit pick) = codes "abc-trace 1 solo " ++ spaced (decimal limit) (decimal pick)
head_words (Net shape limit nodes pick) =
    codes "abc-trace 1 "
    ++ spaced (shape_word shape) (spaced (decimal limit) (spaced (decimal nodes) (decimal pick)))

-- NAME:PLACE, NAME:PLACE, or - where nobody heard
abbrev pub hearer_text : List ℕ × ℕ → List ℕ
hearer_text (word, place) = word ++ 58 ∷ decimal place

abbrev pub hearers_text : List (List ℕ × ℕ) → List ℕ
hearers_text [] = codes "-"
hearers_text (h ∷ heard) = parted hearer_text (h ∷ heard)

-- " -" where nothing was said, else :PLACE (VALUES) @ (PRED) -> HEARERS
abbrev pub tail_text : Option Said → List ℕ
tail_text None = codes " -"
tail_text (Some s) =
    58 ∷ spaced (decimal s.place)
    (codes "(" ++ parted literal s.values ++ codes ") @ (" ++ s.pred ++ codes ") -> "
    ++ hearers_text s.heard)

-- {}, or { A = V; B = W; }
abbrev pub entry_text : List ℕ × Value → List ℕ
entry_text (word, v) = word ++ codes " = " ++ literal v ++ codes "; "

abbrev pub entries_text : List (List ℕ × Value) → List ℕ
entries_text [] = codes "{}"
entries_text (e ∷ entries) = codes "{ " ++ flat_map entry_text (e ∷ entries) ++ codes "}"

abbrev pub line_text : Line → List ℕ
line_text (First head) = head_words head
line_text (Number n sender said) = spaced (decimal n) (sender ++ tail_text said)
line_text (Env component entries) = codes "env " ++ spaced component (entries_text entries)
line_text (Node node handled) = codes "node " ++ spaced (decimal node) (decimal handled)
line_text (Last limited count) =
    (if limited then codes "limit " else codes "quiet ") ++ decimal count
