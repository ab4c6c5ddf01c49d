-- Which traces are well formed: those that have a text.
use Rattle.std.specs.Prelude.{◌≡◌, ◌≤◌, ◌<◌, ◌^◌, ℕ, List, length, map, All, Option, Some, None}
use Rattle.abc_value.specs.declared.value.Value.{Value}
use Rattle.abc_value.specs.declared.value.Value.TheVariants.{Nothing}
use Rattle.abc_value.specs.Literals.{IsValue}
use Rattle.abc_pred.specs.declared.names.Name.{Name}
use Rattle.abc_pred.specs.Terms.{Pred}
use Rattle.abc_pred.specs.Meaning.{IsClosed}
use Rattle.abc_pred.specs.Standing.{pred_of}
use Rattle.abc_text.specs.Words.{keyword_at}
use Rattle.abc_text.specs.Meanings.{AreDifferent}
use Rattle.abc_text.specs.Spelling.{IsWordSpelling}
use Rattle.abc_checks.specs.declared.limits.TheConstants.{MOST_COMPONENTS}
use Rattle.abc_grammar.specs.declared.limits.TheConstants.{MOST_PARTS}
use Rattle.abc_grammar.specs.Limits.{BeginsExtraToken}
use Rattle.abc_grammar.specs.Refusals.{IsSomePred, IsWithin}
use Rattle.abc_printed.specs.Parts.{word_at, lexemes}
use Rattle.abc_printed.specs.Forms.{pred_parts}
use Rattle.abc_printed.specs.Printable.{PredHasValues, HasWord}
use Rattle.abc_trace.specs.declared.limits.TheConstants.{MOST_LIMIT, MOST_PICK, MOST_NODES, MOST_PLACE}
use Rattle.abc_trace.specs.declared.trace.Head.{Head}
use Rattle.abc_trace.specs.declared.trace.Head.TheVariants.{Solo, Net}
use Rattle.abc_trace.specs.declared.trace.Said.{Said}
use Rattle.abc_trace.specs.declared.trace.Line.{Line}
use Rattle.abc_trace.specs.declared.trace.EnvLine.{EnvLine}
use Rattle.abc_trace.specs.declared.trace.Trace.{Trace}
use Rattle.abc_trace.specs.Texts.{limit_of}

-- ---- names
-- a NAME: a word of at most 32 bytes that is no keyword
abbrev pub IsName : List ℕ → Type 0
IsName word = IsWordSpelling word × (keyword_at word ≡ None)

-- a name has such a word at its number
abbrev pub IsNamed : List (List ℕ) → Name → Type 0
IsNamed words n = (n.0 < length words) × IsName (word_at words n)

-- the words of the names of these items, which are different where no name stands twice
abbrev pub words_of : {A : Type 0} → List (List ℕ) → (A → Name) → List A → List (List ℕ)
words_of words name items = map (λ a. word_at words (name a)) items

-- ---- the first line
abbrev pub HeadIsWellFormed : Head → Type 0
HeadIsWellFormed (Solo limit pick) = (1 ≤ limit) × (limit ≤ MOST_LIMIT) × (pick ≤ MOST_PICK)
HeadIsWellFormed (Net shape limit nodes pick) =
    (1 ≤ limit) × (limit ≤ MOST_LIMIT) × (pick ≤ MOST_PICK) × (1 ≤ nodes) × (nodes ≤ MOST_NODES)

-- how many sequencing nodes there are; a run on one thread has none
abbrev pub nodes_of : Head → ℕ
nodes_of (Solo limit pick) = 0
nodes_of (Net shape limit nodes pick) = nodes

-- a run of a network
abbrev pub IsNet : Head → Type 0
IsNet (Solo limit pick) = ⊥
IsNet (Net shape limit nodes pick) = Unit {0}

-- ---- the line of a number
-- A predicate that is sent: it is closed, its literals are values and its names have words, and its
-- print is within the limits of a predicate that stands alone.
pub record IsSent (words : List (List ℕ)) (p : Pred) : Type 0 where
  pub closed : IsClosed p
  pub values : PredHasValues p
  pub named : All (HasWord words) (lexemes (pred_parts p))
  pub within :
      IsWithin IsSomePred BeginsExtraToken (lexemes (pred_parts p)) (length (lexemes (pred_parts p)))

-- one that heard, at this place
abbrev pub IsHearer : List (List ℕ) → Name × ℕ → Type 0
IsHearer words h = IsNamed words h.0 × (h.1 ≤ MOST_PLACE)

pub record SaidIsWellFormed (words : List (List ℕ)) (s : Said) : Type 0 where
  pub place : s.place ≤ MOST_PLACE
  pub few : length s.values ≤ MOST_PARTS
  pub values : All IsValue s.values
  pub pred : IsSent words (pred_of s.pred)
  pub heard : All (IsHearer words) s.heard
  pub once : AreDifferent (words_of words (λ h. h.0) s.heard)

-- only in a network a number may have nothing said under it
abbrev pub TailIsWellFormed : Head → List (List ℕ) → Option Said → Type 0
TailIsWellFormed head words None = IsNet head
TailIsWellFormed head words (Some s) = SaidIsWellFormed words s

pub record LineIsWellFormed (head : Head) (words : List (List ℕ)) (l : Line) : Type 0 where
  pub sender : IsNamed words l.sender
  pub said : TailIsWellFormed head words l.said

-- ---- the line of an environment
-- an attribute with its value, which is never none
abbrev pub IsEntry : List (List ℕ) → Name × Value → Type 0
IsEntry words e = IsNamed words e.0 × IsValue e.1 × ¬ (e.1 ≡ Nothing)

pub record FinalIsWellFormed (words : List (List ℕ)) (f : EnvLine) : Type 0 where
  pub component : IsNamed words f.component
  pub entries : All (IsEntry words) f.entries
  pub once : AreDifferent (words_of words (λ e. e.0) f.entries)

-- ---- a trace
pub record IsWellFormed (t : Trace) : Type 0 where
  pub names : AreDifferent t.names
  pub head : HeadIsWellFormed t.head
  pub lines : All (LineIsWellFormed t.head t.names) t.lines
  pub count : length t.lines ≤ limit_of t.head
  pub finals : All (FinalIsWellFormed t.names) t.finals
  pub some : 1 ≤ length t.finals
  pub few : length t.finals ≤ MOST_COMPONENTS
  pub once : AreDifferent (words_of t.names (λ f. f.component) t.finals)
  pub nodes : length t.handled ≡ nodes_of t.head
  pub handled : All (λ n. n < 2 ^ 64) t.handled
