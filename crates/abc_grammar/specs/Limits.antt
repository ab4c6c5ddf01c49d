-- The limits of a text, each a fact of a list of tokens and the number of one of them, counted from 0.
use Rattle.std.specs.Prelude.{◌≡◌, ℕ, ◌+◌, ◌-◌, ◌<◌, ◌≤◌, Bool, true, false, IsTrue, List, [], ◌∷◌, ◌++◌, length, take, fold, slice_get, IsSomeAnd, if◌then◌else◌}
use Rattle.abc_value.specs.declared.scalar.Scalar.{Scalar}
use Rattle.abc_pred.specs.declared.names.Name.{Name}
use Rattle.abc_pred.specs.Terms.{Expr}
use Rattle.abc_grammar.specs.declared.lexemes.Lexeme.{Lexeme}
use Rattle.abc_grammar.specs.declared.lexemes.Lexeme.TheVariants as l
use Rattle.abc_text.specs.declared.words.Mark.TheVariants as m
use Rattle.abc_text.specs.declared.words.Keyword.TheVariants as k
use Rattle.abc_grammar.specs.declared.limits.TheConstants.{MOST_OPEN, MOST_TOKENS, MOST_PARTS, MOST_WRITTEN}
use Rattle.abc_grammar.specs.Listed.{AreListed, IsVariable}
use Rattle.abc_grammar.specs.Literals.{IsScalar}
use Rattle.abc_grammar.specs.Sizes.{Free, spot_behind, counts, size_of}
use Rattle.abc_grammar.specs.Exprs.{IsExpr}

-- a fact of token k
abbrev pub At : List Lexeme → ℕ → (Lexeme → Bool) → Type 0
At ts k is = IsSomeAnd (slice_get ts k) (λ t. IsTrue (is t))

-- ---- depth
abbrev pub opens : Lexeme → Bool
opens (l.Mark m.OpenRound) = true
opens (l.Mark m.OpenSquare) = true
opens (l.Mark m.OpenCurly) = true
opens _ = false

abbrev pub closes : Lexeme → Bool
closes (l.Mark m.CloseRound) = true
closes (l.Mark m.CloseSquare) = true
closes (l.Mark m.CloseCurly) = true
closes _ = false

abbrev pub open_with : ℕ → Lexeme → ℕ
open_with n t = if opens t then n + 1 else (if closes t then n - 1 else n)

-- how many brackets are open behind these tokens, where so many were open before them
abbrev pub open_behind : ℕ → List Lexeme → ℕ
open_behind n ts = fold open_with n ts

-- Token k opens a bracket, and as many as may be are open before it.
pub record IsTooDeep (ts : List Lexeme) (k : ℕ) : Type 0 where
  pub opener : At ts k opens
  pub full : MOST_OPEN ≤ open_behind 0 (take k ts)

-- ---- tokens of a definition or a component
abbrev pub starts_item : Lexeme → Bool
starts_item (l.Keyword k.Def) = true
starts_item (l.Keyword k.Comp) = true
starts_item _ = false

-- Token k is the first one too many of its definition or component, counted from the last `def` or `comp`.
pub record IsTooLarge (ts : List Lexeme) (k : ℕ) : Type 0 where
  pub exists : k < length ts
  pub start : ℕ
  pub starts : At ts start starts_item
  pub last : (i : ℕ) → start < i → i ≤ k → ¬ At ts i starts_item
  pub counted : k ≡ start + MOST_TOKENS

-- ---- size of a predicate that stands alone
-- Token k begins the first token or literal too many.
pub record BeginsExtraToken (ts : List Lexeme) (k : ℕ) : Type 0 where
  pub counted : At ts k (counts (fold spot_behind Free (take k ts)))
  pub full : MOST_TOKENS ≤ size_of (take k ts)

-- ---- scalars of a set literal
-- Token k begins the first scalar too many of a set literal: before it stand as many as may be, parted by
-- commas, and a comma, behind a `{`. Only a `{` that opens a set literal is followed by a scalar and a comma
-- (the law MarksStand of abc_grammar_laws, as what is said of `@` and `.` below).
pub record BeginsExtraScalar (ts : List Lexeme) (k : ℕ) : Type 0 where
  pub exists : k < length ts
  pub before : List Lexeme
  pub parts : List Lexeme
  pub scalars : List Scalar
  pub listed : AreListed IsScalar parts scalars
  pub full : length scalars ≡ MOST_WRITTEN
  pub stands : take k ts ≡ before ++ l.Mark m.OpenCurly ∷ parts ++ l.Mark m.Comma ∷ []

-- ---- parts of an output or an input
-- These depend on the grammar: which lists of tokens are whole texts.
module _ (IsWhole : List Lexeme → Type 0) where
  -- the tokens begin a text of the grammar
  abbrev pub Begins : List Lexeme → Type 0
  Begins ts = (more : List Lexeme) × IsWhole (ts ++ more)

  -- Token k begins the first expression too many of an output: before it stand as many as may be, parted
  -- by commas, and a comma, behind a `(`; and with a `)` and an `@` in the comma's place the tokens begin a
  -- text of the grammar. An `@` stands only behind the tuple of an output.
  pub record BeginsExtraExpr (ts : List Lexeme) (k : ℕ) : Type 0 where
    pub exists : k < length ts
    pub before : List Lexeme
    pub parts : List Lexeme
    pub exprs : List Expr
    pub listed : AreListed IsExpr parts exprs
    pub full : length exprs ≡ MOST_PARTS
    pub stands : take k ts ≡ before ++ l.Mark m.OpenRound ∷ parts ++ l.Mark m.Comma ∷ []
    pub output : Begins (before ++ l.Mark m.OpenRound ∷ parts ++ l.Mark m.CloseRound ∷ l.Mark m.At ∷ [])

  -- Token k begins the first variable too many of an input, likewise: of lists in brackets only the
  -- variables of an input are followed by a `.`.
  pub record BeginsExtraVariable (ts : List Lexeme) (k : ℕ) : Type 0 where
    pub exists : k < length ts
    pub before : List Lexeme
    pub parts : List Lexeme
    pub variables : List Name
    pub listed : AreListed IsVariable parts variables
    pub full : length variables ≡ MOST_PARTS
    pub stands : take k ts ≡ before ++ l.Mark m.OpenRound ∷ parts ++ l.Mark m.Comma ∷ []
    pub input : Begins (before ++ l.Mark m.OpenRound ∷ parts ++ l.Mark m.CloseRound ∷ l.Mark m.Dot ∷ [])
