-- How many commas stand in each open bracket of a text, as far as the limits of tuples need it.
use Rattle.std.specs.Prelude.{◌≡◌, ◌⊎◌, ◌<◌, length, take, ℕ, suc, Bool, true, false, ◌&&◌, List, [], ◌∷◌, Option, Some, None, nat_le, if◌then◌else◌}
use Rattle.abc_grammar.specs.declared.lexemes.Lexeme.{Lexeme}
use Rattle.abc_grammar.specs.declared.lexemes.Lexeme.TheVariants as l
use Rattle.abc_text.specs.declared.words.Mark.TheVariants as m
use Rattle.abc_text.specs.declared.words.Keyword.TheVariants as k
use Rattle.abc_grammar.specs.declared.limits.TheConstants.{MOST_PARTS}
use Rattle.abc_grammar.specs.Limits.{Begins, BeginsExtraExpr, BeginsExtraVariable}
use Rattle.abc_grammar.specs.Refusals.{IsSomeProgram}

-- An open bracket: whether it may hold any number of items (it is no round one, or a `set` stands before it), and its commas.
abbrev pub Bracket : Type 0
Bracket = Bool × ℕ

-- Whether the token before is `set`; whether it is the bracket that closes a `set(..)`; and the open brackets, the innermost first.
abbrev pub Standing : Type 0
Standing = Bool × (Bool × List Bracket)

-- as many commas as parts may be: the next token begins a part too many
abbrev pub is_crowded : List Bracket → Bool
is_crowded [] = false
is_crowded ((true, n) ∷ bs) = false
is_crowded ((false, n) ∷ bs) = nat_le MOST_PARTS n

abbrev pub one_more : List Bracket → List Bracket
one_more [] = []
one_more ((any, n) ∷ bs) = (any, suc n) ∷ bs

abbrev pub closed_round : List Bracket → Standing
closed_round [] = (false, (false, []))
closed_round ((any, n) ∷ bs) = (false, (any, bs))

abbrev pub closed_other : List Bracket → List Bracket
closed_other [] = []
closed_other (b ∷ bs) = bs

-- an `@` or a `.` stands behind no `set(..)`
abbrev pub behind_set : Bool → List Bracket → Option Standing
behind_set true bs = None
behind_set false bs = Some (false, (false, bs))

abbrev pub moved : Lexeme → Bool → Bool → List Bracket → Option Standing
moved (l.Mark m.OpenRound) word set bs = Some (false, (false, (word, 0) ∷ bs))
moved (l.Mark m.OpenSquare) word set bs = Some (false, (false, (true, 0) ∷ bs))
moved (l.Mark m.OpenCurly) word set bs = Some (false, (false, (true, 0) ∷ bs))
moved (l.Mark m.CloseRound) word set bs = Some (closed_round bs)
moved (l.Mark m.CloseSquare) word set bs = Some (false, (false, closed_other bs))
moved (l.Mark m.CloseCurly) word set bs = Some (false, (false, closed_other bs))
moved (l.Mark m.Comma) word set bs = Some (false, (false, one_more bs))
moved (l.Mark m.At) word set bs = behind_set set bs
moved (l.Mark m.Dot) word set bs = behind_set set bs
moved (l.Keyword k.Set) word set bs = Some (true, (false, bs))
moved t word set bs = Some (false, (false, bs))

-- Where `limited`, no token follows in a crowded bracket.
module _ (limited : Bool) where
  abbrev pub step : Standing → Lexeme → Option Standing
  step (word, (set, bs)) t = if limited && is_crowded bs then None else moved t word set bs

  abbrev pub walk : Option Standing → List Lexeme → Option Standing
  walk None ts = None
  walk (Some s) [] = Some s
  walk (Some s) (t ∷ ts) = walk (step s t) ts

-- no bracket is open
abbrev pub at_start : Standing
at_start = (false, (false, []))

abbrev pub IsCrowd : Option Standing → Type 0
IsCrowd None = ⊥
IsCrowd (Some (word, (set, bs))) = is_crowded bs ≡ true

-- Token k stands in a crowded bracket, and no token before it does.
pub record IsFirstCrowded (ts : List Lexeme) (k : ℕ) : Type 0 where
  pub exists : k < length ts
  pub crowd : IsCrowd (walk true (Some at_start) (take k ts))

-- none of the first n tokens does
abbrev pub IsUncrowded : List Lexeme → ℕ → Type 0
IsUncrowded ts n = (s : Standing) × (walk true (Some at_start) (take n ts) ≡ Some s)

-- token k begins an expression or a variable too many
abbrev pub BeginsExtraPart : List Lexeme → ℕ → Type 0
BeginsExtraPart ts k = BeginsExtraExpr IsSomeProgram ts k ⊎ BeginsExtraVariable IsSomeProgram ts k

-- A part too many stands where a bracket is crowded: none does among tokens of which none stands in a crowded bracket; and where the tokens
-- before begin a text, the first one that stands in a crowded bracket begins a part too many.
pub record ExtraPartsAreCrowded : Type 0 where
  pub none : (ts : List Lexeme) (n : ℕ) → IsUncrowded ts n → (k : ℕ) → k < n → ¬ BeginsExtraPart ts k
  pub first : (ts : List Lexeme) (k : ℕ) → IsFirstCrowded ts k → Begins IsSomeProgram (take k ts) → BeginsExtraPart ts k

-- Tokens that begin a text are walked to their end, crowded brackets aside: no `@` and no `.` stands behind a `set(..)`.
abbrev pub BeginningsAreWalked : Type 0
BeginningsAreWalked = (ts : List Lexeme) → Begins IsSomeProgram ts → (s : Standing) × (walk false (Some at_start) ts ≡ Some s)
