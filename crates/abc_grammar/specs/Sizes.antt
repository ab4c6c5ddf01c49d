-- The size of a predicate that stands alone: its tokens, a literal counting as one, at its first token.
use Rattle.std.specs.Prelude.{ℕ, ◌+◌, Bool, true, false, not, List, [], ◌∷◌, if◌then◌else◌}
use Rattle.abc_grammar.specs.declared.lexemes.Lexeme.{Lexeme}
use Rattle.abc_grammar.specs.declared.lexemes.Lexeme.TheVariants as l
use Rattle.abc_text.specs.declared.words.Mark.TheVariants as m
use Rattle.abc_text.specs.declared.words.Keyword.TheVariants as k

-- a token that may end an operand, behind which a `-` is no sign
abbrev pub ends_operand : Lexeme → Bool
ends_operand (l.Name n) = true
ends_operand (l.Variable n) = true
ends_operand (l.Number n) = true
ends_operand (l.Text bytes) = true
ends_operand (l.Keyword k.True) = true
ends_operand (l.Keyword k.False) = true
ends_operand (l.Keyword k.None) = true
ends_operand (l.Mark m.CloseRound) = true
ends_operand (l.Mark m.CloseCurly) = true
ends_operand _ = false

abbrev pub is_minus : Lexeme → Bool
is_minus (l.Mark m.Minus) = true
is_minus _ = false

abbrev pub is_number : Lexeme → Bool
is_number (l.Number n) = true
is_number _ = false

-- in a predicate only a set literal has these
abbrev pub opens_set : Lexeme → Bool
opens_set (l.Mark m.OpenCurly) = true
opens_set _ = false

abbrev pub closes_set : Lexeme → Bool
closes_set (l.Mark m.CloseCurly) = true
closes_set _ = false

-- Where a token stands: where a `-` is a sign, behind a token that may end an operand, behind a sign, or in a
-- set literal.
pub data Spot : Type 0 where
  Free : Spot
  Behind : Spot
  Signed : Spot
  Within : Spot

-- the spot behind a token; a `-` leads to the first argument
abbrev pub spot_by : Spot → Lexeme → Spot
spot_by behind_minus t =
    if opens_set t then Within else (if is_minus t then behind_minus else (if ends_operand t then Behind else Free))

abbrev pub spot_behind : Spot → Lexeme → Spot
spot_behind Free t = spot_by Signed t
spot_behind Behind t = spot_by Free t
spot_behind Signed t = spot_by Signed t
spot_behind Within t = if closes_set t then Behind else Within

-- whether a token at a spot is not a later token of a literal
abbrev pub counts : Spot → Lexeme → Bool
counts Free t = true
counts Behind t = true
counts Signed t = not (is_number t)
counts Within t = false

abbrev pub size_from : Spot → List Lexeme → ℕ
size_from spot [] = 0
size_from spot (t ∷ ts) = (if counts spot t then 1 else 0) + size_from (spot_behind spot t) ts

-- the size of tokens
abbrev pub size_of : List Lexeme → ℕ
size_of ts = size_from Free ts
