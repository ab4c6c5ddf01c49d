-- The open brackets behind some tokens of a program, as far as the limit of parts needs them.
use Rattle.std.specs.Prelude.{ℕ, ◌-◌, ◌==◌, Bool, true, false, List, [], ◌∷◌, Option, Some, None, if◌then◌else◌}
use Rattle.abc_grammar.specs.declared.lexemes.Lexeme.{Lexeme}
use Rattle.abc_grammar.specs.declared.lexemes.Lexeme.TheVariants as l
use Rattle.abc_text.specs.declared.words.Mark.TheVariants as m
use Rattle.abc_text.specs.declared.words.Keyword.TheVariants as k
use Rattle.abc_grammar.specs.declared.limits.TheConstants.{MOST_PARTS}
use Rattle.abc_grammar.specs.Limits.{opens, closes}

-- ---- what a token is
abbrev pub is_comma : Lexeme → Bool
is_comma (l.Mark m.Comma) = true
is_comma t = false

abbrev pub closes_round : Lexeme → Bool
closes_round (l.Mark m.CloseRound) = true
closes_round t = false

abbrev pub is_set : Lexeme → Bool
is_set (l.Keyword k.Set) = true
is_set t = false

-- an `@` or a `.`, which stand behind no `set(..)`
abbrev pub ends_list : Lexeme → Bool
ends_list (l.Mark m.At) = true
ends_list (l.Mark m.Dot) = true
ends_list t = false

-- ---- open brackets
-- How many more commas may stand in the innermost open bracket, None where any number may; and the same in the
-- brackets around it, the innermost first, and last of the text outside all of them.
pub record Rooms : Type 0 where
  pub room : Option ℕ
  pub around : List (Option ℕ)

abbrev pub outside : Rooms
outside = record { room = None; around = [] }

-- in a bracket that a token opens; behind `set` any number
abbrev pub room_in : Lexeme → Bool → Option ℕ
room_in (l.Mark m.OpenRound) false = Some MOST_PARTS
room_in t word = None

abbrev pub entered : Option ℕ → Rooms → Rooms
entered room b = record { room = room; around = b.room ∷ b.around }

abbrev pub left_into : List (Option ℕ) → Rooms
left_into [] = outside
left_into (r ∷ rs) = record { room = r; around = rs }

abbrev pub less : Option ℕ → Option ℕ
less None = None
less (Some n) = Some (n - 1)

abbrev pub parted : Rooms → Rooms
parted b = record { room = less b.room; around = b.around }

-- behind a token, where `word` says that the token before it is `set`
abbrev pub rooms_behind : Rooms → Bool → Lexeme → Rooms
rooms_behind b word t =
    if opens t then entered (room_in t word) b
    else (if closes t then left_into b.around else (if is_comma t then parted b else b))

-- the innermost open bracket may hold any number of parts
abbrev pub is_free_in : Option ℕ → List (Option ℕ) → Bool
is_free_in None (r ∷ rs) = true
is_free_in room around = false

abbrev pub is_free : Rooms → Bool
is_free b = is_free_in b.room b.around

-- the next token begins a part too many
abbrev pub is_used_up : Option ℕ → Bool
is_used_up None = false
is_used_up (Some n) = n == 0
