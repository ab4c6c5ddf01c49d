-- The first limit of a program, found by going once over its tokens.
use Rattle.std.specs.Prelude.{ℕ, ◌+◌, ◌==◌, ◌&&◌, Bool, false, not, nat_le, List, [], ◌∷◌, length, Option, Some, None, if◌then◌else◌}
use Rattle.abc_cause.specs.declared.Cause.TheVariants.{TooDeep, TooLarge, LongTuple, LongSet}
use Rattle.abc_grammar.specs.declared.lexemes.Lexeme.{Lexeme}
use Rattle.abc_grammar.specs.declared.limits.TheConstants.{MOST_OPEN, MOST_TOKENS}
use Rattle.abc_grammar.specs.Limits.{opens, starts_item}
use Rattle.abc_limits.specs.declared.program.Limit.{Limit}
use Rattle.abc_limits.specs.declared.program.Limit.TheVariants.{Within, Passed, Stray}
use Rattle.abc_limits.specs.declared.program.Walk.{Walk}
use Rattle.abc_limits.specs.declared.scalars.Written.{Written}
use Rattle.abc_limits.specs.declared.scalars.Written.TheVariants.{Outside}
use Rattle.abc_limits.specs.Rooms.{Rooms, outside, rooms_behind, is_free, is_used_up, closes_round, is_set, ends_list}
use Rattle.abc_limits.specs.Written.{written_behind, is_full}

-- What the tokens before a token come to: the open brackets; whether the last token is `set`, and whether it closes
-- a `set(..)`; how many tokens the definition or the component has, from its first word on; the scalars of a set
-- literal.
pub record State : Type 0 where
  pub rooms : Rooms
  pub word : Bool
  pub list : Bool
  pub item : Option ℕ
  pub written : Written

abbrev pub state_of : Walk → State
state_of w = record {
  rooms = w.brackets;
  word = w.behind_word;
  list = w.behind_list;
  item = w.item;
  written = w.written;
}

abbrev pub start : State
start = record { rooms = outside; word = false; list = false; item = None; written = Outside }

-- ---- one token
abbrev pub counted_on : Option ℕ → Option ℕ
counted_on None = None
counted_on (Some n) = Some (n + 1)

abbrev pub item_behind : Option ℕ → Lexeme → Option ℕ
item_behind item t = if starts_item t then Some 1 else counted_on item

abbrev pub is_whole : Option ℕ → Bool
is_whole None = false
is_whole (Some n) = n == MOST_TOKENS

abbrev pub step : State → Lexeme → State
step s t = record {
  rooms = rooms_behind s.rooms s.word t;
  word = is_set t;
  list = closes_round t && is_free s.rooms;
  item = item_behind s.item t;
  written = written_behind s.written t;
}

-- what is found at token k
abbrev pub limit_at : State → Lexeme → ℕ → Option Limit
limit_at s t k =
    if opens t && nat_le MOST_OPEN (length s.rooms.around) then Some (Passed k TooDeep)
    else (if not (starts_item t) && is_whole s.item then Some (Passed k TooLarge)
    else (if is_used_up s.rooms.room then Some (Passed k LongTuple)
    else (if is_full s.written then Some (Passed k LongSet)
    else (if s.list && ends_list t then Some (Stray k) else None))))

-- ---- all of them
abbrev pub or_later : Option Limit → Limit → Limit
or_later None later = later
or_later (Some limit) later = limit

-- what is found first among these tokens, counted from k on
abbrev pub limit_from : State → ℕ → List Lexeme → Limit
limit_from s k [] = Within
limit_from s k (t ∷ ts) = or_later (limit_at s t k) (limit_from (step s t) (k + 1) ts)

unfoldable pub limit_of : List Lexeme → Limit
limit_of ts = limit_from start 0 ts
