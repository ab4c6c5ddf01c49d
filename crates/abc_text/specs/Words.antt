-- The keywords and the symbols, by the tables that say how each is spelled.
use Rattle.std.specs.Prelude.{ℕ, Bool, true, false, List, [], ◌∷◌, if◌then◌else◌, map, slice_get, Option, Some, None, is_some}
use Rattle.std.specs.Option.{option_map_or}
use Rattle.std.specs.Str.{bytes_eq}
use Rattle.abc_text.specs.declared.words.Keyword.{Keyword}
use Rattle.abc_text.specs.declared.words.Keyword.TheVariants as k
use Rattle.abc_text.specs.declared.words.Mark.{Mark}
use Rattle.abc_text.specs.declared.words.Mark.TheVariants as m
use Rattle.abc_text.specs.declared.words.TheConstants.{KEYWORDS, MARKS}

-- the rows of the tables: a keyword, or a symbol, and its spelling
abbrev pub keyword_rows : List (Keyword × List ℕ)
keyword_rows = map (λ row. (row.0, row.1.now)) KEYWORDS

abbrev pub mark_rows : List (Mark × List ℕ)
mark_rows = map (λ row. (row.0, row.1.now)) MARKS

-- ---- what is spelled so
-- what the first of these rows is of that has this spelling
abbrev pub spelled_in : {A : Type 0} → List (A × List ℕ) → List ℕ → Option A
spelled_in [] word = None
spelled_in (row ∷ rows) word = if bytes_eq row.1 word then Some row.0 else spelled_in rows word

unfoldable pub keyword_at : List ℕ → Option Keyword
keyword_at word = spelled_in keyword_rows word

unfoldable pub mark_at : List ℕ → Option Mark
mark_at symbol = spelled_in mark_rows symbol

abbrev pub is_keyword : List ℕ → Bool
is_keyword word = is_some (keyword_at word)

abbrev pub is_mark : List ℕ → Bool
is_mark symbol = is_some (mark_at symbol)

-- the keywords that are literals
abbrev pub is_literal : Keyword → Bool
is_literal k.False = true
is_literal k.None = true
is_literal k.True = true
is_literal _ = false

-- ) and }, with which an operand may end
abbrev pub closes_operand : Mark → Bool
closes_operand m.CloseRound = true
closes_operand m.CloseCurly = true
closes_operand _ = false

abbrev pub is_dash : Mark → Bool
is_dash m.Minus = true
is_dash _ = false

-- ---- how each is spelled
-- the spelling in a row
abbrev pub spelling_in : {A : Type 0} → List (A × List ℕ) → ℕ → List ℕ
spelling_in rows n = option_map_or (λ row. row.1) (slice_get rows n) []

abbrev pub keyword_text : Keyword → List ℕ
keyword_text k.Abc = spelling_in keyword_rows 0
keyword_text k.And = spelling_in keyword_rows 1
keyword_text k.Comp = spelling_in keyword_rows 2
keyword_text k.Def = spelling_in keyword_rows 3
keyword_text k.False = spelling_in keyword_rows 4
keyword_text k.Ff = spelling_in keyword_rows 5
keyword_text k.Free = spelling_in keyword_rows 6
keyword_text k.In = spelling_in keyword_rows 7
keyword_text k.None = spelling_in keyword_rows 8
keyword_text k.Not = spelling_in keyword_rows 9
keyword_text k.Or = spelling_in keyword_rows 10
keyword_text k.Run = spelling_in keyword_rows 11
keyword_text k.Set = spelling_in keyword_rows 12
keyword_text k.Show = spelling_in keyword_rows 13
keyword_text k.Size = spelling_in keyword_rows 14
keyword_text k.This = spelling_in keyword_rows 15
keyword_text k.True = spelling_in keyword_rows 16
keyword_text k.Tt = spelling_in keyword_rows 17
keyword_text k.Union = spelling_in keyword_rows 18
keyword_text k.When = spelling_in keyword_rows 19
keyword_text k.Without = spelling_in keyword_rows 20

abbrev pub mark_text : Mark → List ℕ
mark_text m.OpenRound = spelling_in mark_rows 0
mark_text m.CloseRound = spelling_in mark_rows 1
mark_text m.OpenCurly = spelling_in mark_rows 2
mark_text m.CloseCurly = spelling_in mark_rows 3
mark_text m.OpenSquare = spelling_in mark_rows 4
mark_text m.CloseSquare = spelling_in mark_rows 5
mark_text m.Semicolon = spelling_in mark_rows 6
mark_text m.Comma = spelling_in mark_rows 7
mark_text m.Dot = spelling_in mark_rows 8
mark_text m.At = spelling_in mark_rows 9
mark_text m.Question = spelling_in mark_rows 10
mark_text m.Plus = spelling_in mark_rows 11
mark_text m.Minus = spelling_in mark_rows 12
mark_text m.Star = spelling_in mark_rows 13
mark_text m.Bar = spelling_in mark_rows 14
mark_text m.Below = spelling_in mark_rows 15
mark_text m.Equal = spelling_in mark_rows 16
mark_text m.Becomes = spelling_in mark_rows 17
