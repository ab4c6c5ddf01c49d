-- How many scalars stand in a set literal before a token, found by going over the tokens.
use Rattle.std.specs.Prelude.{ℕ, ◌+◌, ◌==◌, Bool, true, false, pos, neg_ℤ, if◌then◌else◌}
use Rattle.abc_value.specs.Values.{fits_64}
use Rattle.abc_grammar.specs.declared.lexemes.Lexeme.{Lexeme}
use Rattle.abc_grammar.specs.declared.lexemes.Lexeme.TheVariants as l
use Rattle.abc_text.specs.declared.words.Mark.TheVariants as m
use Rattle.abc_text.specs.declared.words.Keyword.TheVariants as k
use Rattle.abc_grammar.specs.declared.limits.TheConstants.{MOST_WRITTEN}
use Rattle.abc_grammar.specs.Sizes.{opens_set}
use Rattle.abc_limits.specs.declared.scalars.Written.{Written}
use Rattle.abc_limits.specs.declared.scalars.Written.TheVariants.{Outside, Expects, Signed, Counted}

-- how many stand before the token
abbrev pub scalars_of : Written → ℕ
scalars_of Outside = 0
scalars_of (Expects n) = n
scalars_of (Signed n) = n
scalars_of (Counted n) = n

abbrev pub counted : ℕ → Bool → Written
counted n true = Counted (n + 1)
counted n false = Outside

abbrev pub scalar_begun : ℕ → Lexeme → Written
scalar_begun n (l.Number k) = counted n (fits_64 (pos k))
scalar_begun n (l.Mark m.Minus) = Signed n
scalar_begun n (l.Text bytes) = Counted (n + 1)
scalar_begun n (l.Keyword k.True) = Counted (n + 1)
scalar_begun n (l.Keyword k.False) = Counted (n + 1)
scalar_begun n t = Outside

abbrev pub scalar_signed : ℕ → Lexeme → Written
scalar_signed n (l.Number k) = counted n (fits_64 (neg_ℤ (pos k)))
scalar_signed n t = Outside

abbrev pub scalar_ended : ℕ → Lexeme → Written
scalar_ended n (l.Mark m.Comma) = Expects n
scalar_ended n t = Outside

abbrev pub written_on : Written → Lexeme → Written
written_on Outside t = Outside
written_on (Expects n) t = scalar_begun n t
written_on (Signed n) t = scalar_signed n t
written_on (Counted n) t = scalar_ended n t

abbrev pub written_behind : Written → Lexeme → Written
written_behind w t = if opens_set t then Expects 0 else written_on w t

-- the next token, if there is one, begins the first scalar too many
abbrev pub is_full : Written → Bool
is_full Outside = false
is_full (Expects n) = n == MOST_WRITTEN
is_full (Signed n) = false
is_full (Counted n) = false
