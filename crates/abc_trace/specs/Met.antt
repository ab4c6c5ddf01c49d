-- In which order the words of a trace are met in its text.
use Rattle.std.specs.Prelude.{◌≡◌, ℕ, List, [], ◌∷◌, ◌++◌, map, flat_map, filter_map, fold, Option, Some, None}
use Rattle.std.specs.Option.{option_map}
use Rattle.abc_pred.specs.Terms.{Pred}
use Rattle.abc_pred.specs.Standing.{pred_of}
use Rattle.abc_text.specs.Meanings.{with_word}
use Rattle.abc_grammar.specs.declared.lexemes.Lexeme.{Lexeme}
use Rattle.abc_grammar.specs.Lexemes.{name_of}
use Rattle.abc_printed.specs.Parts.{word_at, lexemes}
use Rattle.abc_printed.specs.Forms.{pred_parts}
use Rattle.abc_trace.specs.declared.trace.Said.{Said}
use Rattle.abc_trace.specs.declared.trace.Line.{Line}
use Rattle.abc_trace.specs.declared.trace.EnvLine.{EnvLine}
use Rattle.abc_trace.specs.declared.trace.Trace.{Trace}
use Rattle.abc_trace.specs.WellFormed.{words_of}

-- words that have numbers, once these have been met
abbrev pub with_words : List (List ℕ) → List (List ℕ) → List (List ℕ)
with_words known met = fold with_word known met

-- the word that a lexeme names
abbrev pub lexeme_word : List (List ℕ) → Lexeme → Option (List ℕ)
lexeme_word words x = option_map (word_at words) (name_of x)

-- the words of a predicate, in the order of its text
abbrev pub pred_words : List (List ℕ) → Pred → List (List ℕ)
pred_words words p = filter_map (lexeme_word words) (lexemes (pred_parts p))

abbrev pub said_words : List (List ℕ) → Option Said → List (List ℕ)
said_words words None = []
said_words words (Some s) = pred_words words (pred_of s.pred) ++ words_of words (λ h. h.0) s.heard

abbrev pub line_words : List (List ℕ) → Line → List (List ℕ)
line_words words l = word_at words l.sender ∷ said_words words l.said

abbrev pub final_words : List (List ℕ) → EnvLine → List (List ℕ)
final_words words f = word_at words f.component ∷ words_of words (λ e. e.0) f.entries

-- the words of a trace
abbrev pub trace_words : Trace → List (List ℕ)
trace_words t = flat_map (line_words t.names) t.lines ++ flat_map (final_words t.names) t.finals

-- The names are those of the text, and are numbered as their words are first met in it.
abbrev pub AreNumberedAsMet : Trace → Type 0
AreNumberedAsMet t = t.names ≡ with_words [] (trace_words t)
