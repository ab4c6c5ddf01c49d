-- A trace with its names numbered anew, as their words are first met in its text.
use Rattle.std.specs.Prelude.{ℕ, List, [], map}
use Rattle.std.specs.Option.{option_map}
use Rattle.abc_pred.specs.declared.names.Name.{Name}
use Rattle.abc_grammar.specs.Lexemes.{name_in}
use Rattle.abc_printed.specs.Parts.{word_at}
use Rattle.abc_trace.specs.declared.trace.EnvLine.{EnvLine}
use Rattle.abc_trace.specs.declared.trace.Trace.{Trace}
use Rattle.abc_trace.specs.Met.{with_words, trace_words}
use Rattle.abc_trace_preds.specs.Renaming.{renamed}
use Rattle.abc_trace_laws.specs.Plain.{PlainSaid, PlainLine, PlainTrace, plain_trace}

-- ---- names by new numbers
-- names with what stands at them
abbrev pub renamed_items : {B : Type 0} → (Name → Name) → List (Name × B) → List (Name × B)
renamed_items r items = map (λ e. (r e.0, e.1)) items

abbrev pub renamed_said : (Name → Name) → PlainSaid → PlainSaid
renamed_said r s = record {
  place = s.place;
  values = s.values;
  pred = renamed r s.pred;
  heard = renamed_items r s.heard;
}

abbrev pub renamed_line : (Name → Name) → PlainLine → PlainLine
renamed_line r l = record { sender = r l.sender; said = option_map (renamed_said r) l.said }

abbrev pub renamed_final : (Name → Name) → EnvLine → EnvLine
renamed_final r f = record { component = r f.component; entries = renamed_items r f.entries }

-- ---- as met
-- the words that stand in a trace's text, in the order in which they are first met
abbrev pub words_as_met : Trace → List (List ℕ)
words_as_met t = with_words [] (trace_words t)

-- The new number of a name is that of its word among these.
abbrev pub new_name : Trace → Name → Name
new_name t n = name_in (words_as_met t) (word_at t.names n)

abbrev pub renumbered : Trace → PlainTrace
renumbered t = record {
  names = words_as_met t;
  head = t.head;
  lines = map (renamed_line (new_name t)) (plain_trace t).lines;
  finals = map (renamed_final (new_name t)) t.finals;
  handled = t.handled;
}
