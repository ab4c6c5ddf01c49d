-- A trace as lines in words, and the text of lines.
use Rattle.std.specs.Prelude.{ℕ, ◌+◌, ◌==◌, List, [], ◌∷◌, ◌++◌, length, map, flat_map, Option, Some, None}
use Rattle.abc_pred.specs.declared.names.Name.{Name}
use Rattle.abc_pred.specs.Standing.{pred_of}
use Rattle.abc_printed.specs.Parts.{word_at}
use Rattle.abc_printed.specs.Printed.{pred_text}
use Rattle.abc_trace.specs.declared.trace.Said.{Said}
use Rattle.abc_trace.specs.declared.trace.Line.{Line}
use Rattle.abc_trace.specs.declared.trace.EnvLine.{EnvLine}
use Rattle.abc_trace.specs.declared.trace.Trace.{Trace}
use Rattle.abc_trace.specs.Lines.{ended}
use Rattle.abc_trace.specs.Texts.{limit_of}
use Rattle.abc_trace_lines.specs.Plain.{First, Number, Env, Node, Last, line_text}
use Rattle.abc_trace_lines.specs.Plain as plain

-- the text of lines, each with its end
abbrev pub lines_text : List plain.Line → List ℕ
lines_text ls = flat_map (λ x. ended (line_text x)) ls

-- names with what stands at them, in words
abbrev pub worded : {B : Type 0} → List (List ℕ) → List (Name × B) → List (List ℕ × B)
worded words items = map (λ e. (word_at words e.0, e.1)) items

-- ---- the line of a number
abbrev pub said_of : List (List ℕ) → Said → plain.Said
said_of words s = record {
  place = s.place;
  values = s.values;
  pred = pred_text words (pred_of s.pred);
  heard = worded words s.heard;
}

abbrev pub tail_of : List (List ℕ) → Option Said → Option plain.Said
tail_of words None = None
tail_of words (Some s) = Some (said_of words s)

abbrev pub number_line : List (List ℕ) → ℕ → Line → plain.Line
number_line words n l = Number n (word_at words l.sender) (tail_of words l.said)

-- those of the numbers from n on
abbrev pub number_lines : List (List ℕ) → ℕ → List Line → List plain.Line
number_lines words n [] = []
number_lines words n (l ∷ ls) = number_line words n l ∷ number_lines words (n + 1) ls

-- ---- the other lines
abbrev pub env_line : List (List ℕ) → EnvLine → plain.Line
env_line words f = Env (word_at words f.component) (worded words f.entries)

-- those of the nodes from n on
abbrev pub node_lines : ℕ → List ℕ → List plain.Line
node_lines n [] = []
node_lines n (h ∷ handled) = Node n h ∷ node_lines (n + 1) handled

abbrev pub last_line : Trace → plain.Line
last_line t = Last (length t.lines == limit_of t.head) (length t.lines)

-- ---- a trace
-- all lines but the last
abbrev pub front_lines : Trace → List plain.Line
front_lines t =
    First t.head ∷ number_lines t.names 1 t.lines ++ map (env_line t.names) t.finals
    ++ node_lines 0 t.handled

abbrev pub trace_lines : Trace → List plain.Line
trace_lines t = front_lines t ++ last_line t ∷ []

abbrev pub front_text : Trace → List ℕ
front_text t = lines_text (front_lines t)
