-- The text of a trace.
use Rattle.std.specs.Prelude.{ℕ, ◌+◌, List, [], ◌∷◌, ◌++◌, length, flat_map, Option, Some, None}
use Rattle.abc_pred.specs.declared.names.Name.{Name}
use Rattle.abc_pred.specs.Standing.{pred_of}
use Rattle.abc_trace.specs.declared.trace.Head.{Head}
use Rattle.abc_trace.specs.declared.trace.Head.TheVariants.{Solo, Net}
use Rattle.abc_trace.specs.declared.trace.Said.{Said}
use Rattle.abc_trace.specs.declared.trace.Line.{Line}
use Rattle.abc_trace.specs.declared.trace.EnvLine.{EnvLine}
use Rattle.abc_trace.specs.declared.trace.Trace.{Trace}
use Rattle.abc_trace.specs.Lines.{head_text, behind_sender, said_text, empty_text, env_text, node_text, end_text}

-- items by their numbers, of which the first is n
abbrev pub numbered : {A : Type 0} → (ℕ → A → List ℕ) → ℕ → List A → List ℕ
numbered print n [] = []
numbered print n (a ∷ items) = print n a ++ numbered print (n + 1) items

-- what a line has behind its sender
abbrev pub said_tail : List (List ℕ) → Said → List ℕ
said_tail words said = behind_sender words said.place said.values (pred_of said.pred) said.heard

abbrev pub line_by : List (List ℕ) → ℕ → Name → Option Said → List ℕ
line_by words n sender None = empty_text words n sender
line_by words n sender (Some said) =
    said_text words n sender said.place said.values (pred_of said.pred) said.heard

abbrev pub line_text : List (List ℕ) → ℕ → Line → List ℕ
line_text words n line = line_by words n line.sender line.said

abbrev pub final_text : List (List ℕ) → EnvLine → List ℕ
final_text words final = env_text words final.component final.entries

abbrev pub limit_of : Head → ℕ
limit_of (Solo limit pick) = limit
limit_of (Net shape limit nodes pick) = limit

-- the first line, a line for each number from 1 on, for each component and for each node from 0 on,
-- and the last line
abbrev pub trace_text : Trace → List ℕ
trace_text t =
    head_text t.head
    ++ numbered (line_text t.names) 1 t.lines
    ++ flat_map (final_text t.names) t.finals
    ++ numbered node_text 0 t.handled
    ++ end_text (limit_of t.head) (length t.lines)
