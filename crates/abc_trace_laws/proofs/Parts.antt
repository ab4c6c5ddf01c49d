-- The lines of a trace in words, taken apart by their kinds.
use Rattle.std.proofs.Common.{◌≡◌, ℕ, ◌+◌, List, [], ◌∷◌, ◌++◌, map, Option, refl, ap, ◌∙◌, append_assoc, append-nil}
use Rattle.abc_value.specs.declared.value.Value.{Value}
use Rattle.abc_printed.specs.Parts.{word_at}
use Rattle.abc_trace.specs.declared.trace.Head.{Head}
use Rattle.abc_trace.specs.declared.trace.Line.{Line}
use Rattle.abc_trace.specs.declared.trace.EnvLine.{EnvLine}
use Rattle.abc_trace.specs.declared.trace.Trace.{Trace}
use Rattle.abc_trace_lines.specs.Plain as plain
use Rattle.abc_trace_order.specs.Lines.{worded, tail_of, number_lines, env_line, node_lines, last_line, trace_lines}

-- the line of a number, and that of an environment, in words
abbrev pub worded_line : List (List ℕ) → Line → List ℕ × Option plain.Said
worded_line words l = (word_at words l.sender, tail_of words l.said)

abbrev pub worded_final : List (List ℕ) → EnvLine → List ℕ × List (List ℕ × Value)
worded_final words f = (word_at words f.component, worded words f.entries)

-- what lines say, kind by kind
pub record Parts : Type 0 where
  pub heads : List Head
  pub lines : List (List ℕ × Option plain.Said)
  pub finals : List (List ℕ × List (List ℕ × Value))
  pub handled : List ℕ

-- one line more
abbrev put : plain.Line → Parts → Parts
put (plain.First head) p = record { heads = head ∷ p.heads; lines = p.lines; finals = p.finals; handled = p.handled }
put (plain.Number n sender said) p =
    record { heads = p.heads; lines = (sender, said) ∷ p.lines; finals = p.finals; handled = p.handled }
put (plain.Env component entries) p =
    record { heads = p.heads; lines = p.lines; finals = (component, entries) ∷ p.finals; handled = p.handled }
put (plain.Node node n) p = record { heads = p.heads; lines = p.lines; finals = p.finals; handled = n ∷ p.handled }
put (plain.Last limited count) p = p

abbrev pub parts : List plain.Line → Parts
parts [] = record { heads = []; lines = []; finals = []; handled = [] }
parts (x ∷ ls) = put x (parts ls)

-- lines of numbers before others
lines_first :
    (words : List (List ℕ)) (n : ℕ) (ls : List Line) (rest : List plain.Line) →
    parts (number_lines words n ls ++ rest)
    ≡ record {
      heads = (parts rest).heads;
      lines = map (worded_line words) ls ++ (parts rest).lines;
      finals = (parts rest).finals;
      handled = (parts rest).handled;
    }
lines_first words n [] rest = refl
lines_first words n (l ∷ ls) rest =
    ap (put (plain.Number n (word_at words l.sender) (tail_of words l.said))) (lines_first words (n + 1) ls rest)

-- those of environments
finals_first :
    (words : List (List ℕ)) (fs : List EnvLine) (rest : List plain.Line) →
    parts (map (env_line words) fs ++ rest)
    ≡ record {
      heads = (parts rest).heads;
      lines = (parts rest).lines;
      finals = map (worded_final words) fs ++ (parts rest).finals;
      handled = (parts rest).handled;
    }
finals_first words [] rest = refl
finals_first words (f ∷ fs) rest = ap (put (env_line words f)) (finals_first words fs rest)

-- those of nodes
handled_first :
    (n : ℕ) (handled : List ℕ) (rest : List plain.Line) →
    parts (node_lines n handled ++ rest)
    ≡ record {
      heads = (parts rest).heads;
      lines = (parts rest).lines;
      finals = (parts rest).finals;
      handled = handled ++ (parts rest).handled;
    }
handled_first n [] rest = refl
handled_first n (h ∷ handled) rest = ap (put (plain.Node n h)) (handled_first (n + 1) handled rest)

-- what a trace says, in words
abbrev pub parts_of : Trace → Parts
parts_of t = record {
  heads = t.head ∷ [];
  lines = map (worded_line t.names) t.lines;
  finals = map (worded_final t.names) t.finals;
  handled = t.handled;
}

-- Its lines say that.
pub parts_are : (t : Trace) → parts (trace_lines t) ≡ parts_of t
parts_are t =
    let numbers = number_lines t.names 1 t.lines in
    let envs = map (env_line t.names) t.finals in
    let nodes = node_lines 0 t.handled in
    let last = last_line t ∷ [] in
    let apart : (numbers ++ envs ++ nodes) ++ last ≡ numbers ++ (envs ++ (nodes ++ last)) =
    append_assoc (numbers ++ envs) nodes last ∙ append_assoc numbers envs (nodes ++ last) in
    ap (λ (ls : List plain.Line). parts (plain.First t.head ∷ ls)) apart
    ∙ ap (put (plain.First t.head))
    (lines_first t.names 1 t.lines (envs ++ (nodes ++ last))
    ∙ (λ i. record {
      heads = (finals_first t.names t.finals (nodes ++ last) i).heads;
      lines = map (worded_line t.names) t.lines ++ (finals_first t.names t.finals (nodes ++ last) i).lines;
      finals = (finals_first t.names t.finals (nodes ++ last) i).finals;
      handled = (finals_first t.names t.finals (nodes ++ last) i).handled;
    })
    ∙ (λ i. record {
      heads = (handled_first 0 t.handled last i).heads;
      lines = map (worded_line t.names) t.lines ++ (handled_first 0 t.handled last i).lines;
      finals = map (worded_final t.names) t.finals ++ (handled_first 0 t.handled last i).finals;
      handled = (handled_first 0 t.handled last i).handled;
    })
    ∙ (λ i. record {
      heads = [];
      lines = append-nil (map (worded_line t.names) t.lines) i;
      finals = append-nil (map (worded_final t.names) t.finals) i;
      handled = append-nil t.handled i;
    }))
