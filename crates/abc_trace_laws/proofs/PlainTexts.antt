-- The text of a trace is that of its plain terms.
use Rattle.std.proofs.Common.{◌≡◌, ℕ, ◌+◌, List, [], ◌∷◌, ◌++◌, length, map, Option, Some, None, refl, sym, ap, ◌∙◌}
use Rattle.std.specs.Prelude.{flat_map}
use Rattle.std.specs.Option.{option_map}
use Rattle.std.proofs.lemmas.List.{length-map}
use Rattle.abc_pred.specs.declared.names.Name.{Name}
use Rattle.abc_trace.specs.declared.trace.Said.{Said}
use Rattle.abc_trace.specs.declared.trace.Line.{Line}
use Rattle.abc_trace.specs.declared.trace.Trace.{Trace}
use Rattle.abc_trace.specs.Lines.{head_text, said_text, empty_text, node_text, end_text}
use Rattle.abc_trace.specs.Texts.{numbered, line_by, line_text, final_text, limit_of, trace_text}
use Rattle.abc_trace_laws.specs.Plain.{PlainSaid, PlainTrace, plain_said, plain_line, plain_trace}

-- the texts of plain terms
abbrev plain_by : List (List ℕ) → ℕ → Name → Option PlainSaid → List ℕ
plain_by words n sender None = empty_text words n sender
plain_by words n sender (Some s) = said_text words n sender s.place s.values s.pred s.heard

abbrev plain_text : PlainTrace → List ℕ
plain_text p =
    head_text p.head
    ++ numbered (λ n l. plain_by p.names n l.sender l.said) 1 p.lines
    ++ flat_map (final_text p.names) p.finals
    ++ numbered node_text 0 p.handled
    ++ end_text (limit_of p.head) (length p.lines)

-- A line has the text of its plain terms,
line_plain :
    (words : List (List ℕ)) (n : ℕ) (sender : Name) (o : Option Said) →
    line_by words n sender o ≡ plain_by words n sender (option_map plain_said o)
line_plain words n sender None = refl
line_plain words n sender (Some s) = refl

lines_plain :
    (words : List (List ℕ)) (n : ℕ) (ls : List Line) →
    numbered (line_text words) n ls ≡ numbered (λ n l. plain_by words n l.sender l.said) n (map plain_line ls)
lines_plain words n [] = refl
lines_plain words n (l ∷ ls) = λ i. line_plain words n l.sender l.said i ++ lines_plain words (n + 1) ls i

-- and so has a trace.
trace_plain : (t : Trace) → trace_text t ≡ plain_text (plain_trace t)
trace_plain t =
    λ i. head_text t.head
    ++ lines_plain t.names 1 t.lines i
    ++ flat_map (final_text t.names) t.finals
    ++ numbered node_text 0 t.handled
    ++ end_text (limit_of t.head) (sym (length-map t.lines plain_line) i)

pub plain_fixes_text : (t u : Trace) → plain_trace t ≡ plain_trace u → trace_text t ≡ trace_text u
plain_fixes_text t u e = trace_plain t ∙ ap plain_text e ∙ sym (trace_plain u)
