-- The text of a trace that is made of a run is the text of the run.
use Rattle.std.proofs.Common.{◌≡◌, ◌∙◌, ℕ, ◌+◌, List, [], ◌∷◌, ◌++◌, length, map, refl, ap, sym}
use Rattle.std.specs.Prelude.{flat_map, Option, Some, None}
use Rattle.std.proofs.lemmas.List.{length-map}
use Rattle.abc_value.specs.declared.value.Value.{Value}
use Rattle.abc_pred.specs.declared.names.Name.{Name}
use Rattle.abc_pred.specs.Terms.{Pred}
use Rattle.abc_pred.specs.Maps.{Entries}
use Rattle.abc_pred.specs.Standing.{pred_of}
use Rattle.abc_term.specs.Speaking.{Label}
use Rattle.abc_term.specs.declared.terms.Component.{Component}
use Rattle.abc_term.specs.declared.terms.Program.{Program}
use Rattle.abc_system.specs.declared.row.StepRow.{StepRow}
use Rattle.abc_system.specs.Systems.{row_of, said_of}
use Rattle.abc_trace.specs.declared.trace.Head.{Head}
use Rattle.abc_trace.specs.declared.trace.Said.{Said}
use Rattle.abc_trace.specs.declared.trace.Line.{Line}
use Rattle.abc_trace.specs.declared.trace.EnvLine.{EnvLine}
use Rattle.abc_trace.specs.declared.trace.Trace.{Trace}
use Rattle.abc_trace.specs.Lines.{head_text, said_text, empty_text, env_text, node_text, end_text}
use Rattle.abc_trace.specs.Texts.{numbered, line_by, line_text, final_text, limit_of, trace_text}
use Rattle.abc_run_text.specs.TextOf.{name_at, hearers, step_text, row_text, envs_text, run_text}
use Rattle.abc_run_trace.specs.Telling.{TellsTail, TellEach, finals_of}
use Rattle.abc_run_trace.proofs.Made.{tell_many, IsMadeOf}

module _ (p : Program) where
  -- the text of a line is that of the step that it tells
  line_is :
      (n sender : ℕ) (spoke : Option (ℕ × Label)) (heard : List (ℕ × ℕ)) (name : Name)
      (tail : Option Said) → name ≡ name_at p sender → TellsTail p spoke heard tail →
      line_by p.names n name tail ≡ step_text p n sender spoke heard
  line_is n sender None heard name None e t = ap (λ (m : Name). empty_text p.names n m) e
  line_is n sender None heard name (Some x) e t = absurd t
  line_is n sender (Some s) heard name None e t = absurd t
  line_is n sender (Some s) heard name (Some x) e t =
      let who = name_at p sender in
      let vs = s.1.values in
      ap (λ (m : Name). said_text p.names n m x.place x.values (pred_of x.pred) x.heard) e
      ∙ ap (λ (k : ℕ). said_text p.names n who k x.values (pred_of x.pred) x.heard) t.place
      ∙ ap (λ (us : List Value). said_text p.names n who s.0 us (pred_of x.pred) x.heard) t.values
      ∙ ap (λ (q : Pred). said_text p.names n who s.0 vs q x.heard) t.pred
      ∙ ap (λ (hs : List (Name × ℕ)). said_text p.names n who s.0 vs s.1.pred hs) t.heard

  lines_are : (n : ℕ) (rows : List StepRow) (lines : List Line) → TellEach p rows lines →
      numbered (line_text p.names) n lines ≡ numbered (row_text p) n (map row_of rows)
  lines_are n [] [] h = refl
  lines_are n [] (l ∷ lines) h = absurd h
  lines_are n (r ∷ rows) [] h = absurd h
  lines_are n (r ∷ rows) (l ∷ lines) h =
      ap (λ (text : List ℕ). text ++ numbered (line_text p.names) (n + 1) lines)
      (line_is n r.sender (said_of r.spoke) r.heard l.sender l.said h.0.sender h.0.said)
      ∙ ap (λ (text : List ℕ). row_text p n (row_of r) ++ text)
      (lines_are (n + 1) rows lines h.1)

finals_are : (words : List (List ℕ)) (Cs : List Component) (envs : List Entries) →
    flat_map (final_text words) (finals_of Cs envs) ≡ envs_text words Cs envs
finals_are words [] envs = refl
finals_are words (C ∷ Cs) [] = refl
finals_are words (C ∷ Cs) (env ∷ envs) =
    ap (λ (text : List ℕ). env_text words C.name env ++ text) (finals_are words Cs envs)

-- the text of the parts of a trace
abbrev text_by : List (List ℕ) → Head → List Line → List EnvLine → List ℕ → List ℕ
text_by words head lines finals handled =
    head_text head ++ numbered (line_text words) 1 lines ++ flat_map (final_text words) finals
    ++ numbered node_text 0 handled ++ end_text (limit_of head) (length lines)

abbrev ended_by : Head → List ℕ → List ℕ → List ℕ → ℕ → List ℕ
ended_by head lines finals nodes count =
    head_text head ++ lines ++ finals ++ nodes ++ end_text (limit_of head) count

pub text_is :
    (p : Program) (head : Head) (rows : List StepRow) (envs : List Entries) (handled : List ℕ)
    (t : Trace) → IsMadeOf p head rows envs handled t →
    trace_text t ≡ run_text p head (map row_of rows) envs handled
text_is p head rows envs handled t m =
    let nodes = numbered node_text 0 handled in
    let steps = numbered (row_text p) 1 (map row_of rows) in
    let finals = finals_of p.components envs in
    let ends = flat_map (final_text p.names) finals in
    let count : length t.lines ≡ length (map row_of rows) =
    sym (tell_many p rows t.lines m.lines) ∙ sym (length-map rows row_of) in
    ap (λ (words : List (List ℕ)). text_by words t.head t.lines t.finals t.handled) m.names
    ∙ ap (λ (h : Head). text_by p.names h t.lines t.finals t.handled) m.head
    ∙ ap (λ (fs : List EnvLine). text_by p.names head t.lines fs t.handled) m.finals
    ∙ ap (λ (hs : List ℕ). text_by p.names head t.lines finals hs) m.handled
    ∙ ap (λ (text : List ℕ). ended_by head text ends nodes (length t.lines))
    (lines_are p 1 rows t.lines m.lines)
    ∙ ap (λ (text : List ℕ). ended_by head steps text nodes (length t.lines))
    (finals_are p.names p.components envs)
    ∙ ap (λ (n : ℕ). ended_by head steps (envs_text p.names p.components envs) nodes n) count
