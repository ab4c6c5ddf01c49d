-- The trace text of a run, told by its rows.
use Rattle.std.specs.Prelude.{ℕ, List, [], ◌∷◌, ◌++◌, length, map, slice_get, Option, Some, None}
use Rattle.std.specs.Option.{option_map_or}
use Rattle.abc_pred.specs.declared.names.Name.{Name}
use Rattle.abc_pred.specs.Maps.{Entries}
use Rattle.abc_term.specs.Processes.{System}
use Rattle.abc_term.specs.Speaking.{Label}
use Rattle.abc_term.specs.declared.terms.Component.{Component}
use Rattle.abc_term.specs.declared.terms.Program.{Program}
use Rattle.abc_steps.specs.Rows.{Row}
use Rattle.abc_trace.specs.declared.trace.Head.{Head}
use Rattle.abc_trace.specs.Lines.{head_text, said_text, empty_text, env_text, node_text, end_text}
use Rattle.abc_trace.specs.Texts.{numbered, limit_of}

-- the name of a component
abbrev pub name_at : Program → ℕ → Name
name_at p i = option_map_or (λ C. C.name) (slice_get p.components i) (record { 0 = 0 })

-- those that heard, by their names
abbrev pub hearers : Program → List (ℕ × ℕ) → List (Name × ℕ)
hearers p heard = map (λ h. (name_at p h.0, h.1)) heard

-- the line of a step: its sender, place, values and closed predicate, and those that heard; or of
-- an empty step
abbrev pub step_text : Program → ℕ → ℕ → Option (ℕ × Label) → List (ℕ × ℕ) → List ℕ
step_text p n sender None heard = empty_text p.names n (name_at p sender)
step_text p n sender (Some s) heard =
    said_text p.names n (name_at p sender) s.0 s.1.values s.1.pred (hearers p heard)

abbrev pub row_text : Program → ℕ → Row → List ℕ
row_text p n r = step_text p n r.sender r.spoke r.heard

-- the lines of the components' environments
abbrev pub envs_text : List (List ℕ) → List Component → List Entries → List ℕ
envs_text words (C ∷ Cs) (env ∷ envs) = env_text words C.name env ++ envs_text words Cs envs
envs_text words _ _ = []

-- The text for a head, the rows of a run, the environments of its last system, and how many packets
-- each node handled.
abbrev pub run_text : Program → Head → List Row → List Entries → List ℕ → List ℕ
run_text p head rows envs handled =
    head_text head
    ++ numbered (row_text p) 1 rows
    ++ envs_text p.names p.components envs
    ++ numbered node_text 0 handled
    ++ end_text (limit_of head) (length rows)

abbrev pub text_of : Program → Head → List Row → System → List ℕ → List ℕ
text_of p head rows T handled = run_text p head rows (map (λ C. C.env) T) handled
