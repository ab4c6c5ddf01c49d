-- What the rows of a traceable program's run say, and what the environments that it ends with hold.
use Rattle.std.specs.Prelude.{◌≡◌, ◌≤◌, ◌<◌, ℕ, List, length, All, Option, Some, None}
use Rattle.abc_value.specs.Literals.{IsValue}
use Rattle.abc_pred.specs.Maps.{IsMap}
use Rattle.abc_term.specs.Processes as term
use Rattle.abc_term.specs.Speaking.{Label}
use Rattle.abc_term.specs.Standing.{definitions_of, system_of}
use Rattle.abc_term.specs.Systems.{AreHearers}
use Rattle.abc_term.specs.declared.terms.Program.{Program}
use Rattle.abc_text.specs.Meanings.{AreDifferent}
use Rattle.abc_grammar.specs.declared.limits.TheConstants.{MOST_PARTS}
use Rattle.abc_steps.specs.Rows.{Row, TellRun}
use Rattle.abc_trace.specs.declared.limits.TheConstants.{MOST_PLACE}
use Rattle.abc_trace.specs.WellFormed.{IsNamed, words_of, IsSent, IsEntry}
use Rattle.abc_traceable.specs.Traceable.{IsTraceable}

-- What is said at a place: at most eight values, and a predicate that can be printed and read back.
pub record IsToldAt (p : Program) (place : ℕ) (l : Label) : Type 0 where
  pub small : place ≤ MOST_PLACE
  pub few : length l.values ≤ MOST_PARTS
  pub values : All IsValue l.values
  pub pred : IsSent p.names l.pred

abbrev pub SaidIsTold : Program → Option (ℕ × Label) → Type 0
SaidIsTold p None = Unit {0}
SaidIsTold p (Some s) = IsToldAt p s.0 s.1

-- The sender is a component, and so are the hearers, which stand in the program's order.
pub record RowIsTold (p : Program) (r : Row) : Type 0 where
  pub sender : r.sender < length p.components
  pub said : SaidIsTold p r.spoke
  pub hearers : AreHearers r.sender (length p.components) 0 r.heard
  pub places : All (λ h. h.1 ≤ MOST_PLACE) r.heard

-- A component at the end: each attribute has a word and a value, none twice.
pub record EndIsTold (p : Program) (C : term.Component) : Type 0 where
  pub entries : All (IsEntry p.names) C.env
  pub map : IsMap C.env

pub record IsTold (p : Program) (rows : List Row) (last : term.System) : Type 0 where
  pub each : All (RowIsTold p) rows
  pub ends : All (EndIsTold p) last
  pub count : length last ≡ length p.components

abbrev pub RunsAreTold : Type 0
RunsAreTold =
    (p : Program) (rows : List Row) (last : term.System) → IsTraceable p →
    TellRun (definitions_of p.definitions) (system_of p) rows last → IsTold p rows last

-- The components have names, all different.
pub record ComponentsAreNamed (p : Program) : Type 0 where
  pub named : All (λ C. IsNamed p.names C.name) p.components
  pub once : AreDifferent (words_of p.names (λ C. C.name) p.components)

abbrev pub NamesAreTold : Type 0
NamesAreTold = (p : Program) → IsTraceable p → ComponentsAreNamed p
