-- The names that a process calls, and which names reach which by calls.
use Rattle.std.specs.Prelude.{◌++◌, Bool, true, false, IsTrue, List, [], ◌∷◌, if◌then◌else◌}
use Rattle.abc_pred.specs.declared.names.Name.{Name}
use Rattle.abc_pred.specs.Maps.{lists}
use Rattle.abc_term.specs.Processes.{Process, Nil, Output, Input, When, Choice, Par, Call, Definitions, body_of}

-- The names that the process calls, from the left. `behind` says whether calls that an action guards count too.
abbrev pub called : Bool → Process → List Name
called behind Nil = []
called behind (Output es p us P) = if behind then called behind P else []
called behind (Input p xs us P) = if behind then called behind P else []
called behind (When g P) = called behind P
called behind (Choice P Q) = called behind P ++ called behind Q
called behind (Par P Q) = called behind P ++ called behind Q
called behind (Call c) = c ∷ []

-- All of them.
abbrev pub calls : Process → List Name
calls P = called true P

-- Those with no action before the call.
abbrev pub unguarded_calls : Process → List Name
unguarded_calls P = called false P

-- c reaches d by one or more calls, each in the body of the name before it. `called_by` says which calls of a process count:
-- all of them, or the unguarded ones.
pub data Reaches (called_by : Process → List Name) (defs : Definitions) : Name → Name → Type 0 where
  at_once : {c d : Name} → IsTrue (lists (called_by (body_of defs c)) d) → Reaches called_by defs c d
  by_way_of : {c d e : Name} → IsTrue (lists (called_by (body_of defs c)) d) → Reaches called_by defs d e → Reaches called_by defs c e
