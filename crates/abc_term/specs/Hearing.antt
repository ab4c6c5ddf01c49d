-- AbC's input and discard rules: how a component hears a multicast.
use Rattle.std.specs.Prelude.{◌≡◌, ◌⊎◌, ℕ, zero, suc, ◌+◌, ◌==◌, ◌&&◌, IsTrue, Bool, List, [], length, Option, Some, None, if◌then◌else◌}
use Rattle.std.specs.List.{zip}
use Rattle.abc_pred.specs.declared.names.Name.{Name}
use Rattle.abc_pred.specs.Terms.{Pred}
use Rattle.abc_pred.specs.Maps.{Entries, shown}
use Rattle.abc_pred.specs.Meaning.{sat}
use Rattle.abc_term.specs.Processes.{Process, Nil, Output, Input, When, Choice, Par, Call, Definitions, body_of, Component}
use Rattle.abc_term.specs.Substitution.{put, put_pred, put_updates}
use Rattle.abc_term.specs.Speaking.{Label, updated, Holds}

-- The receiver's interface satisfies the sender's predicate, which is closed.
abbrev pub is_meant : Label → Entries → List Name → Bool
is_meant l env interface = sat l.pred [] (shown env interface) []

-- The sender's interface satisfies the predicate of the input ? (p) (xs), with the message's values put for xs.
abbrev pub is_wanted : Label → Entries → Pred → List Name → Bool
is_wanted l env p xs = sat (put_pred (zip xs l.values) p) env l.shown []

-- The input takes the message: there are as many values as variables, and both predicates hold.
abbrev pub takes : Label → Entries → List Name → Pred → List Name → Bool
takes l env interface p xs = (length l.values == length xs) && is_meant l env interface && is_wanted l env p xs

-- ---- How many inputs take the message

-- They are numbered from the left of the process, from 0 up; an input's number is its place.
-- `of_call` has the number of those of each call.
module _ (l : Label) (env : Entries) (interface : List Name) (of_call : Name → ℕ) where
  abbrev pub ins_of : Process → ℕ
  ins_of Nil = 0
  ins_of (Output es p us P) = 0
  ins_of (Input p xs us P) = if takes l env interface p xs then 1 else 0
  ins_of (When g P) = if sat g env env [] then ins_of P else 0
  ins_of (Choice P Q) = ins_of P + ins_of Q
  ins_of (Par P Q) = ins_of P + ins_of Q
  ins_of (Call c) = of_call c

-- A call has those of its definition's body, to a depth, as for outputs.
abbrev pub call_ins : ℕ → Definitions → Label → Entries → List Name → Name → ℕ
call_ins zero defs l env interface c = 0
call_ins (suc depth) defs l env interface c = ins_of l env interface (call_ins depth defs l env interface) (body_of defs c)

abbrev pub ins : Definitions → Component → Label → ℕ
ins defs C l = ins_of l C.env C.interface (call_ins (length defs) defs l C.env C.interface) C.process

-- ---- The rules

-- `Takes P k e R`: under the environment env and the interface the process P takes the message with the label l by its input
-- at place k, and leaves the environment e and the process R. `OfCall` is this relation for calls.
module _ (l : Label) (env : Entries) (interface : List Name) (of_call : Name → ℕ) (OfCall : Name → ℕ → Entries → Process → Type 0) where
  abbrev pub Takes : Process → ℕ → Entries → Process → Type 0
  -- 0 and outputs take nothing.
  Takes Nil k e R = ⊥
  Takes (Output es p us P) k e R = ⊥
  -- ? (p) (xs) . us P puts the values for xs, makes its updates in the same step, and goes on as P.
  Takes (Input p xs us P) k e R =
      (k ≡ 0) × IsTrue (takes l env interface p xs)
      × (e ≡ updated (put_updates (zip xs l.values) us) env) × (R ≡ put (zip xs l.values) P)
  -- when (g) P takes what P takes, where g holds.
  Takes (When g P) k e R = Holds g env × Takes P k e R
  -- P + Q takes it as P does, or as Q at the places after those of P. The other side is gone.
  Takes (Choice P Q) k e R = Takes P k e R ⊎ ((j : ℕ) × (k ≡ ins_of l env interface of_call P + j) × Takes Q j e R)
  -- P | Q has the same places. The other side stays beside what the mover becomes: it doesn't hear the message too.
  Takes (Par P Q) k e R =
      ((P' : Process) × Takes P k e P' × (R ≡ Par P' Q))
      ⊎ ((j : ℕ) × (Q' : Process) × (k ≡ ins_of l env interface of_call P + j) × Takes Q j e Q' × (R ≡ Par P Q'))
  -- A call takes what its definition's body takes.
  Takes (Call c) k e R = OfCall c k e R

abbrev pub CallTakes : ℕ → Definitions → Label → Entries → List Name → Name → ℕ → Entries → Process → Type 0
CallTakes zero defs l env interface c k e R = ⊥
CallTakes (suc depth) defs l env interface c k e R =
    Takes l env interface (call_ins depth defs l env interface) (CallTakes depth defs l env interface) (body_of defs c) k e R

-- The component C hears a message, and becomes C': by its input at a place, or by discarding it and staying as it was.
-- It discards a message only where no input takes it.
abbrev pub Hears : Definitions → Component → Label → Option ℕ → Component → Type 0
Hears defs C l (Some place) C' =
    let d = length defs in
    Takes l C.env C.interface (call_ins d defs l C.env C.interface) (CallTakes d defs l C.env C.interface) C.process place C'.env C'.process
    × (C'.interface ≡ C.interface)
Hears defs C l None C' = (ins defs C l ≡ 0) × (C' ≡ C)
