-- AbC's output rules: which multicasts a component can make.
use Rattle.std.specs.Prelude.{◌≡◌, ◌⊎◌, ℕ, zero, suc, ◌+◌, IsTrue, List, [], ◌∷◌, length, map, if◌then◌else◌}
use Rattle.abc_value.specs.declared.value.Value.{Value}
use Rattle.abc_pred.specs.declared.names.Name.{Name}
use Rattle.abc_pred.specs.Terms.{Expr, Pred}
use Rattle.abc_pred.specs.Maps.{Entries, set_to, shown}
use Rattle.abc_pred.specs.Meaning.{expr_val, sat, close}
use Rattle.abc_term.specs.Processes.{Process, Nil, Output, Input, When, Choice, Par, Call, Update, Definitions, body_of, Component}

-- What a multicast carries: the sender's interface, its closed predicate, and the values of its tuple.
pub record Label : Type 0 where
  pub shown : Entries
  pub pred : Pred
  pub values : List Value

-- The environment after updates: made in the order written, each seen by the next. A value none removes the name.
abbrev pub updated : List Update → Entries → Entries
updated [] env = env
updated (u ∷ us) env = updated us (set_to (expr_val u.1 env []) u.0 env)

-- The values of a tuple.
abbrev pub values_of : List Expr → Entries → List Value
values_of es env = map (λ e. expr_val e env []) es

-- What the output (es) @ (p) says, all from the environment before its updates.
abbrev pub label_from : Entries → List Name → List Expr → Pred → Label
label_from env interface es p = record { shown = shown env interface; pred = close p env []; values = values_of es env }

-- A guard holds in the component's own environment.
abbrev pub Holds : Pred → Entries → Type 0
Holds g env = IsTrue (sat g env env [])

-- ---- How many outputs are enabled

-- Outputs are numbered from the left of the process, from 0 up; an output's number is its place.
-- `of_call` has the number of outputs of each call.
module _ (env : Entries) (of_call : Name → ℕ) where
  abbrev pub outs_of : Process → ℕ
  outs_of Nil = 0
  outs_of (Output es p us P) = 1
  outs_of (Input p xs us P) = 0
  outs_of (When g P) = if sat g env env [] then outs_of P else 0
  outs_of (Choice P Q) = outs_of P + outs_of Q
  outs_of (Par P Q) = outs_of P + outs_of Q
  outs_of (Call c) = of_call c

-- A call has the outputs of its definition's body, where calls have theirs likewise, to a depth.
abbrev pub call_outs : ℕ → Definitions → Entries → Name → ℕ
call_outs zero defs env c = 0
call_outs (suc depth) defs env c = outs_of env (call_outs depth defs env) (body_of defs c)

-- The number of outputs of a component. The depth is the number of definitions: a checked program has no longer chain of
-- calls without an action between them.
abbrev pub outs : Definitions → Component → ℕ
outs defs C = outs_of C.env (call_outs (length defs) defs C.env) C.process

-- ---- The rules

-- `Says P k l e R`: under the environment env and the interface the process P makes its output at place k, with the label l,
-- and leaves the environment e and the process R. `OfCall` is this relation for calls.
module _ (env : Entries) (interface : List Name) (of_call : Name → ℕ) (OfCall : Name → ℕ → Label → Entries → Process → Type 0) where
  abbrev pub Says : Process → ℕ → Label → Entries → Process → Type 0
  -- 0 makes no output.
  Says Nil k l e R = ⊥
  -- (es) @ (p) . us P says its label, makes its updates in the same step, and goes on as P.
  Says (Output es p us P) k l e R = (k ≡ 0) × (l ≡ label_from env interface es p) × (e ≡ updated us env) × (R ≡ P)
  -- An input makes no output.
  Says (Input p xs us P) k l e R = ⊥
  -- when (g) P makes the outputs of P, where g holds.
  Says (When g P) k l e R = Holds g env × Says P k l e R
  -- P + Q makes those of P, and those of Q at the places after them. The other side is gone.
  Says (Choice P Q) k l e R = Says P k l e R ⊎ ((j : ℕ) × (k ≡ outs_of env of_call P + j) × Says Q j l e R)
  -- P | Q has the same places. The other side stays beside what the mover becomes.
  Says (Par P Q) k l e R =
      ((P' : Process) × Says P k l e P' × (R ≡ Par P' Q))
      ⊎ ((j : ℕ) × (Q' : Process) × (k ≡ outs_of env of_call P + j) × Says Q j l e Q' × (R ≡ Par P Q'))
  -- A call makes the outputs of its definition's body.
  Says (Call c) k l e R = OfCall c k l e R

abbrev pub CallSays : ℕ → Definitions → Entries → List Name → Name → ℕ → Label → Entries → Process → Type 0
CallSays zero defs env interface c k l e R = ⊥
CallSays (suc depth) defs env interface c k l e R =
    Says env interface (call_outs depth defs env) (CallSays depth defs env interface) (body_of defs c) k l e R

-- The component C speaks at a place with a label, and becomes C'. Its interface never changes.
abbrev pub Speaks : Definitions → Component → ℕ → Label → Component → Type 0
Speaks defs C place l C' =
    let d = length defs in
    Says C.env C.interface (call_outs d defs C.env) (CallSays d defs C.env C.interface) C.process place l C'.env C'.process
    × (C'.interface ≡ C.interface)
