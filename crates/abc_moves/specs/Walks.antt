-- How far a walk over the unguarded parts of a process goes, what it counts there, and the move that it comes to.
use Rattle.std.specs.Prelude.{◌≡◌, ◌≤◌, ℕ, List}
use Rattle.abc_pred.specs.declared.names.Name.{Name}
use Rattle.abc_pred.specs.Maps.{Entries}
use Rattle.abc_term.specs.Processes.{Process, Definitions}
use Rattle.abc_sound.specs.Walks.{parts_of, call_parts}
use Rattle.abc_term.specs.Hearing.{ins_of, call_ins, Takes, CallTakes}
use Rattle.abc_term.specs.Speaking.{Label, outs_of, call_outs, Says, CallSays}
use Rattle.abc_moves.specs.declared.walk.Walk.{Walk}
use Rattle.abc_moves.specs.declared.walk.Walk.TheVariants.{Found, Passed}

-- A walk for the move at a place, where there are so many moves: it has found the move, or passed all moves, and none is at the place.
abbrev pub ComesTo : {M : Type 0} → (M → Type 0) → ℕ → ℕ → Walk M → Type 0
ComesTo IsMove place count (Found m) = IsMove m
ComesTo IsMove place count (Passed n) = (n ≡ count) × (n ≤ place)

-- What holds of the move that it has found.
abbrev pub OnFound : {M : Type 0} → (M → Type 0) → Walk M → Type 0
OnFound P (Found m) = P m
OnFound P (Passed n) = Unit {0}

-- The number of outputs, calls unfolded to a depth.
abbrev pub outs_at : ℕ → Definitions → Entries → Process → ℕ
outs_at depth defs env P = outs_of env (call_outs depth defs env) P

-- The number of parts that a walk meets, calls unfolded to a depth.
abbrev pub parts_at : ℕ → Definitions → Process → ℕ
parts_at depth defs P = parts_of (call_parts depth defs) P

-- ---- the moves of a process, calls unfolded to a depth
abbrev pub SaysAt : ℕ → Definitions → Entries → List Name → Process → ℕ → Label → Entries → Process → Type 0
SaysAt depth defs env interface P k l e R = Says env interface (call_outs depth defs env) (CallSays depth defs env interface) P k l e R

-- The number of inputs that take a message.
abbrev pub ins_at : ℕ → Definitions → Label → Entries → List Name → Process → ℕ
ins_at depth defs l env interface P = ins_of l env interface (call_ins depth defs l env interface) P

abbrev pub TakesAt : ℕ → Definitions → Label → Entries → List Name → Process → ℕ → Entries → Process → Type 0
TakesAt depth defs l env interface P k e R =
    Takes l env interface (call_ins depth defs l env interface) (CallTakes depth defs l env interface) P k e R
