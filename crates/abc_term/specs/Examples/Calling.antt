-- Which calls an action guards
-- def K = (1) @ (tt) . K + when (tt) L;
-- def L = ? (tt) () . { K | L } | 0;
-- def M = L | when (ff) M;
use Rattle.std.specs.Prelude.{◌≡◌, [], ◌∷◌}
use Rattle.abc_pred.specs.declared.names.Name.{Name}
use Rattle.abc_pred.specs.Terms.{True, False}
use Rattle.abc_term.specs.Processes.{Process, Nil, Output, Input, When, Choice, Par, Call, Definitions}
use Rattle.abc_term.specs.Calls.{calls, unguarded_calls, Reaches}
use Rattle.abc_term.specs.Guarded.{IsGuarded}
use Rattle.abc_term.specs.Examples.Writing.{name, number, say}

abbrev pub k : Name
k = name 0

abbrev pub l : Name
l = name 1

abbrev pub m : Name
m = name 2

abbrev pub of_k : Process
of_k = Choice (Output (say (number 1)) True [] (Call k)) (When True (Call l))

abbrev pub of_l : Process
of_l = Par (Input True [] [] (Par (Call k) (Call l))) Nil

abbrev pub of_m : Process
of_m = Par (Call l) (When False (Call m))

abbrev pub defs : Definitions
defs = (k, of_k) ∷ (l, of_l) ∷ (m, of_m) ∷ []

-- Calls stand behind actions, under guards and on either side; those behind an action are guarded, those under `when` aren't.
abbrev pub NamesCalled : Type 0
NamesCalled = (calls of_k ≡ k ∷ l ∷ []) × (calls of_l ≡ k ∷ l ∷ []) × (calls of_m ≡ l ∷ m ∷ [])

abbrev pub NamesCalledAtOnce : Type 0
NamesCalledAtOnce = (unguarded_calls of_k ≡ l ∷ []) × (unguarded_calls of_l ≡ []) × (unguarded_calls of_m ≡ l ∷ m ∷ [])

-- K reaches itself by way of L, but not by unguarded calls, so the unguarded calls of K end. M reaches itself by unguarded calls,
-- whatever the guard, and its own never end.
abbrev pub ReachedByCalls : Type 0
ReachedByCalls = Reaches calls defs l l × Reaches calls defs k k × Reaches unguarded_calls defs k l × Reaches unguarded_calls defs m m

abbrev pub NotReachedAtOnce : Type 0
NotReachedAtOnce = ¬ Reaches unguarded_calls defs k k

abbrev pub KEnds : Type 0
KEnds = IsGuarded defs (Call k)

abbrev pub MNeverEnds : Type 0
MNeverEnds = ¬ IsGuarded defs (Call m)
