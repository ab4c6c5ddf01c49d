-- Rows and the steps and runs that they tell.
use Rattle.std.proofs.Common.{◌≡◌, ◌∙◌, ℕ, suc, ◌+◌, List, [], ◌∷◌, ◌++◌, length, Option, Some, None, refl, ap, sym, subst, arith}
use Rattle.std.specs.Prelude.{map}
use Rattle.abc_term.specs.Processes.{Definitions, System}
use Rattle.abc_term.specs.Speaking.{Label}
use Rattle.abc_term.specs.Systems.{Choice, Multicasts, StepAt, Step, Runs}
use Rattle.abc_term.proofs.Steps.{multicast_is_determined}
use Rattle.abc_steps.specs.Rows.{Row, place_said, choice_of_row, IsToldBy, TellsStep, TellRun, TellsTurn, TellTurns}
use Rattle.abc_steps.specs.RowLaws.{RowsTellRuns, RunsHaveRows, RowsAreDetermined, TurnsTellRuns}

-- ---- a run goes on
-- a run told so far, and one step more
pub tell_more : (defs : Definitions) (S : System) (rs : List Row) (U : System) (r : Row) (T : System) → TellRun defs S rs U → TellsStep defs U r T →
    TellRun defs S (rs ++ r ∷ []) T
tell_more defs S [] U r T h s = (T, subst (λ (X : System). TellsStep defs X r T) h s, refl)
tell_more defs S (q ∷ rs) U r T h s = (h.0, h.1, tell_more defs h.0 rs U r T h.2 s)

-- a run told so far by the rule of places, and the step at the next turn
pub turns_more : (defs : Definitions) (turn : ℕ) (S : System) (rs : List Row) (U : System) (r : Row) (T : System) → TellTurns defs turn S rs U →
    TellsTurn defs U (turn + length rs) r T → TellTurns defs turn S (rs ++ r ∷ []) T
turns_more defs turn S [] U r T h s =
    let now : turn + 0 ≡ turn = omega arith in
    (T, subst (λ (n : ℕ). TellsTurn defs S n r T) now (subst (λ (X : System). TellsTurn defs X (turn + 0) r T) h s), refl)
turns_more defs turn S (q ∷ rs) U r T h s =
    let later : turn + suc (length rs) ≡ turn + 1 + length rs = omega arith in
    (h.0, h.1, turns_more defs (turn + 1) h.0 rs U r T h.2 (subst (λ (n : ℕ). TellsTurn defs U n r T) later s))

-- a run so far, and one step more
pub runs_more : (defs : Definitions) (S : System) (cs : List Choice) (U : System) (c : Choice) (T : System) → Runs defs S cs U → Step defs U c T →
    Runs defs S (cs ++ c ∷ []) T
runs_more defs S [] U c T h s = (T, subst (λ (X : System). Step defs X c T) h s, refl)
runs_more defs S (d ∷ cs) U c T h s = (h.0, h.1, runs_more defs h.0 cs U c T h.2 s)

-- ---- a run in two parts
-- a run by choices put together passes a system between them
pub runs_apart : (defs : Definitions) (S : System) (cs ds : List Choice) (T : System) → Runs defs S (cs ++ ds) T →
    (U : System) × Runs defs S cs U × Runs defs U ds T
runs_apart defs S [] ds T h = (S, refl, h)
runs_apart defs S (c ∷ cs) ds T h = let r = runs_apart defs h.0 cs ds T h.2 in (r.0, (h.0, h.1, r.1), r.2)

-- and back: a run and one that goes on from its end are a run
pub runs_joined : (defs : Definitions) (S : System) (cs ds : List Choice) (U T : System) → Runs defs S cs U → Runs defs U ds T →
    Runs defs S (cs ++ ds) T
runs_joined defs S [] ds U T h k = subst (λ (X : System). Runs defs X ds T) h k
runs_joined defs S (c ∷ cs) ds U T h k = (h.0, h.1, runs_joined defs h.0 cs ds U T h.2 k)

-- rows put together pass a system between them
pub tell_apart : (defs : Definitions) (S : System) (rs qs : List Row) (T : System) → TellRun defs S (rs ++ qs) T →
    (U : System) × TellRun defs S rs U × TellRun defs U qs T
tell_apart defs S [] qs T h = (S, refl, h)
tell_apart defs S (r ∷ rs) qs T h = let t = tell_apart defs h.0 rs qs T h.2 in (t.0, (h.0, h.1, t.1), t.2)

-- and back: rows and those that go on from their end tell one run
pub tell_joined : (defs : Definitions) (S : System) (rs qs : List Row) (U T : System) → TellRun defs S rs U → TellRun defs U qs T →
    TellRun defs S (rs ++ qs) T
tell_joined defs S [] qs U T h k = subst (λ (X : System). TellRun defs X qs T) h k
tell_joined defs S (r ∷ rs) qs U T h k = (h.0, h.1, tell_joined defs h.0 rs qs U T h.2 k)

-- ---- a row is a step
-- what was said, forgotten but for its place
step_told : (defs : Definitions) (S : System) (sender : ℕ) (spoke : Option (ℕ × Label)) (heard : List (ℕ × ℕ)) (T : System) →
    IsToldBy defs S sender spoke heard T → StepAt defs S sender (place_said spoke) heard T
step_told defs S sender None heard T h = h
step_told defs S sender (Some s) heard T h = (s.1, h)

-- what a row tells is the step of its choice
pub step_of_row : (defs : Definitions) (S : System) (r : Row) (T : System) → TellsStep defs S r T → Step defs S (choice_of_row r) T
step_of_row defs S r T h = step_told defs S r.sender r.spoke r.heard T h

-- and found again: a step has something that was said in it
told_step : (defs : Definitions) (S : System) (sender : ℕ) (place : Option ℕ) (heard : List (ℕ × ℕ)) (T : System) →
    StepAt defs S sender place heard T → (spoke : Option (ℕ × Label)) × IsToldBy defs S sender spoke heard T × (place_said spoke ≡ place)
told_step defs S sender None heard T h = (None, h, refl)
told_step defs S sender (Some place) heard T h = (Some (place, h.0), h.1, refl)

-- each step has a row that tells it
pub row_of_step : (defs : Definitions) (S : System) (c : Choice) (T : System) → Step defs S c T →
    (r : Row) × TellsStep defs S r T × (choice_of_row r ≡ c)
row_of_step defs S c T h =
    let s = told_step defs S c.sender c.place c.heard T h in
    (record { sender = c.sender; spoke = s.0; heard = c.heard }, s.1, λ i. record { sender = c.sender; place = s.2 i; heard = c.heard })

-- ---- the laws
pub rows_tell_runs : RowsTellRuns
rows_tell_runs defs S [] T h = h
rows_tell_runs defs S (r ∷ rs) T h = (h.0, step_of_row defs S r h.0 h.1, rows_tell_runs defs h.0 rs T h.2)

pub runs_have_rows : RunsHaveRows
runs_have_rows defs S [] T h = ([], h, refl)
runs_have_rows defs S (c ∷ cs) T h =
    let first = row_of_step defs S c h.0 h.1 in
    let rest = runs_have_rows defs h.0 cs T h.2 in
    (first.0 ∷ rest.0, (h.0, first.1, rest.1), λ i. first.2 i ∷ rest.2 i)

pub turns_tell_runs : TurnsTellRuns
turns_tell_runs defs turn S [] T h = h
turns_tell_runs defs turn S (r ∷ rs) T h = (h.0, h.1.2, turns_tell_runs defs (turn + 1) h.0 rs T h.2)

-- ---- the choices determine the rows
-- two tellings of a step say the same, and it ends the same
record SameTelling (a b : Option (ℕ × Label)) (T U : System) : Type 0 where
  said : a ≡ b
  next : T ≡ U

-- the sender, the place and the hearers fix what is said, label and all
same_telling : (defs : Definitions) (S : System) (sender : ℕ) (a b : Option (ℕ × Label)) (heard : List (ℕ × ℕ)) (T U : System) →
    place_said a ≡ place_said b → IsToldBy defs S sender a heard T → IsToldBy defs S sender b heard U → SameTelling a b T U
same_telling defs S sender None None heard T U e s t = record { said = refl; next = s.2 ∙ sym t.2 }
same_telling defs S sender None (Some b) heard T U e s t = cc
same_telling defs S sender (Some a) None heard T U e s t = cc
same_telling defs S sender (Some a) (Some b) heard T U e s t =
    let place : b.0 ≡ a.0 = cc in
    let same = multicast_is_determined defs S sender a.0 heard a.1 b.1 T U s (subst (λ (k : ℕ). Multicasts defs S sender k heard b.1 U) place t) in
    record { said = λ i. Some (sym place i, same.0 i); next = same.1 }

-- two rows are the same, and so are the systems after them
record SameRow (r q : Row) (T U : System) : Type 0 where
  row : r ≡ q
  next : T ≡ U

-- rows that are one choice, from one system, are the same
same_row : (defs : Definitions) (S : System) (r q : Row) (T U : System) → choice_of_row r ≡ choice_of_row q →
    TellsStep defs S r T → TellsStep defs S q U → SameRow r q T U
same_row defs S r q T U e s t =
    let sender : r.sender ≡ q.sender = ap (λ (c : Choice). c.sender) e in
    let place : place_said r.spoke ≡ place_said q.spoke = ap (λ (c : Choice). c.place) e in
    let heard : r.heard ≡ q.heard = ap (λ (c : Choice). c.heard) e in
    let moved = subst (λ (xs : List (ℕ × ℕ)). IsToldBy defs S r.sender q.spoke xs U) (sym heard)
    (subst (λ (k : ℕ). IsToldBy defs S k q.spoke q.heard U) (sym sender) t) in
    let same = same_telling defs S r.sender r.spoke q.spoke r.heard T U place s moved in
    record { row = λ i. record { sender = sender i; spoke = same.said i; heard = heard i }; next = same.next }

-- two lists that are the same begin with the same choice,
first_choice : (c d : Choice) (cs ds : List Choice) → c ∷ cs ≡ d ∷ ds → c ≡ d
first_choice c d cs ds e = cc

-- and go on the same
more_choices : (c d : Choice) (cs ds : List Choice) → c ∷ cs ≡ d ∷ ds → cs ≡ ds
more_choices c d cs ds e = cc

pub rows_are_determined : RowsAreDetermined
rows_are_determined defs S [] [] T U h k e = (refl, h ∙ sym k)
rows_are_determined defs S [] (q ∷ qs) T U h k e = cc
rows_are_determined defs S (r ∷ rs) [] T U h k e = cc
rows_are_determined defs S (r ∷ rs) (q ∷ qs) T U h k e =
    let one = first_choice (choice_of_row r) (choice_of_row q) (map choice_of_row rs) (map choice_of_row qs) e in
    let more = more_choices (choice_of_row r) (choice_of_row q) (map choice_of_row rs) (map choice_of_row qs) e in
    let first = same_row defs S r q h.0 k.0 one h.1 k.1 in
    let rest = rows_are_determined defs h.0 rs qs T U h.2 (subst (λ (X : System). TellRun defs X qs U) (sym first.next) k.2) more in
    (λ i. first.row i ∷ rest.0 i, rest.1)
