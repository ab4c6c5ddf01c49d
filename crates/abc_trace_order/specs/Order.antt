-- In which order the lines of a trace stand.
use Rattle.std.specs.Prelude.{◌≡◌, ◌≤◌, ◌<◌, ◌+◌, ◌==◌, ℕ, false, List, [], ◌∷◌, ◌++◌, length, fold, Option, Some, None}
use Rattle.abc_pred.specs.Terms.{Pred}
use Rattle.abc_text.specs.Meanings.{has_word}
use Rattle.abc_checks.specs.declared.limits.TheConstants.{MOST_COMPONENTS}
use Rattle.abc_printed.specs.Printed.{pred_text}
use Rattle.abc_trace.specs.declared.trace.Head.{Head}
use Rattle.abc_trace.specs.Texts.{limit_of}
use Rattle.abc_trace.specs.WellFormed.{IsNet, IsSent, nodes_of}
use Rattle.abc_trace_lines.specs.Plain.{Line, First, Number, Env, Node, Last, line_text}
use Rattle.abc_trace_lines.specs.Plain as plain
use Rattle.abc_trace_lines.specs.Spelled.{IsSpelled}

-- ---- a line alone
-- the text of a predicate that is sent, whatever numbers its names have
abbrev pub IsPredText : List ℕ → Type 0
IsPredText bytes = (words : List (List ℕ)) × (p : Pred) × IsSent words p × (pred_text words p ≡ bytes)

abbrev pub SaysPred : Option plain.Said → Type 0
SaysPred None = Unit {0}
SaysPred (Some s) = IsPredText s.pred

-- where it says a predicate, that is one that is sent
abbrev pub HasPred : Line → Type 0
HasPred (First head) = Unit {0}
HasPred (Number n sender said) = SaysPred said
HasPred (Env component entries) = Unit {0}
HasPred (Node node handled) = Unit {0}
HasPred (Last limited count) = Unit {0}

-- a line that may stand in a trace, the lines around it aside
pub record IsGoodLine (x : Line) : Type 0 where
  pub spelled : IsSpelled x
  pub pred : HasPred x

-- ---- lines one behind another
-- Nothing stands yet; a first line, so many lines of numbers, these components and so many nodes
-- stand; or all does.
pub data Stage : Type 0 where
  Start : Stage
  Within : (head : Head) → (count : ℕ) → (components : List (List ℕ)) → (nodes : ℕ) → Stage
  Ended : Stage

-- something was said, or the run is one of a network
abbrev pub MayBeSaid : Head → Option plain.Said → Type 0
MayBeSaid head None = IsNet head
MayBeSaid head (Some s) = Unit {0}

-- behind the first line
abbrev pub GoesOn : Head → ℕ → List (List ℕ) → ℕ → Line → Type 0
GoesOn head count components nodes (First h) = ⊥
GoesOn head count components nodes (Number n sender said) =
    (length components ≡ 0) × (n ≡ count + 1) × (n ≤ limit_of head) × MayBeSaid head said
GoesOn head count components nodes (Env component entries) =
    (nodes ≡ 0) × (has_word components component ≡ false) × (length components < MOST_COMPONENTS)
GoesOn head count components nodes (Node node handled) =
    (1 ≤ length components) × (node ≡ nodes) × (nodes < nodes_of head)
GoesOn head count components nodes (Last limited n) =
    (1 ≤ length components) × (nodes ≡ nodes_of head) × (n ≡ count)
    × (limited ≡ (count == limit_of head))

-- This line may come next.
abbrev pub Admits : Stage → Line → Type 0
Admits Start (First head) = Unit {0}
Admits Start (Number n sender said) = ⊥
Admits Start (Env component entries) = ⊥
Admits Start (Node node handled) = ⊥
Admits Start (Last limited n) = ⊥
Admits (Within head count components nodes) x = GoesOn head count components nodes x
Admits Ended x = ⊥

-- and so stands what stood with it
abbrev pub gone_on : Head → ℕ → List (List ℕ) → ℕ → Line → Stage
gone_on head count components nodes (First h) = Within head count components nodes
gone_on head count components nodes (Number n sender said) = Within head (count + 1) components nodes
gone_on head count components nodes (Env component entries) =
    Within head count (components ++ component ∷ []) nodes
gone_on head count components nodes (Node node handled) = Within head count components (nodes + 1)
gone_on head count components nodes (Last limited n) = Ended

abbrev pub begun_by : Line → Stage
begun_by (First head) = Within head 0 [] 0
begun_by (Number n sender said) = Start
begun_by (Env component entries) = Start
begun_by (Node node handled) = Start
begun_by (Last limited n) = Start

abbrev pub after : Stage → Line → Stage
after Start x = begun_by x
after (Within head count components nodes) x = gone_on head count components nodes x
after Ended x = Ended

abbrev pub stage_behind : Stage → List Line → Stage
stage_behind s ls = fold after s ls

-- each of the lines may come behind those before it
abbrev pub AreInOrder : Stage → List Line → Type 0
AreInOrder s [] = Unit {0}
AreInOrder s (x ∷ ls) = Admits s x × AreInOrder (after s x) ls

-- No good line that may come next has this text.
abbrev pub Refuses : Stage → List ℕ → Type 0
Refuses s bytes = (x : Line) → IsGoodLine x → Admits s x → ¬ (line_text x ≡ bytes)
