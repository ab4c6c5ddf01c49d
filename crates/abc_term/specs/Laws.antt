-- Laws that the rules obey.
use Rattle.std.specs.Prelude.{◌≡◌, ◌≢◌, slice_get, ℕ, IsTrue, ◌<◌, ◌↔◌, List, [], ◌∷◌, ◌++◌, length, All, Option, Some, None}
use Rattle.abc_value.specs.declared.value.Value.{Value}
use Rattle.abc_pred.specs.declared.names.Name.{Name}
use Rattle.abc_pred.specs.Terms.{Expr, Pred, False}
use Rattle.abc_pred.specs.Maps.{Entries, IsMap}
use Rattle.abc_pred.specs.Meaning.{expr_val, sat, close}
use Rattle.abc_term.specs.Processes.{Process, Call, Definitions, body_of, Component, System}
use Rattle.abc_term.specs.Substitution.{Values, put, put_pred, put_expr}
use Rattle.abc_term.specs.Standing.{set_all}
use Rattle.abc_term.specs.Speaking.{Label, Speaks, outs}
use Rattle.abc_term.specs.Hearing.{Hears, ins, is_meant}
use Rattle.abc_term.specs.Guarded.{IsGuarded, AreGuarded, EachUnguarded, defines}
use Rattle.abc_term.specs.Systems.{Choice, place_in, EachMoves, Multicasts, Step, Runs}

-- ---- Places: they are numbered from 0 without gap, and each has exactly one move.

-- The places that have an output are those below the number of outputs.
abbrev pub SpeakingHasItsPlaces : Type 0
SpeakingHasItsPlaces =
    (defs : Definitions) (C : Component) (place : ℕ) →
    ((l : Label) × (C' : Component) × Speaks defs C place l C') ↔ (place < outs defs C)

-- The place determines what is said and what becomes of the component.
abbrev pub SpeakingIsDetermined : Type 0
SpeakingIsDetermined =
    (defs : Definitions) (C : Component) (place : ℕ) (l m : Label) (D E : Component) →
    Speaks defs C place l D → Speaks defs C place m E → (l ≡ m) × (D ≡ E)

-- The places at which a message is taken are those below the number of inputs that take it.
abbrev pub HearingHasItsPlaces : Type 0
HearingHasItsPlaces =
    (defs : Definitions) (C : Component) (l : Label) (place : ℕ) →
    ((C' : Component) × Hears defs C l (Some place) C') ↔ (place < ins defs C l)

-- The place, or that the message is discarded, determines what becomes of the component.
abbrev pub HearingIsDetermined : Type 0
HearingIsDetermined =
    (defs : Definitions) (C : Component) (l : Label) (place : Option ℕ) (D E : Component) →
    Hears defs C l place D → Hears defs C l place E → D ≡ E

-- ---- Calls: where its unguarded calls end, a call has just the moves of its definition's body. The depth doesn't show.

-- Unguarded calls end where each has a definition and none reaches itself by such calls.
abbrev pub GuardedCallsEnd : Type 0
GuardedCallsEnd =
    (defs : Definitions) (P : Process) →
    AreGuarded defs → EachUnguarded (λ c. IsTrue (defines defs c)) P → IsGuarded defs P

abbrev pub with_process : Component → Process → Component
with_process C P = record { env = C.env; interface = C.interface; process = P }

abbrev pub CallsCountAsTheirBodies : Type 0
CallsCountAsTheirBodies =
    (defs : Definitions) (C : Component) (c : Name) (l : Label) → IsGuarded defs (Call c) →
    (outs defs (with_process C (Call c)) ≡ outs defs (with_process C (body_of defs c)))
    × (ins defs (with_process C (Call c)) l ≡ ins defs (with_process C (body_of defs c)) l)

abbrev pub CallsSpeakAsTheirBodies : Type 0
CallsSpeakAsTheirBodies =
    (defs : Definitions) (C : Component) (c : Name) (place : ℕ) (l : Label) (C' : Component) →
    IsGuarded defs (Call c) →
    Speaks defs (with_process C (Call c)) place l C' ↔ Speaks defs (with_process C (body_of defs c)) place l C'

abbrev pub CallsHearAsTheirBodies : Type 0
CallsHearAsTheirBodies =
    (defs : Definitions) (C : Component) (c : Name) (l : Label) (place : ℕ) (C' : Component) →
    IsGuarded defs (Call c) →
    Hears defs (with_process C (Call c)) l (Some place) C' ↔ Hears defs (with_process C (body_of defs c)) l (Some place) C'

-- ---- Hearing never fails, and discarding is possible exactly where receiving isn't.

-- Every component hears every message in some way.
abbrev pub HearingExists : Type 0
HearingExists =
    (defs : Definitions) (C : Component) (l : Label) →
    (place : Option ℕ) × (C' : Component) × Hears defs C l place C'

-- A component discards a message exactly where it takes it at no place, and stays as it was.
abbrev pub DiscardIsTheRest : Type 0
DiscardIsTheRest =
    (defs : Definitions) (C : Component) (l : Label) (C' : Component) →
    Hears defs C l None C' ↔ ((C' ≡ C) × ((place : ℕ) (D : Component) → ¬ Hears defs C l (Some place) D))

-- A component takes a message only where its interface satisfies the sender's predicate.
abbrev pub OnlyTheMeantReceive : Type 0
OnlyTheMeantReceive =
    (defs : Definitions) (C : Component) (l : Label) (place : ℕ) (C' : Component) →
    Hears defs C l (Some place) C' → IsTrue (is_meant l C.env C.interface)

-- A message whose predicate is ff is discarded.
abbrev pub FalseIsHeardByNobody : Type 0
FalseIsHeardByNobody =
    (defs : Definitions) (C : Component) (l : Label) (place : Option ℕ) (C' : Component) →
    l.pred ≡ False → Hears defs C l place C' → (place ≡ None) × (C' ≡ C)

-- So a step whose label has the predicate ff has no hearers.
abbrev pub FalseHasNoHearers : Type 0
FalseHasNoHearers =
    (defs : Definitions) (S : System) (sender place : ℕ) (heard : List (ℕ × ℕ)) (l : Label) (T : System) →
    l.pred ≡ False → Multicasts defs S sender place heard l T → heard ≡ []

-- ---- Environments stay finite maps, whose names have one value each and none is no entry.

abbrev pub HasMap : Component → Type 0
HasMap C = IsMap C.env

abbrev pub SpeakingKeepsMaps : Type 0
SpeakingKeepsMaps =
    (defs : Definitions) (C : Component) (place : ℕ) (l : Label) (C' : Component) →
    HasMap C → Speaks defs C place l C' → HasMap C'

-- What a message shows of its sender is a map too.
abbrev pub LabelsShowMaps : Type 0
LabelsShowMaps =
    (defs : Definitions) (C : Component) (place : ℕ) (l : Label) (C' : Component) →
    HasMap C → Speaks defs C place l C' → IsMap l.shown

abbrev pub HearingKeepsMaps : Type 0
HearingKeepsMaps =
    (defs : Definitions) (C : Component) (l : Label) (place : Option ℕ) (C' : Component) →
    HasMap C → Hears defs C l place C' → HasMap C'

abbrev pub RunsKeepMaps : Type 0
RunsKeepMaps =
    (defs : Definitions) (S : System) (cs : List Choice) (T : System) →
    All HasMap S → Runs defs S cs T → All HasMap T

-- The environments that a program begins with are maps.
abbrev pub ProgramsBeginWithMaps : Type 0
ProgramsBeginWithMaps = (first : List (Name × Value)) → IsMap (set_all first [])

-- ---- Steps

-- A multicast component by component, by number: the sender speaks, each other component hears, and there are no more.
pub record EachByNumber (defs : Definitions) (S : System) (sender place : ℕ) (heard : List (ℕ × ℕ)) (l : Label) (S' : System) :
    Type 0 where
  pub as_many : length S' ≡ length S
  pub speaks : (C C' : Component) → slice_get S sender ≡ Some C → slice_get S' sender ≡ Some C' → Speaks defs C place l C'
  pub hears :
      (i : ℕ) (C C' : Component) → i ≢ sender →
      slice_get S i ≡ Some C → slice_get S' i ≡ Some C' → Hears defs C l (place_in heard i) C'

abbrev pub MulticastByNumber : Type 0
MulticastByNumber =
    (defs : Definitions) (S : System) (sender place : ℕ) (heard : List (ℕ × ℕ)) (l : Label) (S' : System) →
    EachMoves defs sender place heard l 0 S S' ↔ EachByNumber defs S sender place heard l S'

-- Who is listed as a hearer is another component of the system, and hears at the place that it is listed with.
abbrev pub ListedHear : Type 0
ListedHear =
    (defs : Definitions) (S : System) (sender place : ℕ) (heard : List (ℕ × ℕ)) (l : Label) (T : System) →
    Multicasts defs S sender place heard l T → (k : ℕ) (h : ℕ × ℕ) → slice_get heard k ≡ Some h →
    (h.0 < length S) × (h.0 ≢ sender)
    × ((C C' : Component) → slice_get S h.0 ≡ Some C → slice_get T h.0 ≡ Some C' → Hears defs C l (Some h.1) C')

-- Hearers are listed by rising numbers, so each once.
abbrev pub ListedRise : Type 0
ListedRise =
    (defs : Definitions) (S : System) (sender place : ℕ) (heard : List (ℕ × ℕ)) (l : Label) (T : System) →
    Multicasts defs S sender place heard l T →
    (j k : ℕ) (g h : ℕ × ℕ) → j < k → slice_get heard j ≡ Some g → slice_get heard k ≡ Some h → g.0 < h.0

-- The sender of a step is a component of the system, also where the step is empty.
abbrev pub SenderExists : Type 0
SenderExists = (defs : Definitions) (S : System) (c : Choice) (T : System) → Step defs S c T → c.sender < length S

-- The system and the choice determine the label and the next system.
abbrev pub MulticastIsDetermined : Type 0
MulticastIsDetermined =
    (defs : Definitions) (S : System) (sender place : ℕ) (heard : List (ℕ × ℕ)) (l m : Label) (T U : System) →
    Multicasts defs S sender place heard l T → Multicasts defs S sender place heard m U → (l ≡ m) × (T ≡ U)

abbrev pub StepIsDetermined : Type 0
StepIsDetermined =
    (defs : Definitions) (S : System) (c : Choice) (T U : System) →
    Step defs S c T → Step defs S c U → T ≡ U

abbrev pub RunIsDetermined : Type 0
RunIsDetermined =
    (defs : Definitions) (S : System) (cs : List Choice) (T U : System) →
    Runs defs S cs T → Runs defs S cs U → T ≡ U

-- No output is refused: where a component can speak, the system has a step in which it does.
abbrev pub OutputIsNeverRefused : Type 0
OutputIsNeverRefused =
    (defs : Definitions) (before : System) (C : Component) (after : System) (place : ℕ) (l : Label) (C' : Component) →
    Speaks defs C place l C' →
    (heard : List (ℕ × ℕ)) × (T : System) × Multicasts defs (before ++ C ∷ after) (length before) place heard l T

-- An output that nobody can receive is a step that changes its sender alone.
abbrev pub OutputNeedsNoReceiver : Type 0
OutputNeedsNoReceiver =
    (defs : Definitions) (before : System) (C : Component) (after : System) (place : ℕ) (l : Label) (C' : Component) →
    Speaks defs C place l C' → All (λ D. ins defs D l ≡ 0) before → All (λ D. ins defs D l ≡ 0) after →
    Multicasts defs (before ++ C ∷ after) (length before) place [] l (before ++ C' ∷ after)

-- ---- Substitution and bindings: the values may as well be kept beside a process as be put into it.

-- A predicate into which values are put is true where it is true with these values for its variables.
abbrev pub PutPredicateIsBound : Type 0
PutPredicateIsBound =
    (bs : Values) (p : Pred) (own other : Entries) → sat (put_pred bs p) own other [] ≡ sat p own other bs

-- It closes to the same predicate.
abbrev pub PutPredicateCloses : Type 0
PutPredicateCloses = (bs : Values) (p : Pred) (own : Entries) → close (put_pred bs p) own [] ≡ close p own bs

-- An expression likewise.
abbrev pub PutExpressionIsBound : Type 0
PutExpressionIsBound = (bs : Values) (e : Expr) (own : Entries) → expr_val (put_expr bs e) own [] ≡ expr_val e own bs

-- Values put one after another are all put at once, where those put first come first.
abbrev pub PuttingTwice : Type 0
PuttingTwice = (first second : Values) (P : Process) → put second (put first P) ≡ put (first ++ second) P

-- No values change nothing.
abbrev pub PuttingNothing : Type 0
PuttingNothing = (P : Process) → put [] P ≡ P
