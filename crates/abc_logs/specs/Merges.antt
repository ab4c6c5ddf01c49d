-- The merge of logs: all entries of all actors in one order.
use Rattle.std.specs.Prelude.{◌≡◌, ◌⊎◌, ℕ, zero, suc, ◌-◌, ◌<◌, List, [], ◌∷◌, length}
use Rattle.std.specs.Prelude.{nat_lt, if◌then◌else◌}
use Rattle.abc_packet.specs.declared.log.Entry.{Entry}
use Rattle.abc_network.specs.Networks.{Event, AgentDid, NodeDid}

-- The log of an actor; empty where there is no such actor.
abbrev pub log_of : {L : Type 0} → List (List (Entry L)) → ℕ → List (Entry L)
log_of [] actor = []
log_of (log ∷ logs) zero = log
log_of (log ∷ logs) (suc actor) = log_of logs actor

-- The entries at one place of a log: one, or none where the log ends before.
abbrev pub entries_at : {L : Type 0} → List (Entry L) → ℕ → List (Entry L)
entries_at [] place = []
entries_at (e ∷ entries) zero = e ∷ []
entries_at (e ∷ entries) (suc place) = entries_at entries place

-- The clock of an entry, which is named by its actor and its place in that actor's log; 0 where
-- there is none.
abbrev pub first_clock : {L : Type 0} → List (Entry L) → ℕ
first_clock [] = 0
first_clock (e ∷ entries) = e.clock

abbrev pub clock_at : {L : Type 0} → List (List (Entry L)) → ℕ × ℕ → ℕ
clock_at logs x = first_clock (entries_at (log_of logs x.0) x.1)

-- One entry stands before another: by clock, then by actor, then by place.
abbrev pub IsBefore : {L : Type 0} → List (List (Entry L)) → ℕ × ℕ → ℕ × ℕ → Type 0
IsBefore logs x y =
    (clock_at logs x < clock_at logs y)
    ⊎ ((clock_at logs x ≡ clock_at logs y) × ((x.0 < y.0) ⊎ ((x.0 ≡ y.0) × (x.1 < y.1))))

-- It stands before all of these.
abbrev pub IsBeforeAll : {L : Type 0} → List (List (Entry L)) → ℕ × ℕ → List (ℕ × ℕ) → Type 0
IsBeforeAll logs x [] = Unit {0}
IsBeforeAll logs x (y ∷ ys) = IsBefore logs x y × IsBeforeAll logs x ys

-- They are in order, none twice.
abbrev pub AreInOrder : {L : Type 0} → List (List (Entry L)) → List (ℕ × ℕ) → Type 0
AreInOrder logs [] = Unit {0}
AreInOrder logs (x ∷ xs) = IsBeforeAll logs x xs × AreInOrder logs xs

-- This entry is among them.
abbrev pub Has : List (ℕ × ℕ) → ℕ → ℕ → Type 0
Has [] actor place = ⊥
Has (x ∷ xs) actor place = ((x.0 ≡ actor) × (x.1 ≡ place)) ⊎ Has xs actor place

-- They are entries of these logs.
abbrev pub AreOf : {L : Type 0} → List (List (Entry L)) → List (ℕ × ℕ) → Type 0
AreOf logs [] = Unit {0}
AreOf logs (x ∷ xs) = (x.1 < length (log_of logs x.0)) × AreOf logs xs

-- The merge of logs: each entry of each log once, ordered by clock, then actor, then place.
pub record IsMerge {L : Type 0} (logs : List (List (Entry L))) (merged : List (ℕ × ℕ)) :
    Type 0 where
  pub all : (actor place : ℕ) → place < length (log_of logs actor) → Has merged actor place
  pub only : AreOf logs merged
  pub ordered : AreInOrder logs merged

-- The event of an entry: the first actors are the agents, the others the nodes.
abbrev pub event_of : {L : Type 0} → ℕ → ℕ → Entry L → Event L
event_of agents actor e =
    if nat_lt actor agents then AgentDid actor e else NodeDid (actor - agents) e

-- Entries at places, read as events.
abbrev pub events_of : {L : Type 0} → ℕ → ℕ → List (Entry L) → List (Event L) → List (Event L)
events_of agents actor [] rest = rest
events_of agents actor (e ∷ entries) rest =
    event_of agents actor e ∷ events_of agents actor entries rest

abbrev pub events_at : {L : Type 0} → ℕ → List (List (Entry L)) → List (ℕ × ℕ) → List (Event L)
events_at agents logs [] = []
events_at agents logs (x ∷ xs) =
    events_of agents x.0 (entries_at (log_of logs x.0) x.1) (events_at agents logs xs)
