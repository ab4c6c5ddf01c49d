-- Actors with clocks, whatever they do: their paths, their network, and the merge of their logs. An
-- actor is named by its number, and a link has one sender and one receiver.
use Rattle.std.specs.Prelude.{◌≡◌, ◌≢◌, ℕ, ◌<◌, ◌≤◌, ◌==◌, List, [], ◌∷◌, ◌++◌, cond}
use Rattle.abc_packet.specs.declared.stamped.Stamped.{Stamped}
use Rattle.abc_packet.specs.declared.log.Entry.{Entry}
use Rattle.abc_packet.specs.Outlets.{sent_on}
use Rattle.abc_network_laws.specs.Kept.{Each}
use Rattle.abc_logs.specs.MicroSteps.{taken_by}

-- f, with x at a.
abbrev pub put : {X : Type 0} → (ℕ → X) → ℕ → X → ℕ → X
put f a x b = cond (b == a) x (f b)

-- Machines with states S and labels L.
pub record Machine (S L : Type 0) : Type 1 where
  -- the clock of a state
  pub now : S → ℕ
  -- the ends of a link
  pub from : ℕ → ℕ
  pub into : ℕ → ℕ
  -- an actor may go from this state, with this entry and these packets sent, to that state
  pub Step : ℕ → S → Entry L → List (ℕ × Stamped L) → S → Type 0

-- The packets that an entry takes from a link.
abbrev pub takes : {L : Type 0} → ℕ → Entry L → List (Stamped L)
takes l e = sent_on l (taken_by e.deed)

-- What each step keeps to.
pub record IsClocked {S L : Type 0} (m : Machine S L) : Type 0 where
  -- the clock rises to that of the entry,
  pub rises : (a : ℕ) (s : S) (e : Entry L) (o : List (ℕ × Stamped L)) (s' : S) →
      m.Step a s e o s' → m.now s < e.clock
  pub after : (a : ℕ) (s : S) (e : Entry L) (o : List (ℕ × Stamped L)) (s' : S) →
      m.Step a s e o s' → m.now s' ≡ e.clock
  -- above that of a packet that is taken,
  pub later : (a : ℕ) (s : S) (e : Entry L) (o : List (ℕ × Stamped L)) (s' : S) →
      m.Step a s e o s' → (l : ℕ) → Each (λ p. p.clock < e.clock) (takes l e)
  -- and is that of the packets sent
  pub stamped : (a : ℕ) (s : S) (e : Entry L) (o : List (ℕ × Stamped L)) (s' : S) →
      m.Step a s e o s' → Each (λ x. x.1.clock ≡ e.clock) o
  -- packets are sent on links that start here, and taken from links that end here
  pub starts : (a : ℕ) (s : S) (e : Entry L) (o : List (ℕ × Stamped L)) (s' : S) →
      m.Step a s e o s' → (l : ℕ) → m.from l ≢ a → sent_on l o ≡ []
  pub ends : (a : ℕ) (s : S) (e : Entry L) (o : List (ℕ × Stamped L)) (s' : S) →
      m.Step a s e o s' → (l : ℕ) → m.into l ≢ a → takes l e ≡ []

-- The entries are, in order, steps of actor a from a state to a state, which send o.
abbrev pub Walk : {S L : Type 0} → Machine S L → ℕ → S → List (Entry L) → List (ℕ × Stamped L) →
    S → Type 0
Walk m a s [] o s' = (o ≡ []) × (s' ≡ s)
Walk {S} {L} m a s (e ∷ es) o s'' =
    (s' : S) × (now : List (ℕ × Stamped L)) × (later : List (ℕ × Stamped L)) × (o ≡ now ++ later)
    × m.Step a s e now s' × Walk m a s' es later s''

-- A network: the actors' states, and the links' lists.
pub record Web (S L : Type 0) : Type 0 where
  pub states : ℕ → S
  pub links : ℕ → List (Stamped L)

-- Actor x.0 makes the entry x.1.
pub record WebStep {S L : Type 0} (m : Machine S L) (n : Web S L) (x : ℕ × Entry L)
    (n' : Web S L) : Type 0 where
  pub sends : List (ℕ × Stamped L)
  pub step : m.Step x.0 (n.states x.0) x.1 sends (n'.states x.0)
  pub others : (b : ℕ) → b ≢ x.0 → n'.states b ≡ n.states b
  pub links : (l : ℕ) → (q : List (Stamped L)) × (n.links l ≡ takes l x.1 ++ q)
      × (n'.links l ≡ q ++ sent_on l sends)

-- A run: one step after the other.
abbrev pub WebRun : {S L : Type 0} → Machine S L → Web S L → List (ℕ × Entry L) → Web S L → Type 0
WebRun m n [] n' = n' ≡ n
WebRun {S} {L} m n (x ∷ xs) n'' = (n' : Web S L) × WebStep m n x n' × WebRun m n' xs n''

-- The entries of all logs, those of each log in order, and no clock falls.
abbrev pub Merged : {L : Type 0} → (ℕ → List (Entry L)) → List (ℕ × Entry L) → Type 0
Merged logs [] = (a : ℕ) → logs a ≡ []
Merged {L} logs (x ∷ xs) =
    (es : List (Entry L)) × (logs x.0 ≡ x.1 ∷ es)
    × ((b : ℕ) (f : Entry L) (fs : List (Entry L)) → logs b ≡ f ∷ fs → x.1.clock ≤ f.clock)
    × Merged (put logs x.0 es) xs

-- The entries of actor a.
abbrev pub of_actor : {L : Type 0} → ℕ → List (ℕ × Entry L) → List (Entry L)
of_actor a [] = []
of_actor a (x ∷ xs) = cond (a == x.0) (x.1 ∷ of_actor a xs) (of_actor a xs)
