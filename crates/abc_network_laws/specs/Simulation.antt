-- Every run of a network is a run of the one-step multicast of its bodies.
use Rattle.std.specs.Prelude.{◌≡◌, ℕ, ◌+◌, ◌≤◌, List, [], ◌∷◌, length, Option, Some}
use Rattle.std.specs.Prelude.{map, take, slice_get}
use Rattle.abc_body.specs.Meanings.{Meaning}
use Rattle.abc_body.specs.Multicasts.{Runs}
use Rattle.abc_network.specs.Agents.{AgentState}
use Rattle.abc_network.specs.Networks.{Net, Actor, Event, Rules, Netrun, start_of}
use Rattle.abc_network.specs.Numbering.{Turn, turns_of, numbers_of, places_of, rows_of}
use Rattle.abc_network.specs.Numbering.{taken_numbers, choices_of}
use Rattle.abc_network_laws.specs.Moves.{EachLives, AtLeast}

abbrev pub places_at : {B L : Type 0} → Actor (AgentState B L) L → List (Option ℕ)
places_at a = places_of a.log

abbrev pub body_at : {B L : Type 0} → Actor (AgentState B L) L → B
body_at a = a.state.body

abbrev pub front_at : {B L : Type 0} → Actor (AgentState B L) L → ℕ
front_at a = a.state.front

-- The list counts on from k.
abbrev pub Counts : ℕ → List ℕ → Type 0
Counts k [] = Unit {0}
Counts k (n ∷ ns) = (n ≡ k + 1) × Counts (k + 1) ns

-- What was said and heard at the first k numbers, as choices, is a run of the multicast from the
-- bodies on.
abbrev pub RunsUpTo : {B L : Type 0} → Meaning B L → List B → List (Turn L) →
    List (List (Option ℕ)) → ℕ → Type 0
RunsUpTo {B} m bodies ts columns k =
    (bodies' : List B) × Runs m bodies (choices_of (take k ts) (rows_of k columns)) bodies'

-- What a run of a network has to do with the multicast of its bodies.
pub record Simulated {B L N : Type 0} (m : Meaning B L) (bodies : List B) (es : List (Event L))
    (w : Net B L N) : Type 0 where
  -- the numbers turned are 1, 2 and so on, each by one sender
  pub numbered : Counts 0 (numbers_of es)
  -- each agent has taken or turned the numbers 1, 2 and so on up to its front, in this order
  pub in_order : (i : ℕ) (a : Actor (AgentState B L) L) → slice_get w.agents i ≡ Some a →
      Counts 0 (taken_numbers a.log)
  -- and has a place for each
  pub fronts : map (λ ps. length ps) (map places_at w.agents) ≡ map front_at w.agents
  -- each agent has made its own moves at these numbers, as its body allows
  pub own : EachLives m 0 (turns_of es) bodies (map places_at w.agents) (map body_at w.agents)
  -- up to each number that all fronts have reached, the moves taken by number are a run of the
  -- multicast
  pub run : (k : ℕ) → AtLeast k (map places_at w.agents) → k ≤ length (turns_of es) →
      RunsUpTo m bodies (turns_of es) (map places_at w.agents) k

-- Every run of the network from its start is simulated.
abbrev pub Simulates : {B L N : Type 0} → Meaning B L → Rules L N → Type 0
Simulates {B} {L} {N} m r =
    (bodies : List B) (es : List (Event L)) (w : Net B L N) → Netrun m r (start_of r bodies) es w →
    Simulated m bodies es w
