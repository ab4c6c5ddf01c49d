-- The state of a network as the law has it: the states of its actors by number, and its links.
use Rattle.std.proofs.Common.{◌≡◌, ℕ, zero, suc, ◌+◌, ◌≤◌, List, [], ◌∷◌, ◌++◌, length}
use Rattle.std.proofs.Common.{get_or, map, refl, sym, ap, ◌∙◌, subst, arith}
use Rattle.std.specs.Prelude.{Some, slice_get}
use Rattle.std.proofs.lemmas.Option.{get_or_from_slice_get}
use Rattle.abc_packet.specs.declared.log.Entry.{Entry}
use Rattle.abc_shape.specs.Plans.{link_count}
use Rattle.abc_network.specs.Agents.{AgentState}
use Rattle.abc_network.specs.Networks.{Actor, Net, Rules, Swaps}
use Rattle.abc_network_laws.proofs.Lists.{get-more}
use Rattle.abc_network_laws.proofs.Simulates.{length-map}
use Rattle.abc_logs.specs.Merges.{log_of}
use Rattle.abc_schedule.specs.Schedules.{log_in, logs_of}
use Rattle.abc_schedule.specs.Machines.{Web}
use Rattle.abc_schedule.proofs.Actors.{Part, AnAgent, ANode, Nobody}
use Rattle.abc_schedule.proofs.Places.{get-past, get-map, get-right, length-both, lists-same}
use Rattle.abc_schedule.proofs.Places.{swap-map, swap-left, swap-right}

-- An actor by its parts.
actor-same : {S L : Type 0} (a b : Actor S L) → a.state ≡ b.state → a.clock ≡ b.clock → a.log ≡ b.log → a ≡ b
actor-same {S} {L} a b e f g =
    let make : S → ℕ → List (Entry L) → Actor S L = (λ s c l. record { state = s; clock = c; log = l }) in
    ap (λ s. make s a.clock a.log) e ∙ (ap (λ c. make b.state c a.log) f ∙ ap (λ l. make b.state b.clock l) g)

module _ {B L N : Type 0} where
  -- An agent and a node as actors.
  abbrev pub as_agent : Actor (AgentState B L) L → Actor (Part B L N) L
  as_agent a = record { state = AnAgent a.state; clock = a.clock; log = a.log }

  -- A node as one.
  abbrev pub as_node : Actor N L → Actor (Part B L N) L
  as_node a = record { state = ANode a.state; clock = a.clock; log = a.log }

  -- There are no others.
  abbrev pub nobody : Actor (Part B L N) L
  nobody = record { state = Nobody; clock = 0; log = [] }

  -- All actors, by number.
  abbrev pub everyone : Net B L N → List (Actor (Part B L N) L)
  everyone w = map as_agent w.agents ++ map as_node w.nodes

  -- The network by numbers.
  abbrev pub view : Net B L N → Web (Actor (Part B L N) L) L
  view w = record {
    states = λ a. get_or (everyone w) a nobody;
    links = λ l. get_or w.links l [];
  }

  -- An agent stands at its number,
  pub agent-at : (w : Net B L N) (i : ℕ) (a : Actor (AgentState B L) L) → slice_get w.agents i ≡ Some a →
      get_or (everyone w) i nobody ≡ as_agent a
  agent-at w i a h =
      get_or_from_slice_get (everyone w) i (as_agent a) nobody
      (get-more (map as_agent w.agents) (map as_node w.nodes) i (as_agent a) (get-map as_agent w.agents i a h))

  -- a node behind the agents,
  pub node-at : (w : Net B L N) (agents k : ℕ) (a : Actor N L) → length w.agents ≡ agents →
      slice_get w.nodes k ≡ Some a → get_or (everyone w) (agents + k) nobody ≡ as_node a
  node-at w agents k a many h =
      let long = length-map as_agent w.agents in
      get_or_from_slice_get (everyone w) (agents + k) (as_node a) nobody
      (subst (λ v. slice_get (everyone w) (v + k) ≡ Some (as_node a)) (long ∙ many)
      (get-right (map as_agent w.agents) (map as_node w.nodes) k (as_node a) (get-map as_node w.nodes k a h)))

  -- and nobody behind the nodes.
  pub nobody-at : (w : Net B L N) (agents nodes a : ℕ) → length w.agents ≡ agents → length w.nodes ≡ nodes →
      agents + nodes ≤ a → get_or (everyone w) a nobody ≡ nobody
  nobody-at w agents nodes a many more h =
      let one = length-map as_agent w.agents in
      let two = length-map as_node w.nodes in
      let both = length-both (map as_agent w.agents) (map as_node w.nodes) in
      get-past nobody (everyone w) a (omega arith)

  -- A change of an agent or of a node is one of an actor.
  pub agent-swaps : (w w' : Net B L N) (i : ℕ) (old new : Actor (AgentState B L) L) →
      Swaps i old new w.agents w'.agents → w'.nodes ≡ w.nodes →
      Swaps i (as_agent old) (as_agent new) (everyone w) (everyone w')
  agent-swaps w w' i old new s same =
      subst (λ v. Swaps i (as_agent old) (as_agent new) (everyone w) (map as_agent w'.agents ++ map as_node v))
      (sym same)
      (swap-left i (as_agent old) (as_agent new) (map as_agent w.agents) (map as_agent w'.agents)
      (map as_node w.nodes) (swap-map as_agent i old new w.agents w'.agents s))

  -- The same of a node.
  pub node-swaps : (w w' : Net B L N) (agents k : ℕ) (old new : Actor N L) → length w.agents ≡ agents →
      Swaps k old new w.nodes w'.nodes → w'.agents ≡ w.agents →
      Swaps (agents + k) (as_node old) (as_node new) (everyone w) (everyone w')
  node-swaps w w' agents k old new many s same =
      let long = length-map as_agent w.agents in
      subst (λ v. Swaps (agents + k) (as_node old) (as_node new) (everyone w) (map as_agent v ++ map as_node w'.nodes))
      (sym same)
      (subst (λ v. Swaps (v + k) (as_node old) (as_node new) (everyone w)
      (map as_agent w.agents ++ map as_node w'.nodes)) (long ∙ many)
      (swap-right k (as_node old) (as_node new) (map as_node w.nodes) (map as_node w'.nodes)
      (map as_agent w.agents) (swap-map as_node k old new w.nodes w'.nodes s)))

-- The logs of all actors by number.
node-logs : (B : Type 0) {L N : Type 0} (ys : List (Actor N L)) (a : ℕ) →
    log_of (map log_in ys) a ≡ (get_or (map (as_node {B = B}) ys) a nobody).log
node-logs B [] a = refl
node-logs B (y ∷ ys) zero = refl
node-logs B (y ∷ ys) (suc a) = node-logs B ys a

-- The logs of all.
all-logs : {B L N : Type 0} (xs : List (Actor (AgentState B L) L)) (ys : List (Actor N L)) (a : ℕ) →
    log_of (map log_in xs ++ map log_in ys) a ≡ (get_or (map as_agent xs ++ map as_node ys) a nobody).log
all-logs {B} [] ys a = node-logs B ys a
all-logs (x ∷ xs) ys zero = refl
all-logs (x ∷ xs) ys (suc a) = all-logs xs ys a

module _ {B L N : Type 0} where
  pub log-at : (w : Net B L N) (a : ℕ) → log_of (logs_of w) a ≡ ((view w).states a).log
  log-at w a = all-logs w.agents w.nodes a

  -- Two views of one network.
  pub record Same (n v : Web (Actor (Part B L N) L) L) : Type 0 where
    pub states : (a : ℕ) → n.states a ≡ v.states a
    pub links : (l : ℕ) → n.links l ≡ v.links l

  -- A network has what its plan says.
  pub record Sized (r : Rules L N) (w : Net B L N) : Type 0 where
    pub agents : length w.agents ≡ r.plan.agents
    pub nodes : length w.nodes ≡ r.plan.nodes
    pub links : length w.links ≡ link_count r.plan

  -- An agent and a node by what they are as actors.
  agent-same : (a b : Actor (AgentState B L) L) → as_agent {N = N} a ≡ as_agent {N = N} b → a ≡ b
  agent-same a b h =
      let part : (as_agent {N = N} a).state ≡ (as_agent {N = N} b).state = ap (λ v. v.state) h in
      actor-same a b (cc) (ap (λ v. v.clock) h) (ap (λ v. v.log) h)

  -- So is a node.
  node-same : (a b : Actor N L) → as_node {B = B} a ≡ as_node {B = B} b → a ≡ b
  node-same a b h =
      let part : (as_node {B = B} a).state ≡ (as_node {B = B} b).state = ap (λ v. v.state) h in
      actor-same a b (cc) (ap (λ v. v.clock) h) (ap (λ v. v.log) h)

  -- What looks the same is the same, but for the numbers drawn.
  pub view-same : (r : Rules L N) (w w' : Net B L N) → Sized r w → Sized r w' → Same (view w) (view w') →
      (w'.agents ≡ w.agents) × (w'.nodes ≡ w.nodes) × (w'.links ≡ w.links)
  view-same r w w' s t h = (
    lists-same w'.agents w.agents (t.agents ∙ sym s.agents)
        (λ i a b at got. agent-same a b (sym (agent-at w' i a at) ∙ (sym (h.states i) ∙ agent-at w i b got))),
    lists-same w'.nodes w.nodes (t.nodes ∙ sym s.nodes)
        (λ k a b at got. node-same a b (sym (node-at w' r.plan.agents k a t.agents at)
        ∙ (sym (h.states (r.plan.agents + k)) ∙ node-at w r.plan.agents k b s.agents got))),
    lists-same w'.links w.links (t.links ∙ sym s.links)
        (λ l a b at got. sym (get_or_from_slice_get w'.links l a [] at)
        ∙ (sym (h.links l) ∙ get_or_from_slice_get w.links l b [] got)),
  )
