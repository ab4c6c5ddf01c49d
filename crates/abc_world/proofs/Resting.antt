-- What an actor can do, found kind by kind.
use Rattle.std.proofs.Common.{◌≡◌, ℕ, ◌+◌, ◌<◌, ◌≤◌, List, [], ◌∷◌, ◌++◌, length, map, Bool, true, false, sym, subst, arith}
use Rattle.std.specs.Prelude.{MatchBool, Some, slice_get}
use Rattle.std.proofs.lemmas.Option.{slice_get_within}
use Rattle.abc_packet.specs.declared.stamped.Stamped.{Stamped}
use Rattle.abc_shape.specs.declared.layout.Layout.{Layout}
use Rattle.abc_body.specs.Meanings.{Meaning}
use Rattle.abc_number.specs.Counter.{Counter}
use Rattle.abc_network.specs.Agents.{AgentState}
use Rattle.abc_network.specs.Networks.{Actor}
use Rattle.abc_network.specs.Nodes.{NodeMachine}
use Rattle.abc_history.specs.Nodes.{SeenNode}
use Rattle.abc_agent.specs.Members.{Member}
use Rattle.abc_agent.specs.Conditions.{CanAsk, CanTake, CanTurn}
use Rattle.abc_schedule.proofs.Places.{get-there}
use Rattle.abc_world.specs.declared.event.Event.{Event}
use Rattle.abc_world.specs.declared.event.EventKind.{EventKind}
use Rattle.abc_world.specs.declared.event.EventKind.TheVariants.{Ask, Arrive, Take, Turn, Pass}
use Rattle.abc_world.specs.Crews.{AreNodes}
use Rattle.abc_world.specs.Enabled.{Enabled}
use Rattle.abc_world.specs.Listing.{Listed, CanMake, Rests, AreLinksInto, AreEmpty}
use Rattle.abc_world.specs.Runnings.{Running, rules_of, net_of, node_in}
use Rattle.abc_world.specs.Teams.{AreAgents, actor_in}
use Rattle.abc_world.proofs.Lacking.{from-map}
use Rattle.abc_world.proofs.Listings.{listed-if, listed-then, listed-as}
use Rattle.abc_world.proofs.Networked.{running, map-there, nothing-past, passes-not}

module _ {B L S : Type 0} (m : Meaning B L) (machine : Layout → NodeMachine L S) (blank : S) (p : Layout) (limit pick : ℕ)
    (agents : List (Member B L)) (nodes : List (SeenNode S L)) (links : List (List (Stamped L))) (numbers : Counter)
    (actor : ℕ) (ins : List ℕ) where
  -- The network, and whether its actor can do so.
  abbrev here : Running B L S
  here = running p limit pick agents nodes links numbers

  abbrev Can : EventKind → Type 0
  Can kind = Enabled m (rules_of machine blank p limit pick) kind actor (net_of agents nodes links numbers)

  -- Nothing arrives where all links into the actor are empty.
  none-comes : AreLinksInto p actor ins → AreEmpty here ins (length ins) → (link : ℕ) → Can (Arrive link) → ⊥
  none-comes into empty link h =
      let found = into.all link h.0.0 h.0.1 in
      empty found.0 link (slice_get_within ins found.0 link found.1) found.1 h.1.0 h.1.1 h.1.2

  -- An agent rests where it can do none of what agents do,
  agent-rests : actor < p.agents → AreLinksInto p actor ins → (Can Ask → ⊥) → AreEmpty here ins (length ins) → (Can Take → ⊥) →
      (Can Turn → ⊥) → Rests m machine blank here actor
  agent-rests below into asks empty takes turns Ask h = asks h
  agent-rests below into asks empty takes turns (Arrive link) h = none-comes into empty link h
  agent-rests below into asks empty takes turns Take h = takes h
  agent-rests below into asks empty takes turns Turn h = turns h
  agent-rests below into asks empty takes turns Pass h =
      let e : p.agents + h.0 ≡ actor = h.2 in
      absurd (omega arith)

  -- which is said of each by the agent itself.
  agent-can : (Is : AgentState B L → Type 0) (is : Bool) → actor < length agents →
      MatchBool is ((a : Member B L) → slice_get agents actor ≡ Some a → Is a.actor.state)
      ((a : Member B L) → slice_get agents actor ≡ Some a → Is a.actor.state → ⊥) →
      MatchBool is ((a : Actor (AgentState B L) L) × (slice_get (map actor_in agents) actor ≡ Some a) × Is a.state)
      ((a : Actor (AgentState B L) L) × (slice_get (map actor_in agents) actor ≡ Some a) × Is a.state → ⊥)
  agent-can Is true there h =
      let found = get-there agents actor there in
      (found.0.actor, map-there actor_in agents actor found.0 found.1, h found.0 found.1)
  agent-can Is false there h = λ got.
      let found = from-map actor_in agents actor got.0 got.1 in
      h found.0 found.1 (subst (λ (v : Actor (AgentState B L) L). Is v.state) (sym found.2) got.2)

  pub agent-listed : (asks takes turns : Bool) (e0 e1 e2 e3 e4 : List Event) → AreAgents p pick agents → actor < p.agents →
      AreLinksInto p actor ins →
      MatchBool asks ((a : Member B L) → slice_get agents actor ≡ Some a → CanAsk m a.actor.state)
      ((a : Member B L) → slice_get agents actor ≡ Some a → CanAsk m a.actor.state → ⊥) →
      MatchBool takes ((a : Member B L) → slice_get agents actor ≡ Some a → CanTake a.actor.state)
      ((a : Member B L) → slice_get agents actor ≡ Some a → CanTake a.actor.state → ⊥) →
      MatchBool turns ((a : Member B L) → slice_get agents actor ≡ Some a → CanTurn a.actor.state)
      ((a : Member B L) → slice_get agents actor ≡ Some a → CanTurn a.actor.state → ⊥) →
      MatchBool asks (e1 ≡ e0 ++ record { actor = actor; kind = Ask } ∷ []) (e1 ≡ e0) →
      Listed (CanMake m machine blank here) (AreEmpty here ins (length ins)) e1 e2 →
      MatchBool takes (e3 ≡ e2 ++ record { actor = actor; kind = Take } ∷ []) (e3 ≡ e2) →
      MatchBool turns (e4 ≡ e3 ++ record { actor = actor; kind = Turn } ∷ []) (e4 ≡ e3) →
      Listed (CanMake m machine blank here) (Rests m machine blank here actor) e0 e4
  agent-listed asks takes turns e0 e1 e2 e3 e4 are below into can-ask can-take can-turn g1 comes g3 g4 =
      let Is = CanMake m machine blank here in
      let Empty = AreEmpty here ins (length ins) in
      let many = are.many in
      let there : actor < length agents = omega arith in
      listed-as Is (((Can Ask → ⊥) × Empty) × ((Can Take → ⊥) × (Can Turn → ⊥))) (Rests m machine blank here actor) e0 e4
      (λ h. agent-rests below into h.0.0 h.0.1 h.1.0 h.1.1)
      (listed-then Is ((Can Ask → ⊥) × Empty) ((Can Take → ⊥) × (Can Turn → ⊥)) e0 e2 e4
      (listed-then Is (Can Ask → ⊥) Empty e0 e1 e2
      (listed-if Is (Can Ask → ⊥) asks (record { actor = actor; kind = Ask }) e0 e1 (agent-can (CanAsk m) asks there can-ask) g1) comes)
      (listed-then Is (Can Take → ⊥) (Can Turn → ⊥) e2 e3 e4
      (listed-if Is (Can Take → ⊥) takes (record { actor = actor; kind = Take }) e2 e3 (agent-can CanTake takes there can-take) g3)
      (listed-if Is (Can Turn → ⊥) turns (record { actor = actor; kind = Turn }) e3 e4 (agent-can CanTurn turns there can-turn) g4)))

  -- No agent has a number past theirs,
  no-agent : AreAgents p pick agents → p.agents ≤ actor → (Is : AgentState B L → Type 0) →
      (a : Actor (AgentState B L) L) × (slice_get (map actor_in agents) actor ≡ Some a) × Is a.state → ⊥
  no-agent are past Is h =
      let found = from-map actor_in agents actor h.0 h.1 in
      nothing-past agents actor p.agents found.0 are.many past found.1

  -- so a node rests where it can't pass.
  node-rests : AreAgents p pick agents → p.agents ≤ actor → AreLinksInto p actor ins → AreEmpty here ins (length ins) →
      (Can Pass → ⊥) → Rests m machine blank here actor
  node-rests are past into empty passes Ask h = no-agent are past (CanAsk m) h
  node-rests are past into empty passes (Arrive link) h = none-comes into empty link h
  node-rests are past into empty passes Take h = no-agent are past CanTake h
  node-rests are past into empty passes Turn h = no-agent are past CanTurn h
  node-rests are past into empty passes Pass h = passes h

module _ {X B L S : Type 0} (f : X → SeenNode S L) (m : Meaning B L) (machine : Layout → NodeMachine L S) (blank : S) (p : Layout)
    (limit pick : ℕ) (agents : List (Member B L)) (xs : List X) (links : List (List (Stamped L))) (numbers : Counter)
    (actor k : ℕ) (ins : List ℕ) where
  -- What a node says of itself.
  node-can : (is : Bool) → AreNodes p (map f xs) → p.agents + k ≡ actor → k < length xs →
      MatchBool is ((n : X) → slice_get xs k ≡ Some n → (machine (f n).plan).can_pass (f n).actor.state)
      ((n : X) → slice_get xs k ≡ Some n → (machine (f n).plan).can_pass (f n).actor.state → ⊥) →
      MatchBool is (Can m machine blank p limit pick agents (map f xs) links numbers actor ins Pass)
      (Can m machine blank p limit pick agents (map f xs) links numbers actor ins Pass → ⊥)
  node-can true are is there h =
      let found = get-there xs k there in
      let n = f found.0 in
      let at = map-there f xs k found.0 found.1 in
      let plan = (are.each k n at).0 in (
        k,
        n.actor,
        is,
        map-there node_in (map f xs) k n at,
        subst (λ v. (machine v).can_pass n.actor.state) plan (h found.0 found.1),
      )
  node-can false are is there h = λ got.
      let found = from-map node_in (map f xs) got.0 got.1 got.3 in
      passes-not f machine p xs actor k are is h got.0 found.0 got.2 found.1
      (subst (λ (v : Actor S L). (machine p).can_pass v.state) (sym found.2) got.4)

  pub node-listed : (passes : Bool) (e0 e1 e2 : List Event) → AreAgents p pick agents → AreNodes p (map f xs) → p.agents ≤ actor →
      p.agents + k ≡ actor → k < length xs → AreLinksInto p actor ins →
      MatchBool passes ((n : X) → slice_get xs k ≡ Some n → (machine (f n).plan).can_pass (f n).actor.state)
      ((n : X) → slice_get xs k ≡ Some n → (machine (f n).plan).can_pass (f n).actor.state → ⊥) →
      Listed (CanMake m machine blank (running p limit pick agents (map f xs) links numbers))
      (AreEmpty (running p limit pick agents (map f xs) links numbers) ins (length ins)) e0 e1 →
      MatchBool passes (e2 ≡ e1 ++ record { actor = actor; kind = Pass } ∷ []) (e2 ≡ e1) →
      Listed (CanMake m machine blank (running p limit pick agents (map f xs) links numbers))
      (Rests m machine blank (running p limit pick agents (map f xs) links numbers) actor) e0 e2
  node-listed passes e0 e1 e2 agents-are are past is there into can comes grown =
      let n = running p limit pick agents (map f xs) links numbers in
      let Is = CanMake m machine blank n in
      let Empty = AreEmpty n ins (length ins) in
      let Not = Can m machine blank p limit pick agents (map f xs) links numbers actor ins Pass → ⊥ in
      listed-as Is (Empty × Not) (Rests m machine blank n actor) e0 e2
      (λ h. node-rests m machine blank p limit pick agents (map f xs) links numbers actor ins agents-are past into h.0 h.1)
      (listed-then Is Empty Not e0 e1 e2 comes
      (listed-if Is Not passes (record { actor = actor; kind = Pass }) e1 e2 (node-can passes are is there can) grown))
