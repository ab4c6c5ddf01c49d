-- Where an actor can't make what an event of a kind asks for, the network has no such event.
use Rattle.std.proofs.Common.{◌≡◌, ℕ, zero, suc, List, [], ◌∷◌, map, get_or, refl, sym, ap, ◌∙◌, subst}
use Rattle.std.specs.Prelude.{Some, slice_get, unwrap_or}
use Rattle.std.proofs.lemmas.Option.{unwrap_or-slice_get}
use Rattle.abc_packet.specs.declared.packets.Packet.{Packet}
use Rattle.abc_packet.specs.declared.stamped.Stamped.{Stamped}
use Rattle.abc_packet.specs.declared.log.Deed.{Deed}
use Rattle.abc_packet.specs.declared.log.Deed.TheVariants.{Asked, Arrived, Took, Turned, Passed, Stray}
use Rattle.abc_shape.specs.declared.layout.Layout.{Layout}
use Rattle.abc_shape.specs.Plans.{IsLink, actor_of}
use Rattle.abc_number.specs.Counter.{Counter}
use Rattle.abc_body.specs.Meanings.{Meaning}
use Rattle.abc_wait.specs.Waits.{item_beside}
use Rattle.abc_network.specs.Agents.{AgentState, AgentDoes, Granted}
use Rattle.abc_network.specs.Networks.{Net, Actor, Event, AgentDid, NodeDid, NetStep, FirstTaken, EndsAtAgent, EndsAtNode}
use Rattle.abc_network.specs.Nodes.{NodeMachine}
use Rattle.abc_network_laws.proofs.Lists.{swap-old}
use Rattle.abc_history.specs.Nodes.{SeenNode}
use Rattle.abc_agent.specs.Members.{Member, IsAsk, IsTake, IsTurn}
use Rattle.abc_agent.specs.Conditions.{CanAsk, CanTake, CanTurn}
use Rattle.abc_agent.specs.Ways.{way_of}
use Rattle.abc_world.specs.declared.event.EventKind.{EventKind}
use Rattle.abc_world.specs.declared.event.EventKind.TheVariants.{Ask, Arrive, Take, Turn, Pass}
use Rattle.abc_world.specs.Kinds.{IsPass, ArrivesOn}
use Rattle.abc_world.specs.Teams.{actor_in}
use Rattle.abc_world.specs.Enabled.{Enabled}
use Rattle.abc_world.specs.Runnings.{rules_of, net_of, node_in, IsEvent, Lacks, IsNodeDeed, AreNodeTables}

-- What stands in a list whose items were changed one by one comes from what stood there.
pub from-map : {X Y : Type 0} (f : X → Y) (xs : List X) (i : ℕ) (y : Y) → slice_get (map f xs) i ≡ Some y →
    (x : X) × (slice_get xs i ≡ Some x) × (f x ≡ y)
from-map f [] i y h = absurd (cc)
from-map f (x ∷ xs) zero y h = (x, refl, (let e : f x ≡ y = cc in e))
from-map f (x ∷ xs) (suc i) y h = from-map f xs i y h

-- Nodes ask for nothing,
no-ask : {L : Type 0} (d : Deed L) → IsNodeDeed d → IsAsk d → ⊥
no-ask Asked n h = n
no-ask (Arrived link stamped drew) n h = h
no-ask (Took number place) n h = h
no-ask (Turned number place content) n h = h
no-ask (Passed number) n h = h
no-ask (Stray link stamped) n h = h

-- take no number
no-take : {L : Type 0} (d : Deed L) → IsNodeDeed d → IsTake d → ⊥
no-take Asked n h = h
no-take (Arrived link stamped drew) n h = h
no-take (Took number place) n h = n
no-take (Turned number place content) n h = h
no-take (Passed number) n h = h
no-take (Stray link stamped) n h = h

-- and turn none.
no-turn : {L : Type 0} (d : Deed L) → IsNodeDeed d → IsTurn d → ⊥
no-turn Asked n h = h
no-turn (Arrived link stamped drew) n h = h
no-turn (Took number place) n h = h
no-turn (Turned number place content) n h = n
no-turn (Passed number) n h = h
no-turn (Stray link stamped) n h = h

-- An agent that asks could ask,
asks-can : {B L : Type 0} (m : Meaning B L) (pick : ℕ) (way : ℕ → ℕ) (i : ℕ) (s : AgentState B L) (d : Deed L)
    (o : List (ℕ × Packet L)) (t : AgentState B L) → AgentDoes m pick way i s d o t → IsAsk d → CanAsk m s
asks-can m pick way i s Asked o t row h = (row.idle, row.can)
asks-can m pick way i s (Arrived link stamped drew) o t row h = absurd h
asks-can m pick way i s (Took number place) o t row h = absurd h
asks-can m pick way i s (Turned number place content) o t row h = absurd h
asks-can m pick way i s (Passed number) o t row h = absurd h
asks-can m pick way i s (Stray link stamped) o t row h = absurd h

-- one that takes could take,
takes-can : {B L : Type 0} (m : Meaning B L) (pick : ℕ) (way : ℕ → ℕ) (i : ℕ) (s : AgentState B L) (d : Deed L)
    (o : List (ℕ × Packet L)) (t : AgentState B L) → AgentDoes m pick way i s d o t → IsTake d → CanTake s
takes-can m pick way i s Asked o t row h = absurd h
takes-can m pick way i s (Arrived link stamped drew) o t row h = absurd h
takes-can m pick way i s (Took number place) o t row h =
    (row.content, subst (λ v. item_beside s.stored v ≡ Some row.content) row.next row.waits)
takes-can m pick way i s (Turned number place content) o t row h = absurd h
takes-can m pick way i s (Passed number) o t row h = absurd h
takes-can m pick way i s (Stray link stamped) o t row h = absurd h

-- one that has its turn could have it,
turns-can : {B L : Type 0} (m : Meaning B L) (pick : ℕ) (way : ℕ → ℕ) (i : ℕ) (s : AgentState B L) (d : Deed L)
    (o : List (ℕ × Packet L)) (t : AgentState B L) → AgentDoes m pick way i s d o t → IsTurn d → CanTurn s
turns-can m pick way i s Asked o t row h = absurd h
turns-can m pick way i s (Arrived link stamped drew) o t row h = absurd h
turns-can m pick way i s (Took number place) o t row h = absurd h
turns-can m pick way i s (Turned number place content) o t row h = row.granted ∙ ap Granted row.next
turns-can m pick way i s (Passed number) o t row h = absurd h
turns-can m pick way i s (Stray link stamped) o t row h = absurd h

-- and no agent passes a message on.
no-pass : {B L : Type 0} (m : Meaning B L) (pick : ℕ) (way : ℕ → ℕ) (i : ℕ) (s : AgentState B L) (d : Deed L)
    (o : List (ℕ × Packet L)) (t : AgentState B L) → AgentDoes m pick way i s d o t → IsPass d → ⊥
no-pass m pick way i s Asked o t row h = h
no-pass m pick way i s (Arrived link stamped drew) o t row h = h
no-pass m pick way i s (Took number place) o t row h = h
no-pass m pick way i s (Turned number place content) o t row h = h
no-pass m pick way i s (Passed number) o t row h = row
no-pass m pick way i s (Stray link stamped) o t row h = h

-- An arrival on a link takes what stands first there, and the link ends at the actor.
arrival-first : {L : Type 0} (link : ℕ) (here : ℕ → Type 0) (d : Deed L) (queues left : List (List (Stamped L))) →
    FirstTaken here d queues left → ArrivesOn link d →
    here link × ((x : Stamped L) × (q : List (Stamped L)) × (slice_get queues link ≡ Some (x ∷ q)))
arrival-first link here Asked queues left h on = absurd on
arrival-first link here (Arrived l x drew) queues left h on = (
  subst here on h.1,
  (x, h.0, subst (λ v. slice_get queues v ≡ Some (x ∷ h.0)) on (swap-old l (x ∷ h.0) h.0 queues left h.2)),
)
arrival-first link here (Took number place) queues left h on = absurd on
arrival-first link here (Turned number place content) queues left h on = absurd on
arrival-first link here (Passed number) queues left h on = absurd on
arrival-first link here (Stray l x) queues left h on = (
  subst here on h.1,
  (x, h.0, subst (λ v. slice_get queues v ≡ Some (x ∷ h.0)) on (swap-old l (x ∷ h.0) h.0 queues left h.2)),
)

-- A list is not empty and begins with an item.
not-both : {X : Type 0} (xs : List X) (x : X) (q : List X) → xs ≡ x ∷ q → xs ≡ [] → ⊥
not-both [] x q h k = (cc)
not-both (y ∷ ys) x q h k = (cc)

-- Where something stands first on a link, the link is not empty.
pub some-there : {X : Type 0} (queues : List (List X)) (link : ℕ) (x : X) (q : List X) → slice_get queues link ≡ Some (x ∷ q) →
    get_or queues link [] ≡ [] → ⊥
some-there queues link x q stands none =
    let is : get_or queues link [] ≡ x ∷ q =
    sym (unwrap_or-slice_get queues link []) ∙ ap (λ o. unwrap_or o []) stands in
    not-both (get_or queues link []) x q is none

module _ {B L S : Type 0} (m : Meaning B L) (machine : Layout → NodeMachine L S) (blank : S) (tables : AreNodeTables machine)
    (p : Layout) (limit pick : ℕ) where
  -- Of each event of a network its actor was able,
  event-enabled : (w : Net B L S) (i : ℕ) (kind : EventKind) (e : Event L) (w' : Net B L S) → IsEvent p i kind e →
      NetStep m (rules_of machine blank p limit pick) w e w' → Enabled m (rules_of machine blank p limit pick) kind i w
  event-enabled w i Ask (AgentDid j e) w' is step = (
    step.old,
    subst (λ v. slice_get w.agents v ≡ Some step.old) is.0 (swap-old j step.old step.new w.agents w'.agents step.at),
    asks-can m pick (way_of p j) j step.old.state e.deed step.sends step.new.state step.row is.1,
  )
  event-enabled w i Ask (NodeDid k e) w' is step =
      absurd (no-ask e.deed (tables.deeds p k step.old.state e.deed step.sends step.new.state step.row) is.1)
  event-enabled w i Take (AgentDid j e) w' is step = (
    step.old,
    subst (λ v. slice_get w.agents v ≡ Some step.old) is.0 (swap-old j step.old step.new w.agents w'.agents step.at),
    takes-can m pick (way_of p j) j step.old.state e.deed step.sends step.new.state step.row is.1,
  )
  event-enabled w i Take (NodeDid k e) w' is step =
      absurd (no-take e.deed (tables.deeds p k step.old.state e.deed step.sends step.new.state step.row) is.1)
  event-enabled w i Turn (AgentDid j e) w' is step = (
    step.old,
    subst (λ v. slice_get w.agents v ≡ Some step.old) is.0 (swap-old j step.old step.new w.agents w'.agents step.at),
    turns-can m pick (way_of p j) j step.old.state e.deed step.sends step.new.state step.row is.1,
  )
  event-enabled w i Turn (NodeDid k e) w' is step =
      absurd (no-turn e.deed (tables.deeds p k step.old.state e.deed step.sends step.new.state step.row) is.1)
  event-enabled w i (Arrive link) (AgentDid j e) w' is step =
      let first = arrival-first link (EndsAtAgent p j) e.deed w.links step.left step.first is.1 in
      ((first.0.1.0, subst (λ v. IsLink p link first.0.1.0 v) is.0 first.0.1.1), first.1)
  event-enabled w i (Arrive link) (NodeDid k e) w' is step =
      let first = arrival-first link (EndsAtNode p k) e.deed w.links step.left step.first is.1 in
      ((first.0.0, subst (λ v. IsLink p link first.0.0 v) is.0 first.0.1), first.1)
  event-enabled w i Pass (AgentDid j e) w' is step =
      absurd (no-pass m pick (way_of p j) j step.old.state e.deed step.sends step.new.state step.row is.1)
  event-enabled w i Pass (NodeDid k e) w' is step = (
    k,
    step.old,
    is.0,
    swap-old k step.old step.new w.nodes w'.nodes step.at,
    tables.passes p k step.old.state e.deed step.sends step.new.state step.row is.1,
  )

  -- so where an actor isn't, there is none.
  lacking : (w : Net B L S) (i : ℕ) (kind : EventKind) →
      (Enabled m (rules_of machine blank p limit pick) kind i w → ⊥) → Lacks m (rules_of machine blank p limit pick) i kind w
  lacking w i kind cannot = (cannot, λ e w' is step. cannot (event-enabled w i kind e w' is step))

  module _ (agents : List (Member B L)) (nodes : List (SeenNode S L)) (links : List (List (Stamped L))) (numbers : Counter) where
    -- Where the agent of this number can't,
    agent-cannot : (i : ℕ) (Can : AgentState B L → Type 0) →
        ((a : Member B L) → slice_get agents i ≡ Some a → Can a.actor.state → ⊥) →
        (a : Actor (AgentState B L) L) → slice_get (map actor_in agents) i ≡ Some a → Can a.state → ⊥
    agent-cannot i Can cannot a at can =
        let found = from-map actor_in agents i a at in
        cannot found.0 found.1 (subst (λ (v : Actor (AgentState B L) L). Can v.state) (sym found.2) can)

    pub none-asks : (i : ℕ) → ((a : Member B L) → slice_get agents i ≡ Some a → CanAsk m a.actor.state → ⊥) →
        Lacks m (rules_of machine blank p limit pick) i Ask (net_of agents nodes links numbers)
    none-asks i cannot = lacking (net_of agents nodes links numbers) i Ask (λ h. agent-cannot i (CanAsk m) cannot h.0 h.1 h.2)

    pub none-takes : (i : ℕ) → ((a : Member B L) → slice_get agents i ≡ Some a → CanTake a.actor.state → ⊥) →
        Lacks m (rules_of machine blank p limit pick) i Take (net_of agents nodes links numbers)
    none-takes i cannot = lacking (net_of agents nodes links numbers) i Take (λ h. agent-cannot i CanTake cannot h.0 h.1 h.2)

    pub none-turns : (i : ℕ) → ((a : Member B L) → slice_get agents i ≡ Some a → CanTurn a.actor.state → ⊥) →
        Lacks m (rules_of machine blank p limit pick) i Turn (net_of agents nodes links numbers)
    none-turns i cannot = lacking (net_of agents nodes links numbers) i Turn (λ h. agent-cannot i CanTurn cannot h.0 h.1 h.2)

    -- where the node can't,
    pub none-passes : (i : ℕ) → ((k : ℕ) (n : SeenNode S L) → actor_of p k ≡ i → slice_get nodes k ≡ Some n →
        (machine p).can_pass n.actor.state → ⊥) →
        Lacks m (rules_of machine blank p limit pick) i Pass (net_of agents nodes links numbers)
    none-passes i cannot = lacking (net_of agents nodes links numbers) i Pass (λ h.
        let found = from-map node_in nodes h.0 h.1 h.3 in
        cannot h.0 found.0 h.2 found.1 (subst (λ (v : Actor S L). (machine p).can_pass v.state) (sym found.2) h.4))

    -- where a link doesn't end at the actor,
    pub none-arrives_elsewhere : (i link : ℕ) → ((from : ℕ) → IsLink p link from i → ⊥) →
        Lacks m (rules_of machine blank p limit pick) i (Arrive link) (net_of agents nodes links numbers)
    none-arrives_elsewhere i link elsewhere =
        lacking (net_of agents nodes links numbers) i (Arrive link) (λ h. elsewhere h.0.0 h.0.1)

    -- or is empty.
    pub none-arrives_nothing : (i link : ℕ) → get_or links link [] ≡ [] →
        Lacks m (rules_of machine blank p limit pick) i (Arrive link) (net_of agents nodes links numbers)
    none-arrives_nothing i link none =
        lacking (net_of agents nodes links numbers) i (Arrive link) (λ h. some-there links link h.1.0 h.1.1 h.1.2 none)
