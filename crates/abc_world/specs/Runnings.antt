-- A network in code, and the events that it makes.
use Rattle.std.specs.Prelude.{◌≡◌, ℕ, zero, suc, List, [], ◌∷◌, length, map}
use Rattle.abc_packet.specs.declared.packets.Packet.{Packet}
use Rattle.abc_packet.specs.declared.stamped.Stamped.{Stamped}
use Rattle.abc_packet.specs.declared.log.Deed.{Deed}
use Rattle.abc_packet.specs.declared.log.Deed.TheVariants.{Asked, Arrived, Took, Turned, Passed}
use Rattle.abc_packet.specs.declared.log.Deed.TheVariants.{Stray}
use Rattle.abc_shape.specs.declared.layout.Layout.{Layout}
use Rattle.abc_shape.specs.Plans.{actor_of}
use Rattle.abc_number.specs.Counter.{Counter}
use Rattle.abc_body.specs.Meanings.{Meaning}
use Rattle.abc_network.specs.Networks.{Net, Actor, Rules, Event, AgentDid, NodeDid, NetStep, drawn_in}
use Rattle.abc_network.specs.Nodes.{NodeMachine}
use Rattle.abc_network_laws.specs.Flows.{deed_of}
use Rattle.abc_history.specs.Nodes.{SeenNode}
use Rattle.abc_agent.specs.Members.{Member}
use Rattle.abc_agent.specs.Ways.{way_of}
use Rattle.abc_world.specs.declared.event.EventKind.{EventKind}
use Rattle.abc_world.specs.declared.event.Moved.{Moved}
use Rattle.abc_world.specs.declared.event.Moved.TheVariants.{Done, NotEnabled}
use Rattle.abc_world.specs.Kinds.{IsOfKind, IsPass}
use Rattle.abc_world.specs.Teams.{actor_in}
use Rattle.abc_world.specs.Enabled.{Enabled, IsNextDraw}

-- A network: its plan, the greatest number that is drawn, where the turns begin, and its state.
pub record Running (B L N : Type 0) : Type 0 where
  pub plan : Layout
  pub limit : ℕ
  pub pick : ℕ
  pub net : Net B L N

-- Its rules, where its nodes have these tables and begin in this state.
abbrev pub rules_of : {L N : Type 0} → (Layout → NodeMachine L N) → N → Layout → ℕ → ℕ → Rules L N
rules_of machine blank p limit pick = record {
  plan = p;
  limit = limit;
  pick = pick;
  node = machine p;
  blank = blank;
  way = way_of p;
}

-- The numbers up to a count, which were drawn one after the other, the last first.
abbrev pub drawn_down : ℕ → List ℕ
drawn_down zero = []
drawn_down (suc n) = suc n ∷ drawn_down n

-- What a node is as an actor.
abbrev pub node_in : {S L : Type 0} → SeenNode S L → Actor S L
node_in n = n.actor

-- The state of a network with these agents, nodes, links and counter.
abbrev pub net_of : {B S L : Type 0} → List (Member B L) → List (SeenNode S L) →
    List (List (Stamped L)) → Counter → Net B L S
net_of agents nodes links numbers = record {
  agents = map actor_in agents;
  nodes = map node_in nodes;
  links = links;
  drawn = drawn_down numbers.count;
}

-- Deeds of nodes: they ask for nothing, and take and turn no number.
abbrev pub IsNodeDeed : {L : Type 0} → Deed L → Type 0
IsNodeDeed Asked = ⊥
IsNodeDeed (Arrived link stamped drew) = Unit {0}
IsNodeDeed (Took n place) = ⊥
IsNodeDeed (Turned n place content) = ⊥
IsNodeDeed (Passed n) = Unit {0}
IsNodeDeed (Stray link stamped) = Unit {0}

-- The nodes of these tables do nothing else, and one that passes a message on could.
pub record AreNodeTables {L S : Type 0} (machine : Layout → NodeMachine L S) : Type 0 where
  pub deeds : (p : Layout) (k : ℕ) (s : S) (d : Deed L) (out : List (ℕ × Packet L)) (s' : S) →
      (machine p).does k s d out s' → IsNodeDeed d
  pub passes : (p : Layout) (k : ℕ) (s : S) (d : Deed L) (out : List (ℕ × Packet L)) (s' : S) →
      (machine p).does k s d out s' → IsPass d → (machine p).can_pass s

-- An event of this actor, of this kind.
abbrev pub IsEvent : {L : Type 0} → Layout → ℕ → EventKind → Event L → Type 0
IsEvent p actor kind (AgentDid i e) = (i ≡ actor) × IsOfKind kind e.deed
IsEvent p actor kind (NodeDid k e) = (actor_of p k ≡ actor) × IsOfKind kind e.deed

-- The network made such an event, and drew the next number where it drew one,
pub record Steps {B L N : Type 0} (m : Meaning B L) (r : Rules L N) (actor : ℕ) (kind : EventKind)
    (w w' : Net B L N) : Type 0 where
  pub event : Event L
  pub is : IsEvent r.plan actor kind event
  pub step : NetStep m r w event w'
  pub draws : IsNextDraw r.limit (length w.drawn) (drawn_in (deed_of event))

-- or it has none.
abbrev pub HasNone : {B L N : Type 0} → Meaning B L → Rules L N → ℕ → EventKind → Net B L N → Type 0
HasNone {B} {L} {N} m r actor kind w =
    (e : Event L) (w' : Net B L N) → IsEvent r.plan actor kind e → NetStep m r w e w' → ⊥

-- It can't, and has none.
abbrev pub Lacks : {B L N : Type 0} → Meaning B L → Rules L N → ℕ → EventKind → Net B L N → Type 0
Lacks m r actor kind w = (Enabled m r kind actor w → ⊥) × HasNone m r actor kind w

-- It is the same network, in another state.
pub record SameNetwork {B L N : Type 0} (old new : Running B L N) : Type 0 where
  pub plan : new.plan ≡ old.plan
  pub limit : new.limit ≡ old.limit
  pub pick : new.pick ≡ old.pick

-- What is answered for an event: it was made, or the network has none and is as before.
abbrev pub Answers : {B L N : Type 0} → Meaning B L → (Layout → NodeMachine L N) → N → ℕ →
    EventKind → Running B L N → Moved → Running B L N → Type 0
Answers m machine blank actor kind old Done new =
    Steps m (rules_of machine blank old.plan old.limit old.pick) actor kind old.net new.net
Answers m machine blank actor kind old NotEnabled new =
    Lacks m (rules_of machine blank old.plan old.limit old.pick) actor kind old.net × (new ≡ old)
