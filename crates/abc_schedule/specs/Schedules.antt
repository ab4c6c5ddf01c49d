-- Logs that fit together: each is a path of its actor, each link is joined, and no number is drawn
-- twice.
use Rattle.std.specs.Prelude.{◌≡◌, ℕ, ◌<◌, ◌≤◌, List, [], ◌∷◌, ◌++◌, length, map, Option}
use Rattle.std.specs.Prelude.{Some, None, slice_get}
use Rattle.abc_value.specs.declared.grant.Grant.{Grant}
use Rattle.abc_value.specs.declared.grant.Grant.TheVariants.{Number, Closed}
use Rattle.abc_packet.specs.declared.stamped.Stamped.{Stamped}
use Rattle.abc_packet.specs.declared.log.Entry.{Entry}
use Rattle.abc_packet.specs.Outlets.{sent_on}
use Rattle.abc_shape.specs.declared.layout.Layout.{Layout}
use Rattle.abc_shape.specs.Plans.{IsLink, actor_of, link_count}
use Rattle.abc_body.specs.Meanings.{Meaning}
use Rattle.abc_network.specs.Agents.{AgentState, AgentDoes}
use Rattle.abc_network.specs.Networks.{Net, Actor, Rules, starting, drawn_in}
use Rattle.abc_network_laws.specs.Counts.{draws_number}
use Rattle.abc_network_laws.specs.Kept.{Each, total}
use Rattle.abc_logs.specs.MicroSteps.{taken_by}
use Rattle.abc_logs.specs.Paths.{IsPath}
use Rattle.abc_logs.specs.Merges.{log_of}

-- The logs of a network's actors: the agents', then the nodes'.
abbrev pub log_in : {S L : Type 0} → Actor S L → List (Entry L)
log_in a = a.log

-- All of them.
abbrev pub logs_of : {B L N : Type 0} → Net B L N → List (List (Entry L))
logs_of w = map log_in w.agents ++ map log_in w.nodes

-- The packets that arrived on one link, or strayed there, by a log, in order.
abbrev pub arrivals_on : {L : Type 0} → ℕ → List (Entry L) → List (Stamped L)
arrivals_on link [] = []
arrivals_on link (e ∷ entries) = sent_on link (taken_by e.deed) ++ arrivals_on link entries

-- How often logs have a draw of this number.
abbrev pub draws_by : {L : Type 0} → ℕ → Entry L → ℕ
draws_by n e = draws_number n (drawn_in e.deed)

-- By all logs.
abbrev pub times_drawn : {L : Type 0} → ℕ → List (List (Entry L)) → ℕ
times_drawn n logs = total (total (draws_by n)) logs

-- This link ends at an actor.
abbrev pub EndsAt : Layout → ℕ → ℕ → Type 0
EndsAt p actor link = (from : ℕ) × IsLink p link from actor

-- A draw gives a number from 1 to the limit, or Closed.
abbrev pub IsWithin : ℕ → Option Grant → Type 0
IsWithin limit None = Unit {0}
IsWithin limit (Some Closed) = Unit {0}
IsWithin limit (Some (Number n)) = (0 < n) × (n ≤ limit)

-- What an entry of an actor took, it took from a link that ends there, and what it drew is within
-- the limit.
abbrev pub IsFor : {L N : Type 0} → Rules L N → ℕ → Entry L → Type 0
IsFor r actor e =
    Each (λ x. EndsAt r.plan actor x.0) (taken_by e.deed) × IsWithin r.limit (drawn_in e.deed)

-- The logs of this state of a network fit together, with what is on its links. Of the numbers drawn
-- the logs alone are looked at.
pub record IsJoined {B L N : Type 0} (m : Meaning B L) (r : Rules L N) (bodies : List B)
    (w : Net B L N) : Type 0 where
  -- there are as many bodies, agents, nodes and links as the plan says
  pub many_bodies : length bodies ≡ r.plan.agents
  pub many_agents : length w.agents ≡ r.plan.agents
  pub many_nodes : length w.nodes ≡ r.plan.nodes
  pub many_links : length w.links ≡ link_count r.plan
  -- what each actor sent, each packet on its link
  pub outs : ℕ → List (ℕ × Stamped L)
  -- the log of each agent is a path from its body, on which it sent that,
  pub agents : (i : ℕ) (b : B) (a : Actor (AgentState B L) L) → slice_get bodies i ≡ Some b →
      slice_get w.agents i ≡ Some a →
      IsPath (AgentDoes m r.pick (r.way i) i) (starting b).state (outs i) a
      × Each (IsFor r i) a.log
  -- and so is the log of each node
  pub nodes : (k : ℕ) (a : Actor N L) → slice_get w.nodes k ≡ Some a →
      IsPath (r.node.does k) r.blank (outs (actor_of r.plan k)) a
      × Each (IsFor r (actor_of r.plan k)) a.log
  -- what arrived on a link, and then what is still on it, is what was sent on it
  pub links : (link from to : ℕ) (rest : List (Stamped L)) → IsLink r.plan link from to →
      slice_get w.links link ≡ Some rest →
      arrivals_on link (log_of (logs_of w) to) ++ rest ≡ sent_on link (outs from)
  -- no number was drawn twice
  pub draws : (n : ℕ) → times_drawn n (logs_of w) ≤ 1
