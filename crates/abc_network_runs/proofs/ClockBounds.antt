-- Each event raises the greatest clock by one at most.
use Rattle.std.proofs.Common.{◌≡◌, ℕ, suc, ◌+◌, ◌≤◌, List, [], ◌∷◌, length, map, sym}
use Rattle.std.proofs.Common.{subst, arith}
use Rattle.std.proofs.Math.Nat.{mul-le-mul_left}
use Rattle.std.specs.Prelude.{max, ◌*◌, ◌<◌}
use Rattle.abc_packet.specs.declared.limits.TheConstants.{MOST_CLOCK, MOST_NUMBER}
use Rattle.abc_packet.specs.declared.packets.Packet.{Packet}
use Rattle.abc_packet.specs.declared.stamped.Stamped.{Stamped}
use Rattle.abc_packet.specs.declared.log.Deed.{Deed}
use Rattle.abc_packet.specs.declared.log.Deed.TheVariants.{Asked, Arrived, Took, Turned, Passed}
use Rattle.abc_packet.specs.declared.log.Deed.TheVariants.{Stray}
use Rattle.abc_packet.specs.declared.log.Entry.{Entry}
use Rattle.abc_shape.specs.Plans.{link_count, IsLayout}
use Rattle.abc_shape.specs.declared.layout.TheConstants.{MOST_AGENTS, MOST_NODES}
use Rattle.abc_body.specs.Meanings.{Meaning}
use Rattle.abc_network.specs.Networks.{Net, Actor, Rules, Event, AgentDid, NodeDid, Swaps, Logs}
use Rattle.abc_network.specs.Networks.{FirstTaken, AgentStep, NodeStep, Netrun, EndsAtAgent}
use Rattle.abc_network.specs.Networks.{EndsAtNode, taken_clock, put_on, sent, starting, start_of}
use Rattle.abc_network_laws.specs.Kept.{Each}
use Rattle.abc_network_laws.proofs.Lists.{each-map, swap-each, swap-had, each-put}
use Rattle.abc_network_laws.specs.Bounding.{Bounded}
use Rattle.abc_network_runs.proofs.Concrete.{each-same}
use Rattle.abc_network_runs.specs.Clocks.{ClocksWithin, ClocksCount, ClocksStayLow}

-- No clock of a packet on a link is above k.
abbrev LinksWithin : {L : Type 0} → ℕ → List (List (Stamped L)) → Type 0
LinksWithin k links = Each (Each (λ x. x.clock ≤ k)) links

-- Packets that are sent with a clock up to k keep that.
sent-within : {L : Type 0} (k clock : ℕ) (sends : List (ℕ × Packet L))
    (links : List (List (Stamped L))) → clock ≤ k → LinksWithin k links →
    LinksWithin k (sent clock sends links)
sent-within k clock [] links low h = h
sent-within {L} k clock (s ∷ ss) links low h =
    let x : Stamped L = record { clock = clock; packet = s.1 } in
    sent-within k clock ss (put_on s.0 x links) low
    (each-put (λ y. y.clock ≤ k) s.0 x links h low)

-- What all packets of all links have, a packet that is taken had, and the others have.
swap-within : {L : Type 0} (k l : ℕ) (x : Stamped L) (q : List (Stamped L))
    (links left : List (List (Stamped L))) → Swaps l (x ∷ q) q links left → LinksWithin k links →
    (x.clock ≤ k) × LinksWithin k left
swap-within k l x q links left s h =
    let all = swap-had (Each (λ y. y.clock ≤ k)) l (x ∷ q) q links left s h in
    (all.0, swap-each (Each (λ y. y.clock ≤ k)) l (x ∷ q) q links left s h all.1)

-- The clock that a deed takes is one of these, and taking leaves no other.
taken-within : {L : Type 0} (k : ℕ) (here : ℕ → Type 0) (d : Deed L)
    (links left : List (List (Stamped L))) → FirstTaken here d links left → LinksWithin k links →
    (taken_clock d ≤ k) × LinksWithin k left
taken-within k here Asked links left f h = (omega arith, subst (LinksWithin k) (sym f) h)
taken-within k here (Arrived l x drew) links left f h = swap-within k l x f.0 links left f.2 h
taken-within k here (Stray l x) links left f h = swap-within k l x f.0 links left f.2 h
taken-within k here (Took n place) links left f h =
    (omega arith, subst (LinksWithin k) (sym f) h)
taken-within k here (Turned n place content) links left f h =
    (omega arith, subst (LinksWithin k) (sym f) h)
taken-within k here (Passed n) links left f h = (omega arith, subst (LinksWithin k) (sym f) h)

-- A bound is one also where it is one higher.
links-more : {L : Type 0} (k : ℕ) (links : List (List (Stamped L))) → LinksWithin k links →
    LinksWithin (k + 1) links
links-more k links h =
    each-map (Each (λ x. x.clock ≤ k)) (Each (λ x. x.clock ≤ k + 1))
    (λ q. each-map (λ x. x.clock ≤ k) (λ x. x.clock ≤ k + 1) (λ x low. omega arith) q) links h

actors-more : {S L : Type 0} (k : ℕ) (actors : List (Actor S L)) →
    Each (λ a. a.clock ≤ k) actors → Each (λ a. a.clock ≤ k + 1) actors
actors-more k actors h = each-map (λ a. a.clock ≤ k) (λ a. a.clock ≤ k + 1) (λ a low. omega arith)
    actors h

-- The clock of an entry is at most one above what was there before.
entry-low : {S L : Type 0} (k : ℕ) (a a' : Actor S L) (e : Entry L) → Logs a e a' → a.clock ≤ k →
    taken_clock e.deed ≤ k → e.clock ≤ k + 1
entry-low k a a' e logs low took =
    let c : e.clock ≡ max a.clock (taken_clock e.deed) + 1 = logs.0 in grind (arith, c, low, took)

-- The one that makes a step has that clock then, and the others keep theirs.
actors-within : {S L : Type 0} (k i : ℕ) (a a' : Actor S L) (e : Entry L)
    (actors actors' : List (Actor S L)) → Logs a e a' → e.clock ≤ k + 1 →
    Swaps i a a' actors actors' → Each (λ x. x.clock ≤ k) actors →
    Each (λ x. x.clock ≤ k + 1) actors'
actors-within k i a a' e actors actors' logs low s h =
    swap-each (λ x. x.clock ≤ k + 1) i a a' actors actors' s (actors-more k actors h)
    (let c = logs.1 in omega arith)

module _ {B L N : Type 0} (m : Meaning B L) (r : Rules L N) where
  -- A step of an agent keeps the clocks within one more,
  pub agent-within : (k : ℕ) (w w' : Net B L N) (i : ℕ) (e : Entry L) → AgentStep m r w i e w' →
      ClocksWithin k w → ClocksWithin (k + 1) w'
  agent-within k w w' i e s h =
      let took = taken-within k (EndsAtAgent r.plan i) e.deed w.links s.left s.first h.links in
      let was = swap-had (λ a. a.clock ≤ k) i s.old s.new w.agents w'.agents s.at h.agents in
      let low = entry-low k s.old s.new e s.logs was took.0 in record {
        agents = actors-within k i s.old s.new e w.agents w'.agents s.logs low s.at h.agents;
        nodes = subst (Each (λ a. a.clock ≤ k + 1)) (sym s.rest) (actors-more k w.nodes h.nodes);
        links = subst (LinksWithin (k + 1)) (sym s.links)
            (sent-within (k + 1) e.clock s.sends s.left low (links-more k s.left took.1));
      }

  -- so does one of a node,
  pub node-within : (k : ℕ) (w w' : Net B L N) (j : ℕ) (e : Entry L) → NodeStep m r w j e w' →
      ClocksWithin k w → ClocksWithin (k + 1) w'
  node-within k w w' j e s h =
      let took = taken-within k (EndsAtNode r.plan j) e.deed w.links s.left s.first h.links in
      let was = swap-had (λ a. a.clock ≤ k) j s.old s.new w.nodes w'.nodes s.at h.nodes in
      let low = entry-low k s.old s.new e s.logs was took.0 in record {
        agents = subst (Each (λ a. a.clock ≤ k + 1)) (sym s.rest)
            (actors-more k w.agents h.agents);
        nodes = actors-within k j s.old s.new e w.nodes w'.nodes s.logs low s.at h.nodes;
        links = subst (LinksWithin (k + 1)) (sym s.links)
            (sent-within (k + 1) e.clock s.sends s.left low (links-more k s.left took.1));
      }

  -- and a run keeps them within as many more as it has events.
  pub run-within : (k : ℕ) (es : List (Event L)) (w w' : Net B L N) → Netrun m r w es w' →
      ClocksWithin k w → ClocksWithin (k + length es) w'
  run-within k [] w w' run h =
      let e : k ≡ k + 0 = omega arith in
      subst (λ (v : Net B L N). ClocksWithin (k + 0) v) (sym run)
      (subst (λ n. ClocksWithin n w) e h)
  run-within k (AgentDid i e ∷ es) w w' run h =
      let c : k + 1 + length es ≡ k + suc (length es) = omega arith in
      subst (λ n. ClocksWithin n w') c
      (run-within (k + 1) es run.0 w' run.2 (agent-within k w run.0 i e run.1 h))
  run-within k (NodeDid j e ∷ es) w w' run h =
      let c : k + 1 + length es ≡ k + suc (length es) = omega arith in
      subst (λ n. ClocksWithin n w') c
      (run-within (k + 1) es run.0 w' run.2 (node-within k w run.0 j e run.1 h))

  -- At the start all clocks are 0.
  agents-start : (bodies : List B) → Each (λ a. a.clock ≤ 0) (map (starting {L = L}) bodies)
  agents-start [] = tt
  agents-start (b ∷ bodies) = (omega arith, agents-start bodies)

  pub start-within : (bodies : List B) → ClocksWithin 0 (start_of r bodies)
  start-within bodies = record {
    agents = agents-start bodies;
    nodes = each-same (λ a. a.clock ≤ 0) r.plan.nodes
        (record { state = r.blank; clock = 0; log = [] }) (omega arith);
    links = each-same (Each (λ x. x.clock ≤ 0)) (link_count r.plan) [] tt;
  }

  -- So in a run from the start no clock is above the number of events.
  pub clocks-count : ClocksCount m r
  clocks-count = λ bodies es w run.
      let h = run-within 0 es (start_of r bodies) w run (start-within bodies) in
      let e : 0 + length es ≡ length es = omega arith in
      subst (λ n. ClocksWithin n w) e h

-- Within the limits of plans and numbers the bound on events is far below the greatest clock.
few-events : (agents nodes limit count : ℕ) → agents ≤ MOST_AGENTS → nodes ≤ MOST_NODES →
    limit < MOST_NUMBER →
    count ≤ 15 * (limit + agents) + limit * (2 * agents + 2 * nodes) → count < MOST_CLOCK
few-events agents nodes limit count most_agents most_nodes most_limit few =
    let parts : 2 * agents + 2 * nodes ≤ 640 = omega arith in
    let much : limit * (2 * agents + 2 * nodes) ≤ limit * 640 =
    mul-le-mul_left limit parts in
    omega arith

-- So no clock comes there.
pub clocks-low : {B L N : Type 0} (m : Meaning B L) (r : Rules L N) → ClocksCount m r →
    (IsLayout r.plan → Bounded m r) → ClocksStayLow m r
clocks-low m r count bound = λ plan limit bodies es w many run. (
  length es,
  few-events r.plan.agents r.plan.nodes r.limit (length es) plan.most_agents plan.most_nodes limit
      (bound plan bodies es w many run),
  count bodies es w run,
)
