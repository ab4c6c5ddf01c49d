-- In a run no clock is above the number of events.
use Rattle.std.proofs.Common.{◌≡◌, ℕ, zero, suc, ◌+◌, ◌≤◌, List, [], ◌∷◌, length, map, replicate}
use Rattle.std.proofs.Common.{sym, subst, arith}
use Rattle.std.proofs.Math.Nat.{max-le}
use Rattle.abc_packet.specs.declared.packets.Packet.{Packet}
use Rattle.abc_packet.specs.declared.stamped.Stamped.{Stamped}
use Rattle.abc_packet.specs.declared.log.Deed.{Deed}
use Rattle.abc_packet.specs.declared.log.Deed.TheVariants.{Asked, Arrived, Took, Turned, Passed}
use Rattle.abc_packet.specs.declared.log.Deed.TheVariants.{Stray}
use Rattle.abc_packet.specs.declared.log.Entry.{Entry}
use Rattle.abc_shape.specs.Plans.{link_count}
use Rattle.abc_body.specs.Meanings.{Meaning}
use Rattle.abc_network.specs.Agents.{AgentState}
use Rattle.abc_network.specs.Networks.{Actor, Net, Rules, Event, AgentDid, NodeDid, AgentStep, NodeStep, Netrun}
use Rattle.abc_network.specs.Networks.{EndsAtAgent, EndsAtNode, FirstTaken, Logs, sent, put_on, taken_clock}
use Rattle.abc_network.specs.Networks.{start_of, starting}
use Rattle.abc_network_laws.specs.Kept.{Each}
use Rattle.abc_network_laws.proofs.Lists.{each-map, each-put, swap-each, swap-had}
use Rattle.abc_schedule.specs.Laws.{ClocksWithin}

-- Of all packets on links.
abbrev LinksWithin : {L : Type 0} → ℕ → List (List (Stamped L)) → Type 0
LinksWithin k links = Each (Each (λ p. p.clock ≤ k)) links

-- What is taken is within, and so is what stays.
taken-within : {L : Type 0} (k : ℕ) (here : ℕ → Type 0) (d : Deed L) (links left : List (List (Stamped L))) →
    FirstTaken here d links left → LinksWithin k links → (taken_clock d ≤ k) × LinksWithin k left
taken-within k here Asked links left h w = (omega arith, subst (LinksWithin k) (sym h) w)
taken-within {L} k here (Arrived l x drew) links left h w =
    let had = swap-had (Each (λ (p : Stamped L). p.clock ≤ k)) l (x ∷ h.0) h.0 links left h.2 w in
    (had.0, swap-each (Each (λ (p : Stamped L). p.clock ≤ k)) l (x ∷ h.0) h.0 links left h.2 w had.1)
taken-within {L} k here (Stray l x) links left h w =
    let had = swap-had (Each (λ (p : Stamped L). p.clock ≤ k)) l (x ∷ h.0) h.0 links left h.2 w in
    (had.0, swap-each (Each (λ (p : Stamped L). p.clock ≤ k)) l (x ∷ h.0) h.0 links left h.2 w had.1)
taken-within k here (Took n place) links left h w = (omega arith, subst (LinksWithin k) (sym h) w)
taken-within k here (Turned n place content) links left h w = (omega arith, subst (LinksWithin k) (sym h) w)
taken-within k here (Passed n) links left h w = (omega arith, subst (LinksWithin k) (sym h) w)

-- What is sent with a clock within is within.
sent-within : {L : Type 0} (k c : ℕ) (sends : List (ℕ × Packet L)) (links : List (List (Stamped L))) → c ≤ k →
    LinksWithin k links → LinksWithin k (sent c sends links)
sent-within k c [] links le w = w
sent-within {L} k c (s ∷ sends) links le w =
    sent-within k c sends (put_on s.0 (record { clock = c; packet = s.1 }) links) le
    (each-put (λ (p : Stamped L). p.clock ≤ k) s.0 (record { clock = c; packet = s.1 }) links w le)

-- One more is allowed.
links-later : {L : Type 0} (k : ℕ) (links : List (List (Stamped L))) → LinksWithin k links → LinksWithin (k + 1) links
links-later {L} k links w =
    each-map (Each (λ (p : Stamped L). p.clock ≤ k)) (Each (λ (p : Stamped L). p.clock ≤ k + 1))
    (λ q h. each-map (λ (p : Stamped L). p.clock ≤ k) (λ (p : Stamped L). p.clock ≤ k + 1)
    (λ p le. omega arith) q h) links w

-- The same of actors.
actors-later : {S L : Type 0} (k : ℕ) (actors : List (Actor S L)) → Each (λ a. a.clock ≤ k) actors →
    Each (λ a. a.clock ≤ k + 1) actors
actors-later {S} {L} k actors w =
    each-map (λ (a : Actor S L). a.clock ≤ k) (λ (a : Actor S L). a.clock ≤ k + 1) (λ a le. omega arith) actors w

-- The clock of an entry is at most one more.
entry-within : {S L : Type 0} (k : ℕ) (old new : Actor S L) (e : Entry L) → Logs old e new → old.clock ≤ k →
    taken_clock e.deed ≤ k → (e.clock ≤ k + 1) × (new.clock ≤ k + 1)
entry-within k old new e logs a b =
    let top = max-le a b in
    let is = logs.0 in
    let after = logs.1 in
    (omega arith, omega arith)

module _ {B L N : Type 0} (m : Meaning B L) (r : Rules L N) where
  -- An event allows one more.
  agent-within : (k : ℕ) (w w' : Net B L N) (i : ℕ) (e : Entry L) → AgentStep m r w i e w' → ClocksWithin k w →
      ClocksWithin (k + 1) w'
  agent-within k w w' i e s c =
      let had = swap-had (λ (a : Actor (AgentState B L) L). a.clock ≤ k) i s.old s.new w.agents w'.agents s.at c.agents in
      let took = taken-within k (EndsAtAgent r.plan i) e.deed w.links s.left s.first c.links in
      let now = entry-within k s.old s.new e s.logs had took.0 in
      record {
        agents = swap-each (λ (a : Actor (AgentState B L) L). a.clock ≤ k + 1) i s.old s.new w.agents w'.agents s.at
            (actors-later k w.agents c.agents) now.1;
        nodes = subst (Each (λ (a : Actor N L). a.clock ≤ k + 1)) (sym s.rest) (actors-later k w.nodes c.nodes);
        links = subst (LinksWithin (k + 1)) (sym s.links)
            (sent-within (k + 1) e.clock s.sends s.left now.0 (links-later k s.left took.1));
      }

  -- So does an event of a node.
  node-within : (k : ℕ) (w w' : Net B L N) (j : ℕ) (e : Entry L) → NodeStep m r w j e w' → ClocksWithin k w →
      ClocksWithin (k + 1) w'
  node-within k w w' j e s c =
      let had = swap-had (λ (a : Actor N L). a.clock ≤ k) j s.old s.new w.nodes w'.nodes s.at c.nodes in
      let took = taken-within k (EndsAtNode r.plan j) e.deed w.links s.left s.first c.links in
      let now = entry-within k s.old s.new e s.logs had took.0 in
      record {
        agents = subst (Each (λ (a : Actor (AgentState B L) L). a.clock ≤ k + 1)) (sym s.rest)
            (actors-later k w.agents c.agents);
        nodes = swap-each (λ (a : Actor N L). a.clock ≤ k + 1) j s.old s.new w.nodes w'.nodes s.at
            (actors-later k w.nodes c.nodes) now.1;
        links = subst (LinksWithin (k + 1)) (sym s.links)
            (sent-within (k + 1) e.clock s.sends s.left now.0 (links-later k s.left took.1));
      }

  -- So a run allows as many as it has events.
  run-within : (es : List (Event L)) (k : ℕ) (w w' : Net B L N) → Netrun m r w es w' → ClocksWithin k w →
      ClocksWithin (k + length es) w'
  run-within [] k w w' run c =
      subst (λ v. ClocksWithin v w') (let e : k ≡ k + 0 = omega arith in e)
      (subst (λ (v : Net B L N). ClocksWithin k v) (sym run) c)
  run-within (AgentDid i e ∷ es) k w w' run c =
      subst (λ v. ClocksWithin v w') (let e : k + 1 + length es ≡ k + suc (length es) = omega arith in e)
      (run-within es (k + 1) run.0 w' run.2 (agent-within k w run.0 i e run.1 c))
  run-within (NodeDid j e ∷ es) k w w' run c =
      subst (λ v. ClocksWithin v w') (let e : k + 1 + length es ≡ k + suc (length es) = omega arith in e)
      (run-within es (k + 1) run.0 w' run.2 (node-within k w run.0 j e run.1 c))

  -- At the start all clocks are 0.
  agents-start : (bodies : List B) → Each (λ (a : Actor (AgentState B L) L). a.clock ≤ 0) (map starting bodies)
  agents-start [] = tt
  agents-start (b ∷ bodies) = (omega arith, agents-start bodies)

  -- So are the nodes' clocks,
  nodes-start : (n : ℕ) →
      Each (λ (a : Actor N L). a.clock ≤ 0) (replicate n (record { state = r.blank; clock = 0; log = [] }))
  nodes-start zero = tt
  nodes-start (suc n) = (omega arith, nodes-start n)

  -- and nothing is on a link.
  links-start : (n : ℕ) → LinksWithin {L = L} 0 (replicate n [])
  links-start zero = tt
  links-start (suc n) = (tt, links-start n)

  -- In a run from the start no clock is above the count of its events.
  pub clocks-within : (bodies : List B) (es : List (Event L)) (w : Net B L N) →
      Netrun m r (start_of r bodies) es w → ClocksWithin (length es) w
  clocks-within bodies es w run =
      subst (λ v. ClocksWithin v w) (let e : 0 + length es ≡ length es = omega arith in e)
      (run-within es 0 (start_of r bodies) w run (record {
        agents = agents-start bodies;
        nodes = nodes-start r.plan.nodes;
        links = links-start (link_count r.plan);
      }))
