-- Every event pays at least one, so a run has at most as many events as is laid on its start.
use Rattle.std.proofs.Common.{◌≡◌, ℕ, zero, suc, ◌+◌, ◌*◌, ◌<◌, ◌≤◌, List, [], ◌∷◌, length, map}
use Rattle.std.proofs.Common.{replicate, refl, ap, ◌∙◌, subst, arith, inl, inr}
use Rattle.std.specs.Prelude.{Option, Some, None}
use Rattle.std.proofs.lemmas.Bool.{cases_lt}
use Rattle.abc_value.specs.declared.grant.Grant.{Grant}
use Rattle.abc_value.specs.declared.grant.Grant.TheVariants.{Closed, Number}
use Rattle.abc_packet.specs.declared.packets.Content.{Content}
use Rattle.abc_packet.specs.declared.log.Entry.{Entry}
use Rattle.abc_body.specs.Meanings.{Meaning}
use Rattle.abc_shape.specs.Plans.{link_count}
use Rattle.abc_network.specs.Agents.{AgentState}
use Rattle.abc_network.specs.Networks.{Actor, AgentDid, AgentStep, Draws, EndsAtAgent, EndsAtNode}
use Rattle.abc_network.specs.Networks.{Event, Net, Netrun, NodeDid, NodeStep, Rules, drawn_in}
use Rattle.abc_network.specs.Networks.{start_of, starting, times}
use Rattle.abc_network.specs.Numbering.{Turn}
use Rattle.abc_network_laws.specs.Counts.{with_turn}
use Rattle.abc_network_laws.specs.Kept.{HoldsHonest, Kept, Relays, Says}
use Rattle.abc_network_laws.specs.Charges.{Charge, charge, numbers_drawn}
use Rattle.abc_network_laws.specs.Charges.{over, undrawn}
use Rattle.abc_network_laws.specs.Flows.{Carries, Ends, Flow, NotStray, Placed, Ways}
use Rattle.abc_network_laws.specs.Bounding.{Pays}
use Rattle.abc_network_laws.proofs.Lists.{get-within, swap-had, swap-old}
use Rattle.abc_network_laws.proofs.Steps.{draws-none}
use Rattle.abc_network_laws.proofs.Keeps.{keeps-agent, keeps-node}
use Rattle.abc_network_laws.proofs.Simulates.{kept-start}
use Rattle.abc_network_laws.proofs.Accounts.{account-agent, account-node, undrawn-draws}
use Rattle.abc_network_laws.proofs.Places.{bit-no}
use Rattle.abc_network_laws.proofs.Holds.{on-taken, agent-not-stray, node-not-stray, placed-agent}
use Rattle.abc_network_laws.proofs.Holds.{placed-node}
use Rattle.abc_network_laws.proofs.Settles.{none-on, over-zero, get-same, placed-start}

-- A sum of two counts, each times the worth of one.
scaled : (a b c worth : ℕ) → a + b ≡ c → a * worth + b * worth ≡ c * worth
scaled a b c worth e = grind (arith, e)

-- No number above the limit is drawn.
abbrev Within : ℕ → List ℕ → Type 0
Within limit drawn = (n : ℕ) → limit < n → times n drawn ≡ 0

-- A draw keeps within the limit.
within-draws : (limit : ℕ) (drawn drawn' : List ℕ) (g : Option Grant) →
    Draws limit drawn g drawn' → Within limit drawn → Within limit drawn'
within-draws limit drawn drawn' None h inside n far-off = ap (times n) h ∙ inside n far-off
within-draws limit drawn drawn' (Some Closed) h inside n far-off = ap (times n) h ∙ inside n far-off
within-draws limit drawn drawn' (Some (Number k)) h inside n far-off =
    let a = bit-no k n 1 (λ e. let low = h.1 in absurd (omega arith)) in
    let b = inside n far-off in let c = ap (times n) h.3 in omega arith

-- Nothing is drawn at first.
undrawn-all : (limit : ℕ) → undrawn limit [] ≡ limit
undrawn-all zero = refl
undrawn-all (suc k) = let e = undrawn-all k in omega arith

-- The same for each agent.
over-same : {B L : Type 0} (f : ℕ → AgentState B L → ℕ) (v : ℕ) (bodies : List B) →
    ((i : ℕ) (b : B) → f i (starting {L = L} b).state ≡ v) →
    over (λ i (a : Actor (AgentState B L) L). f i a.state) (map starting bodies) ≡ v * length bodies
over-same f v [] h = omega arith
over-same f v (b ∷ bs) h =
    let a = h zero b in let rest = over-same (λ i. f (suc i)) v bs (λ i c. h (suc i) c) in
    let e : v * suc (length bs) ≡ v + v * length bs = grind arith in omega arith

module _ {B L N : Type 0} (m : Meaning B L) (r : Rules L N) (f : Flow L N) (ways : Ways f r)
    (carries : Carries f r) (ends : Ends f r) (relays : Relays r.node) (bodies : List B)
    (worth : ℕ) (c : Charge B L N) (pays : Pays m r f worth c) where
  -- What is still to be paid: the charge of the network, and the worth of each number not drawn.
  abbrev ahead : Net B L N → ℕ
  ahead w = charge c w + undrawn r.limit w.drawn * worth

  -- A step of an agent gives up one.
  ahead-agent : (w w' : Net B L N) (i : ℕ) (e : Entry L) (ts : List (Turn L))
      (s : AgentStep m r w i e w') → NotStray e.deed → Placed f ts w → ahead w' + 1 ≤ ahead w
  ahead-agent w w' i e ts s ok p =
      let at = swap-old i s.old s.new w.agents w'.agents s.at in
      let low : i < f.agents = (let g = get-within w.agents i s.old at in let n = p.agents in
      omega arith) in
      let taken = (on-taken f.fits (EndsAtAgent r.plan i) e.deed w.links s.left s.first p.fits).0 in
      let a = account-agent m r c w w' i e s in
      let q = pays.agent i s.old.state e.deed s.sends s.new.state low s.row ok taken in
      let drawn : w'.drawn ≡ w.drawn =
      subst (λ v. Draws r.limit w.drawn v w'.drawn)
      (draws-none m r.pick (r.way i) i s.old.state s.new.state e.deed s.sends s.row) s.draws in
      let u : undrawn r.limit w'.drawn * worth ≡ undrawn r.limit w.drawn * worth =
      ap (λ v. undrawn r.limit v * worth) drawn in omega arith

  -- A node stores only numbers that were drawn.
  held-low : (w : Net B L N) (ts : List (Turn L)) (s : N) → Kept m r bodies ts w →
      Within r.limit w.drawn → HoldsHonest r.node (Says ts) s →
      (n sender : ℕ) (content : Content L) → r.node.holds s n sender content → n ≤ r.limit
  held-low w ts s k inside honest n sender content has =
      let says = honest n sender content has in
      let g = get-within ts says.0 says.1 says.3 in let next = says.2 in
      let one = (k.turned n (omega arith) (omega arith)).0 in
      elim (cases_lt r.limit n) [ inl q ↦ (let z = inside n q in absurd (omega arith)) | inr q ↦ q ]

  -- So does a step of a node.
  ahead-node : (w w' : Net B L N) (j : ℕ) (e : Entry L) (ts : List (Turn L))
      (s : NodeStep m r w j e w') → NotStray e.deed → Kept m r bodies ts w → Placed f ts w →
      Within r.limit w.drawn → ahead w' + 1 ≤ ahead w
  ahead-node w w' j e ts s ok k p inside =
      let at = swap-old j s.old s.new w.nodes w'.nodes s.at in
      let taken = (on-taken f.fits (EndsAtNode r.plan j) e.deed w.links s.left s.first p.fits).0 in
      let honest = swap-had (λ a. HoldsHonest r.node
      (Says ts) a.state) j s.old s.new w.nodes w'.nodes s.at k.nodes in
      let a = account-node m r c w w' j e s in
      let q = pays.node j s.old.state e.deed s.sends s.new.state s.row ok
      (p.sound j s.old at) taken (held-low w ts s.old.state k inside honest) in
      let u = scaled (undrawn r.limit w'.drawn) (numbers_drawn (drawn_in e.deed))
      (undrawn r.limit w.drawn) worth
      (undrawn-draws r.limit w.drawn w'.drawn (drawn_in e.deed) s.draws) in omega arith

  -- The bound on events, from any state on.
  bounded-run : (es : List (Event L)) (w w' : Net B L N) (ts : List (Turn L)) →
      Netrun m r w es w' → Kept m r bodies ts w → Placed f ts w → Within r.limit w.drawn →
      length es + ahead w' ≤ ahead w
  bounded-run [] w w' ts run k p inside = let e : ahead w' ≡ ahead w = ap ahead run in omega arith
  bounded-run (AgentDid i e ∷ es) w w' ts run k p inside =
      let ok =
      agent-not-stray m r f ways carries relays bodies w run.0 i e.clock e.deed ts run.1 k p in
      let s = run.1 in
      let t = bounded-run es run.0 w' (with_turn ts i e.deed) run.2
      (keeps-agent m r bodies w run.0 i e ts run.1 k)
      (placed-agent m r f ways carries relays bodies w run.0 i e ts run.1 ok k p)
      (within-draws r.limit w.drawn run.0.drawn (drawn_in e.deed) s.draws inside) in
      let u = ahead-agent w run.0 i e ts run.1 ok p in omega arith
  bounded-run (NodeDid j e ∷ es) w w' ts run k p inside =
      let ok =
      node-not-stray m r f ways carries relays bodies w run.0 j e.clock e.deed ts run.1 k p in
      let s = run.1 in
      let t = bounded-run es run.0 w' ts run.2 (keeps-node m r bodies relays w run.0 j e ts run.1 k)
      (placed-node m r f ways carries relays bodies w run.0 j e ts run.1 ok p)
      (within-draws r.limit w.drawn run.0.drawn (drawn_in e.deed) s.draws inside) in
      let u = ahead-node w run.0 j e ts run.1 ok k p inside in omega arith

  -- What is to be paid at the start.
  ahead-start : length bodies ≡ r.plan.agents →
      ahead (start_of r bodies) ≡ 15 * r.plan.agents + r.limit * worth
  ahead-start many =
      let a = none-on {L = L} c.on_link (link_count r.plan) in
      let b = over-same {L = L} c.on_agent 15 bodies pays.idle in
      let d = over-zero (λ k (x : Actor N L). c.on_node k x.state)
      (replicate r.plan.nodes (record { state = r.blank; clock = 0; log = [] })) (λ k x at.
      let g = get-same (record { state = r.blank; clock = 0; log = [] }) x r.plan.nodes k at in
      ap (λ v. c.on_node k v.state) g.1 ∙ pays.blank k) in
      let e = ap (λ v. v * worth) (undrawn-all r.limit) in
      let g = ap (λ v. 15 * v) many in omega arith

  -- The bound on events.
  pub bounded : length bodies ≡ r.plan.agents → worth ≡ 15 + 2 * r.plan.agents + 2 * r.plan.nodes →
      (es : List (Event L)) (w' : Net B L N) → Netrun m r (start_of r bodies) es w' →
      length es ≤ 15 * (r.limit + r.plan.agents) + r.limit * (2 * r.plan.agents + 2 * r.plan.nodes)
  bounded many is es w' run =
      let t = bounded-run es (start_of r bodies) w' [] run (kept-start m r bodies ends.blank_holds)
      (placed-start r f bodies ways ends many) (λ n far-off. refl) in
      let s = ahead-start many in
      let e = ap (λ v. r.limit * v) is in
      let g : r.limit * (15 + 2 * r.plan.agents + 2 * r.plan.nodes)
      ≡ 15 * r.limit + r.limit * (2 * r.plan.agents + 2 * r.plan.nodes) = grind arith in
      omega arith
