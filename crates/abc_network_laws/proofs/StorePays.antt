-- Every row of a network whose nodes store gives up one.
use Rattle.std.proofs.Common.{◌≡◌, ℕ, ◌+◌, ◌*◌, ◌<◌, ◌≤◌, List, [], ◌∷◌, length}
use Rattle.std.proofs.Common.{refl, ap, subst, arith, inl, inr}
use Rattle.std.specs.Prelude.{Option, ◌==◌, if◌then◌else◌}
use Rattle.std.proofs.lemmas.Bool.{cases_lt}
use Rattle.abc_value.specs.declared.grant.Grant.{Grant}
use Rattle.abc_value.specs.declared.grant.Grant.TheVariants.{Number, Closed}
use Rattle.abc_packet.specs.declared.packets.Content.{Content}
use Rattle.abc_packet.specs.declared.packets.Packet.{Packet}
use Rattle.abc_packet.specs.declared.packets.Packet.TheVariants.{Request, Reply, Message}
use Rattle.abc_packet.specs.declared.log.Deed.{Deed}
use Rattle.abc_packet.specs.declared.log.Deed.TheVariants.{Arrived, Asked, Passed, Stray, Took}
use Rattle.abc_packet.specs.declared.log.Deed.TheVariants.{Turned}
use Rattle.abc_body.specs.Meanings.{Meaning}
use Rattle.abc_shape.specs.declared.layout.Layout.{Layout}
use Rattle.abc_wait.specs.Waits.{item_beside}
use Rattle.abc_network.specs.Agents.{AgentState, AgentDoes, AgentTakes}
use Rattle.abc_network.specs.Networks.{EndsAtAgent, EndsAtNode, drawn_in}
use Rattle.abc_network.specs.Stores.{Item, Store, StoreDoes, StoreTakes, store_machine}
use Rattle.abc_network.specs.Stores.{to_each}
use Rattle.abc_network_laws.specs.Kept.{Each, total}
use Rattle.abc_network_laws.specs.Charges.{numbers_drawn, of_packets, taken_at}
use Rattle.abc_network_laws.specs.Flows.{ToAgent, ToNode, NotStray, Ways}
use Rattle.abc_network_laws.specs.Bounding.{Pays}
use Rattle.abc_network_laws.specs.ClusterFlows.{asking_worth}
use Rattle.abc_network_laws.specs.StoreFlows.{Kind, KindLaws, StoreSound}
use Rattle.abc_network_laws.specs.StoreFlows.{store_flow, store_rules}
use Rattle.abc_network_laws.specs.StoreCharges.{sum_below, led, item_worth, store_weight}
use Rattle.abc_network_laws.specs.StoreCharges.{store_charge, Hops}
use Rattle.abc_network_laws.proofs.Maps.{gained-same, gained-other, lost-same, lost-other}
use Rattle.abc_network_laws.proofs.Sums.{sum-same, sum-less, sum-add, sum-zero, sum-ones, sum-one}
use Rattle.abc_network_laws.proofs.Sums.{sum-total, sum-change, sum-apart}

module _ {B L : Type 0} (m : Meaning B L) (g : Kind L) (plan : Layout) (limit pick : ℕ) (way : ℕ →
    ℕ → ℕ) (laws : KindLaws g plan)
    (ways : Ways (store_flow g) (store_rules g plan limit pick way)) (request_hops reply_hops : ℕ →
    ℕ → ℕ) (worth : ℕ)
    (big : worth ≡ 15 + 2 * g.agents + 2 * g.nodes)
    (hops : Hops g plan way request_hops reply_hops worth) where
  -- What a packet is worth.
  abbrev weight : ℕ → Packet L → ℕ
  weight l p = store_weight g request_hops reply_hops worth l p

  -- What an agent and its store are worth.
  abbrev has : AgentState B L → ℕ
  has s = asking_worth worth s.asking + length s.stored

  -- The goals of agents and of nodes apart.
  led-total : (sender : ℕ) (ls : List ℕ) →
      total (led g sender) ls ≡ total (λ o. sum_below g.agents
      (λ j. g.leads sender o (ToAgent j))) ls
      + total (λ o. sum_below g.nodes (λ j. g.leads sender o (ToNode j))) ls
  led-total sender [] = refl
  led-total sender (l ∷ ls) = let t = led-total sender ls in omega arith

  -- A message reaches the node where it comes, and what its copies reach.
  led-flow : (k l sender : ℕ) → k < g.nodes → g.rows.accepts k l sender →
      led g sender l ≡ 1 + total (led g sender) (g.rows.outs k sender l)
  led-flow k l sender low ok =
      let outs : List ℕ = g.rows.outs k sender l in
      let a = sum-same g.agents (λ j. g.leads sender l (ToAgent j))
      (λ j. total (λ o. g.leads sender o (ToAgent j)) (g.rows.outs k sender l))
      (λ j lj. (let z = laws.flow k l sender ok (ToAgent j) in omega arith)) in
      let b = sum-same g.nodes (λ j. g.leads sender l (ToNode j))
      (λ j. (if k == j then 1 else 0)
      + total (λ o. g.leads sender o (ToNode j)) (g.rows.outs k sender l))
      (λ j lj. laws.flow k l sender ok (ToNode j)) in
      let c = sum-total g.agents (λ o j. g.leads sender o (ToAgent j)) (g.rows.outs k sender l) in
      let d = sum-add g.nodes (λ j. if k == j then 1 else 0)
      (λ j. total (λ o. g.leads sender o (ToNode j)) (g.rows.outs k sender l)) in
      let e = sum-one g.nodes k low in
      let h = sum-total g.nodes (λ o j. g.leads sender o (ToNode j)) (g.rows.outs k sender l) in
      let t = led-total sender (g.rows.outs k sender l) in omega arith

  -- What an agent's message reaches: all but itself.
  led-start : (i packets : ℕ) → i < g.agents → led g i (way i packets) + 1 ≤ g.agents + g.nodes
  led-start i packets low =
      let a = sum-add g.agents (λ j. g.leads i (way i packets) (ToAgent j))
      (λ j. if i == j then 1 else 0) in
      let b = sum-same g.agents (λ j. g.leads i (way i packets) (ToAgent j)
      + (if i == j then 1 else 0)) (λ j. g.reached (ToAgent j))
      (λ j lj. ways.starts i packets low (ToAgent j)) in
      let c = sum-less g.agents (λ j. g.reached (ToAgent j)) (λ j. 1)
      (λ j lj. ways.once (ToAgent j)) in
      let d = sum-ones g.agents in
      let e = sum-one g.agents i low in
      let p = sum-same g.nodes (λ j. g.leads i (way i packets) (ToNode j))
      (λ j. g.reached (ToNode j)) (λ j lj. (let s = ways.starts i packets low (ToNode j) in
      omega arith)) in
      let q = sum-less g.nodes (λ j. g.reached (ToNode j)) (λ j. 1)
      (λ j lj. ways.once (ToNode j)) in
      let r = sum-ones g.nodes in omega arith

  -- A message on an agent's link reaches that agent.
  led-agent : (i l n sender : ℕ) (content : Content L) → i < g.agents → EndsAtAgent plan i l →
      g.fits l (Message n sender content) → led g sender l ≡ 1
  led-agent i l n sender content low ends fits =
      let a = sum-same g.agents (λ j. g.leads sender l (ToAgent j)) (λ j. if i == j then 1 else 0)
      (λ j lj. ways.arrives i l n sender content ends fits (ToAgent j)) in
      let b = sum-one g.agents i low in
      let c = sum-same g.nodes (λ j. g.leads sender l (ToNode j)) (λ j. 0)
      (λ j lj. ways.arrives i l n sender content ends fits (ToNode j)) in
      let d = sum-zero g.nodes in omega arith

  -- What an agent takes pays for the step.
  agent-takes : (i l : ℕ) (s s' : AgentState B L) (p : Packet L) → i < g.agents →
      AgentTakes i s p s' → EndsAtAgent plan i l × g.fits l p → has s' + 1 ≤ weight l p + has s
  agent-takes i l s s' (Request a) low h fit = absurd h
  agent-takes i l s s' (Reply a (Number n)) low h fit =
      let x = ap has h.2.2 in let y = ap (asking_worth worth) h.1 in
      let z = hops.last i l (Number n) fit.0
      (subst (λ v. g.fits l (Reply v (Number n))) h.0 fit.1) in
      let e = ap (λ v. reply_hops l v) h.0 in omega arith
  agent-takes i l s s' (Reply a Closed) low h fit =
      let x = ap has h.2 in let y = ap (asking_worth worth) h.1 in
      let z = hops.last i l Closed fit.0 (subst (λ v. g.fits l (Reply v Closed)) h.0 fit.1) in
      let e = ap (λ v. reply_hops l v) h.0 in omega arith
  agent-takes i l s s' (Message n sender content) low h fit =
      let x = ap has h.after in let y = led-agent i l n sender content low fit.0 fit.1 in
      let z = h.gains.count in omega arith

  -- Every row of an agent gives up one.
  agent-pays : (i : ℕ) (s : AgentState B L) (d : Deed L) (sends : List (ℕ × Packet L))
      (s' : AgentState B L) → i < g.agents → AgentDoes m pick (way i) i s d sends s' → NotStray d →
      Each (λ x. EndsAtAgent plan i x.0 × g.fits x.0 x.1) (taken_at d) →
      of_packets weight sends + (has s' + 1) ≤ of_packets weight (taken_at d) + has s
  agent-pays i s Asked sends s' low h ok fit =
      let e : of_packets weight sends ≡ request_hops (way i s.packets) i + 0 =
      ap (of_packets weight) h.sends in
      let x = ap has h.after in let y = ap (asking_worth worth) h.idle in
      let z = hops.first i s.packets low in omega arith
  agent-pays i s (Arrived l x drew) sends s' low h ok fit =
      let e : of_packets weight sends ≡ 0 = ap (of_packets weight) h.1 in
      let y = agent-takes i l s s' x.packet low h.2 fit.0 in omega arith
  agent-pays i s (Stray l x) sends s' low h ok fit = absurd ok
  agent-pays i s (Took n place) sends s' low h ok fit =
      let e : of_packets weight sends ≡ 0 = ap (of_packets weight) h.sends in
      let x = ap has h.after in let y = h.loses.count in omega arith
  agent-pays i s (Turned n place content) sends s' low h ok fit =
      let e : of_packets weight sends ≡ 2 * led g i (way i s.packets) + 0 =
      ap (of_packets weight) h.sends in
      let x = ap has h.after in let y = ap (asking_worth worth) h.granted in
      let z = led-start i s.packets low in omega arith
  agent-pays i s (Passed n) sends s' low h ok fit = absurd h

  -- What a node's store is worth.
  abbrev on-node : ℕ → Store L → ℕ
  on-node k s = sum_below (limit + 1) (λ n. item_worth g k (item_beside s.stored n))

  -- The copies of a message are worth two for each goal that they reach.
  to-each-weight : (n sender : ℕ) (content : Content L) (ls : List ℕ) →
      of_packets weight (to_each ls (Message n sender content)) ≡ 2 * total (led g sender) ls
  to-each-weight n sender content [] = refl
  to-each-weight n sender content (l ∷ ls) = let t = to-each-weight n sender content ls in
      omega arith

  -- What a node takes pays for the step.
  node-takes : (k l : ℕ) (s s' : Store L) (p : Packet L) (drew : Option Grant)
      (sends : List (ℕ × Packet L)) → StoreTakes g.rows k s l p drew sends s' → StoreSound g k s →
      EndsAtNode plan k l × g.fits l p →
      of_packets weight sends + (on-node k s' + 1) ≤ weight l p
      + (on-node k s + numbers_drawn drew * worth)
  node-takes k l s s' (Request a) drew sends h o fit = let e = ap (on-node k) h.1 in
      let y = hops.node k l (Request a) drew sends h.0 o.among fit.0 fit.1 in omega arith
  node-takes k l s s' (Reply a grant) drew sends h o fit = let e = ap (on-node k) h.1 in
      let y = hops.node k l (Reply a grant) drew sends h.0 o.among fit.0 fit.1 in omega arith
  node-takes k l s s' (Message n sender content) drew sends h o fit =
      let item : Item L = record { sender = sender; content = content; came = l } in
      let e : of_packets weight sends ≡ 0 = ap (of_packets weight) h.sends in
      let flow = led-flow k l sender o.among h.comes in
      let was : item_worth g k (item_beside s.stored n) ≡ 0 = ap (item_worth g k) h.free in
      let now : item_worth g k (item_beside s'.stored n)
      ≡ 1 + 2 * total (led g sender) (g.rows.outs k sender l) =
      ap (item_worth g k) (gained-same n n
      (record {
        sender = sender;
        content = content;
        came = l;
      }) s.stored s'.stored h.gains refl) in
      let rest : ((j : ℕ) → (n ≡ j → ⊥) →
      item_worth g k (item_beside s'.stored j) ≡ item_worth g k (item_beside s.stored j)) =
      (λ j ne.
      ap (item_worth g k) (gained-other n j
      (record {
        sender = sender;
        content = content;
        came = l;
      }) s.stored s'.stored h.gains ne)) in
      elim (cases_lt n (limit + 1)) [
        | inl low ↦ (let c = sum-change (limit + 1) n
            (λ j. item_worth g k (item_beside s.stored j))
            (λ j. item_worth g k (item_beside s'.stored j)) low rest in omega arith)
        | inr high ↦ (let c = sum-apart (limit + 1) n
            (λ j. item_worth g k (item_beside s.stored j))
            (λ j. item_worth g k (item_beside s'.stored j)) high rest in omega arith)
      ]

  -- Every row of a node gives up one.
  node-pays : (k : ℕ) (s : Store L) (d : Deed L) (sends : List (ℕ × Packet L)) (s' : Store L) →
      StoreDoes g.rows k s d sends s' → NotStray d → StoreSound g k s →
      Each (λ x. EndsAtNode plan k x.0 × g.fits x.0 x.1) (taken_at d) →
      ((n sender : ℕ) (content : Content L) → (store_machine g.rows).holds s n sender content →
      n ≤ limit) → of_packets weight sends + (on-node k s' + 1) ≤ of_packets weight (taken_at d)
      + (on-node k s + numbers_drawn (drawn_in d) * worth)
  node-pays k s (Arrived l x drew) sends s' h ok o fit within = let y =
      node-takes k l s s' x.packet drew sends h o fit.0 in omega arith
  node-pays k s (Stray l x) sends s' h ok o fit within = absurd ok
  node-pays k s (Passed n) sends s' h ok o fit within =
      let e = ap (of_packets weight) h.sends in
      let t = to-each-weight n h.item.sender h.item.content
      (g.rows.outs k h.item.sender h.item.came) in
      let low = within n h.item.sender h.item.content (h.item, h.waits, refl, refl) in
      let was : item_worth g k (item_beside s.stored n)
      ≡ 1 + 2 * total (led g h.item.sender) (g.rows.outs k h.item.sender h.item.came) =
      ap (item_worth g k) h.waits in
      let now : item_worth g k (item_beside s'.stored n) ≡ 0 =
      ap (item_worth g k) (lost-same n n s.stored s'.stored h.loses refl) in
      let c = sum-change (limit + 1) n (λ j. item_worth g k (item_beside s.stored j))
      (λ j. item_worth g k (item_beside s'.stored j)) (omega arith)
      (λ j ne. ap (item_worth g k) (lost-other n j s.stored s'.stored h.loses ne)) in omega arith
  node-pays k s Asked sends s' h ok o fit within = absurd h
  node-pays k s (Took n place) sends s' h ok o fit within = absurd h
  node-pays k s (Turned n place content) sends s' h ok o fit within = absurd h

  -- Every row of a network whose nodes store gives up one.
  pub store-pays : Pays m (store_rules g plan limit pick way) (store_flow g) worth
      (store_charge g request_hops reply_hops worth limit)
  store-pays = record {
    agent = agent-pays;
    node = node-pays;
    idle = λ i b. refl;
    blank = λ k. sum-zero (limit + 1);
  }
