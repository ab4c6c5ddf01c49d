-- Every row of a cluster gives up one.
use Rattle.std.proofs.Common.{◌≡◌, ℕ, zero, suc, ◌+◌, ◌*◌, ◌%◌, ◌<◌, ◌≤◌, List}
use Rattle.std.proofs.Common.{length, refl, ap, ◌∙◌, arith, inl, inr}
use Rattle.std.specs.Prelude.{Option, Some, None, ◌==◌, true, false}
use Rattle.std.proofs.lemmas.Bool.{eq-eqb, ne_eqb, cases_eq}
use Rattle.abc_value.specs.declared.grant.Grant.{Grant}
use Rattle.abc_value.specs.declared.grant.Grant.TheVariants.{Number, Closed}
use Rattle.abc_packet.specs.declared.packets.Content.{Content}
use Rattle.abc_packet.specs.declared.packets.Packet.{Packet}
use Rattle.abc_packet.specs.declared.packets.Packet.TheVariants.{Request, Reply, Message}
use Rattle.abc_packet.specs.declared.log.Deed.{Deed}
use Rattle.abc_packet.specs.declared.log.Deed.TheVariants.{Arrived, Asked, Passed, Stray, Took}
use Rattle.abc_packet.specs.declared.log.Deed.TheVariants.{Turned}
use Rattle.abc_body.specs.Meanings.{Meaning}
use Rattle.abc_network.specs.Agents.{AgentState, AgentDoes, AgentTakes}
use Rattle.abc_network.specs.Links.{from_agent}
use Rattle.abc_network.specs.Nodes.{ClusterTakes, ClusterDoes, copies_from}
use Rattle.abc_network.specs.Networks.{drawn_in}
use Rattle.abc_network.specs.Shapes.{cluster_rules}
use Rattle.abc_network_laws.specs.Charges.{of_packets, taken_at, numbers_drawn}
use Rattle.abc_network_laws.specs.Bounding.{Pays}
use Rattle.abc_network_laws.specs.ClusterFlows.{cluster_flow, cluster_weight}
use Rattle.abc_network_laws.specs.ClusterFlows.{asking_worth, cluster_charge}

module _ {B L : Type 0} (m : Meaning B L) (agents nodes limit pick worth : ℕ)
    (big : worth ≡ 15 + 2 * agents + 2 * nodes) (some : 0 < nodes) where
  -- What a packet on a link is worth, for these sizes.
  abbrev weight : ℕ → Packet L → ℕ
  weight l p = cluster_weight worth agents l p

  -- What an agent and its store are worth.
  abbrev has : AgentState B L → ℕ
  has s = asking_worth worth s.asking + length s.stored

  -- Each packet is worth one.
  at-least : (l : ℕ) (p : Packet L) → 1 ≤ weight l p
  at-least l (Request a) = omega arith
  at-least l (Reply a grant) = omega arith
  at-least l (Message n sender content) = elim (cases_eq (l % 2) 0) [
    | inl s ↦ (let q : (l % 2 == 0) ≡ true = eq-eqb (l % 2) 0 s in rw q (omega arith))
    | inr s ↦ (let q : (l % 2 == 0) ≡ false = ne_eqb (l % 2) 0 s in rw q (omega arith))
  ]

  -- A message is worth two.
  message-two : (l n sender : ℕ) (content : Content L) → 0 < agents →
      2 ≤ weight l (Message n sender content)
  message-two l n sender content any = elim (cases_eq (l % 2) 0) [
    | inl s ↦ (let q : (l % 2 == 0) ≡ true = eq-eqb (l % 2) 0 s in rw q (omega arith))
    | inr s ↦ (let q : (l % 2 == 0) ≡ false = ne_eqb (l % 2) 0 s in rw q (omega arith))
  ]

  -- On the way up it is worth two for each agent, and one.
  up-weight : (x n sender : ℕ) (content : Content L) →
      weight (2 * x) (Message n sender content) ≡ 2 * agents + 1
  up-weight x n sender content = let q : ((2 * x) % 2 == 0) ≡ true =
      eq-eqb ((2 * x) % 2) 0 (omega arith) in rw q refl

  -- On the way down it is worth two.
  down-weight : (x n sender : ℕ) (content : Content L) →
      weight (2 * x + 1) (Message n sender content) ≡ 2
  down-weight x n sender content = let q : ((2 * x + 1) % 2 == 0) ≡ false =
      ne_eqb ((2 * x + 1) % 2) 0 (λ e. absurd (omega arith)) in rw q refl

  -- What an agent takes pays for the step.
  takes-pays : (i l : ℕ) (s s' : AgentState B L) (p : Packet L) → i < agents →
      AgentTakes i s p s' → has s' + 1 ≤ weight l p + has s
  takes-pays i l s s' (Request a) low h = absurd h
  takes-pays i l s s' (Reply a (Number n)) low h = let x = ap has h.2.2 in
      let y = ap (asking_worth worth) h.1 in omega arith
  takes-pays i l s s' (Reply a Closed) low h = let x = ap has h.2 in
      let y = ap (asking_worth worth) h.1 in omega arith
  takes-pays i l s s' (Message n sender content) low h = let x = ap has h.after in
      let g = h.gains.count in let y = message-two l n sender content (omega arith) in omega arith

  -- Every row of an agent gives up one.
  agent-pays : (i : ℕ) (s : AgentState B L) (d : Deed L) (sends : List (ℕ × Packet L))
      (s' : AgentState B L) → i < agents →
      AgentDoes m pick (λ q. from_agent nodes ((i + q) % nodes) i) i s d sends s' →
      of_packets weight sends + (has s' + 1) ≤ of_packets weight (taken_at d) + has s
  agent-pays i s Asked sends s' low h = let e : of_packets weight sends ≡ 2 =
      ap (of_packets weight) h.sends in let x = ap has h.after in
      let y = ap (asking_worth worth) h.idle in omega arith
  agent-pays i s (Arrived l x drew) sends s' low h = let e : of_packets weight sends ≡ 0 =
      ap (of_packets weight) h.1 in let y = takes-pays i l s s' x.packet low h.2 in omega arith
  agent-pays i s (Stray l x) sends s' low h = let e : of_packets weight sends ≡ 0 =
      ap (of_packets weight) h.1 in let y = ap has h.2 in let z = at-least l x.packet in omega arith
  agent-pays i s (Took n place) sends s' low h = let e : of_packets weight sends ≡ 0 =
      ap (of_packets weight) h.sends in let x = ap has h.after in let y = h.loses.count in
      omega arith
  agent-pays i s (Turned n place content) sends s' low h =
      let e = ap (of_packets weight) h.sends in let x = ap has h.after in
      let y = ap (asking_worth worth) h.granted in
      let z = up-weight (i * nodes + (i + s.packets) % nodes) n i content in omega arith
  agent-pays i s (Passed n) sends s' low h = absurd h

  -- The copies are worth at most two for each agent.
  copies-weight : (k sender i count n : ℕ) (content : Content L) →
      of_packets weight (copies_from nodes k sender i count (Message n sender content)) ≤ 2 * count
  copies-weight k sender i zero n content = omega arith
  copies-weight k sender i (suc count) n content =
      let rest = copies-weight k sender (i + 1) count n content in
      let w = down-weight (i * nodes + k) n sender content in
      elim (cases_eq i sender) [
        | inl s ↦ (let q : (i == sender) ≡ true = eq-eqb i sender s in rw q (omega arith))
        | inr s ↦ (let q : (i == sender) ≡ false = ne_eqb i sender s in rw q (omega arith))
      ]

  -- What a node takes pays for the step.
  node-takes : (k l : ℕ) (p : Packet L) (drew : Option Grant) (sends : List (ℕ × Packet L)) →
      ClusterTakes agents nodes k l p drew sends →
      of_packets weight sends + 1 ≤ weight l p + numbers_drawn drew * worth
  node-takes k l (Request a) (Some (Number n)) sends h =
      let e : of_packets weight sends ≡ 1 + worth + 0 = ap (of_packets weight) h.2 in omega arith
  node-takes k l (Request a) (Some Closed) sends h = let e : of_packets weight sends ≡ 1 =
      ap (of_packets weight) h.2 in omega arith
  node-takes k l (Message n sender content) None sends h =
      let e = ap (of_packets weight) h.2 in let c = copies-weight k sender 0 agents n content in
      let w : weight l (Message n sender content) ≡ 2 * agents + 1 =
      ap (λ v. weight v (Message n sender content)) h.1
      ∙ up-weight (sender * nodes + k) n sender content in omega arith
  node-takes k l (Request a) None sends h = absurd h
  node-takes k l (Reply a grant) drew sends h = absurd h
  node-takes k l (Message n sender content) (Some grant) sends h = absurd h

  -- Every row of a node gives up one.
  node-pays : (k : ℕ) (s : Unit {0}) (d : Deed L) (sends : List (ℕ × Packet L)) (s' : Unit {0}) →
      ClusterDoes agents nodes k s d sends s' →
      of_packets weight sends + (0 + 1) ≤ of_packets weight (taken_at d)
      + (0 + numbers_drawn (drawn_in d) * worth)
  node-pays k s (Arrived l x drew) sends s' h = let e = node-takes k l x.packet drew sends h in
      omega arith
  node-pays k s (Stray l x) sends s' h = let e : of_packets weight sends ≡ 0 =
      ap (of_packets weight) h.1 in let z = at-least l x.packet in omega arith
  node-pays k s Asked sends s' h = absurd h
  node-pays k s (Took n place) sends s' h = absurd h
  node-pays k s (Turned n place content) sends s' h = absurd h
  node-pays k s (Passed n) sends s' h = absurd h

  -- Every row of a cluster gives up one.
  pub cluster-pays : Pays m (cluster_rules agents nodes limit pick)
      (cluster_flow agents nodes) worth (cluster_charge worth agents)
  cluster-pays = record {
    agent = λ i s d sends s' low h ok fits. agent-pays i s d sends s' low h;
    node = λ k s d sends s' h ok sound fits within. node-pays k s d sends s' h;
    idle = λ i b. refl;
    blank = λ k. refl;
  }
