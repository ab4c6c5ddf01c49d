-- What the cluster owes: its plan, and its one node table.
use Rattle.std.proofs.Common.{◌≡◌, ℕ, zero, suc, ◌+◌, ◌-◌, ◌*◌, ◌/◌, ◌%◌, ◌<◌, ◌≤◌, List, [], ◌∷◌}
use Rattle.std.proofs.Common.{refl, sym, ap, ◌∙◌, subst, arith, inl, inr}
use Rattle.std.specs.Prelude.{Option, Some, None, ◌⊎◌, ◌==◌, Bool, true, false, if◌then◌else◌}
use Rattle.std.proofs.lemmas.Bool.{eq-eqb, ne_eqb, cases_eq, cases_lt}
use Rattle.std.proofs.lemmas.Nat.{div-mul-add}
use Rattle.abc_packet.specs.declared.log.Deed.TheVariants.{Arrived, Asked, Passed, Stray, Took}
use Rattle.abc_packet.specs.declared.log.Deed.TheVariants.{Turned}
use Rattle.abc_network_laws.specs.Flows.{Carries, Ends, Goal, NotStray, ToAgent, ToNode, Ways}
use Rattle.abc_network_laws.specs.Flows.{asks_on, at_agent, message_on}
use Rattle.abc_value.specs.declared.grant.Grant.TheVariants.{Closed}
use Rattle.abc_network.specs.Nodes.{ClusterDoes, ClusterTakes, copies_from}
use Rattle.abc_network_laws.specs.ClusterFlows.{ClusterFits, cluster_flow, cluster_leads}
use Rattle.abc_network_laws.specs.ClusterFlows.{cluster_reached}
use Rattle.abc_packet.specs.declared.packets.Content.{Content}
use Rattle.abc_packet.specs.declared.log.Deed.{Deed}
use Rattle.abc_network_laws.specs.Kept.{Each, sends_number, total}
use Rattle.abc_value.specs.declared.grant.Grant.{Grant}
use Rattle.abc_packet.specs.declared.packets.Packet.TheVariants.{Message, Reply, Request}
use Rattle.abc_packet.specs.declared.packets.Packet.{Packet}
use Rattle.abc_network.specs.Networks.{drawn_in}
use Rattle.abc_network.specs.Shapes.{cluster_rules}
use Rattle.abc_network_laws.specs.Counts.{draws_number, grants_number, replies_number}
use Rattle.abc_network_laws.specs.Counts.{taken_packets}
use Rattle.abc_network.specs.Links.{from_agent, to_agent}
use Rattle.abc_network_laws.specs.Charges.{of_packets, taken_at}
use Rattle.abc_network_laws.proofs.Places.{bit-yes, bit-no, early-bit, late-bit}
use Rattle.abc_shape.specs.declared.shape.Shape.TheVariants.{Cluster}
use Rattle.abc_shape.specs.Plans.{layout_of}
use Rattle.abc_network.specs.Networks.{EndsAtNode}
use Rattle.abc_network_laws.proofs.ClusterLinks.{cluster-to-agent, cluster-to-node}

-- A link to an agent leads to it alone.
down-leads : (agents nodes s k i : ℕ) (goal : Goal) → k < nodes →
    cluster_leads agents nodes s (to_agent nodes k i) goal ≡ at_agent i goal
down-leads agents nodes s k i goal low =
    let x : ℕ = i * nodes + k in
    let a : ((2 * (i * nodes + k) + 1) % 2 == 0) ≡ false =
    ne_eqb ((2 * (i * nodes + k) + 1) % 2) 0 (λ e. absurd (omega arith)) in
    let b : (2 * (i * nodes + k) + 1) / 2 ≡ i * nodes + k = omega arith in
    let c = div-mul-add i nodes k low in
    rw (a, b, c) refl

-- From an agent a message will reach all others.
up-leads : (agents nodes s k i : ℕ) (goal : Goal) →
    cluster_leads agents nodes s (from_agent nodes k i) goal
    ≡ cluster_reached agents goal - at_agent s goal
up-leads agents nodes s k i goal =
    let a : ((2 * (i * nodes + k)) % 2 == 0) ≡ true =
    eq-eqb ((2 * (i * nodes + k)) % 2) 0 (omega arith) in
    rw a refl

-- Two numbers of one link name one agent,
same-agent : (nodes k k' i i' : ℕ) → k < nodes → k' < nodes →
    to_agent nodes k i ≡ to_agent nodes k' i' → i ≡ i'
same-agent nodes k k' i i' a b e =
    let x = div-mul-add i nodes k a in let y = div-mul-add i' nodes k' b in
    let z : i * nodes + k ≡ i' * nodes + k' = omega arith in
    sym x ∙ (ap (λ v. v / nodes) z ∙ y)

-- also on the way up.
same-from : (nodes k k' i i' : ℕ) → k < nodes → k' < nodes →
    from_agent nodes k i ≡ from_agent nodes k' i' → (i ≡ i') × (k ≡ k')
same-from nodes k k' i i' a b e =
    let x = div-mul-add i nodes k a in let y = div-mul-add i' nodes k' b in
    let z : i * nodes + k ≡ i' * nodes + k' = omega arith in
    let same : i ≡ i' = sym x ∙ (ap (λ v. v / nodes) z ∙ y) in
    (same, (let w : i * nodes ≡ i' * nodes = ap (λ v. v * nodes) same in omega arith))

-- No link leads both to an agent and from one.
not-both : (nodes k k' i i' : ℕ) → to_agent nodes k i ≡ from_agent nodes k' i' → ⊥
not-both nodes k k' i i' e = absurd (omega arith)

-- The number of a link is within their count.
room : (agents nodes i k : ℕ) (d : ℕ) → i + 1 + d ≡ agents → k < nodes →
    i * nodes + k < agents * nodes
room agents nodes i k d e low =
    let a : (i + 1 + d) * nodes ≡ i * nodes + nodes + d * nodes = grind arith in
    let b : (i + 1 + d) * nodes ≡ agents * nodes = ap (λ v. v * nodes) e in omega arith

-- An agent of the network is among those that are reached.
own-part : (agents s : ℕ) (goal : Goal) → s < agents → at_agent s goal ≤ cluster_reached agents goal
own-part agents s (ToNode k) low = omega arith
own-part agents s (ToAgent j) low = elim (cases_eq s j) [
  | inl e ↦ (let a = bit-yes s j 1 e in
      let b = early-bit j agents 1 (subst (λ v. v < agents) e low) in omega arith)
  | inr e ↦ (let a = bit-no s j 1 e in omega arith)
]

-- Each goal is reached at most once.
reached-once : (agents : ℕ) (goal : Goal) → cluster_reached agents goal ≤ 1
reached-once agents (ToNode k) = omega arith
reached-once agents (ToAgent j) = elim (cases_lt j agents) [
  | inl e ↦
      (let a = early-bit j agents 1 e in omega arith)
  | inr e ↦ (let a = late-bit j agents 1 e in omega arith)
]

-- The link ends at node k.
abbrev At : ℕ → ℕ → ℕ → ℕ → Type 0
At agents nodes k l = EndsAtNode (layout_of Cluster agents nodes) k l

module _ {L : Type 0} (agents nodes limit pick : ℕ) (some : 0 < nodes) where
  -- A message on the way down will reach just the agent where its link ends.
  arrives-at : (i l n sender : ℕ) (content : Content L) →
      ((k : ℕ) × (k < nodes) × (l ≡ to_agent nodes k i)) →
      ClusterFits {L = L} agents nodes l (Message n sender content) → (goal : Goal) →
      cluster_leads agents nodes sender l goal ≡ at_agent i goal
  arrives-at i l n sender content here fits goal =
      ap (λ v. cluster_leads agents nodes sender v goal) here.2
      ∙ down-leads agents nodes sender here.0 i goal here.1

  -- The facts on the plan of a cluster.
  pub cluster-ways : Ways (cluster_flow {L = L} agents nodes)
      (cluster_rules agents nodes limit pick)
  cluster-ways = record {
    no_request = λ i l a ends fits. (let here = cluster-to-agent agents nodes i l ends in
        not-both nodes here.0 fits.0 i a (sym here.2 ∙ fits.3));
    own_reply = λ i l a g ends fits. (let here = cluster-to-agent agents nodes i l ends in
        same-agent nodes fits.0 here.0 a i fits.1 here.1 (sym fits.3 ∙ here.2));
    positive = λ l n sender content fits. fits.0;
    arrives = λ i l n sender content ends fits goal. arrives-at i l n sender content
        (cluster-to-agent agents nodes i l ends) fits goal;
    there = λ i packets low. (let a =
        room agents nodes i ((i + packets) % nodes) (agents - (i + 1)) (omega arith)
        (omega arith) in omega arith);
    request = λ i packets low. (
      (i + packets) % nodes,
      (let a : (i + packets) % nodes < nodes = omega arith in a),
      low,
      refl,
    );
    message = λ i packets n content low high. (
      high,
      low,
      inl (
        (i + packets) % nodes,
        (let a : (i + packets) % nodes < nodes = omega arith in a),
        refl,
      ),
    );
    starts = λ i packets low goal. (let a =
        up-leads agents nodes i ((i + packets) % nodes) i goal in
        let b = own-part agents i goal low in omega arith);
    once = reached-once agents;
    agents_are = refl;
    links_are = refl;
  }

  -- What one agent of a list adds to the copies that lead to a goal.
  one-copy : (n m sender k i count : ℕ) (content : Content L) (goal : Goal) (b : Bool) →
      (i == sender) ≡ b → of_packets (message_on (cluster_leads agents nodes) n goal)
      (copies_from nodes k sender i (suc count) (Message m sender content))
      ≡ (if b then 0 else (if m == n then cluster_leads agents nodes sender
      (to_agent nodes k i) goal else 0))
      + of_packets (message_on (cluster_leads agents nodes) n goal)
      (copies_from nodes k sender (i + 1) count (Message m sender content))
  one-copy n m sender k i count content goal true e = rw e (omega arith)
  one-copy n m sender k i count content goal false e = rw e refl

  -- No copy is for a goal that is none of those that are sent to.
  no-copies : (n m sender k i count : ℕ) (content : Content L) (goal : Goal) → k < nodes →
      ((m ≡ n → ⊥) ⊎ ((j : ℕ) → i ≤ j → j < i + count → (j ≡ sender → ⊥) → at_agent j goal ≡ 0)) →
      of_packets (message_on (cluster_leads agents nodes) n goal)
      (copies_from nodes k sender i count (Message m sender content)) ≡ 0
  no-copies n m sender k i zero content goal low none = refl
  no-copies n m sender k i (suc count) content goal low (inl ne) =
      let a = one-copy n m sender k i count content goal (i == sender) refl in
      let rest = no-copies n m sender k (i + 1) count content goal low (inl ne) in
      let z = bit-no m n (cluster_leads agents nodes sender (to_agent nodes k i) goal) ne in
      let y : (let u : ℕ = if i == sender then 0 else
      (if m == n then cluster_leads agents nodes sender (to_agent nodes k i) goal else 0) in u)
      ≡ 0 = elim (cases_eq i sender) [
        | inl e ↦
            (let q : (i == sender) ≡ true = eq-eqb i sender e in rw q refl)
        | inr e ↦ (let q : (i == sender) ≡ false = ne_eqb i sender e in rw q z)
      ] in omega arith
  no-copies n m sender k i (suc count) content goal low (inr none) =
      let a = one-copy n m sender k i count content goal (i == sender) refl in
      let rest = no-copies n m sender k (i + 1) count content goal low
      (inr (λ j x y ne. none j (omega arith) (omega arith) ne)) in
      let d = down-leads agents nodes sender k i goal low in
      let y : (let u : ℕ = if i == sender then 0 else
      (if m == n then cluster_leads agents nodes sender (to_agent nodes k i) goal else 0) in u)
      ≡ 0 = elim (cases_eq i sender) [
        | inl e ↦ (let q : (i == sender) ≡ true = eq-eqb i sender e in rw q refl)
        | inr e ↦ (let q : (i == sender) ≡ false = ne_eqb i sender e in
            let z : cluster_leads agents nodes sender (to_agent nodes k i) goal ≡ 0 =
            d ∙ none i (omega arith) (omega arith) e in
            let w : (let u : ℕ = if m == n then cluster_leads agents nodes sender
            (to_agent nodes k i) goal else 0 in u) ≡ 0 =
            (elim (cases_eq m n) [
              | inl f ↦
                  bit-yes m n (cluster_leads agents nodes sender (to_agent nodes k i) goal) f ∙ z
              | inr f ↦ bit-no m n (cluster_leads agents nodes sender
                  (to_agent nodes k i) goal) f
            ]) in rw q w)
      ] in omega arith

  -- One copy is for an agent that is.
  one-copy-sum : (n m sender k j i count : ℕ) (content : Content L) → k < nodes → m ≡ n →
      (j ≡ sender → ⊥) → i ≤ j → j < i + count → (i ≡ j) ⊎ (i ≡ j → ⊥) →
      of_packets (message_on (cluster_leads agents nodes) n (ToAgent j))
      (copies_from nodes k sender i count (Message m sender content)) ≡ 1
  one-copy-sum n m sender k j i zero content low same ne a b c = absurd (omega arith)
  one-copy-sum n m sender k j i (suc count) content low same ne a b (inl e) =
      let s = one-copy n m sender k i count content (ToAgent j) (i == sender) refl in
      let rest = no-copies n m sender k (i + 1) count content (ToAgent j) low
      (inr (λ q x y nq. bit-no q j 1 (λ f. absurd (omega arith)))) in
      let d = down-leads agents nodes sender k i (ToAgent j) low in
      let o = bit-yes i j 1 e in
      let z = bit-yes m n (cluster_leads agents nodes sender (to_agent nodes k i)
      (ToAgent j)) same in
      let q : (i == sender) ≡ false = ne_eqb i sender (λ f. ne (sym e ∙ f)) in
      let y : (let u : ℕ = if i == sender then 0 else
      (if m == n then cluster_leads agents nodes sender (to_agent nodes k i)
      (ToAgent j) else 0) in u) ≡ 1 = rw q (z ∙ (d ∙ o)) in omega arith
  one-copy-sum n m sender k j i (suc count) content low same ne a b (inr e) =
      let s = one-copy n m sender k i count content (ToAgent j) (i == sender) refl in
      let low' : i + 1 ≤ j = (elim (cases_lt i j) [
        | inl q ↦ omega arith
        | inr q ↦ absurd (e (omega arith))
      ]) in
      let rest = one-copy-sum n m sender k j (i + 1) count content low same ne low' (omega arith)
      (cases_eq (i + 1) j) in
      let d = down-leads agents nodes sender k i (ToAgent j) low in
      let o = bit-no i j 1 e in
      let z = bit-yes m n (cluster_leads agents nodes sender (to_agent nodes k i)
      (ToAgent j)) same in
      let y : (let u : ℕ = if i == sender then 0 else
      (if m == n then cluster_leads agents nodes sender (to_agent nodes k i)
      (ToAgent j) else 0) in u) ≡ 0 = elim (cases_eq i sender) [
        | inl f ↦ (let q : (i == sender) ≡ true = eq-eqb i sender f in rw q refl)
        | inr f ↦ (let q : (i == sender) ≡ false = ne_eqb i sender f in rw q (z ∙ (d ∙ o)))
      ] in omega arith

  -- They go on to just what it led to.
  copies-flow : (n m sender k : ℕ) (content : Content L) (goal : Goal) → k < nodes →
      sender < agents → of_packets (message_on (cluster_leads agents nodes) n goal)
      (copies_from nodes k sender 0 agents (Message m sender content))
      ≡ (if m == n then cluster_leads agents nodes sender (from_agent nodes k sender) goal else 0)
  copies-flow n m sender k content (ToNode q) low under =
      let a = no-copies n m sender k 0 agents content (ToNode q) low (inr (λ j x y ne. refl)) in
      let u = up-leads agents nodes sender k sender (ToNode q) in
      elim (cases_eq m n) [
        | inl e ↦ (let z = bit-yes m n (cluster_leads agents nodes sender
            (from_agent nodes k sender) (ToNode q)) e in omega arith)
        | inr e ↦ (let z = bit-no m n (cluster_leads agents nodes sender
            (from_agent nodes k sender) (ToNode q)) e in omega arith)
      ]
  copies-flow n m sender k content (ToAgent j) low under =
      let u = up-leads agents nodes sender k sender (ToAgent j) in
      elim (cases_eq m n) [
        | inr e ↦ (let a = no-copies n m sender k 0 agents content (ToAgent j) low (inl e) in
            let z = bit-no m n (cluster_leads agents nodes sender (from_agent nodes k sender)
            (ToAgent j)) e in omega arith)
        | inl e ↦ (let z = bit-yes m n (cluster_leads agents nodes sender
            (from_agent nodes k sender) (ToAgent j)) e in
            elim (cases_lt j agents) [
              | inr far ↦ (let a = no-copies n m sender k 0 agents content (ToAgent j) low
                  (inr (λ q x y ne. bit-no q j 1 (λ f. absurd (omega arith)))) in
                  let b = late-bit j agents 1 far in omega arith)
              | inl near ↦ (let b = early-bit j agents 1 near in elim (cases_eq j sender) [
                | inl f ↦ (let a = no-copies n m sender k 0 agents content (ToAgent j) low
                    (inr (λ q x y ne. bit-no q j 1 (λ g. ne (g ∙ f)))) in
                    let o = bit-yes sender j 1 (sym f) in omega arith)
                | inr f ↦ (let a = one-copy-sum n m sender k j 0 agents content low e f
                    (omega arith) (omega arith) (cases_eq 0 j) in
                    let o = bit-no sender j 1 (λ g. f (sym g)) in omega arith)
              ])
            ])
      ]

  -- What it takes is what it has more.
  takes-copies : (k l n : ℕ) (goal : Goal) (p : Packet L) (drew : Option Grant)
      (sends : List (ℕ × Packet L)) → k < nodes → ClusterTakes agents nodes k l p drew sends →
      of_packets (message_on (cluster_leads agents nodes) n goal) sends
      ≡ message_on (cluster_leads agents nodes) n goal l p
  takes-copies k l n goal (Request agent) (Some grant) sends low h =
      ap (of_packets (message_on (cluster_leads agents nodes) n goal)) h.2
  takes-copies k l n goal (Message m sender content) None sends low h =
      ap (of_packets (message_on (cluster_leads agents nodes) n goal)) h.2
      ∙ (copies-flow n m sender k content goal low h.0
      ∙ ap (λ (v : ℕ). let u : ℕ =
      if m == n then cluster_leads agents nodes sender v goal else 0 in u) (sym h.1))
  takes-copies k l n goal (Request agent) None sends low h = absurd h
  takes-copies k l n goal (Reply agent grant) drew sends low h = absurd h
  takes-copies k l n goal (Message m sender content) (Some grant) sends low h = absurd h

  -- A packet on a link that is there, where it may be.
  abbrev Out : ℕ × Packet L → Type 0
  Out x = (x.0 < 2 * (agents * nodes)) × ClusterFits agents nodes x.0 x.1

  -- Copies go on links that are there, and fit.
  copies-fit : (n sender k i count : ℕ) (content : Content L) → 0 < n → sender < agents →
      k < nodes → i + count ≡ agents →
      Each Out (copies_from nodes k sender i count (Message n sender content))
  copies-fit n sender k i zero content a b c e = tt
  copies-fit n sender k i (suc count) content a b c e =
      let rest = copies-fit n sender k (i + 1) count content a b c (omega arith) in
      let here = room agents nodes i k count (omega arith) c in
      elim (cases_eq i sender) [
        | inl e ↦ (let q : (i == sender) ≡ true = eq-eqb i sender e in rw q rest)
        | inr ne ↦ (let q : (i == sender) ≡ false = ne_eqb i sender ne in
            rw q (
              (
                (omega arith),
                (
                  a,
                  b,
                  inr
                      (k, i, c, (let q : i < agents = omega arith in q), ne, refl),
                ),
              ),
              rest,
            ))
      ]

  -- So does all that a row sends.
  takes-fit : (k l : ℕ) (p : Packet L) (drew : Option Grant) (sends : List (ℕ × Packet L)) →
      k < nodes → ClusterTakes agents nodes k l p drew sends → ClusterFits agents nodes l p →
      Each Out sends
  takes-fit k l (Request agent) (Some grant) sends low h fit =
      subst (Each Out) (sym h.2) (
        (
          (let r =
              room agents nodes agent k (agents - (agent + 1)) (let q = h.0 in omega arith) low in
              omega arith),
          (k, low, h.0, refl),
        ),
        tt,
      )
  takes-fit k l (Message m sender content) None sends low h fit =
      subst (Each Out) (sym h.2) (copies-fit m sender k 0 agents content fit.0 h.0 low
      (omega arith))
  takes-fit k l (Request agent) None sends low h fit = absurd h
  takes-fit k l (Reply agent grant) drew sends low h fit = absurd h
  takes-fit k l (Message m sender content) (Some grant) sends low h fit = absurd h

  -- So does all that a deed sends.
  does-fit : (k : ℕ) (s : Unit {0}) (d : Deed L) (sends : List (ℕ × Packet L)) (s' : Unit {0}) →
      ClusterDoes agents nodes k s d sends s' → NotStray d → k < nodes →
      Each (λ x. At agents nodes k x.0 × ClusterFits agents nodes x.0 x.1) (taken_at d) →
      Each Out sends
  does-fit k s (Arrived l x drew) sends s' h ok low fit =
      takes-fit k l x.packet drew sends low h fit.0.1
  does-fit k s (Stray l x) sends s' h ok low fit = absurd ok
  does-fit k s Asked sends s' h ok low fit = absurd h
  does-fit k s (Took m place) sends s' h ok low fit = absurd h
  does-fit k s (Turned m place content) sends s' h ok low fit = absurd h
  does-fit k s (Passed m) sends s' h ok low fit = absurd h

  -- Each row keeps the copies for each goal.
  does-copies : (k : ℕ) (s : Unit {0}) (d : Deed L) (sends : List (ℕ × Packet L)) (s' : Unit {0}) →
      ClusterDoes agents nodes k s d sends s' → NotStray d → k < nodes → (n : ℕ) (goal : Goal) →
      of_packets (message_on (cluster_leads agents nodes) n goal) sends + 0
      ≡ of_packets (message_on (cluster_leads agents nodes) n goal) (taken_at d) + 0
  does-copies k s (Arrived l x drew) sends s' h ok low n goal = let a =
      takes-copies k l n goal x.packet drew sends low h in omega arith
  does-copies k s (Stray l x) sends s' h ok low n goal = absurd ok
  does-copies k s Asked sends s' h ok low n goal = absurd h
  does-copies k s (Took m place) sends s' h ok low n goal = absurd h
  does-copies k s (Turned m place content) sends s' h ok low n goal = absurd h
  does-copies k s (Passed m) sends s' h ok low n goal = absurd h

  -- Copies of a message don't count for what speaks of other packets.
  none-in : (f : ℕ × Packet L → ℕ) (m sender k i count : ℕ) (content : Content L) →
      ((l : ℕ) → f (l, Message m sender content) ≡ 0) →
      total f (copies_from nodes k sender i count (Message m sender content)) ≡ 0
  none-in f m sender k i zero content z = refl
  none-in f m sender k i (suc count) content z =
      let rest = none-in f m sender k (i + 1) count content z in
      let here = z (to_agent nodes k i) in
      elim (cases_eq i sender) [
        | inl e ↦ (let q : (i == sender) ≡ true = eq-eqb i sender e in rw q rest)
        | inr e ↦ (let q : (i == sender) ≡ false = ne_eqb i sender e in rw q (omega arith))
      ]

  -- A request or a reply is taken where it counts, and nothing else changes it.
  takes-asks : (k l a : ℕ) (p : Packet L) (drew : Option Grant) (sends : List (ℕ × Packet L)) →
      ClusterTakes agents nodes k l p drew sends → of_packets (asks_on a) sends ≡ asks_on a l p
  takes-asks k l a (Request agent) (Some grant) sends h =
      let e : of_packets (asks_on a) sends ≡ (if agent == a then 1 else 0) + 0 =
      ap (of_packets (asks_on a)) h.2 in omega arith
  takes-asks k l a (Message m sender content) None sends h =
      ap (of_packets (asks_on a)) h.2 ∙ none-in
      (λ x. asks_on a x.0 x.1) m sender k 0 agents content (λ l. refl)
  takes-asks k l a (Request agent) None sends h = absurd h
  takes-asks k l a (Reply agent grant) drew sends h = absurd h
  takes-asks k l a (Message m sender content) (Some grant) sends h = absurd h

  -- The same for each deed.
  does-asks : (k : ℕ) (s : Unit {0}) (d : Deed L) (sends : List (ℕ × Packet L)) (s' : Unit {0}) →
      ClusterDoes agents nodes k s d sends s' → NotStray d → (a : ℕ) →
      of_packets (asks_on a) sends ≡ of_packets (asks_on a) (taken_at d)
  does-asks k s (Arrived l x drew) sends s' h ok a = let e =
      takes-asks k l a x.packet drew sends h in omega arith
  does-asks k s (Stray l x) sends s' h ok a = absurd ok
  does-asks k s Asked sends s' h ok a = absurd h
  does-asks k s (Took m place) sends s' h ok a = absurd h
  does-asks k s (Turned m place content) sends s' h ok a = absurd h
  does-asks k s (Passed m) sends s' h ok a = absurd h

  -- A row sends the replies that it took, and the one that it drew.
  takes-replies : (k l n : ℕ) (p : Packet L) (drew : Option Grant) (sends : List (ℕ × Packet L)) →
      ClusterTakes agents nodes k l p drew sends →
      total (sends_number n) sends ≡ replies_number n p + draws_number n drew
  takes-replies k l n (Request agent) (Some grant) sends h =
      let e : total (sends_number n) sends ≡ grants_number n grant + 0 =
      ap (total (sends_number n)) h.2 in omega arith
  takes-replies k l n (Message m sender content) None sends h =
      ap (total (sends_number n)) h.2 ∙
      (none-in (sends_number n) m sender k 0 agents content (λ l. refl))
  takes-replies k l n (Request agent) None sends h = absurd h
  takes-replies k l n (Reply agent grant) drew sends h = absurd h
  takes-replies k l n (Message m sender content) (Some grant) sends h = absurd h

  -- The same for each deed.
  does-replies : (k : ℕ) (s : Unit {0}) (d : Deed L) (sends : List (ℕ × Packet L))
      (s' : Unit {0}) → ClusterDoes agents nodes k s d sends s' → NotStray d → (n : ℕ) →
      total (sends_number n) sends ≡ total (replies_number n) (taken_packets d)
      + draws_number n (drawn_in d)
  does-replies k s (Arrived l x drew) sends s' h ok n = let e =
      takes-replies k l n x.packet drew sends h in omega arith
  does-replies k s (Stray l x) sends s' h ok n = absurd ok
  does-replies k s Asked sends s' h ok n = absurd h
  does-replies k s (Took m place) sends s' h ok n = absurd h
  does-replies k s (Turned m place content) sends s' h ok n = absurd h
  does-replies k s (Passed m) sends s' h ok n = absurd h

  -- Each packet that may come to a node has a row.
  stray-row : (k l : ℕ) (p : Packet L) → k < nodes → At agents nodes k l →
      ClusterFits agents nodes l p → ((drew : Option Grant) (out : List (ℕ × Packet L)) →
      ClusterTakes agents nodes k l p drew out → ⊥) → ⊥
  stray-row k l (Request a) low ends fit none =
      let here = cluster-to-node agents nodes k l ends in
      let same = same-from nodes k fit.0 here.0 a low fit.1 (sym here.2 ∙ fit.3) in
      none (Some Closed) ((to_agent nodes k a, Reply a Closed) ∷ []) (
        fit.2,
        here.2
            ∙ ap (λ v. from_agent nodes k v) same.0,
        refl,
      )
  stray-row k l (Reply a grant) low ends fit none = let here =
      cluster-to-node agents nodes k l ends in not-both nodes fit.0 k a here.0 (sym fit.3 ∙ here.2)
  stray-row k l (Message m sender content) low ends fit none = let here =
      cluster-to-node agents nodes k l ends in elim fit.2 [
        | inl f ↦ (let same = same-from nodes k f.0 here.0 sender low f.1 (sym here.2 ∙ f.2) in
            none None (copies_from nodes k sender 0 agents (Message m sender content)) (
              fit.1,
              here.2
                  ∙ ap (λ v. from_agent nodes k v) same.0,
              refl,
            ))
        | inr f ↦ not-both nodes f.0 k f.1 here.0 (sym f.5 ∙ here.2)
      ]

  -- What each row of a cluster's node keeps.
  pub cluster-carries : Carries (cluster_flow {L = L} agents nodes)
      (cluster_rules agents nodes limit pick)
  cluster-carries = record {
    sound = λ k s d sends s' h ok low fit. low;
    fits = λ k s d sends s' h ok low fit. does-fit k s d sends s' h ok low fit;
    copies = λ k s d sends s' h ok low fit n goal. does-copies k s d sends s' h ok low n goal;
    asks = λ k s d sends s' h ok a. does-asks k s d sends s' h ok a;
    replies = λ k s d sends s' h ok n. does-replies k s d sends s' h ok n;
    strays = λ k l s x sends s' h low here fit more. stray-row k l x.packet low here fit h.0;
  }

  -- What a cluster owes for the end.
  pub cluster-ends : Ends (cluster_flow {L = L} agents nodes)
      (cluster_rules agents nodes limit pick)
  cluster-ends = record {
    reaches_agents = λ i low. early-bit i agents 1 low;
    low = λ k s n goal o h ne. absurd (omega arith);
    from_one = λ k s o. omega arith;
    stored = λ k s n sender content o has. absurd has;
    stuck = λ k s goal no. refl;
    blank_sound = λ k low. low;
    blank_bare = λ k n goal low. refl;
    blank_holds = λ n sender content has. absurd has;
  }
