-- Every step of an agent keeps where the copies are.
use Rattle.std.proofs.Common.{◌≡◌, ℕ, ◌+◌, ◌<◌, ◌≤◌, List, refl, ap, ◌∙◌, subst, arith, inl, inr}
use Rattle.std.specs.Prelude.{Option, Some, None, is_some, ◌⊎◌, ◌==◌, nat_lt, if◌then◌else◌}
use Rattle.std.proofs.lemmas.Bool.{eq-eqb, ne_eqb, cases_eq, cases_lt, lt-ltb, le-ltb}
use Rattle.abc_network.specs.Agents.{AgentDoes, AgentState, AgentTakes}
use Rattle.abc_network_laws.specs.Kept.{Each}
use Rattle.abc_packet.specs.declared.log.Deed.TheVariants.{Arrived, Asked, Passed, Stray, Took}
use Rattle.abc_packet.specs.declared.log.Deed.TheVariants.{Turned}
use Rattle.abc_network_laws.specs.Charges.{of_packets, taken_at}
use Rattle.abc_value.specs.declared.grant.Grant.TheVariants.{Closed, Number}
use Rattle.abc_packet.specs.declared.packets.Content.{Content}
use Rattle.abc_packet.specs.declared.log.Deed.{Deed}
use Rattle.abc_network.specs.Networks.{EndsAtAgent, Rules}
use Rattle.abc_network_laws.specs.Flows.{Flow, Goal, NotStray, ToAgent, ToNode, Ways, agent_has}
use Rattle.abc_network_laws.specs.Flows.{at_agent, has_number, message_on}
use Rattle.abc_body.specs.Meanings.{Meaning}
use Rattle.abc_packet.specs.declared.packets.Packet.TheVariants.{Message, Reply, Request}
use Rattle.abc_packet.specs.declared.packets.Packet.{Packet}
use Rattle.abc_wait.specs.Waits.{item_beside}
use Rattle.abc_network.specs.Stored.{Gains, Loses}
use Rattle.abc_network_laws.proofs.Maps.{gained-same, gained-other, lost-same, lost-other}

-- A bit times a value, at the same number,
pub bit-yes : (k n : ℕ) (v : ℕ) → k ≡ n →
    (let b = k == n in let u : ℕ = if b then v else 0 in u) ≡ v
bit-yes k n v e = rw (eq-eqb k n e) refl

-- and at another.
pub bit-no : (k n : ℕ) (v : ℕ) → (k ≡ n → ⊥) →
    (let b = k == n in let u : ℕ = if b then v else 0 in u) ≡ 0
bit-no k n v e = rw (ne_eqb k n e) refl

-- A bit times a value, where a number is below another,
pub early-bit : (n next v : ℕ) → n < next →
    (let b = nat_lt n next in let u : ℕ = if b then v else 0 in u) ≡ v
early-bit n next v h = rw (lt-ltb n next h) refl

-- and where it is not.
pub late-bit : (n next v : ℕ) → next ≤ n →
    (let b = nat_lt n next in let u : ℕ = if b then v else 0 in u) ≡ 0
late-bit n next v h = rw (le-ltb n next h) refl

-- A number above the front is not behind it,
behind-late : (front n : ℕ) → front < n →
    (let b = nat_lt front n in let u : ℕ = if b then 0 else 1 in u) ≡ 0
behind-late front n h = rw (lt-ltb front n h) refl

-- and one up to the front is.
behind-early : (front n : ℕ) → n ≤ front →
    (let b = nat_lt front n in let u : ℕ = if b then 0 else 1 in u) ≡ 1
behind-early front n h = rw (le-ltb front n h) refl

-- 1 where something is found.
abbrev pub there : {X : Type 0} → Option X → ℕ
there o = if is_some o then 1 else 0

-- 1 where the number is not above the front.
abbrev pub behind : ℕ → ℕ → ℕ
behind front n = if nat_lt front n then 0 else 1

-- What an agent has of a number, after each row.
has-stores : {L : Type 0} (k n front : ℕ) (c : Content L) (st new : List (ℕ × Content L)) →
    Gains st k c new → item_beside st k ≡ None → (k ≡ n) ⊎ (k ≡ n → ⊥) →
    there (item_beside new n) + behind front n
    ≡ (there (item_beside st n) + behind front n) + (if k == n then 1 else 0)
has-stores k n front c st new gains free (inl e) =
    let a = ap there (gained-same k n c st new gains e) in
    let b : there (item_beside st n) ≡ 0 = ap there (subst (λ v. item_beside st v ≡ None) e free) in
    let d = bit-yes k n 1 e in omega arith
has-stores k n front c st new gains free (inr e) =
    let a = ap there (gained-other k n c st new gains e) in
    let d = bit-no k n 1 e in omega arith

-- A number that is taken is behind the front where it was stored before.
has-took : {L : Type 0} (k n front : ℕ) (c : Content L) (st new : List (ℕ × Content L)) →
    Loses st k new → k ≡ front + 1 → item_beside st k ≡ Some c → (k ≡ n) ⊎ (k ≡ n → ⊥) →
    (k < n) ⊎ (n ≤ k) → there (item_beside new n) + behind k n
    ≡ there (item_beside st n) + behind front n
has-took k n front c st new loses next at (inl e) o =
    let a = ap there (lost-same k n st new loses e) in
    let b : there (item_beside st n) ≡ 1 = ap there (subst (λ v. item_beside st v ≡ Some c) e at) in
    let d = behind-early k n (omega arith) in let g = behind-late front n (omega arith) in
    omega arith
has-took k n front c st new loses next at (inr e) (inl p) =
    let a = ap there (lost-other k n st new loses e) in
    let d = behind-late k n p in let g = behind-late front n (omega arith) in omega arith
has-took k n front c st new loses next at (inr e) (inr p) =
    let a = ap there (lost-other k n st new loses e) in
    let ne : n ≤ front = elim (cases_lt front n) [ inl q ↦ absurd (e (omega arith)) | inr q ↦ q ] in
    let d = behind-early k n p in let g = behind-early front n ne in omega arith

-- A number that is turned is behind the front from then on.
has-turned : (k n front have : ℕ) → k ≡ front + 1 → (k ≡ n) ⊎ (k ≡ n → ⊥) → (k < n) ⊎ (n ≤ k) →
    have + behind k n ≡ (have + behind front n) + (if k == n then 1 else 0)
has-turned k n front have next (inl e) o = let d = behind-early k n (omega arith) in
    let g = behind-late front n (omega arith) in let b = bit-yes k n 1 e in omega arith
has-turned k n front have next (inr e) (inl p) = let d = behind-late k n p in
    let g = behind-late front n (omega arith) in let b = bit-no k n 1 e in omega arith
has-turned k n front have next (inr e) (inr p) =
    let ne : n ≤ front = elim (cases_lt front n) [ inl q ↦ absurd (e (omega arith)) | inr q ↦ q ] in
    let d = behind-early k n p in let g = behind-early front n ne in let b = bit-no k n 1 e in
    omega arith

-- An agent counts for its own goal, and for no other.
at-cases : {B L : Type 0} (i : ℕ) (goal : Goal) →
    ((at_agent i goal ≡ 0) × ((n : ℕ) (s : AgentState B L) → agent_has n goal i s ≡ 0))
    ⊎ ((at_agent i goal ≡ 1) × ((n : ℕ) (s : AgentState B L) →
    agent_has n goal i s ≡ has_number n s))
at-cases i (ToNode k) = inl (refl, λ n s. refl)
at-cases i (ToAgent j) = elim (cases_eq i j) [
  | inl e ↦ inr (bit-yes i j 1 e, λ n s. bit-yes i j (has_number n s) e)
  | inr e ↦ inl (bit-no i j 1 e, λ n s. bit-no i j (has_number n s) e)
]

-- So a change of what it has counts for its goal.
goal-change : {B L : Type 0} (i n : ℕ) (goal : Goal) (s s' : AgentState B L) (more : ℕ) →
    has_number n s' ≡ has_number n s + more →
    ((at_agent i goal ≡ 0) × ((n : ℕ) (s : AgentState B L) → agent_has n goal i s ≡ 0))
    ⊎ ((at_agent i goal ≡ 1) × ((n : ℕ) (s : AgentState B L) →
    agent_has n goal i s ≡ has_number n s)) →
    ((at_agent i goal ≡ 0) × (agent_has n goal i s' ≡ agent_has n goal i s))
    ⊎ ((at_agent i goal ≡ 1) × (agent_has n goal i s' ≡ agent_has n goal i s + more))
goal-change i n goal s s' more h (inl c) = let a = c.1 n s in let b = c.1 n s' in
    inl (c.0, omega arith)
goal-change i n goal s s' more h (inr c) = let a = c.1 n s in let b = c.1 n s' in
    inr (c.0, omega arith)

-- By a number that is 1 or not: bit times a value.
sum-goal : (bit at leads reached old new : ℕ) (k n : ℕ) → leads + at ≡ reached →
    ((at ≡ 0) × (new ≡ old)) ⊎ ((at ≡ 1) × (new ≡ old + (if k == n then 1 else 0))) →
    (k ≡ n) ⊎ (k ≡ n → ⊥) → (if k == n then leads else 0) + new
    ≡ old + (if k == n then reached else 0)
sum-goal bit at leads reached old new k n e (inl c) (inl q) = let a = bit-yes k n leads q in
    let b = bit-yes k n reached q in let c0 = c.0 in let c1 = c.1 in omega arith
sum-goal bit at leads reached old new k n e (inr c) (inl q) = let a = bit-yes k n leads q in
    let b = bit-yes k n reached q in let d = bit-yes k n 1 q in let c0 = c.0 in let c1 = c.1 in
    omega arith
sum-goal bit at leads reached old new k n e (inl c) (inr q) = let a = bit-no k n leads q in
    let b = bit-no k n reached q in let c0 = c.0 in let c1 = c.1 in omega arith
sum-goal bit at leads reached old new k n e (inr c) (inr q) = let a = bit-no k n leads q in
    let b = bit-no k n reached q in let d = bit-no k n 1 q in let c0 = c.0 in let c1 = c.1 in
    omega arith

-- What comes for the goal is what the goal has more.
take-goal : (at leads old new : ℕ) (k n : ℕ) → leads ≡ at →
    ((at ≡ 0) × (new ≡ old)) ⊎ ((at ≡ 1) × (new ≡ old + (if k == n then 1 else 0))) →
    (k ≡ n) ⊎ (k ≡ n → ⊥) → new ≡ (if k == n then leads else 0) + old
take-goal at leads old new k n e (inl c) (inl q) = let a = bit-yes k n leads q in let c0 = c.0 in
    let c1 = c.1 in omega arith
take-goal at leads old new k n e (inr c) (inl q) = let a = bit-yes k n leads q in
    let d = bit-yes k n 1 q in let c0 = c.0 in let c1 = c.1 in omega arith
take-goal at leads old new k n e (inl c) (inr q) = let a = bit-no k n leads q in let c0 = c.0 in
    let c1 = c.1 in omega arith
take-goal at leads old new k n e (inr c) (inr q) = let a = bit-no k n leads q in
    let d = bit-no k n 1 q in let c0 = c.0 in let c1 = c.1 in omega arith

-- A turn brings a number's copies into being.
abbrev pub born : {L : Type 0} → ℕ → ℕ → Deed L → ℕ
born n reached (Turned k place content) = if k == n then reached else 0
born n reached Asked = 0
born n reached (Arrived link stamped drew) = 0
born n reached (Stray link stamped) = 0
born n reached (Took k place) = 0
born n reached (Passed k) = 0

module _ {B L N : Type 0} (m : Meaning B L) (r : Rules L N) (f : Flow L N) (ways : Ways f r)
    (i : ℕ) (among : i < f.agents) where
  -- The agent has what it had, where front and store stay.
  same-has : (n : ℕ) (goal : Goal) (s s' : AgentState B L) → s'.front ≡ s.front →
      s'.stored ≡ s.stored → agent_has n goal i s' ≡ agent_has n goal i s
  same-has n goal s s' a b =
      let e : has_number n s' ≡ has_number n s + 0 =
      (let u = ap (λ v. there (item_beside v n)) b in let v = ap (λ v. behind v n) a in
      omega arith) in
      elim (goal-change i n goal s s' 0 e (at-cases i goal)) [
        | inl c ↦ c.1
        | inr c ↦ (let c1 = c.1 in omega arith)
      ]

  -- What it takes is what it has more.
  takes-copies : (n l : ℕ) (goal : Goal) (s s' : AgentState B L) (p : Packet L) →
      AgentTakes i s p s' → EndsAtAgent r.plan i l × f.fits l p →
      agent_has n goal i s' ≡ message_on f.leads n goal l p + agent_has n goal i s
  takes-copies n l goal s s' (Request agent) h fit = absurd h
  takes-copies n l goal s s' (Reply agent (Number k)) h fit = let e =
      same-has n goal s s' (ap (λ v. v.front) h.2.2) (ap (λ v. v.stored) h.2.2) in omega arith
  takes-copies n l goal s s' (Reply agent Closed) h fit = let e =
      same-has n goal s s' (ap (λ v. v.front) h.2) (ap (λ v. v.stored) h.2) in omega arith
  takes-copies n l goal s s' (Message k sender content) h fit =
      let a = has-stores k n s.front content s.stored s'.stored h.gains h.free (cases_eq k n) in
      let b : has_number n s' ≡ has_number n s + (if k == n then 1 else 0) =
      ap (has_number n) h.after ∙ a in
      take-goal (at_agent i goal) (f.leads sender l goal) (agent_has n goal i s)
      (agent_has n goal i s') k n
      (ways.arrives i l k sender content fit.0 fit.1 goal)
      (goal-change i n goal s s' (if k == n then 1 else 0) b (at-cases i goal)) (cases_eq k n)

  -- Each row keeps the copies for each goal, and a turn brings them into being.
  pub agent-copies : (n : ℕ) (goal : Goal) (s s' : AgentState B L) (d : Deed L)
      (sends : List (ℕ × Packet L)) → AgentDoes m r.pick (r.way i) i s d sends s' → NotStray d →
      Each (λ x. EndsAtAgent r.plan i x.0 × f.fits x.0 x.1) (taken_at d) →
      of_packets (message_on f.leads n goal) sends + agent_has n goal i s'
      ≡ (of_packets (message_on f.leads n goal) (taken_at d) + agent_has n goal i s)
      + born n (f.reached goal) d
  agent-copies n goal s s' Asked sends h ok fit =
      let a : of_packets (message_on f.leads n goal) sends ≡ 0 =
      ap (of_packets (message_on f.leads n goal)) h.sends in
      let b = same-has n goal s s' (ap (λ v. v.front) h.after) (ap (λ v. v.stored) h.after) in
      omega arith
  agent-copies n goal s s' (Arrived l x drew) sends h ok fit =
      let a : of_packets (message_on f.leads n goal) sends ≡ 0 =
      ap (of_packets (message_on f.leads n goal)) h.1 in
      let b = takes-copies n l goal s s' x.packet h.2 fit.0 in omega arith
  agent-copies n goal s s' (Stray l x) sends h ok fit = absurd ok
  agent-copies n goal s s' (Took k place) sends h ok fit =
      let a : of_packets (message_on f.leads n goal) sends ≡ 0 =
      ap (of_packets (message_on f.leads n goal)) h.sends in
      let b = has-took k n s.front h.content s.stored s'.stored h.loses h.next h.waits
      (cases_eq k n) (cases_lt k n) in
      let c : has_number n s' ≡ has_number n s + 0 =
      (let u = ap (has_number n) h.after in omega arith) in
      let e : agent_has n goal i s' ≡ agent_has n goal i s =
      elim (goal-change i n goal s s' 0 c (at-cases i goal)) [
        | inl g ↦ g.1
        | inr g ↦ (let g1 = g.1 in omega arith)
      ] in omega arith
  agent-copies n goal s s' (Turned k place content) sends h ok fit =
      let a : of_packets (message_on f.leads n goal) sends
      ≡ (if k == n then f.leads i (r.way i s.packets) goal else 0) + 0 =
      ap (of_packets (message_on f.leads n goal)) h.sends in
      let b = has-turned k n s.front (there (item_beside s.stored n)) h.next (cases_eq k n)
      (cases_lt k n) in
      let c : has_number n s' ≡ has_number n s + (if k == n then 1 else 0) =
      ap (has_number n) h.after ∙ b in
      let e = sum-goal 0 (at_agent i goal) (f.leads i (r.way i s.packets) goal) (f.reached goal)
      (agent_has n goal i s) (agent_has n goal i s') k n
      (ways.starts i s.packets among goal)
      (goal-change i n goal s s' (if k == n then 1 else 0) c (at-cases i goal))
      (cases_eq k n) in omega arith
  agent-copies n goal s s' (Passed k) sends h ok fit = absurd h
