-- A run of actors by the law is a run of the network.
use Rattle.std.proofs.Common.{◌≡◌, ◌≢◌, ℕ, ◌+◌, ◌-◌, ◌<◌, ◌≤◌, List, [], ◌∷◌, ◌++◌}
use Rattle.std.proofs.Common.{get_or, refl, sym, ap, ◌∙◌, subst, arith, inl, inr, Bool, true, false}
use Rattle.std.proofs.Common.{if◌then◌else◌}
use Rattle.std.specs.Prelude.{Option, Some, None, nat_lt}
use Rattle.std.proofs.lemmas.Bool.{cases_eq, cases_lt, lt-ltb, le-ltb}
use Rattle.abc_value.specs.declared.grant.Grant.{Grant}
use Rattle.abc_value.specs.declared.grant.Grant.TheVariants.{Number, Closed}
use Rattle.abc_packet.specs.declared.packets.Packet.{Packet}
use Rattle.abc_packet.specs.declared.stamped.Stamped.{Stamped}
use Rattle.abc_packet.specs.declared.log.Deed.{Deed}
use Rattle.abc_packet.specs.declared.log.Entry.{Entry}
use Rattle.abc_packet.specs.Outlets.{sent_on}
use Rattle.abc_shape.specs.Plans.{IsLayout, actor_of, link_count}
use Rattle.abc_shape.proofs.Rows.{row-below}
use Rattle.abc_body.specs.Meanings.{Meaning}
use Rattle.abc_network.specs.Agents.{AgentState, AgentDoes}
use Rattle.abc_network.specs.Networks.{Actor, Net, Rules, Swaps, sent, times, drawn_in, Draws, EndsAtAgent}
use Rattle.abc_network.specs.Networks.{EndsAtNode, AgentDid, NodeDid, NetStep, Netrun}
use Rattle.abc_network_laws.specs.Counts.{draws_number, grants_number}
use Rattle.abc_network_laws.specs.Kept.{Each, total}
use Rattle.abc_network_laws.proofs.Lists.{each-map, swap-length}
use Rattle.abc_network_laws.proofs.Steps.{bit-same, draws-times}
use Rattle.abc_logs.specs.MicroSteps.{taken_by, stamped_with}
use Rattle.abc_logs.specs.Merges.{event_of}
use Rattle.abc_schedule.specs.Schedules.{EndsAt, IsWithin, draws_by}
use Rattle.abc_schedule.specs.Shapes.{StartsAt, OwnLinks}
use Rattle.abc_schedule.specs.Machines.{Web, WebStep, WebRun}
use Rattle.abc_schedule.proofs.Actors.{Part, AnAgent, ANode, Nobody, PartDoes, ActorStep, machine, part-sends}
use Rattle.abc_schedule.proofs.Actors.{none-sent, stamped-links}
use Rattle.abc_schedule.proofs.Order.{events_in}
use Rattle.abc_schedule.proofs.Places.{get-there, put_in, put-swaps, swap-at, swap-others}
use Rattle.abc_schedule.proofs.OnLinks.{Gone, links-go, taken-length, sent-length}
use Rattle.abc_schedule.proofs.Views.{as_agent, as_node, nobody, everyone, view, agent-at, node-at, nobody-at}
use Rattle.abc_schedule.proofs.Views.{agent-swaps, node-swaps, Same, Sized}

-- The numbers drawn after a draw.
abbrev drawn_after : Option Grant → List ℕ → List ℕ
drawn_after None drawn = drawn
drawn_after (Some Closed) drawn = drawn
drawn_after (Some (Number n)) drawn = n ∷ drawn

-- A draw can be made where no number would be drawn twice.
can-draw : (limit : ℕ) (drawn : List ℕ) (g : Option Grant) → IsWithin limit g →
    ((n : ℕ) → times n drawn + draws_number n g ≤ 1) → Draws limit drawn g (drawn_after g drawn)
can-draw limit drawn None h once = refl
can-draw limit drawn (Some Closed) h once = refl
can-draw limit drawn (Some (Number n)) h once =
    let one : grants_number n (Number n) ≡ 1 = bit-same n n refl in
    let most : times n drawn + grants_number n (Number n) ≤ 1 = once n in
    (h.0, h.1, omega arith, refl)

-- Of two, the one that a test says.
pub chosen-yes : {X : Type 0} (b : Bool) (x y : X) → b ≡ true → (if b then x else y) ≡ x
chosen-yes true x y h = refl
chosen-yes false x y h = absurd (cc)

-- Or the other.
pub chosen-no : {X : Type 0} (b : Bool) (x y : X) → b ≡ false → (if b then x else y) ≡ y
chosen-no true x y h = absurd (cc)
chosen-no false x y h = refl

-- The event of an agent, and of a node.
pub agent-event : {L : Type 0} (agents i : ℕ) (e : Entry L) → i < agents → event_of agents i e ≡ AgentDid i e
agent-event agents i e low =
    chosen-yes (nat_lt i agents) (AgentDid i e) (NodeDid (i - agents) e) (lt-ltb i agents low)

-- The event of a node.
pub node-event : {L : Type 0} (agents k : ℕ) (e : Entry L) → event_of agents (agents + k) e ≡ NodeDid k e
node-event agents k e =
    chosen-no (nat_lt (agents + k) agents) (AgentDid (agents + k) e) (NodeDid (agents + k - agents) e)
    (le-ltb (agents + k) agents (omega arith))
    ∙ ap (λ v. NodeDid v e) (let s : agents + k - agents ≡ k = omega arith in s)

-- An actor by its parts.
pub part-is : {S L : Type 0} (a : Actor S L) (p : S) → a.state ≡ p →
    a ≡ record { state = p; clock = a.clock; log = a.log }
part-is {S} {L} a p h =
    let go : record { state = a.state; clock = a.clock; log = a.log }
    ≡ record { state = p; clock = a.clock; log = a.log } =
    ap (λ (v : S). let x : Actor S L = record { state = v; clock = a.clock; log = a.log } in x) h in
    go

module _ {B L N : Type 0} (m : Meaning B L) (r : Rules L N) where
  -- An agent stays an agent,
  pub agent-row : (a : ℕ) (s : AgentState B L) (d : Deed L) (out : List (ℕ × Packet L)) (p : Part B L N) →
      PartDoes m r a (AnAgent s) d out p →
      (s' : AgentState B L) × (p ≡ AnAgent s') × AgentDoes m r.pick (r.way a) a s d out s'
  agent-row a s d out (AnAgent s') h = (s', refl, h.1)
  agent-row a s d out (ANode s') h = absurd h
  agent-row a s d out Nobody h = absurd h

  -- and a node a node.
  pub node-row : (a k : ℕ) (s : N) (d : Deed L) (out : List (ℕ × Packet L)) (p : Part B L N) →
      a ≡ actor_of r.plan k → PartDoes m r a (ANode s) d out p →
      (s' : N) × (p ≡ ANode s') × r.node.does k s d out s'
  node-row a k s d out (ANode s') is h =
      let e = h.1 in
      let same : h.0 ≡ k = omega arith in
      (s', refl, subst (λ v. r.node.does v s d out s') same h.3)
  node-row a k s d out (AnAgent s') is h = absurd h
  node-row a k s d out Nobody is h = absurd h

module _ {B L N : Type 0} (m : Meaning B L) (r : Rules L N) (own : OwnLinks r) (layout : IsLayout r.plan) where
  -- Nothing is sent on a link that is not there.
  pub past-sent : (a l c : ℕ) (sends : List (ℕ × Packet L)) → link_count r.plan ≤ l →
      Each (λ x. StartsAt r.plan a x.0) sends → sent_on l (stamped_with c sends) ≡ []
  past-sent a l c sends past h =
      none-sent l (stamped_with c sends) (stamped-links (λ k. k ≢ l) c sends
      (each-map (λ (x : ℕ × Packet L). StartsAt r.plan a x.0) (λ (x : ℕ × Packet L). x.0 ≢ l)
      (λ x at same. let low = row-below r.plan x.0 a at.0 layout at.1 in absurd (omega arith)) sends h))

  -- A step of actor x.0 by the law, as an event of the network.
  pub record Went (w : Net B L N) (x : ℕ × Entry L) (n' : Web (Actor (Part B L N) L) L) : Type 0 where
    pub after : Net B L N
    pub step : NetStep m r w (event_of r.plan.agents x.0 x.1) after
    pub same : Same n' (view after)
    pub sized : Sized r after
    pub drawn : (n : ℕ) → times n after.drawn ≡ times n w.drawn + draws_by n x.1

  -- The links after a step.
  gone : (w : Net B L N) (n n' : Web (Actor (Part B L N) L) L) (a : ℕ) (e : Entry L) (here : ℕ → Type 0)
      (packets : List (ℕ × Packet L)) (st : WebStep (machine m r) n (a, e) n') → Same n (view w) → Sized r w →
      st.sends ≡ stamped_with e.clock packets → Each (λ x. StartsAt r.plan a x.0) packets →
      Each (λ x. here x.0) (taken_by e.deed) → ((l : ℕ) → here l → EndsAt r.plan a l) →
      Gone here e.deed e.clock packets w.links n'.links
  gone w n n' a e here packets st same sized out sends takes ends =
      let many = sized.links in
      links-go here e.deed e.clock packets w.links n'.links takes
      (λ l h. let at = ends l h in let low = row-below r.plan l at.0 a layout at.1 in omega arith)
      (λ l past. past-sent a l e.clock packets (omega arith) sends)
      (λ l. (
        (st.links l).0,
        sym (same.links l) ∙ (st.links l).1,
        (st.links l).2 ∙ ap (λ o. (st.links l).0 ++ sent_on l o) out,
      ))

  -- Where one actor changes, all look as they should.
  looks : (w w' : Net B L N) (n n' : Web (Actor (Part B L N) L) L) (a : ℕ) (e : Entry L)
      (old new : Actor (Part B L N) L) → WebStep (machine m r) n (a, e) n' → Same n (view w) →
      Swaps a old new (everyone w) (everyone w') → n'.states a ≡ new → (b : ℕ) →
      n'.states b ≡ get_or (everyone w') b nobody
  looks w w' n n' a e old new st same s is b =
      elim (cases_eq b a) [
        | inl h ↦ subst (λ v. n'.states v ≡ get_or (everyone w') v nobody) (sym h)
            (is ∙ sym (swap-at nobody a old new (everyone w) (everyone w') s).1)
        | inr ne ↦ st.others b ne ∙ (same.states b ∙ sym (swap-others nobody a old new (everyone w) (everyone w') s b ne))
      ]

  -- A step of an agent.
  agent-goes : (w : Net B L N) (n n' : Web (Actor (Part B L N) L) L) (i : ℕ) (e : Entry L) → i < r.plan.agents →
      WebStep (machine m r) n (i, e) n' → Same n (view w) → Sized r w →
      ((k : ℕ) → times k w.drawn + draws_by k e ≤ 1) → Went w (i, e) n'
  agent-goes w n n' i e low st same sized once =
      let many = sized.agents in
      let there = get-there w.agents i (omega arith) in
      let old : Actor (AgentState B L) L = there.0 in
      let step : ActorStep m r i (as_agent old) e st.sends (n'.states i) =
      subst (λ v. ActorStep m r i v e st.sends (n'.states i)) (same.states i ∙ agent-at w i old there.1) st.step in
      let does = agent-row m r i old.state e.deed step.packets (n'.states i).state step.does in
      let new : Actor (AgentState B L) L =
      record { state = does.0; clock = (n'.states i).clock; log = (n'.states i).log } in
      let is : n'.states i ≡ as_agent new = part-is (n'.states i) (AnAgent does.0) does.1 in
      let sends = part-sends m r own i (AnAgent old.state) e.deed step.packets (n'.states i).state step.does in
      let takes = each-map (λ (x : ℕ × Stamped L). EndsAt r.plan i x.0)
      (λ (x : ℕ × Stamped L). EndsAtAgent r.plan i x.0) (λ x at. (low, at)) (taken_by e.deed) step.fit.0 in
      let go = gone w n n' i e (EndsAtAgent r.plan i) step.packets st same sized step.out sends takes (λ l h. h.1) in
      let draws = can-draw r.limit w.drawn (drawn_in e.deed) step.fit.1 once in
      let after : Net B L N = record {
        agents = put_in i new w.agents;
        nodes = w.nodes;
        links = sent e.clock step.packets go.left;
        drawn = drawn_after (drawn_in e.deed) w.drawn;
      } in
      let swaps = put-swaps i old new w.agents there.1 in
      record {
        after = after;
        step = subst (λ v. NetStep m r w v after) (sym (agent-event r.plan.agents i e low)) (record {
          old = old;
          new = new;
          sends = step.packets;
          left = go.left;
          row = does.2;
          logs = step.logs;
          at = swaps;
          first = go.first;
          links = refl;
          draws = draws;
          rest = refl;
        });
        same = record {
          states = looks w after n n' i e (as_agent old) (as_agent new) st same
              (agent-swaps w after i old new swaps refl) is;
          links = go.same;
        };
        sized = record {
          agents = swap-length i old new w.agents after.agents swaps ∙ many;
          nodes = sized.nodes;
          links = sent-length e.clock step.packets go.left
              ∙ (taken-length (EndsAtAgent r.plan i) e.deed w.links go.left go.first ∙ sized.links);
        };
        drawn = λ k. draws-times k r.limit w.drawn after.drawn (drawn_in e.deed) draws;
      }

  -- A step of a node.
  node-goes : (w : Net B L N) (n n' : Web (Actor (Part B L N) L) L) (k : ℕ) (e : Entry L) → k < r.plan.nodes →
      WebStep (machine m r) n (actor_of r.plan k, e) n' → Same n (view w) → Sized r w →
      ((j : ℕ) → times j w.drawn + draws_by j e ≤ 1) → Went w (actor_of r.plan k, e) n'
  node-goes w n n' k e low st same sized once =
      let a = actor_of r.plan k in
      let many = sized.nodes in
      let there = get-there w.nodes k (omega arith) in
      let old : Actor N L = there.0 in
      let step : ActorStep m r a (as_node old) e st.sends (n'.states a) =
      subst (λ v. ActorStep m r a v e st.sends (n'.states a))
      (same.states a ∙ node-at w r.plan.agents k old sized.agents there.1) st.step in
      let does = node-row m r a k old.state e.deed step.packets (n'.states a).state refl step.does in
      let new : Actor N L = record { state = does.0; clock = (n'.states a).clock; log = (n'.states a).log } in
      let is : n'.states a ≡ as_node new = part-is (n'.states a) (ANode does.0) does.1 in
      let sends = part-sends m r own a (ANode old.state) e.deed step.packets (n'.states a).state step.does in
      let go = gone w n n' a e (EndsAtNode r.plan k) step.packets st same sized step.out sends step.fit.0 (λ l h. h) in
      let draws = can-draw r.limit w.drawn (drawn_in e.deed) step.fit.1 once in
      let after : Net B L N = record {
        agents = w.agents;
        nodes = put_in k new w.nodes;
        links = sent e.clock step.packets go.left;
        drawn = drawn_after (drawn_in e.deed) w.drawn;
      } in
      let swaps = put-swaps k old new w.nodes there.1 in
      record {
        after = after;
        step = subst (λ v. NetStep m r w v after) (sym (node-event r.plan.agents k e)) (record {
          old = old;
          new = new;
          sends = step.packets;
          left = go.left;
          row = does.2;
          logs = step.logs;
          at = swaps;
          first = go.first;
          links = refl;
          draws = draws;
          rest = refl;
        });
        same = record {
          states = looks w after n n' a e (as_node old) (as_node new) st same
              (node-swaps w after r.plan.agents k old new sized.agents swaps refl) is;
          links = go.same;
        };
        sized = record {
          agents = sized.agents;
          nodes = swap-length k old new w.nodes after.nodes swaps ∙ many;
          links = sent-length e.clock step.packets go.left
              ∙ (taken-length (EndsAtNode r.plan k) e.deed w.links go.left go.first ∙ sized.links);
        };
        drawn = λ j. draws-times j r.limit w.drawn after.drawn (drawn_in e.deed) draws;
      }

  -- Nobody makes a step.
  nobody-goes : (a : ℕ) (s s' : Actor (Part B L N) L) (e : Entry L) (o : List (ℕ × Stamped L)) → s ≡ nobody →
      ActorStep m r a s e o s' → ⊥
  nobody-goes a s s' e o is st =
      let step : ActorStep m r a nobody e o s' = subst (λ v. ActorStep m r a v e o s') is st in
      step.does

  -- A step of any actor.
  goes : (w : Net B L N) (n n' : Web (Actor (Part B L N) L) L) (x : ℕ × Entry L) →
      WebStep (machine m r) n x n' → Same n (view w) → Sized r w →
      ((k : ℕ) → times k w.drawn + draws_by k x.1 ≤ 1) → Went w x n'
  goes w n n' x st same sized once =
      elim (cases_lt x.0 r.plan.agents) [
        | inl low ↦ agent-goes w n n' x.0 x.1 low st same sized once
        | inr high ↦
            elim (cases_lt x.0 (r.plan.agents + r.plan.nodes)) [
              | inl low ↦
                  let k : ℕ = x.0 - r.plan.agents in
                  let is : r.plan.agents + k ≡ x.0 = omega arith in
                  subst (λ v. Went w (v, x.1) n') is
                  (node-goes w n n' k x.1 (omega arith)
                  (subst (λ v. WebStep (machine m r) n (v, x.1) n') (sym is) st) same sized once)
              | inr far ↦
                  absurd (nobody-goes x.0 (n.states x.0) (n'.states x.0) x.1 st.sends
                  (same.states x.0 ∙ nobody-at w r.plan.agents r.plan.nodes x.0 sized.agents sized.nodes far) st.step)
            ]
      ]

  -- How often a number is drawn by entries.
  abbrev pub draws_in : ℕ → List (ℕ × Entry L) → ℕ
  draws_in k xs = total (λ (x : ℕ × Entry L). draws_by k x.1) xs

  -- A run by the law, as a run of the network.
  pub record WentOn (w : Net B L N) (xs : List (ℕ × Entry L)) (last : Web (Actor (Part B L N) L) L) : Type 0 where
    pub after : Net B L N
    pub run : Netrun m r w (events_in r.plan.agents xs) after
    pub same : Same last (view after)
    pub sized : Sized r after

  -- Each run by the law is one of the network.
  pub goes-on : (xs : List (ℕ × Entry L)) (w : Net B L N) (n last : Web (Actor (Part B L N) L) L) →
      WebRun (machine m r) n xs last → Same n (view w) → Sized r w →
      ((k : ℕ) → times k w.drawn + draws_in k xs ≤ 1) → WentOn w xs last
  goes-on [] w n last run same sized once =
      record { after = w; run = refl; same = subst (λ v. Same v (view w)) (sym run) same; sized = sized }
  goes-on (x ∷ xs) w n last run same sized once =
      let one = goes w n run.0 x run.1 same sized (λ k. let o = once k in omega arith) in
      let more = goes-on xs one.after run.0 last run.2 one.same one.sized
      (λ k. let o = once k in let d = one.drawn k in omega arith) in
      record { after = more.after; run = (one.after, one.step, more.run); same = more.same; sized = more.sized }
