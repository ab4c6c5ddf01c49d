-- What an agent or a node made among the others is an event of the network, and where none could be made the
-- network has none.
use Rattle.std.proofs.Common.{◌≡◌, ℕ, zero, suc, ◌+◌, ◌<◌, List, [], ◌∷◌, ◌++◌, length, map, get_or, refl, sym, ap, ◌∙◌, subst, arith, ne_eqb, if◌then◌else◌}
use Rattle.std.proofs.Common.{true}
use Rattle.std.specs.Prelude.{Option, Some, None}
use Rattle.std.proofs.lemmas.List.FromFn.{length-range_with_len}
use Rattle.std.proofs.lemmas.List.FromFn.{get_or-range_with_len}
use Rattle.abc_value.specs.declared.grant.Grant.{Grant}
use Rattle.abc_value.specs.declared.grant.Grant.TheVariants.{Number, Closed}
use Rattle.abc_packet.specs.declared.packets.Packet.{Packet}
use Rattle.abc_packet.specs.declared.stamped.Stamped.{Stamped}
use Rattle.abc_packet.specs.declared.log.Deed.{Deed}
use Rattle.abc_packet.specs.declared.log.Deed.TheVariants.{Asked, Arrived, Took, Turned, Passed}
use Rattle.abc_packet.specs.declared.log.Deed.TheVariants.{Stray}
use Rattle.abc_packet.specs.Outlets.{Lists}
use Rattle.abc_shape.specs.declared.layout.Layout.{Layout}
use Rattle.abc_shape.specs.Plans.{IsLayout, actor_of, link_count}
use Rattle.abc_shape.proofs.Rows.{row-below}
use Rattle.abc_number.specs.Counter.{Counter}
use Rattle.abc_number.specs.Draws.{first_numbers}
use Rattle.abc_body.specs.Meanings.{Meaning}
use Rattle.abc_network.specs.Agents.{AgentState, AgentDoes}
use Rattle.abc_network.specs.Networks.{Actor, AgentDid, NodeDid, Draws, times, EndsAtAgent, EndsAtNode, drawn_in}
use Rattle.abc_network.specs.Nodes.{NodeMachine}
use Rattle.abc_network_laws.specs.Kept.{Each}
use Rattle.abc_network_laws.proofs.Lists.{swap-old}
use Rattle.abc_logs.specs.MicroSteps.{Table, Makes}
use Rattle.abc_history.specs.Nodes.{SeenNode}
use Rattle.abc_agent.specs.Members.{Member, table_of}
use Rattle.abc_agent.specs.Ways.{way_of}
use Rattle.abc_schedule.proofs.Places.{swap-map}
use Rattle.abc_world.specs.declared.event.EventKind.{EventKind}
use Rattle.abc_world.specs.Kinds.{IsOfKind, IsPass}
use Rattle.abc_world.specs.Teams.{AreAgents, AgentMade, actor_in}
use Rattle.abc_world.specs.Crews.{AreNodes, NodeMade, DrewOf}
use Rattle.abc_world.specs.Enabled.{IsNextDraw}
use Rattle.abc_world.specs.Runnings.{rules_of, net_of, node_in, drawn_down, Steps}
use Rattle.abc_world.proofs.Events.{agent-event, node-event, draws-none}

-- The same micro-step by another table that has its row.
abbrev retabled : {S L : Type 0} (does does' : Table S L) (taken : List (ℕ × Stamped L)) (old new : Actor S L) (before now : Lists L) →
    ((s : S) (d : Deed L) (o : List (ℕ × Packet L)) (t : S) → does s d o t → does' s d o t) →
    Makes does taken old new before now → Makes does' taken old new before now
retabled does does' taken old new before now f made =
    record {
      entry = made.entry;
      sends = made.sends;
      row = f old.state made.entry.deed made.sends new.state made.row;
      logs = made.logs;
      took = made.took;
      lists = made.lists;
    }

-- The table of an agent is that of its number in its network.
abbrev row-of : {B L : Type 0} (m : Meaning B L) (a : Member B L) (p : Layout) (i pick : ℕ) → (a.plan ≡ p) × (a.number ≡ i) × (a.pick ≡ pick) →
    (s : AgentState B L) (d : Deed L) (o : List (ℕ × Packet L)) (t : AgentState B L) → table_of m a s d o t →
    AgentDoes m pick (way_of p i) i s d o t
row-of m a p i pick h s d o t row =
    subst (λ v. AgentDoes m pick (way_of p v) v s d o t) h.1
    (subst (λ v. AgentDoes m pick (way_of v a.number) a.number s d o t) h.0
    (subst (λ v. AgentDoes m v (way_of a.plan a.number) a.number s d o t) h.2 row))

-- A link that leads to an agent is there.
low-at_agent : (p : Layout) (i n : ℕ) → IsLayout p → n ≡ link_count p → (l : ℕ) → EndsAtAgent p i l → l < n
low-at_agent p i n limits many l ends =
    let low = row-below p l ends.1.0 i limits ends.1.1 in omega arith

-- So is one that leads to a node.
low-at_node : (p : Layout) (k n : ℕ) → IsLayout p → n ≡ link_count p → (l : ℕ) → EndsAtNode p k l → l < n
low-at_node p k n limits many l ends =
    let low = row-below p l ends.0 (actor_of p k) limits ends.1 in omega arith

-- The last of a list stands at its length before.
last-at : {X : Type 0} (xs : List X) (n d : X) → get_or (xs ++ n ∷ []) (length xs) d ≡ n
last-at [] n d = refl
last-at (x ∷ xs) n d = last-at xs n d

-- A list with one more is one longer.
one-longer : {X : Type 0} (xs : List X) (n : X) → length (xs ++ n ∷ []) ≡ suc (length xs)
one-longer [] n = refl
one-longer (x ∷ xs) n = ap suc (one-longer xs n)

-- Nothing and nothing is nothing.
nothing-and : (x : ℕ) → x ≡ 0 → 0 + x ≡ 0
nothing-and x h = omega arith

-- No number above a count was drawn.
pub not-drawn : (n c : ℕ) → c < n → times n (drawn_down c) ≡ 0
not-drawn n zero h = refl
not-drawn n (suc c) h =
    let other = ne_eqb (suc c) n (λ e. (let l : suc c < n = h in absurd (omega arith))) in
    let rest = not-drawn n c (let l : suc c < n = h in omega arith) in
    ap (λ t. (if t then 1 else 0) + times n (drawn_down c)) other ∙ nothing-and (times n (drawn_down c)) rest

-- A number that the counter drew is the next one, and it has drawn one more.
drew-number : (old new : Counter) (n : ℕ) → DrewOf old new (Some (Number n)) →
    (new.count ≡ suc old.count) × (n ≡ suc old.count)
drew-number old new n h =
    let granted = h.2.2 in
    let long-new = length-range_with_len 1 new.count in
    let long-old = length-range_with_len 1 old.count in
    let count : new.count ≡ suc old.count =
    sym long-new ∙ (ap (λ v. length v) granted ∙ (one-longer (first_numbers old.count) n ∙ ap suc long-old)) in
    let at-new : get_or (first_numbers new.count) old.count 0 ≡ 1 + old.count =
    get_or-range_with_len 1 new.count old.count 0 (omega arith) in
    let at-old : get_or (first_numbers old.count ++ n ∷ []) old.count 0 ≡ n =
    subst (λ v. get_or (first_numbers old.count ++ n ∷ []) v 0 ≡ n) long-old (last-at (first_numbers old.count) n 0) in (
      count,
      sym at-old ∙ (ap (λ v. get_or v old.count 0) (sym granted) ∙ (at-new ∙ (let e : 1 + old.count ≡ suc old.count = omega arith in e))),
    )

-- What the counter drew, the network drew.
drew-draws : (old new : Counter) (drew : Option Grant) → DrewOf old new drew →
    Draws old.limit (drawn_down old.count) drew (drawn_down new.count)
drew-draws old new None h = ap (λ (c : Counter). drawn_down c.count) h
drew-draws old new (Some Closed) h =
    let same : new.count ≡ old.count =
    sym (length-range_with_len 1 new.count) ∙ (ap (λ v. length v) h.2.0 ∙ length-range_with_len 1 old.count) in
    ap drawn_down same
drew-draws old new (Some (Number n)) h =
    let number = drew-number old new n h in
    let is = number.1 in (
      h.2.0,
      h.2.1,
      not-drawn n old.count (omega arith),
      ap drawn_down number.0 ∙ ap (λ v. v ∷ drawn_down old.count) (sym is),
    )

-- The numbers drawn are as many as the counter says.
length-drawn_down : (n : ℕ) → length (drawn_down n) ≡ n
length-drawn_down zero = refl
length-drawn_down (suc n) = ap suc (length-drawn_down n)

-- What a counter draws is the next number, where it answers Closed only after all.
pub drew-next : (old new : Counter) (drew : Option Grant) → (new.closed ≡ true → new.count ≡ new.limit) →
    DrewOf old new drew → IsNextDraw old.limit (length (drawn_down old.count)) drew
drew-next old new None all h = tt
drew-next old new (Some Closed) all h =
    let many = length-drawn_down old.count in
    let same : new.count ≡ old.count =
    sym (length-range_with_len 1 new.count) ∙ (ap (λ v. length v) h.2.0 ∙ length-range_with_len 1 old.count) in
    let full = all h.2.1 in
    let limit : new.limit ≡ old.limit = h.1 in
    omega arith
drew-next old new (Some (Number n)) all h =
    let many = length-drawn_down old.count in
    let is = (drew-number old new n h).1 in
    omega arith

-- To pass a message on nothing is drawn.
pub pass-next : {L : Type 0} (limit count : ℕ) (d : Deed L) → IsPass d → IsNextDraw limit count (drawn_in d)
pass-next limit count Asked h = absurd h
pass-next limit count (Arrived link stamped drew) h = absurd h
pass-next limit count (Took n place) h = absurd h
pass-next limit count (Turned n place content) h = absurd h
pass-next limit count (Passed n) h = tt
pass-next limit count (Stray link stamped) h = absurd h

module _ {B L S : Type 0} (m : Meaning B L) (machine : Layout → NodeMachine L S) (blank : S) (p : Layout) (limit pick : ℕ) where
  -- An agent's micro-step is an event of its kind.
  pub agent-steps : (i : ℕ) (kind : EventKind) (taken : List (ℕ × Stamped L)) (agents agents' : List (Member B L))
      (nodes : List (SeenNode S L)) (links links' : List (List (Stamped L))) (numbers : Counter) →
      IsLayout p → length links ≡ link_count p → AreAgents p pick agents → Each (λ x. EndsAtAgent p i x.0) taken →
      AgentMade m i (IsOfKind kind) taken agents agents' links links' →
      Steps m (rules_of machine blank p limit pick) i kind (net_of agents nodes links numbers) (net_of agents' nodes links' numbers)
  agent-steps i kind taken agents agents' nodes links links' numbers limits many are here made =
      let stood = swap-old i made.old made.new agents agents' made.at in
      let by = retabled (table_of m made.old) (AgentDoes m pick (way_of p i) i) taken made.old.actor made.new.actor made.before
      made.now (row-of m made.old p i pick (are.each i made.old stood)) made.made in
      record {
        event = AgentDid i made.made.entry;
        is = (refl, made.is);
        step = agent-event m (rules_of machine blank p limit pick) (net_of agents nodes links numbers) i made.old.actor
            made.new.actor taken made.before made.now (map actor_in agents') links' by
            (swap-map actor_in i made.old made.new agents agents' made.at) made.tables here
            (low-at_agent p i (length links) limits many);
        draws = subst (λ v. IsNextDraw limit (length (drawn_down numbers.count)) v)
            (sym (draws-none m pick (way_of p i) i made.old.actor.state made.made.entry.deed made.made.sends
            made.new.actor.state by.row)) tt;
      }

  -- So is a node's.
  pub node-steps : (k : ℕ) (kind : EventKind) (taken : List (ℕ × Stamped L)) (agents : List (Member B L))
      (nodes nodes' : List (SeenNode S L)) (links links' : List (List (Stamped L))) (numbers numbers' : Counter) →
      IsLayout p → length links ≡ link_count p → numbers.limit ≡ limit → AreNodes p nodes →
      Each (λ x. EndsAtNode p k x.0) taken →
      (made : NodeMade machine k (IsOfKind kind) taken nodes nodes' links links' numbers numbers') →
      IsNextDraw limit (length (drawn_down numbers.count)) (drawn_in made.made.entry.deed) →
      Steps m (rules_of machine blank p limit pick) (actor_of p k) kind (net_of agents nodes links numbers)
      (net_of agents nodes' links' numbers')
  node-steps k kind taken agents nodes nodes' links links' numbers numbers' limits many same are here made next =
      let stood = are.each k made.old (swap-old k made.old made.new nodes nodes' made.at) in
      let by = retabled ((machine made.old.plan).does made.old.number) ((machine p).does k) taken made.old.actor
      made.new.actor made.before made.now
      (λ s d o t row. subst (λ v. (machine p).does v s d o t) stood.1
      (subst (λ v. (machine v).does made.old.number s d o t) stood.0 row)) made.made in
      record {
        event = NodeDid k made.made.entry;
        is = (refl, made.is);
        step = node-event m (rules_of machine blank p limit pick) (net_of agents nodes links numbers) k made.old.actor
            made.new.actor taken made.before made.now (map node_in nodes') links' (drawn_down numbers'.count) by
            (swap-map node_in k made.old made.new nodes nodes' made.at) made.tables here
            (low-at_node p k (length links) limits many)
            (subst (λ v. Draws v (drawn_down numbers.count) (drawn_in made.made.entry.deed) (drawn_down numbers'.count)) same
            (drew-draws numbers numbers' (drawn_in made.made.entry.deed) made.draws));
        draws = next;
      }
