-- What a network that was started keeps.
use Rattle.std.proofs.Common.{◌≡◌, ℕ, zero, suc, ◌+◌, ◌-◌, ◌*◌, ◌≤◌, List, [], ◌∷◌, ◌++◌, length, map, replicate, refl, sym, ap, ◌∙◌, subst, arith}
use Rattle.std.specs.Prelude.{Option, Some, None, Result, Ok, Err, IfOk, OnErr}
use Rattle.std.proofs.lemmas.Nat.{mul-le}
use Rattle.abc_value.specs.declared.grant.Grant.{Grant}
use Rattle.abc_value.specs.declared.grant.Grant.TheVariants.{Number, Closed}
use Rattle.abc_packet.specs.declared.limits.TheConstants.{MOST_CLOCK}
use Rattle.abc_packet.specs.declared.log.Entry.{Entry}
use Rattle.abc_number.specs.declared.limits.TheConstants.{MOST_LIMIT}
use Rattle.abc_shape.specs.declared.layout.Layout.{Layout}
use Rattle.abc_shape.specs.declared.layout.TheConstants.{MOST_AGENTS, MOST_NODES}
use Rattle.abc_shape.specs.Plans.{IsLayout}
use Rattle.abc_body.specs.Meanings.{Meaning}
use Rattle.abc_network.specs.Agents.{AgentState}
use Rattle.abc_network.specs.Networks.{Net, Actor, Rules, Event, AgentDid, NodeDid, NetStep, Netrun, Draws, start_of, starting, drawn_in}
use Rattle.abc_network.specs.Nodes.{NodeMachine}
use Rattle.abc_network_laws.specs.Flows.{deed_of}
use Rattle.abc_network_laws.specs.Kept.{Each, total}
use Rattle.abc_network_laws.proofs.Lists.{each-map, swap-total, total-append}
use Rattle.abc_schedule.specs.Laws.{ClocksWithin}
use Rattle.abc_schedule.specs.Legal.{closings, closes, times_closed}
use Rattle.abc_schedule.specs.Schedules.{log_in, logs_of}
use Rattle.abc_schedule.proofs.Few.{clocks-within}
use Rattle.abc_schedule.proofs.Places.{swap-map}
use Rattle.abc_world.specs.declared.event.EventKind.{EventKind}
use Rattle.abc_world.specs.Enabled.{IsNextDraw}
use Rattle.abc_world.specs.declared.event.Moved.{Moved}
use Rattle.abc_world.specs.declared.event.Moved.TheVariants.{Done, NotEnabled}
use Rattle.abc_world.specs.InLinks.{AreInLinks}
use Rattle.abc_world.specs.Runnings.{Running, rules_of, drawn_down, Steps, SameNetwork, Answers}
use Rattle.abc_packet.specs.declared.stamped.Stamped.{Stamped}
use Rattle.abc_shape.specs.Plans.{link_count}
use Rattle.abc_number.specs.Counter.{Counter}
use Rattle.abc_history.specs.Nodes.{SeenNode}
use Rattle.abc_agent.specs.Members.{Member}
use Rattle.abc_world.specs.Teams.{actor_in}
use Rattle.abc_world.specs.Runnings.{net_of, node_in}
use Rattle.abc_world.specs.Starting.{HasLaws, IsStarted, AreBlank, started}
use Rattle.abc_world.proofs.Networked.{running}

-- A run and one event more are a run.
pub run-then : {B L N : Type 0} (m : Meaning B L) (r : Rules L N) (es : List (Event L)) (e : Event L) (w mid w' : Net B L N) →
    Netrun m r w es mid → NetStep m r mid e w' → Netrun m r w (es ++ e ∷ []) w'
run-then m r [] e w mid w' run step = (w', subst (λ v. NetStep m r v e w') run step, refl)
run-then m r (x ∷ es) e w mid w' run step = (run.0, run.1, run-then m r es e run.0 mid w' run.2 step)

-- A run and then another are one.
pub runs-then : {B L N : Type 0} (m : Meaning B L) (r : Rules L N) (es more : List (Event L)) (w mid w' : Net B L N) →
    Netrun m r w es mid → Netrun m r mid more w' → Netrun m r w (es ++ more) w'
runs-then m r [] more w mid w' run rest = subst (λ v. Netrun m r v more w') run rest
runs-then m r (x ∷ es) more w mid w' run rest = (run.0, run.1, runs-then m r es more run.0 mid w' run.2 rest)

-- Within the limits of plans and numbers the bound on events is far below the greatest clock.
few-events : (agents nodes limit count : ℕ) → agents ≤ MOST_AGENTS → nodes ≤ MOST_NODES → limit ≤ MOST_LIMIT →
    count ≤ 15 * (limit + agents) + limit * (2 * agents + 2 * nodes) → count ≤ MOST_CLOCK - 1
few-events agents nodes limit count most_agents most_nodes most_limit few =
    let parts : 2 * agents + 2 * nodes ≤ 640 = omega arith in
    let much : limit * (2 * agents + 2 * nodes) ≤ MOST_LIMIT * 640 = mul-le limit (2 * agents + 2 * nodes) MOST_LIMIT 640 most_limit parts in
    omega arith

-- No clock is above a greater number either.
within-more : {B L N : Type 0} (k n : ℕ) (w : Net B L N) → k ≤ n → ClocksWithin k w → ClocksWithin n w
within-more {B} {L} {N} k n w le h =
    record {
      agents = each-map (λ (a : Actor (AgentState B L) L). a.clock ≤ k) (λ (a : Actor (AgentState B L) L). a.clock ≤ n)
          (λ a c. omega arith) w.agents h.agents;
      nodes = each-map (λ (a : Actor N L). a.clock ≤ k) (λ (a : Actor N L). a.clock ≤ n) (λ a c. omega arith) w.nodes h.nodes;
      links = each-map (Each (λ p. p.clock ≤ k)) (Each (λ p. p.clock ≤ n))
          (λ q had. each-map (λ p. p.clock ≤ k) (λ p. p.clock ≤ n) (λ p c. omega arith) q had) w.links h.links;
    }

-- What closes the counter, by all logs of two lists of actors.
closes-both : {X Y L : Type 0} (f : X → List (Entry L)) (g : Y → List (Entry L)) (xs : List X) (ys : List Y) →
    total (total closes) (map f xs ++ map g ys) ≡ total (total closes) (map f xs) + total (total closes) (map g ys)
closes-both f g xs ys = total-append (total closes) (map f xs) (map g ys)

-- One entry more, by one log.
closes-more : {L : Type 0} (log : List (Entry L)) (e : Entry L) → total closes (log ++ e ∷ []) ≡ total closes log + closes e
closes-more log e = let t = total-append closes log (e ∷ []) in omega arith

-- An event adds what it closes.
pub closed-more : {B L N : Type 0} (m : Meaning B L) (r : Rules L N) (w w' : Net B L N) (e : Event L) → NetStep m r w e w' →
    times_closed (logs_of w') ≡ times_closed (logs_of w) + closings (drawn_in (deed_of e))
closed-more {B} {L} {N} m r w w' (AgentDid i e) step =
    let was = closes-both log_in log_in w.agents w.nodes in
    let is = closes-both log_in log_in w'.agents w'.nodes in
    let same : total (total closes) (map log_in w'.nodes) ≡ total (total closes) (map log_in w.nodes) =
    ap (λ (v : List (Actor N L)). total (total closes) (map log_in v)) step.rest in
    let swapped = swap-total (total closes) i step.old.log step.new.log (map log_in w.agents) (map log_in w'.agents)
    (swap-map log_in i step.old step.new w.agents w'.agents step.at) in
    let log : total closes step.new.log ≡ total closes step.old.log + closes e =
    ap (total closes) step.logs.2 ∙ closes-more step.old.log e in
    omega arith
closed-more {B} {L} {N} m r w w' (NodeDid k e) step =
    let was = closes-both log_in log_in w.agents w.nodes in
    let is = closes-both log_in log_in w'.agents w'.nodes in
    let same : total (total closes) (map log_in w'.agents) ≡ total (total closes) (map log_in w.agents) =
    ap (λ (v : List (Actor (AgentState B L) L)). total (total closes) (map log_in v)) step.rest in
    let swapped = swap-total (total closes) k step.old.log step.new.log (map log_in w.nodes) (map log_in w'.nodes)
    (swap-map log_in k step.old step.new w.nodes w'.nodes step.at) in
    let log : total closes step.new.log ≡ total closes step.old.log + closes e =
    ap (total closes) step.logs.2 ∙ closes-more step.old.log e in
    omega arith

-- What an event draws.
event-draws : {B L N : Type 0} (m : Meaning B L) (r : Rules L N) (w w' : Net B L N) (e : Event L) → NetStep m r w e w' →
    Draws r.limit w.drawn (drawn_in (deed_of e)) w'.drawn
event-draws m r w w' (AgentDid i e) step = step.draws
event-draws m r w w' (NodeDid k e) step = step.draws

-- Draws of the next number keep the numbers in order,
order-stays : (limit : ℕ) (drew : Option Grant) (drawn drawn' : List ℕ) → Draws limit drawn drew drawn' →
    IsNextDraw limit (length drawn) drew → drawn ≡ drawn_down (length drawn) → drawn' ≡ drawn_down (length drawn')
order-stays limit None drawn drawn' draws next order = subst (λ v. v ≡ drawn_down (length v)) (sym draws) order
order-stays limit (Some Closed) drawn drawn' draws next order = subst (λ v. v ≡ drawn_down (length v)) (sym draws) order
order-stays limit (Some (Number n)) drawn drawn' draws next order =
    let is : n ≡ suc (length drawn) = omega arith in
    subst (λ v. v ≡ drawn_down (length v)) (sym draws.3)
    (ap (λ v. v ∷ drawn) is ∙ ap (λ v. suc (length drawn) ∷ v) order)

-- and Closed comes only after all of them.
closed-stays : (limit was is : ℕ) (drew : Option Grant) (drawn drawn' : List ℕ) → Draws limit drawn drew drawn' →
    IsNextDraw limit (length drawn) drew → is ≡ was + closings drew → (1 ≤ was → length drawn ≡ limit) → 1 ≤ is →
    length drawn' ≡ limit
closed-stays limit was is None drawn drawn' draws next more all some =
    ap (λ v. length v) draws ∙ all (omega arith)
closed-stays limit was is (Some Closed) drawn drawn' draws next more all some = ap (λ v. length v) draws ∙ next
closed-stays limit was is (Some (Number n)) drawn drawn' draws next more all some =
    let full = all (omega arith) in
    let within = draws.1 in
    absurd (omega arith)

module _ {B L N : Type 0} (m : Meaning B L) (machine : Layout → NodeMachine L N) (blank : N) where
  -- In a network that was started no clock comes to the greatest.
  pub clocks-low : (n : Running B L N) → IsStarted m machine blank n → ClocksWithin (MOST_CLOCK - 1) n.net
  clocks-low n h =
      let r = rules_of machine blank n.plan n.limit n.pick in
      within-more (length h.events) (MOST_CLOCK - 1) n.net
      (few-events n.plan.agents n.plan.nodes n.limit (length h.events) h.layout.most_agents h.layout.most_nodes h.limit
      (h.laws.bounded h.bodies h.events n.net h.many h.run))
      (clocks-within m r h.bodies h.events n.net h.run)

  -- The same network in another state.
  pub same-is : (old new : Running B L N) → SameNetwork old new →
      new ≡ record { plan = old.plan; limit = old.limit; pick = old.pick; net = new.net }
  same-is old new same =
      ap (λ v. record { plan = v; limit = new.limit; pick = new.pick; net = new.net }) same.plan
      ∙ (ap (λ v. record { plan = old.plan; limit = v; pick = new.pick; net = new.net }) same.limit
      ∙ ap (λ v. record { plan = old.plan; limit = old.limit; pick = v; net = new.net }) same.pick)

  -- After an event it is one that was started.
  pub started-steps : (old new : Running B L N) (actor : ℕ) (kind : EventKind) → IsStarted m machine blank old →
      SameNetwork old new →
      Steps m (rules_of machine blank old.plan old.limit old.pick) actor kind old.net new.net →
      IsStarted m machine blank new
  started-steps old new actor kind h same s =
      let r = rules_of machine blank old.plan old.limit old.pick in
      let draws = event-draws m r old.net new.net s.event s.step in
      let drew = drawn_in (deed_of s.event) in
      let started : IsStarted m machine blank (record { plan = old.plan; limit = old.limit; pick = old.pick; net = new.net }) =
      record {
        layout = h.layout;
        limit = h.limit;
        laws = h.laws;
        bodies = h.bodies;
        many = h.many;
        events = h.events ++ s.event ∷ [];
        run = run-then m r h.events s.event (start_of r h.bodies) old.net new.net h.run s.step;
        in_order = order-stays old.limit drew old.net.drawn new.net.drawn draws s.draws h.in_order;
        closed = closed-stays old.limit (times_closed (logs_of old.net)) (times_closed (logs_of new.net)) drew old.net.drawn
            new.net.drawn draws s.draws (closed-more m r old.net new.net s.event s.step) h.closed;
      } in
      subst (IsStarted m machine blank) (sym (same-is old new same)) started

  -- So it is whatever is answered, and the links that end at each actor are the same.
  started-by : (old new : Running B L N) (actor : ℕ) (kind : EventKind) (moved : Moved) → SameNetwork old new →
      Answers m machine blank actor kind old moved new → IsStarted m machine blank old → IsStarted m machine blank new
  started-by old new actor kind Done same told h = started-steps old new actor kind h same told
  started-by old new actor kind NotEnabled same told h = subst (IsStarted m machine blank) (sym told.1) h

  started-told : {E : Type 0} (old new : Running B L N) (actor : ℕ) (kind : EventKind) (r : Result Moved E) →
      SameNetwork old new → IfOk r (λ moved. Answers m machine blank actor kind old moved new) → OnErr r (new ≡ old) →
      IsStarted m machine blank old → IsStarted m machine blank new
  started-told old new actor kind (Ok moved) same told err h = started-by old new actor kind moved same told h
  started-told old new actor kind (Err e) same told err h = subst (IsStarted m machine blank) (sym err) h

  pub started-after : {E : Type 0} (old new : Running B L N) (actor : ℕ) (kind : EventKind) (lists : List (List ℕ))
      (r : Result Moved E) → SameNetwork old new → IfOk r (λ moved. Answers m machine blank actor kind old moved new) →
      OnErr r (new ≡ old) → IsStarted m machine blank old × AreInLinks old.plan lists →
      IsStarted m machine blank new × AreInLinks new.plan lists
  started-after old new actor kind lists r same told err h =
      (started-told old new actor kind r same told err h.0, subst (λ v. AreInLinks v lists) (sym same.plan) h.1)

-- No log has anything at the start.
closes-none : {X L : Type 0} (f : X → List (Entry L)) (xs : List X) → Each (λ x. f x ≡ []) xs → total (total closes) (map f xs) ≡ 0
closes-none f [] h = refl
closes-none f (x ∷ xs) h =
    let first : total closes (f x) ≡ 0 = ap (total closes) h.0 in
    let rest = closes-none f xs h.1 in
    omega arith

each-starting : {B : Type 0} (L : Type 0) (bodies : List B) → Each (λ a. log_in a ≡ []) (map (starting {L = L}) bodies)
each-starting L [] = tt
each-starting L (b ∷ bodies) = (refl, each-starting L bodies)

each-blank : {S L : Type 0} (a : Actor S L) (n : ℕ) → a.log ≡ [] → Each (λ v. log_in v ≡ []) (replicate n a)
each-blank a zero h = tt
each-blank a (suc n) h = (h, each-blank a n h)

start-closed : {B L N : Type 0} (r : Rules L N) (bodies : List B) → times_closed (logs_of (start_of r bodies)) ≡ 0
start-closed {B} {L} {N} r bodies =
    let blank : Actor N L = record { state = r.blank; clock = 0; log = [] } in
    let both = closes-both log_in log_in (map (starting {L = L}) bodies) (replicate r.plan.nodes blank) in
    let agents = closes-none log_in (map (starting {L = L}) bodies) (each-starting L bodies) in
    let nodes = closes-none log_in (replicate r.plan.nodes blank) (each-blank blank r.plan.nodes refl) in
    omega arith

-- At its start a network is one that was started.
pub started-first : {B L N : Type 0} (m : Meaning B L) (machine : Layout → NodeMachine L N) (blank : N) (p : Layout) (limit pick : ℕ)
    (bodies : List B) → IsLayout p → limit ≤ MOST_LIMIT → HasLaws m (rules_of machine blank p limit pick) →
    length bodies ≡ p.agents → IsStarted m machine blank (started machine blank p limit pick bodies)
started-first m machine blank p limit pick bodies layout bounded laws many =
    let none = start-closed (rules_of machine blank p limit pick) bodies in
    record {
      layout = layout;
      limit = bounded;
      laws = laws;
      bodies = bodies;
      many = many;
      events = [];
      run = refl;
      in_order = refl;
      closed = λ some. absurd (omega arith);
    }

-- The network of agents, nodes and links at their start is at its start.
pub net-starts : {B S L : Type 0} (machine : Layout → NodeMachine L S) (blank : S) (p : Layout) (limit pick : ℕ)
    (agents : List (Member B L)) (nodes : List (SeenNode S L)) (links : List (List (Stamped L))) (numbers : Counter)
    (bodies : List B) → map actor_in agents ≡ map starting bodies → AreBlank blank p nodes → links ≡ replicate (link_count p) [] →
    numbers.count ≡ 0 → numbers.limit ≡ limit →
    running p numbers.limit pick agents nodes links numbers ≡ started machine blank p limit pick bodies
net-starts {B} {S} {L} machine blank p limit pick agents nodes links numbers bodies team crew empty count same =
    ap (λ v. record { plan = p; limit = v; pick = pick; net = net_of agents nodes links numbers }) same
    ∙ (ap (λ (v : List (Actor (AgentState B L) L)). record { plan = p; limit = limit; pick = pick; net = record { agents = v; nodes = map node_in nodes; links = links; drawn = drawn_down numbers.count } }) team
    ∙ (ap (λ (v : List (Actor S L)). record { plan = p; limit = limit; pick = pick; net = record { agents = map starting bodies; nodes = v; links = links; drawn = drawn_down numbers.count } }) crew
    ∙ (ap (λ (v : List (List (Stamped L))). record { plan = p; limit = limit; pick = pick; net = record { agents = map starting bodies; nodes = replicate p.nodes (record { state = blank; clock = 0; log = [] }); links = v; drawn = drawn_down numbers.count } }) empty
    ∙ ap (λ v. record { plan = p; limit = limit; pick = pick; net = record { agents = map starting bodies; nodes = replicate p.nodes (record { state = blank; clock = 0; log = [] }); links = replicate (link_count p) []; drawn = drawn_down v } }) count)))
