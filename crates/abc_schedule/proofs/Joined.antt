-- One schedule, and back, for every network whose actors send on their own links.
use Rattle.std.proofs.Common.{◌≡◌, ◌≢◌, ℕ, zero, suc, ◌+◌, ◌-◌, ◌<◌, ◌≤◌, List, [], ◌∷◌, ◌++◌, length}
use Rattle.std.proofs.Common.{get_or, map, replicate, refl, sym, ap, ◌∙◌, subst, arith, inl, inr}
use Rattle.std.proofs.Common.{if◌then◌else◌, append-nil, append_assoc}
use Rattle.std.specs.Prelude.{Some, slice_get, nat_lt}
use Rattle.std.proofs.lemmas.Bool.{cases_eq, cases_lt, lt-ltb, le-ltb}
use Rattle.std.proofs.lemmas.Option.{slice_get-get_or, get_or_from_slice_get}
use Rattle.abc_packet.specs.declared.packets.Packet.{Packet}
use Rattle.abc_packet.specs.declared.stamped.Stamped.{Stamped}
use Rattle.abc_packet.specs.declared.log.Deed.{Deed}
use Rattle.abc_packet.specs.declared.log.Entry.{Entry}
use Rattle.abc_packet.specs.Outlets.{sent_on}
use Rattle.abc_shape.specs.Plans.{IsLayout, IsLink, actor_of, link_count}
use Rattle.abc_shape.proofs.Ended.{ends-below}
use Rattle.abc_shape.proofs.Rows.{row-below}
use Rattle.abc_body.specs.Meanings.{Meaning}
use Rattle.abc_network.specs.Agents.{AgentState, AgentDoes}
use Rattle.abc_network.specs.Networks.{Actor, Net, Rules, Event, Netrun, start_of, starting, times}
use Rattle.abc_network_laws.specs.Kept.{Each, total}
use Rattle.abc_network_laws.proofs.Lists.{each-map, get-within}
use Rattle.abc_network_laws.proofs.Simulates.{length-map}
use Rattle.abc_logs.specs.MicroSteps.{taken_by}
use Rattle.abc_logs.specs.Paths.{Path, IsPath, clock_after}
use Rattle.abc_logs.specs.Merges.{log_of, IsMerge, events_at}
use Rattle.abc_schedule.specs.Schedules.{IsJoined, IsFor, EndsAt, arrivals_on, log_in, logs_of, draws_by, times_drawn}
use Rattle.abc_schedule.specs.Shapes.{StartsAt, OwnLinks}
use Rattle.abc_schedule.specs.Laws.{HasSchedules, ClocksWithin}
use Rattle.abc_schedule.proofs.Exists.{merge-exists}
use Rattle.abc_schedule.proofs.Few.{clocks-within}
use Rattle.abc_packet.specs.Logs.{Rise}
use Rattle.abc_schedule.proofs.Walks.{walk-clocks, rise-low}
use Rattle.abc_schedule.specs.Machines.{Machine, Walk, WebRun, Merged, put, of_actor}
use Rattle.abc_schedule.proofs.Law.{Fit, law, put_eq, put_other}
use Rattle.abc_schedule.proofs.Back.{Fits, back}
use Rattle.abc_schedule.proofs.Actors.{Part, AnAgent, ANode, PartDoes, machine, sender, receiver, sender-is}
use Rattle.abc_schedule.proofs.Actors.{receiver-is, is-clocked, none-sent}
use Rattle.abc_schedule.proofs.Order.{Rises, merge-is, made_at, events_in, events-are}
use Rattle.abc_schedule.proofs.Places.{get-past, get-there, get-map}
use Rattle.abc_schedule.proofs.Views.{as_agent, as_node, nobody, view, agent-at, node-at, nobody-at}
use Rattle.abc_schedule.proofs.Views.{log-at, Same, Sized, view-same}
use Rattle.abc_schedule.proofs.Goings.{chosen-yes, chosen-no, agent-row, node-row, goes-on}
use Rattle.abc_schedule.proofs.Comings.{entries_of, comes-on, Drawn, drawn-run}
use Rattle.abc_schedule.proofs.Walks.{walk-rises, rises-low, walk-takes, walk-sends, walk-of, path-of}
use Rattle.abc_schedule.proofs.LinksThere.{link-there}

-- The same, so many times.
replicate-length : {X : Type 0} (n : ℕ) (x : X) → length (replicate n x) ≡ n
replicate-length zero x = refl
replicate-length (suc n) x = ap suc (replicate-length n x)

-- The same stands at each place.
replicate-at : {X : Type 0} (n k : ℕ) (x : X) → k < n → slice_get (replicate n x) k ≡ Some x
replicate-at zero k x low = absurd (omega arith)
replicate-at (suc n) zero x low = refl
replicate-at (suc n) (suc k) x low = replicate-at n k x (let l : suc k < suc n = low in omega arith)

-- They are the same at each place.
same-at : {X : Type 0} (x : X) (n l : ℕ) → get_or (replicate n x) l x ≡ x
same-at x zero l = refl
same-at x (suc n) zero = refl
same-at x (suc n) (suc l) = same-at x n l

-- The sum of the first n.
abbrev sum_first : (ℕ → ℕ) → ℕ → ℕ
sum_first f zero = 0
sum_first f (suc n) = f 0 + sum_first (λ a. f (suc a)) n

-- Sums of the same are the same.
sum-same : (f g : ℕ → ℕ) (n : ℕ) → ((a : ℕ) → f a ≡ g a) → sum_first f n ≡ sum_first g n
sum-same f g zero h = refl
sum-same f g (suc n) h =
    let a = h 0 in let b = sum-same (λ a. f (suc a)) (λ a. g (suc a)) n (λ a. h (suc a)) in omega arith

-- Where one is more, the sum is more.
sum-more : (f g : ℕ → ℕ) (v a n : ℕ) → a < n → f a ≡ v + g a → ((b : ℕ) → b ≢ a → f b ≡ g b) →
    sum_first f n ≡ v + sum_first g n
sum-more f g v a zero low e h = absurd (omega arith)
sum-more f g v zero (suc n) low e h =
    let b = sum-same (λ a. f (suc a)) (λ a. g (suc a)) n
    (λ a. h (suc a) (λ z. let q : suc a ≡ zero = z in absurd (omega arith))) in omega arith
sum-more f g v (suc a) (suc n) low e h =
    let first = h 0 (λ z. let q : zero ≡ suc a = z in absurd (omega arith)) in
    let l : suc a < suc n = low in
    let rest = sum-more (λ a. f (suc a)) (λ a. g (suc a)) v a n (omega arith) e
    (λ b ne. h (suc b) (λ z. let q : suc b ≡ suc a = z in ne (omega arith))) in omega arith

-- A sum of nothing is nothing.
sum-zero : (f : ℕ → ℕ) (n : ℕ) → ((a : ℕ) → f a ≡ 0) → sum_first f n ≡ 0
sum-zero f zero h = refl
sum-zero f (suc n) h = let a = h 0 in let b = sum-zero (λ a. f (suc a)) n (λ a. h (suc a)) in omega arith

-- What is summed over a merge is summed over the logs.
merged-total : {L : Type 0} (g : Entry L → ℕ) (xs : List (ℕ × Entry L)) (logs : ℕ → List (Entry L)) (n : ℕ) →
    ((a : ℕ) → n ≤ a → logs a ≡ []) → Merged logs xs →
    total (λ (x : ℕ × Entry L). g x.1) xs ≡ sum_first (λ a. total g (logs a)) n
merged-total g [] logs n past mg = sym (sum-zero (λ a. total g (logs a)) n (λ a. ap (total g) (mg a)))
merged-total {L} g (x ∷ xs) logs n past mg =
    let es : List (Entry L) = mg.0 in
    let at : total g (logs x.0) ≡ g x.1 + total g (put logs x.0 es x.0) =
    ap (total g) mg.1 ∙ ap (λ v. g x.1 + total g v) (sym (put_eq logs x.0 es x.0 refl)) in
    let low : x.0 < n = elim (cases_lt x.0 n) [
      | inl l ↦ l
      | inr far ↦ absurd (let e : x.1 ∷ es ≡ [] = sym mg.1 ∙ past x.0 far in cc)
    ] in
    let rest = merged-total g xs (put logs x.0 es) n
    (λ a far. elim (cases_eq a x.0) [
      | inl e ↦ absurd (omega arith)
      | inr ne ↦ put_other logs x.0 es a ne ∙ past a far
    ]) mg.3 in
    let more = sum-more (λ a. total g (logs a)) (λ a. total g (put logs x.0 es a)) (g x.1) x.0 n low at
    (λ b ne. ap (total g) (sym (put_other logs x.0 es b ne))) in
    omega arith

-- Over a list of logs it is the sum of their sums.
sum-logs : {L : Type 0} (g : Entry L → ℕ) (logs : List (List (Entry L))) →
    sum_first (λ a. total g (log_of logs a)) (length logs) ≡ total (total g) logs
sum-logs g [] = refl
sum-logs g (log ∷ logs) = let rest = sum-logs g logs in omega arith

-- To count is to sum ones.
ones : {X : Type 0} (xs : List X) → total (λ x. 1) xs ≡ length xs
ones [] = refl
ones (x ∷ xs) = let e = ones xs in omega arith

-- The same of all logs.
ones-all : {X : Type 0} (xss : List (List X)) → total (total (λ x. 1)) xss ≡ total (λ xs. length xs) xss
ones-all [] = refl
ones-all (xs ∷ xss) = let a = ones xs in let b = ones-all xss in omega arith

-- There are as many events as entries.
events-in-many : {L : Type 0} (agents : ℕ) (xs : List (ℕ × Entry L)) →
    length (events_in agents xs) ≡ total (λ (x : ℕ × Entry L). 1) xs
events-in-many agents [] = refl
events-in-many agents (x ∷ xs) = let e = events-in-many agents xs in omega arith

-- Past the last actor there is no log.
log-past : {L : Type 0} (logs : List (List (Entry L))) (a : ℕ) → length logs ≤ a → log_of logs a ≡ []
log-past [] a far = refl
log-past (log ∷ logs) zero far = absurd (let l : suc (length logs) ≤ zero = far in omega arith)
log-past (log ∷ logs) (suc a) far =
    log-past logs a (let l : suc (length logs) ≤ suc a = far in omega arith)

-- At the start all logs are empty,
node-logs-start : {L N : Type 0} (x : N) (n a : ℕ) →
    log_of {L = L} (map log_in (replicate n (record { state = x; clock = 0; log = [] }))) a ≡ []
node-logs-start x zero a = refl
node-logs-start x (suc n) zero = refl
node-logs-start x (suc n) (suc a) = node-logs-start x n a

-- the agents' and the nodes',
logs-start : {B L N : Type 0} (bodies : List B) (x : N) (n a : ℕ) →
    log_of {L = L} (map log_in (map starting bodies) ++ map log_in (replicate n (record { state = x; clock = 0; log = [] }))) a
    ≡ []
logs-start [] x n a = node-logs-start x n a
logs-start (b ∷ bodies) x n zero = refl
logs-start (b ∷ bodies) x n (suc a) = logs-start bodies x n a

-- and have no draw.
draws-start-nodes : (L : Type 0) {N : Type 0} (x : N) (k n : ℕ) →
    total (total (draws_by {L = L} k)) (map log_in (replicate n (record { state = x; clock = 0; log = [] }))) ≡ 0
draws-start-nodes L x k zero = refl
draws-start-nodes L x k (suc n) = let e = draws-start-nodes L x k n in omega arith

-- The same of all logs.
draws-start : (L : Type 0) {B N : Type 0} (bodies : List B) (x : N) (k n : ℕ) →
    total (total (draws_by {L = L} k)) (map log_in (map starting bodies)
    ++ map log_in (replicate n (record { state = x; clock = 0; log = [] }))) ≡ 0
draws-start L [] x k n = draws-start-nodes L x k n
draws-start L (b ∷ bodies) x k n = let e = draws-start L bodies x k n in omega arith

-- A network by its parts.
net-same : {B L N : Type 0} (w : Net B L N) (agents : List (Actor (AgentState B L) L)) (nodes : List (Actor N L))
    (links : List (List (Stamped L))) → w.agents ≡ agents → w.nodes ≡ nodes → w.links ≡ links →
    w ≡ record { agents = agents; nodes = nodes; links = links; drawn = w.drawn }
net-same {B} {L} {N} w agents nodes links e f g =
    let net : List (Actor (AgentState B L) L) → List (Actor N L) → List (List (Stamped L)) → Net B L N =
    (λ a n l. record { agents = a; nodes = n; links = l; drawn = w.drawn }) in
    ap (λ a. net a w.nodes w.links) e ∙ (ap (λ n. net agents n w.links) f ∙ ap (λ l. net agents nodes l) g)

-- A walk between other states that are the same.
walk-moved : {S L : Type 0} (m : Machine S L) (a : ℕ) (s t : S) (es fs : List (Entry L))
    (o p : List (ℕ × Stamped L)) (s' t' : S) → s ≡ t → es ≡ fs → o ≡ p → s' ≡ t' →
    Walk m a s es o s' → Walk m a t fs p t'
walk-moved m a s t es fs o p s' t' e f g h walk =
    subst (λ v. Walk m a t fs p v) h (subst (λ v. Walk m a t fs v s') g
    (subst (λ v. Walk m a t v o s') f (subst (λ v. Walk m a v es o s') e walk)))

-- Its log is the log before and its entries.
walk-log-after : {B L N : Type 0} (m : Meaning B L) (r : Rules L N) (a : ℕ) (s : Actor (Part B L N) L)
    (es : List (Entry L)) (o : List (ℕ × Stamped L)) (s' : Actor (Part B L N) L) →
    Walk (machine m r) a s es o s' → s'.log ≡ s.log ++ es
walk-log-after m r a s [] o s' p = ap (λ v. v.log) p.1 ∙ sym (append-nil s.log)
walk-log-after m r a s (e ∷ es) o s' p =
    let step = p.4 in
    walk-log-after m r a p.0 es p.2 s' p.5 ∙ (ap (λ v. v ++ es) step.logs.2 ∙ append_assoc s.log (e ∷ []) es)

-- From an empty log it is the entries.
walk-log : {B L N : Type 0} (m : Meaning B L) (r : Rules L N) (a : ℕ) (s : Actor (Part B L N) L)
    (es : List (Entry L)) (o : List (ℕ × Stamped L)) (s' : Actor (Part B L N) L) → s.log ≡ [] →
    Walk (machine m r) a s es o s' → s'.log ≡ es
walk-log m r a s es o s' empty walk = walk-log-after m r a s es o s' walk ∙ ap (λ v. v ++ es) empty

module _ {B L N : Type 0} (m : Meaning B L) (r : Rules L N) (own : OwnLinks r) (layout : IsLayout r.plan)
    (bodies : List B) where
  -- The start,
  abbrev start : Net B L N
  start = start_of r bodies

  -- has the counts of the plan,
  start-sized : length bodies ≡ r.plan.agents → Sized r start
  start-sized many = record {
    agents = length-map starting bodies ∙ many;
    nodes = replicate-length r.plan.nodes (record { state = r.blank; clock = 0; log = [] });
    links = replicate-length (link_count r.plan) [];
  }

  -- each agent with its body,
  start-agent : (i : ℕ) (b : B) → slice_get bodies i ≡ Some b →
      (view start).states i ≡ as_agent (starting b)
  start-agent i b at = agent-at start i (starting b) (get-map starting bodies i b at)

  -- each node blank,
  start-node : length bodies ≡ r.plan.agents → (k : ℕ) → k < r.plan.nodes →
      (view start).states (actor_of r.plan k) ≡ as_node (record { state = r.blank; clock = 0; log = [] })
  start-node many k low =
      node-at start r.plan.agents k (record { state = r.blank; clock = 0; log = [] })
      (length-map starting bodies ∙ many)
      (replicate-at r.plan.nodes k (record { state = r.blank; clock = 0; log = [] }) low)

  -- nothing on a link,
  start-link : (l : ℕ) → (view start).links l ≡ []
  start-link l = same-at [] (link_count r.plan) l

  -- and empty logs.
  start-log : (a : ℕ) → ((view start).states a).log ≡ []
  start-log a = sym (log-at start a) ∙ logs-start bodies r.blank r.plan.nodes a

  -- What the actors sent; there are no others.
  abbrev cut : (ℕ → List (ℕ × Stamped L)) → ℕ → List (ℕ × Stamped L)
  cut outs a = if nat_lt a (r.plan.agents + r.plan.nodes) then outs a else []

  -- Of an actor it is all that it sent,
  cut-in : (outs : ℕ → List (ℕ × Stamped L)) (a : ℕ) → a < r.plan.agents + r.plan.nodes → cut outs a ≡ outs a
  cut-in outs a low = chosen-yes (nat_lt a (r.plan.agents + r.plan.nodes)) (outs a) []
      (lt-ltb a (r.plan.agents + r.plan.nodes) low)

  -- and of nobody nothing.
  cut-out : (outs : ℕ → List (ℕ × Stamped L)) (a : ℕ) → r.plan.agents + r.plan.nodes ≤ a → cut outs a ≡ []
  cut-out outs a far = chosen-no (nat_lt a (r.plan.agents + r.plan.nodes)) (outs a) []
      (le-ltb a (r.plan.agents + r.plan.nodes) far)

  -- The tables of an agent and of a node are those of their numbers.
  agent-into : (i : ℕ) → i < r.plan.agents → (s : AgentState B L) (d : Deed L) (out : List (ℕ × Packet L))
      (s' : AgentState B L) → AgentDoes m r.pick (r.way i) i s d out s' →
      PartDoes m r i (AnAgent s) d out (AnAgent s')
  agent-into i low s d out s' h = (low, h)

  -- The same of a node.
  node-into : (k : ℕ) → k < r.plan.nodes → (s : N) (d : Deed L) (out : List (ℕ × Packet L)) (s' : N) →
      r.node.does k s d out s' → PartDoes m r (actor_of r.plan k) (ANode s) d out (ANode s')
  node-into k low s d out s' h = (k, refl, low, h)

  module _ (w : Net B L N) (j : IsJoined m r bodies w) where
    sized : Sized r w
    sized = record { agents = j.many_agents; nodes = j.many_nodes; links = j.many_links }

    -- The path of an agent is a walk,
    agent-walks : (i : ℕ) → i < r.plan.agents → Walk (machine m r) i ((view start).states i)
        (log_of (logs_of w) i) (cut j.outs i) ((view w).states i)
    agent-walks i low =
        let many = j.many_bodies in
        let more = j.many_agents in
        let b = get-there bodies i (omega arith) in
        let a = get-there w.agents i (omega arith) in
        let p = j.agents i b.0 a.0 b.1 a.1 in
        let walk = walk-of m r (AgentDoes m r.pick (r.way i) i) (λ s. AnAgent s) i (agent-into i low) (agent-row m r i)
        a.0.log (starting b.0).state 0 [] (j.outs i) a.0.state p.0.path p.1 in
        let at = agent-at w i a.0 a.1 in
        let end : Actor (Part B L N) L = record {
          state = AnAgent a.0.state;
          clock = clock_after 0 a.0.log;
          log = a.0.log;
        } in
        let is : end ≡ as_agent a.0 = ap (λ v.
        let x : Actor (Part B L N) L = record { state = AnAgent a.0.state; clock = v; log = a.0.log } in x)
        (sym p.0.clock) in
        walk-moved (machine m r) i (as_agent (starting b.0)) ((view start).states i) a.0.log (log_of (logs_of w) i)
        (j.outs i) (cut j.outs i) end ((view w).states i) (sym (start-agent i b.0 b.1))
        (sym (log-at w i ∙ ap (λ v. v.log) at)) (sym (cut-in j.outs i (omega arith))) (is ∙ sym at) walk

    -- so is that of a node,
    node-walks : (k : ℕ) → k < r.plan.nodes → Walk (machine m r) (actor_of r.plan k)
        ((view start).states (actor_of r.plan k)) (log_of (logs_of w) (actor_of r.plan k))
        (cut j.outs (actor_of r.plan k)) ((view w).states (actor_of r.plan k))
    node-walks k low =
        let i = actor_of r.plan k in
        let more = j.many_nodes in
        let a = get-there w.nodes k (omega arith) in
        let p = j.nodes k a.0 a.1 in
        let walk = walk-of m r (r.node.does k) (λ s. ANode s) i (node-into k low)
        (λ s d out q h. node-row m r i k s d out q refl h)
        a.0.log r.blank 0 [] (j.outs i) a.0.state p.0.path p.1 in
        let at = node-at w r.plan.agents k a.0 j.many_agents a.1 in
        let end : Actor (Part B L N) L = record {
          state = ANode a.0.state;
          clock = clock_after 0 a.0.log;
          log = a.0.log;
        } in
        let is : end ≡ as_node a.0 = ap (λ v.
        let x : Actor (Part B L N) L = record { state = ANode a.0.state; clock = v; log = a.0.log } in x)
        (sym p.0.clock) in
        walk-moved (machine m r) i (as_node (record { state = r.blank; clock = 0; log = [] })) ((view start).states i)
        a.0.log (log_of (logs_of w) i) (j.outs i) (cut j.outs i) end ((view w).states i)
        (sym (start-node j.many_bodies k low))
        (sym (log-at w i ∙ ap (λ v. v.log) at)) (sym (cut-in j.outs i (omega arith))) (is ∙ sym at) walk

    -- and nobody walks.
    nobody-walks : (a : ℕ) → r.plan.agents + r.plan.nodes ≤ a → Walk (machine m r) a ((view start).states a)
        (log_of (logs_of w) a) (cut j.outs a) ((view w).states a)
    nobody-walks a far =
        let s = start-sized j.many_bodies in
        let before = nobody-at start r.plan.agents r.plan.nodes a s.agents s.nodes far in
        let after = nobody-at w r.plan.agents r.plan.nodes a j.many_agents j.many_nodes far in
        walk-moved (machine m r) a nobody ((view start).states a) [] (log_of (logs_of w) a) [] (cut j.outs a)
        nobody ((view w).states a) (sym before) (sym (log-at w a ∙ ap (λ v. v.log) after))
        (sym (cut-out j.outs a far)) (sym after) (refl, refl)

    -- So everyone walks.
    walks : (a : ℕ) → Walk (machine m r) a ((view start).states a) (log_of (logs_of w) a) (cut j.outs a)
        ((view w).states a)
    walks a =
        elim (cases_lt a r.plan.agents) [
          | inl low ↦ agent-walks a low
          | inr high ↦
              elim (cases_lt a (r.plan.agents + r.plan.nodes)) [
                | inl low ↦
                    let k : ℕ = a - r.plan.agents in
                    let is : r.plan.agents + k ≡ a = omega arith in
                    subst (λ v. Walk (machine m r) v ((view start).states v) (log_of (logs_of w) v) (cut j.outs v)
                    ((view w).states v)) is (node-walks k (omega arith))
                | inr far ↦ nobody-walks a far
              ]
        ]

    -- On a link of the plan all is joined,
    joined-link : (l : ℕ) → l < link_count r.plan →
        arrivals_on l (log_of (logs_of w) (receiver r.plan l)) ++ get_or w.links l []
        ≡ (view start).links l ++ sent_on l (cut j.outs (sender r.plan l))
    joined-link l low =
        let from = sender r.plan l in
        let to = receiver r.plan l in
        let link = link-there r.plan l layout low in
        let many = j.many_links in
        let at = slice_get-get_or w.links l [] (omega arith) in
        let ends = ends-below r.plan l from to layout link in
        j.links l from to (get_or w.links l []) link at
        ∙ (ap (λ v. sent_on l v) (sym (cut-in j.outs from ends.0))
        ∙ ap (λ (v : List (Stamped L)). v ++ sent_on l (cut j.outs from)) (sym (start-link l)))

    -- and elsewhere nothing is.
    none-arrives : (a l : ℕ) (es : List (Entry L)) → link_count r.plan ≤ l → Each (IsFor r a) es →
        arrivals_on l es ≡ []
    none-arrives a l [] past h = refl
    none-arrives a l (e ∷ es) past h =
        let none = none-sent l (taken_by e.deed)
        (each-map (λ (x : ℕ × Stamped L). EndsAt r.plan a x.0) (λ (x : ℕ × Stamped L). x.0 ≢ l)
        (λ x at same. let low = row-below r.plan x.0 at.0 a layout at.1 in absurd (omega arith))
        (taken_by e.deed) h.0.0) in
        ap (λ (v : List (Stamped L)). v ++ arrivals_on l es) none ∙ none-arrives a l es past h.1

    -- So nothing is to be joined there.
    no-link : (l : ℕ) → link_count r.plan ≤ l →
        arrivals_on l (log_of (logs_of w) (receiver r.plan l)) ++ get_or w.links l []
        ≡ (view start).links l ++ sent_on l (cut j.outs (sender r.plan l))
    no-link l past =
        let from = sender r.plan l in
        let to = receiver r.plan l in
        let many = j.many_links in
        let takes = walk-takes m r to ((view start).states to) (log_of (logs_of w) to) (cut j.outs to)
        ((view w).states to) (walks to) in
        let sends = walk-sends m r own from ((view start).states from) (log_of (logs_of w) from) (cut j.outs from)
        ((view w).states from) (walks from) in
        let none : sent_on l (cut j.outs from) ≡ [] = none-sent l (cut j.outs from)
        (each-map (λ (x : ℕ × Stamped L). StartsAt r.plan from x.0) (λ (x : ℕ × Stamped L). x.0 ≢ l)
        (λ x at same. let low = row-below r.plan x.0 from at.0 layout at.1 in absurd (omega arith))
        (cut j.outs from) sends) in
        ap (λ (v : List (Stamped L)). v ++ get_or w.links l []) (none-arrives to l (log_of (logs_of w) to) past takes)
        ∙ (get-past [] w.links l (omega arith)
        ∙ (sym none ∙ ap (λ (v : List (Stamped L)). v ++ sent_on l (cut j.outs from)) (sym (start-link l))))

    -- The logs fit together, as the law has it.
    fit : Fit (machine m r) (view start) (log_of (logs_of w)) (cut j.outs) (view w).states (view w).links
    fit = record {
      walks = walks;
      links = λ l. elim (cases_lt l (link_count r.plan)) [
        | inl low ↦ joined-link l low
        | inr past ↦ no-link l past
      ];
    }

    -- The clocks of each log rise.
    rise : (a : ℕ) → Rises 0 (log_of (logs_of w) a)
    rise a = rises-low 0 ((view start).states a).clock (log_of (logs_of w) a) (omega arith)
        (walk-rises (machine m r) (is-clocked m r own) a ((view start).states a) (log_of (logs_of w) a)
        (cut j.outs a) ((view w).states a) (walks a))

    -- Each is above its packet's.
    pub clocks-rise : (a : ℕ) → Rise 0 (log_of (logs_of w) a)
    clocks-rise a = rise-low 0 ((view start).states a).clock (log_of (logs_of w) a) (omega arith)
        (walk-clocks m r a ((view start).states a) (log_of (logs_of w) a) (cut j.outs a) ((view w).states a) (walks a))

    -- No number is drawn twice in a merge.
    merge-draws : (xs : List (ℕ × Entry L)) → Merged (log_of (logs_of w)) xs → (k : ℕ) →
        total (λ (x : ℕ × Entry L). draws_by k x.1) xs ≤ 1
    merge-draws xs mg k =
        let a = merged-total (draws_by k) xs (log_of (logs_of w)) (length (logs_of w)) (log-past (logs_of w)) mg in
        let b = sum-logs (draws_by k) (logs_of w) in
        let c = j.draws k in omega arith

    -- One schedule.
    pub one-run : (merged : List (ℕ × ℕ)) → IsMerge (logs_of w) merged →
        (drawn : List ℕ) × Netrun m r start (events_at r.plan.agents (logs_of w) merged)
        (record w { drawn = drawn })
    one-run merged mg =
        let xs = made_at (log_of (logs_of w)) merged in
        let is = merge-is (logs_of w) rise merged mg in
        let go = law (machine m r) (is-clocked m r own) (view w).states (view w).links xs (view start)
        (log_of (logs_of w)) (cut j.outs) fit is in
        let went = goes-on m r own layout xs start (view start) go.last go.run
        (record { states = λ a. refl; links = λ l. refl }) (start-sized j.many_bodies)
        (λ k. let d = merge-draws xs is k in omega arith) in
        let same : Same (view w) (view went.after) = record {
          states = λ a. sym (go.states a) ∙ went.same.states a;
          links = λ l. sym (go.links l) ∙ went.same.links l;
        } in
        let all = view-same r w went.after sized went.sized same in
        let end : went.after ≡ record w { drawn = went.after.drawn } =
        net-same went.after w.agents w.nodes w.links all.0 all.1 all.2 in (
          went.after.drawn,
          subst (λ v. Netrun m r start v (record w { drawn = went.after.drawn }))
              (sym (events-are r.plan.agents (logs_of w) merged mg.only))
              (subst (λ v. Netrun m r start (events_in r.plan.agents xs) v) end went.run),
        )

    -- A merge has as many events as the logs have entries.
    events-many : (merged : List (ℕ × ℕ)) → IsMerge (logs_of w) merged →
        length (events_at r.plan.agents (logs_of w) merged) ≡ total (λ log. length log) (logs_of w)
    events-many merged mg =
        let xs = made_at (log_of (logs_of w)) merged in
        let is = merge-is (logs_of w) rise merged mg in
        let a = ap (λ v. length v) (events-are r.plan.agents (logs_of w) merged mg.only) in
        let b = events-in-many r.plan.agents xs in
        let c = merged-total (λ e. 1) xs (log_of (logs_of w)) (length (logs_of w)) (log-past (logs_of w)) is in
        let d = sum-logs (λ e. 1) (logs_of w) in
        let e = ones-all (logs_of w) in
        omega arith

    -- No clock is above the count of entries.
    pub clocks-few : ClocksWithin (total (λ log. length log) (logs_of w)) w
    clocks-few =
        let merge = merge-exists (logs_of w) in
        let go = one-run merge.0 merge.1 in
        let events = events_at r.plan.agents (logs_of w) merge.0 in
        let within = clocks-within m r bodies events (record w { drawn = go.0 }) go.1 in
        subst (λ v. ClocksWithin v w) (events-many merge.0 merge.1)
        (record { agents = within.agents; nodes = within.nodes; links = within.links })

  -- And back.
  module _ (es : List (Event L)) (w : Net B L N) (many : length bodies ≡ r.plan.agents)
      (run : Netrun m r start es w) where
    abbrev entries : List (ℕ × Entry L)
    entries = entries_of r.plan.agents es

    -- The run by the law,
    come : WebRun (machine m r) (view start) entries (view w) × Sized r w
    come = comes-on m r own layout es start w run (start-sized many)

    -- and that its logs fit.
    fits : Fits (machine m r) (view start) entries (view w)
    fits = back (machine m r) (is-clocked m r own) entries (view start) (view w) come.0

    -- Each log has the entries of its actor.
    pub logs-are : (a : ℕ) → log_of (logs_of w) a ≡ of_actor a entries
    logs-are a = log-at w a ∙ walk-log m r a ((view start).states a) (of_actor a entries) (fits.outs a)
        ((view w).states a) (start-log a) (fits.fit.walks a)

    -- The walk of an agent is its path,
    agent-path : (i : ℕ) (b : B) (a : Actor (AgentState B L) L) → slice_get bodies i ≡ Some b →
        slice_get w.agents i ≡ Some a →
        IsPath (AgentDoes m r.pick (r.way i) i) (starting b).state (fits.outs i) a × Each (IsFor r i) a.log
    agent-path i b a from at =
        let low : i < r.plan.agents = (let g = get-within bodies i b from in omega arith) in
        let does = AgentDoes m r.pick (r.way i) i in
        let walk = walk-moved (machine m r) i ((view start).states i) (as_agent (starting b)) (of_actor i entries)
        (of_actor i entries) (fits.outs i) (fits.outs i) ((view w).states i) (as_agent a) (start-agent i b from)
        refl refl (agent-at w i a at) (fits.fit.walks i) in
        let p = path-of m r does (λ s. AnAgent s) i (agent-into i low) (agent-row m r i) (of_actor i entries)
        (starting b).state 0 [] (fits.outs i) (as_agent a) walk in
        let log : a.log ≡ of_actor i entries = p.log_is in
        let part : (as_agent a).state ≡ AnAgent p.last = p.state in
        let state : p.last ≡ a.state = cc in (
          record {
            path = subst (λ v. Path does (starting b).state 0 v (fits.outs i) a.state) (sym log)
                (subst (λ v. Path does (starting b).state 0 (of_actor i entries) (fits.outs i) v) state p.path);
            clock = p.clock ∙ ap (clock_after 0) (sym log);
          },
          subst (Each (IsFor r i)) (sym log) p.fit,
        )

    -- and so is that of a node.
    node-path : (k : ℕ) (a : Actor N L) → slice_get w.nodes k ≡ Some a →
        IsPath (r.node.does k) r.blank (fits.outs (actor_of r.plan k)) a
        × Each (IsFor r (actor_of r.plan k)) a.log
    node-path k a at =
        let i = actor_of r.plan k in
        let more = come.1.nodes in
        let low : k < r.plan.nodes = (let g = get-within w.nodes k a at in omega arith) in
        let walk = walk-moved (machine m r) i ((view start).states i)
        (as_node (record { state = r.blank; clock = 0; log = [] })) (of_actor i entries)
        (of_actor i entries) (fits.outs i) (fits.outs i) ((view w).states i) (as_node a) (start-node many k low)
        refl refl (node-at w r.plan.agents k a come.1.agents at) (fits.fit.walks i) in
        let p = path-of m r (r.node.does k) (λ s. ANode s) i (node-into k low)
        (λ s d out q h. node-row m r i k s d out q refl h) (of_actor i entries)
        r.blank 0 [] (fits.outs i) (as_node a) walk in
        let log : a.log ≡ of_actor i entries = p.log_is in
        let part : (as_node a).state ≡ ANode p.last = p.state in
        let state : p.last ≡ a.state = cc in (
          record {
            path = subst (λ v. Path (r.node.does k) r.blank 0 v (fits.outs i) a.state) (sym log)
                (subst (λ v. Path (r.node.does k) r.blank 0 (of_actor i entries) (fits.outs i) v) state p.path);
            clock = p.clock ∙ ap (clock_after 0) (sym log);
          },
          subst (Each (IsFor r i)) (sym log) p.fit,
        )

    -- Each link is joined.
    link-joined : (l from to : ℕ) (rest : List (Stamped L)) → IsLink r.plan l from to →
        slice_get w.links l ≡ Some rest →
        arrivals_on l (log_of (logs_of w) to) ++ rest ≡ sent_on l (fits.outs from)
    link-joined l from to rest link at =
        let j = fits.fit.links l in
        let q = get_or_from_slice_get w.links l rest [] at in
        let arrived : arrivals_on l (log_of (logs_of w) to) ≡ arrivals_on l (of_actor (receiver r.plan l) entries) =
        ap (arrivals_on l) (logs-are to ∙ ap (λ v. of_actor v entries) (sym (receiver-is r.plan l from to link))) in
        let first : arrivals_on l (of_actor (receiver r.plan l) entries) ++ rest
        ≡ (view start).links l ++ sent_on l (fits.outs (sender r.plan l)) =
        subst (λ v. arrivals_on l (of_actor (receiver r.plan l) entries) ++ v
        ≡ (view start).links l ++ sent_on l (fits.outs (sender r.plan l))) q j in
        ap (λ v. v ++ rest) arrived
        ∙ (first
        ∙ (ap (λ (v : List (Stamped L)). v ++ sent_on l (fits.outs (sender r.plan l))) (start-link l)
        ∙ ap (λ v. sent_on l (fits.outs v)) (sender-is r.plan l from to link)))

    -- The draws are those of the logs.
    drawn : Drawn w
    drawn = drawn-run m r es start w run (record {
      logged = λ k. sym (draws-start L bodies r.blank k r.plan.nodes);
      once = λ k. omega arith;
    })

    -- The logs of the run fit together.
    pub joined-by : IsJoined m r bodies w × ((n : ℕ) → times n w.drawn ≡ times_drawn n (logs_of w))
    joined-by = (
      record {
        many_bodies = many;
        many_agents = come.1.agents;
        many_nodes = come.1.nodes;
        many_links = come.1.links;
        outs = fits.outs;
        agents = agent-path;
        nodes = node-path;
        links = link-joined;
        draws = λ n. let a = drawn.once n in let b = drawn.logged n in omega arith;
      },
      drawn.logged,
    )

-- The laws of schedules, for every network whose actors send on their own links.
pub has-schedules : {B L N : Type 0} (m : Meaning B L) (r : Rules L N) → OwnLinks r → IsLayout r.plan →
    HasSchedules m r
has-schedules m r own layout = record {
  one = λ bodies w merged j mg. one-run m r own layout bodies w j merged mg;
  back = λ bodies es w many run. joined-by m r own layout bodies es w many run;
  clocks = λ bodies w actor j. clocks-rise m r own layout bodies w j actor;
  few = λ bodies w j. clocks-few m r own layout bodies w j;
}
