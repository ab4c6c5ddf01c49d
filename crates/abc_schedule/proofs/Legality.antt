-- What legal records tell, and which runs leave one, from what a shape owes.
use Rattle.std.proofs.Common.{◌≡◌, ℕ, zero, suc, ◌+◌, ◌-◌, ◌<◌, ◌≤◌, List, [], ◌∷◌, ◌++◌, length, map}
use Rattle.std.proofs.Common.{take}
use Rattle.std.proofs.Common.{get_or, refl, sym, ap, ap₂, ◌∙◌, subst, arith, inl, inr, cond}
use Rattle.std.specs.Prelude.{Option, Some, None, slice_get}
use Rattle.std.proofs.lemmas.Bool.{cases_eq, cases_lt, eq-eqb, ne_eqb}
use Rattle.std.proofs.lemmas.Option.{slice_get-get_or}
use Rattle.abc_value.specs.declared.grant.Grant.{Grant}
use Rattle.abc_value.specs.declared.grant.Grant.TheVariants.{Number, Closed}
use Rattle.abc_packet.specs.declared.choice.Choice.{Choice}
use Rattle.abc_packet.specs.declared.log.Entry.{Entry}
use Rattle.abc_shape.specs.Plans.{IsLayout}
use Rattle.abc_body.specs.Meanings.{Meaning}
use Rattle.abc_body.specs.Multicasts.{Runs}
use Rattle.abc_network.specs.Agents.{AgentState}
use Rattle.abc_network.specs.Networks.{Actor, Net, Rules, Event, AgentDid, NodeDid, Netrun, start_of, times, Draws}
use Rattle.abc_network.specs.Networks.{drawn_in}
use Rattle.abc_network.specs.Numbering.{Turn, turns_of, places_of, taken_numbers, rows_of, choices_of, choice_at}
use Rattle.abc_network.specs.Numbering.{heads, tails}
use Rattle.abc_network.specs.Quiets.{IsStill}
use Rattle.abc_network_laws.specs.Flows.{NotStray, deed_of}
use Rattle.abc_network_laws.specs.Kept.{Each, IsBlank, Kept, Relays}
use Rattle.abc_network_laws.specs.Moves.{EachLives, RowMoves, RowRuns}
use Rattle.abc_network_laws.specs.Settling.{NoGap, Settled, Settles}
use Rattle.abc_network_laws.specs.Simulation.{Simulated, Counts, body_at, places_at}
use Rattle.abc_network_laws.proofs.Choices.{rows-run}
use Rattle.abc_network_laws.proofs.Keeps.{keeps-run}
use Rattle.abc_network_laws.proofs.Lists.{get-within}
use Rattle.abc_network_laws.proofs.Orders.{in-order}
use Rattle.abc_network_laws.proofs.Simulates.{simulated, kept-start, length-map}
use Rattle.abc_network_laws.proofs.Places.{bit-no}
use Rattle.abc_logs.specs.Choices.{AreChoices, AreNumbered, AllTook, numbers_from, IsChoice}
use Rattle.abc_logs.specs.Merges.{log_of, events_at}
use Rattle.abc_schedule.specs.Schedules.{log_in, logs_of, times_drawn}
use Rattle.abc_schedule.specs.Shapes.{OwnLinks}
use Rattle.abc_schedule.specs.Legal.{IsLegal, KeepsRecords}
use Rattle.abc_schedule.specs.Legal.{times_closed}
use Rattle.abc_schedule.specs.Machines.{of_actor}
use Rattle.abc_schedule.proofs.Exists.{merge-exists}
use Rattle.abc_schedule.proofs.Comings.{entry_of, entries_of}
use Rattle.abc_schedule.proofs.Joined.{joined-by, one-run, logs-are}
use Rattle.abc_schedule.proofs.Places.{get-there}
use Rattle.abc_schedule.proofs.Spoken.{Says, all-say}
use Rattle.abc_schedule.proofs.Telling.{told, AllTell, is-choice, choices-are, row_at, columns_from}

-- The numbers of a log that counts.
counts-are : (k c : ℕ) (ns : List ℕ) → Counts k ns → length ns ≡ c → ns ≡ numbers_from (k + 1) c
counts-are k zero [] h e = refl
counts-are k (suc c) [] h e = absurd (let l : 0 ≡ suc c = e in omega arith)
counts-are k zero (n ∷ ns) h e = absurd (let l : suc (length ns) ≡ 0 = e in omega arith)
counts-are k (suc c) (n ∷ ns) h e =
    ap₂ (λ x xs. x ∷ xs) h.0
    (counts-are (k + 1) c ns h.1 (let l : suc (length ns) ≡ suc c = e in omega arith))

-- The first of two lists.
take-front : {X : Type 0} (xs ys : List X) (k : ℕ) → length xs ≡ k → take k (xs ++ ys) ≡ xs
take-front [] ys zero e = refl
take-front [] ys (suc k) e = absurd (let l : 0 ≡ suc k = e in omega arith)
take-front (x ∷ xs) ys zero e = absurd (let l : suc (length xs) ≡ 0 = e in omega arith)
take-front (x ∷ xs) ys (suc k) e =
    ap (λ v. x ∷ v) (take-front xs ys k (let l : suc (length xs) ≡ suc k = e in omega arith))

-- The first move of each, and the rest of each.
abbrev AllLong : ℕ → List (List (Option ℕ)) → Type 0
AllLong k pss = Each (λ ps. length ps ≡ k) pss

-- Where all numbers were reached, nobody has moves left.
no-moves : {B L : Type 0} (m : Meaning B L) (i : ℕ) (bs : List B) (pss : List (List (Option ℕ))) (cs : List B) →
    EachLives {L = L} m i [] bs pss cs → AllLong 0 pss → cs ≡ bs
no-moves m i [] [] [] h a = refl
no-moves m i [] [] (c ∷ cs) h a = absurd h
no-moves m i [] (ps ∷ pss) cs h a = absurd h
no-moves m i (b ∷ bs) [] cs h a = absurd h
no-moves m i (b ∷ bs) (ps ∷ pss) [] h a = absurd h
no-moves m i (b ∷ bs) ([] ∷ pss) (c ∷ cs) h a =
    ap₂ (λ x xs. x ∷ xs) h.0 (no-moves m (i + 1) bs pss cs h.1 a.1)
no-moves m i (b ∷ bs) ((p ∷ ps) ∷ pss) (c ∷ cs) h a = absurd (let l : suc (length ps) ≡ 0 = a.0 in omega arith)

-- The moves of all at the first number.
first-moves : {B L : Type 0} (m : Meaning B L) (i k : ℕ) (t : Turn L) (ts : List (Turn L)) (bs : List B)
    (pss : List (List (Option ℕ))) (cs : List B) → EachLives m i (t ∷ ts) bs pss cs → AllLong (suc k) pss →
    (mid : List B) × RowMoves m i t (heads pss) bs mid × EachLives m i ts mid (tails pss) cs × AllLong k (tails pss)
first-moves m i k t ts [] [] [] h a = ([], tt, tt, tt)
first-moves m i k t ts [] [] (c ∷ cs) h a = absurd h
first-moves m i k t ts [] (ps ∷ pss) cs h a = absurd h
first-moves m i k t ts (b ∷ bs) [] cs h a = absurd h
first-moves m i k t ts (b ∷ bs) (ps ∷ pss) [] h a = absurd h
first-moves m i k t ts (b ∷ bs) ([] ∷ pss) (c ∷ cs) h a = absurd (let l : 0 ≡ suc k = a.0 in omega arith)
first-moves m i k t ts (b ∷ bs) ((p ∷ ps) ∷ pss) (c ∷ cs) h a =
    let r = first-moves m (i + 1) k t ts bs pss cs h.1 a.1 in
    (h.0.0 ∷ r.0, (h.0.1, r.1), (h.0.2, r.2), (let l : suc (length ps) ≡ suc k = a.0 in omega arith, r.3))

-- The own moves of all, taken by number, lead to where each is.
all-moves : {B L : Type 0} (m : Meaning B L) (ts : List (Turn L)) (bs : List B) (pss : List (List (Option ℕ)))
    (cs : List B) → EachLives m 0 ts bs pss cs → AllLong (length ts) pss → RowRuns m bs ts (rows_of (length ts) pss) cs
all-moves m [] bs pss cs h a = no-moves m 0 bs pss cs h a
all-moves m (t ∷ ts) bs pss cs h a =
    let r = first-moves m 0 (length ts) t ts bs pss cs h a in
    (r.0, r.1, all-moves m ts r.0 (tails pss) cs r.2 r.3)

-- No number above the limit is drawn.
draws-within : (limit n : ℕ) (drawn drawn' : List ℕ) (g : Option Grant) → limit < n → Draws limit drawn g drawn' →
    times n drawn ≡ 0 → times n drawn' ≡ 0
draws-within limit n drawn drawn' None far h none = ap (times n) h ∙ none
draws-within limit n drawn drawn' (Some Closed) far h none = ap (times n) h ∙ none
draws-within limit n drawn drawn' (Some (Number k)) far h none =
    let low = h.1 in
    let bit = bit-no k n 1 (λ e. absurd (omega arith)) in
    let c = ap (times n) h.3 in omega arith

-- So none is in a run.
run-within : {B L N : Type 0} (m : Meaning B L) (r : Rules L N) (n : ℕ) (es : List (Event L)) (w w' : Net B L N) →
    r.limit < n → Netrun m r w es w' → times n w.drawn ≡ 0 → times n w'.drawn ≡ 0
run-within m r n [] w w' far run none = ap (λ v. times n v.drawn) run ∙ none
run-within m r n (AgentDid i e ∷ es) w w' far run none =
    let s = run.1 in
    run-within m r n es run.0 w' far run.2 (draws-within r.limit n w.drawn run.0.drawn (drawn_in e.deed) far s.draws none)
run-within m r n (NodeDid k e ∷ es) w w' far run none =
    let s = run.1 in
    run-within m r n es run.0 w' far run.2 (draws-within r.limit n w.drawn run.0.drawn (drawn_in e.deed) far s.draws none)

-- 0 is not drawn.
draws-above : (limit : ℕ) (drawn drawn' : List ℕ) (g : Option Grant) → Draws limit drawn g drawn' →
    times 0 drawn ≡ 0 → times 0 drawn' ≡ 0
draws-above limit drawn drawn' None h none = ap (times 0) h ∙ none
draws-above limit drawn drawn' (Some Closed) h none = ap (times 0) h ∙ none
draws-above limit drawn drawn' (Some (Number k)) h none =
    let low = h.0 in
    let bit = bit-no k 0 1 (λ e. absurd (omega arith)) in
    let c = ap (times 0) h.3 in omega arith

-- So it is not in a run.
never-zero : {B L N : Type 0} (m : Meaning B L) (r : Rules L N) (es : List (Event L)) (w w' : Net B L N) →
    Netrun m r w es w' → times 0 w.drawn ≡ 0 → times 0 w'.drawn ≡ 0
never-zero m r [] w w' run none = ap (λ v. times 0 v.drawn) run ∙ none
never-zero m r (AgentDid i e ∷ es) w w' run none =
    let s = run.1 in
    never-zero m r es run.0 w' run.2 (draws-above r.limit w.drawn run.0.drawn (drawn_in e.deed) s.draws none)
never-zero m r (NodeDid k e ∷ es) w w' run none =
    let s = run.1 in
    never-zero m r es run.0 w' run.2 (draws-above r.limit w.drawn run.0.drawn (drawn_in e.deed) s.draws none)

-- What no entry of a run is, none of a log is.
stray-entry : {L : Type 0} (agents : ℕ) (e : Event L) → NotStray (deed_of e) → NotStray (entry_of agents e).1.deed
stray-entry agents (AgentDid i e) h = h
stray-entry agents (NodeDid k e) h = h

-- The same of the entries of one actor.
of-actor-each : {L : Type 0} (agents : ℕ) (a : ℕ) (es : List (Event L)) → Each (λ e. NotStray (deed_of e)) es →
    Each (λ e. NotStray e.deed) (of_actor a (entries_of agents es))
of-actor-each agents a [] h = tt
of-actor-each {L} agents a (e ∷ es) h =
    let x = entry_of agents e in
    let rest = of-actor-each agents a es h.1 in
    elim (cases_eq a x.0) [
      | inl s ↦ subst (λ b. Each (λ (f : Entry L). NotStray f.deed) (cond b (x.1 ∷ of_actor a (entries_of agents es))
          (of_actor a (entries_of agents es)))) (sym (eq-eqb a x.0 s)) (stray-entry agents e h.0, rest)
      | inr s ↦ subst (λ b. Each (λ (f : Entry L). NotStray f.deed) (cond b (x.1 ∷ of_actor a (entries_of agents es))
          (of_actor a (entries_of agents es)))) (sym (ne_eqb a x.0 s)) rest
    ]

-- What holds of each log holds of all.
each-log : {L : Type 0} (P : Entry L → Type 0) (logs : List (List (Entry L))) →
    ((a : ℕ) → Each P (log_of logs a)) → Each (Each P) logs
each-log P [] h = tt
each-log P (log ∷ logs) h = (h zero, each-log P logs (λ a. h (suc a)))

-- Empty links.
all-empty : {X : Type 0} (qs : List (List X)) →
    ((l : ℕ) (q : List X) → slice_get qs l ≡ Some q → q ≡ []) → Each (λ q. q ≡ []) qs
all-empty [] h = tt
all-empty (q ∷ qs) h = (h zero q refl, all-empty qs (λ l p at. h (suc l) p at))

-- The places of all agents.
columns-same : {B L : Type 0} (agents : List (Actor (AgentState B L) L)) →
    columns_from 0 (map log_in agents) ≡ map places_at agents
columns-same [] = refl
columns-same (a ∷ agents) = ap (λ v. places_of a.log ∷ v) (columns-same agents)

-- Each log has a place for each number.
all-long : {B L : Type 0} (k : ℕ) (agents : List (Actor (AgentState B L) L)) →
    ((i : ℕ) (a : Actor (AgentState B L) L) → slice_get agents i ≡ Some a → length (places_of a.log) ≡ k) →
    AllLong k (map places_at agents)
all-long k [] h = tt
all-long k (a ∷ agents) h = (h zero a refl, all-long k agents (λ i b at. h (suc i) b at))

-- Each agent took all numbers.
all-took : {B L : Type 0} (k : ℕ) (agents : List (Actor (AgentState B L) L)) →
    ((i : ℕ) (a : Actor (AgentState B L) L) → slice_get agents i ≡ Some a → taken_numbers a.log ≡ numbers_from 1 k) →
    AllTook k (map log_in agents)
all-took k [] h = tt
all-took k (a ∷ agents) h = (h zero a refl, all-took k agents (λ i b at. h (suc i) b at))

-- Each log tells of a number what is so.
all-tell : {B L : Type 0} (n j : ℕ) (t : Turn L) (ts : List (Turn L)) (i : ℕ)
    (agents : List (Actor (AgentState B L) L)) → n ≡ j + 1 → slice_get ts j ≡ Some t →
    ((k : ℕ) (a : Actor (AgentState B L) L) → slice_get agents k ≡ Some a →
    Counts 0 (taken_numbers a.log) × Each (λ e. Says ts (i + k) e.deed) a.log × (j < length (places_of a.log))) →
    AllTell n j t i (map log_in agents)
all-tell n j t ts i [] is at h = tt
all-tell {B} {L} n j t ts i (a ∷ agents) is at h =
    let first = h zero a refl in
    let says = subst (λ v. Each (λ (e : Entry L). Says ts v e.deed) a.log) (let e : i + 0 ≡ i = omega arith in e) first.1 in (
      told ts i a.log n j 0 j t (get_or (places_of a.log) j None) is (omega arith) at first.0 says
          (slice_get-get_or (places_of a.log) j None first.2),
      all-tell n j t ts (i + 1) agents is at
          (λ k b got.
          let more = h (suc k) b got in (
            more.0,
            subst (λ v. Each (λ (e : Entry L). Says ts v e.deed) b.log)
                (let e : i + suc k ≡ i + 1 + k = omega arith in e) more.1,
            more.2,
          )),
    )

-- What each has, the one at a place has.
each-at : {X : Type 0} (P : X → Type 0) (xs : List X) (k : ℕ) (x : X) → Each P xs → slice_get xs k ≡ Some x → P x
each-at P [] k x h at = absurd (cc)
each-at P (y ∷ ys) zero x h at = let e : y ≡ x = cc in subst P e h.0
each-at P (y ∷ ys) (suc k) x h at = each-at P ys k x h.1 at

module _ {B L N : Type 0} (m : Meaning B L) (r : Rules L N) (own : OwnLinks r) (layout : IsLayout r.plan)
    (relays : Relays r.node) (blank : IsBlank r) (settles : Settles m r) (bodies : List B) where
  -- A run that ended still, with all fronts at the count of its turns.
  module _ (es : List (Event L)) (w : Net B L N) (many : length bodies ≡ r.plan.agents)
      (run : Netrun m r (start_of r bodies) es w) (still : IsStill m r w) where
    abbrev ts : List (Turn L)
    ts = turns_of es

    -- The logs of the agents.
    abbrev agent_logs : List (List (Entry L))
    agent_logs = map log_in w.agents

    -- What is known of the network at the end,
    kept : Kept m r bodies ts w
    kept = keeps-run m r bodies relays es (start_of r bodies) w [] run (kept-start m r bodies blank)

    -- that it is quiet,
    ended : Settled m r es w
    ended = settles bodies es w many run

    -- and that it was simulated.
    sim : Simulated m bodies es w
    sim = simulated m r bodies relays blank es w run

    -- All fronts are the count of the turns,
    fronts : (i : ℕ) (a : Actor (AgentState B L) L) → slice_get w.agents i ≡ Some a → a.state.front ≡ length ts
    fronts = ended.fronts still

    -- and so are the counts of places.
    long : (i : ℕ) (a : Actor (AgentState B L) L) → slice_get w.agents i ≡ Some a →
        length (places_of a.log) ≡ length ts
    long i a at = let k = kept.agents i a at in k.counted ∙ fronts i a at

    -- Each number was taken by all.
    took : AllTook (length ts) agent_logs
    took = all-took (length ts) w.agents (λ i a at.
        let o = in-order m r bodies es w run i a at in
        counts-are 0 (length ts) (taken_numbers a.log) o.0 (o.1 ∙ fronts i a at))

    -- The choice of each number.
    choice : (j n : ℕ) (t : Turn L) → n ≡ j + 1 → slice_get ts j ≡ Some t →
        IsChoice agent_logs n (choice_at t (row_at j agent_logs))
    choice j n t is at =
        let low = get-within ts j t at in
        let sender = each-at (λ u. u.sender < length bodies) ts j t kept.senders at in
        let count = length-map log_in w.agents in
        let same = kept.many in
        is-choice n j t agent_logs (omega arith)
        (all-tell n j t ts 0 w.agents is at
        (λ k a got. (
          (in-order m r bodies es w run k a got).0,
          subst (λ v. Each (λ (e : Entry L). Says ts v e.deed) a.log) (let e : k ≡ 0 + k = omega arith in e)
              (all-say m r bodies relays blank es w run k a got),
          (let l = long k a got in omega arith),
        )))

    -- Each number has one sender.
    pub numbered : AreNumbered agent_logs (length ts)
    numbered = record {
      took = took;
      one = λ n low high.
          let t = get-there ts (n - 1) (omega arith) in
          ap (λ v. length v) (choice (n - 1) n t.0 (omega arith) t.1).sender;
    }

    -- The choices that the logs tell are a run.
    pub tells : (cs : List Choice) → length cs ≡ length ts → AreChoices agent_logs 1 cs →
        Runs m bodies cs (map body_at w.agents)
    tells cs same h =
        let are : cs ≡ choices_of ts (rows_of (length ts) (map places_at w.agents)) =
        choices-are agent_logs cs ts 0 1 refl same
        (λ q t at.
        subst (λ v. IsChoice agent_logs (1 + q) (choice_at t (row_at v agent_logs)))
        (let e : q ≡ 0 + q = omega arith in e) (choice q (1 + q) t (omega arith) at)) h
        ∙ ap (λ v. choices_of ts (rows_of (length ts) v)) (columns-same w.agents) in
        let moves = all-moves m ts bodies (map places_at w.agents) (map body_at w.agents) sim.own
        (all-long (length ts) w.agents long) in
        subst (λ v. Runs m bodies v (map body_at w.agents)) (sym are)
        (rows-run m ts (rows_of (length ts) (map places_at w.agents)) bodies (map body_at w.agents) kept.senders moves)

    -- The run leaves a legal record.
    pub legal : NoGap w.drawn →
        (1 ≤ times_closed (logs_of w) → (n : ℕ) → 1 ≤ n → n ≤ r.limit → times n w.drawn ≡ 1) →
        IsLegal m r bodies (logs_of w)
    legal no_gap full =
        let back = joined-by m r own layout bodies es w many run in
        let merge = merge-exists (logs_of w) in
        let go = one-run m r own layout bodies w back.0 merge.0 merge.1 in
        let quiet = ended.quiet still in
        let last : Net B L N = record w { drawn = go.0 } in
        let zero-drawn : times 0 w.drawn ≡ 0 = never-zero m r es (start_of r bodies) w run refl in
        record {
          last = last;
          are_logs = refl;
          joined = record {
            many_bodies = back.0.many_bodies;
            many_agents = back.0.many_agents;
            many_nodes = back.0.many_nodes;
            many_links = back.0.many_links;
            outs = back.0.outs;
            agents = back.0.agents;
            nodes = back.0.nodes;
            links = back.0.links;
            draws = back.0.draws;
          };
          empty = all-empty w.links still.links;
          count = length ts;
          granted = λ n low high. sym (back.1 n) ∙ (kept.turned n (omega arith) high).0;
          no_others = λ n out. sym (back.1 n) ∙ elim out [
            | inl none ↦ subst (λ v. times v w.drawn ≡ 0) (let e : 0 ≡ n = omega arith in e) zero-drawn
            | inr far ↦ elim (cases_lt (times n w.drawn) 1) [
              | inl less ↦ omega arith
              | inr more ↦
                  let once = kept.once n in
                  let one : times n w.drawn ≡ 1 = omega arith in
                  let le = ended.turned still no_gap n one in absurd (omega arith)
            ]
          ];
          closed = λ some. elim (cases_eq (length ts) r.limit) [
            | inl e ↦ e
            | inr ne ↦ elim (cases_lt (length ts) r.limit) [
              | inl less ↦
                  let one = full some r.limit (omega arith) (omega arith) in
                  let le = ended.turned still no_gap r.limit one in absurd (omega arith)
              | inr more ↦
                  let far : r.limit < length ts = omega arith in
                  let none = run-within m r (length ts) es (start_of r bodies) w far run refl in
                  let one = (kept.turned (length ts) (omega arith) (omega arith)).0 in absurd (omega arith)
            ]
          ];
          merged = merge.0;
          merge = merge.1;
          run = go.1;
          quiet = record {
            still = record { links = still.links; agents = still.agents; nodes = still.nodes };
            agents = quiet.agents;
            nodes = quiet.nodes;
          };
          no_stray = each-log (λ e. NotStray e.deed) (logs_of w)
              (λ a. subst (Each (λ (e : Entry L). NotStray e.deed)) (sym (logs-are m r own layout bodies es w many run a))
              (of-actor-each r.plan.agents a es ended.astray));
        }

  -- What a legal record has: its count is that of the turns.
  module _ (logs : List (List (Entry L))) (l : IsLegal m r bodies logs) where
    abbrev events : List (Event L)
    events = events_at r.plan.agents logs l.merged

    -- It ended still.
    still : IsStill m r l.last
    still = l.quiet.still

    -- The numbers drawn are those of the logs,
    times-are : (n : ℕ) → times n l.last.drawn ≡ times_drawn n logs
    times-are n =
        (joined-by m r own layout bodies events l.last l.joined.many_bodies l.run).1 n
        ∙ ap (times_drawn n) l.are_logs

    -- and have no gap.
    no-gap : NoGap l.last.drawn
    no-gap n low one =
        let next = times-are (n + 1) in
        elim (cases_lt l.count (n + 1)) [
          | inl far ↦ absurd (let none = l.no_others (n + 1) (inr far) in omega arith)
          | inr le ↦ times-are n ∙ l.granted n (omega arith) (omega arith)
        ]

    -- The count of numbers is that of the turns.
    count-is : l.count ≡ length (turns_of events)
    count-is =
        let made = length (turns_of events) in
        elim (cases_eq l.count made) [
          | inl e ↦ e
          | inr ne ↦ elim (cases_lt l.count made) [
            | inl less ↦
                let one = (kept events l.last l.joined.many_bodies l.run still).turned made (omega arith) (omega arith) in
                let a = one.0 in
                let b = times-are made in
                let none = l.no_others made (inr less) in absurd (omega arith)
            | inr more ↦
                let one : times l.count l.last.drawn ≡ 1 =
                times-are l.count ∙ l.granted l.count (omega arith) (omega arith) in
                let le = (ended events l.last l.joined.many_bodies l.run still).turned still no-gap l.count one in
                absurd (omega arith)
          ]
        ]

    -- The first logs are the agents'.
    agents-are : take r.plan.agents logs ≡ map log_in l.last.agents
    agents-are =
        ap (λ v. take r.plan.agents v) (sym l.are_logs)
        ∙ take-front (map log_in l.last.agents) (map log_in l.last.nodes) r.plan.agents
        (length-map log_in l.last.agents ∙ l.joined.many_agents)

    -- All fronts are the count.
    pub one-front : (i : ℕ) (a : Actor (AgentState B L) L) → slice_get l.last.agents i ≡ Some a →
        a.state.front ≡ l.count
    one-front i a at = fronts events l.last l.joined.many_bodies l.run still i a at ∙ sym count-is

    -- Each number has one sender.
    pub are-numbered : AreNumbered (take r.plan.agents logs) l.count
    are-numbered =
        subst (λ v. AreNumbered v l.count) (sym agents-are)
        (subst (λ v. AreNumbered (map log_in l.last.agents) v) (sym count-is)
        (numbered events l.last l.joined.many_bodies l.run still))

    -- The choices are a run.
    pub tells-a-run : (cs : List Choice) → length cs ≡ l.count → AreChoices (take r.plan.agents logs) 1 cs →
        Runs m bodies cs (map body_at l.last.agents)
    tells-a-run cs same h =
        tells events l.last l.joined.many_bodies l.run still cs (same ∙ count-is)
        (subst (λ v. AreChoices v 1 cs) agents-are h)

-- The laws of records, for every network that settles and whose actors send on their own links.
pub keeps-records : {B L N : Type 0} (m : Meaning B L) (r : Rules L N) → OwnLinks r → IsLayout r.plan →
    Relays r.node → IsBlank r → Settles m r → KeepsRecords m r
keeps-records m r own layout relays blank settles = record {
  fronts = λ bodies logs l i a at. one-front m r own layout relays blank settles bodies logs l i a at;
  numbered = λ bodies logs l. are-numbered m r own layout relays blank settles bodies logs l;
  choices = λ bodies logs l cs same h. tells-a-run m r own layout relays blank settles bodies logs l cs same h;
  still = λ bodies es w many run still no_gap full.
      legal m r own layout relays blank settles bodies es w many run still no_gap full;
}
