-- Every event keeps what is known, and so does every run.
use Rattle.std.proofs.Common.{◌≡◌, ℕ, ◌+◌, ◌<◌, ◌≤◌, List, [], ◌∷◌, ◌++◌, length, refl, sym, ap}
use Rattle.std.proofs.Common.{◌∙◌, subst, arith, inl, inr}
use Rattle.std.specs.Prelude.{Some, slice_get, ◌⊎◌}
use Rattle.std.proofs.lemmas.Bool.{cases_lt}
use Rattle.abc_network.specs.Networks.{AgentDid, AgentStep, Draws, EndsAtAgent, EndsAtNode, Event}
use Rattle.abc_network.specs.Networks.{Net, Netrun, NodeDid, NodeStep, Rules, drawn_in, times}
use Rattle.abc_network.specs.Agents.{AgentDoes, AgentState}
use Rattle.abc_network_laws.specs.Kept.{AgentKept, Each, Honest, Kept, Relays, Says, live}
use Rattle.abc_packet.specs.declared.log.Deed.TheVariants.{Arrived, Asked, Passed, Stray, Took}
use Rattle.abc_packet.specs.declared.log.Deed.TheVariants.{Turned}
use Rattle.abc_packet.specs.declared.log.Deed.{Deed}
use Rattle.abc_packet.specs.declared.log.Entry.{Entry}
use Rattle.abc_network_laws.specs.Counts.{IfMessage, IfTurned, draws_number, turns_number}
use Rattle.abc_network_laws.specs.Counts.{with_place, with_turn}
use Rattle.abc_body.specs.Meanings.{Meaning}
use Rattle.abc_packet.specs.declared.packets.Packet.{Packet}
use Rattle.abc_network.specs.Numbering.{Turn, places_of, turn_of, turns_of}
use Rattle.abc_packet.specs.declared.packets.Packet.TheVariants.{Message}
use Rattle.abc_network_laws.specs.Kept.{HoldsHonest}
use Rattle.abc_network_laws.proofs.Lists.{each-map, each-append, get-within, each-sent, swap-each}
use Rattle.abc_network_laws.proofs.Lists.{swap-had, swap-old, swap-get, swap-length, length-push}
use Rattle.abc_network_laws.proofs.Agents.{agent-kept, agent-honest}
use Rattle.abc_network_laws.proofs.Steps.{taken-each, draws-times, draws-fresh, places-push}
use Rattle.abc_network_laws.proofs.Steps.{draws-none, bit-same, says-with, other-with, live-agent}
use Rattle.abc_network_laws.proofs.Steps.{live-node, append-nil, append-append}

-- A number that is above all turned and at most one above is the next.
ready-at : (live n front long : ℕ) → n ≡ front + 1 → front ≤ long → 1 ≤ live →
    (n ≤ long → live ≡ 0) → (n < long + 1) ⊎ (long + 1 ≤ n) → front ≡ long
ready-at live n front long a b c d (inl e) = let z : live ≡ 0 = d (omega arith) in
    absurd (omega arith)
ready-at live n front long a b c d (inr e) = omega arith

-- An agent that turns has all turned numbers behind it.
pub ready-of : {B L : Type 0} (m : Meaning B L) (pick : ℕ) (way : ℕ →
    ℕ) (i : ℕ) (ts : List (Turn L)) (many : ℕ →
    ℕ) (s s' : AgentState B L) (d : Deed L) (sends : List (ℕ × Packet L)) →
    AgentDoes m pick way i s d sends s' → s.front ≤ length ts →
    ((n : ℕ) → turns_number n d ≤ many n) → ((n : ℕ) → 0 < n → n ≤ length ts → many n ≡ 0) →
    IfTurned d (s.front ≡ length ts)
ready-of m pick way i ts many s s' Asked sends h w lives turned = tt
ready-of m pick way i ts many s s' (Arrived l x drew) sends h w lives turned = tt
ready-of m pick way i ts many s s' (Stray l x) sends h w lives turned = tt
ready-of m pick way i ts many s s' (Took n place) sends h w lives turned = tt
ready-of m pick way i ts many s s' (Turned n place content) sends h w lives turned =
    let one = bit-same n n refl in
    let some : 1 ≤ many n = (let g = lives n in omega arith) in
    ready-at (many n) n s.front (length ts) h.next w some
    (λ le. turned n (let e = h.next in omega arith) le) (cases_lt n (length ts + 1))
ready-of m pick way i ts many s s' (Passed n) sends h w lives turned = absurd h

-- What is turned was drawn, and nobody has it any more: by numbers,
turned-at : (n long times live live' turns : ℕ) → (n ≡ long + 1 → turns ≡ 1) →
    turns + live' ≤ live → live ≤ times → times ≤ 1 → (n ≤ long → (times ≡ 1) × (live ≡ 0)) →
    n ≤ long + 1 → (n < long + 1) ⊎ (long + 1 ≤ n) → (times ≡ 1) × (live' ≡ 0)
turned-at n long times live live' turns one a b c d e (inl f) = let z = d (omega arith) in
    let z0 = z.0 in let z1 = z.1 in (omega arith, omega arith)
turned-at n long times live live' turns one a b c d e (inr f) = let z : turns ≡ 1 =
    one (omega arith) in (omega arith, omega arith)

-- and by deeds.
turned-with : {B L : Type 0} (m : Meaning B L) (pick : ℕ) (way : ℕ →
    ℕ) (i : ℕ) (ts : List (Turn L)) (n times live live' : ℕ) (s s' : AgentState B L) (d : Deed L)
    (sends : List (ℕ × Packet L)) → AgentDoes m pick way i s d sends s' →
    IfTurned d (s.front ≡ length ts) → turns_number n d + live' ≤ live → live ≤ times → times ≤ 1 →
    (n ≤ length ts → (times ≡ 1) × (live ≡ 0)) → n ≤ length (with_turn ts i d) →
    (times ≡ 1) × (live' ≡ 0)
turned-with m pick way i ts n times live live' s s' Asked sends h ready a b c d e = let z = d e in
    let z0 = z.0 in let z1 = z.1 in (z0, omega arith)
turned-with m pick way i ts n times live live' s s' (Arrived l x drew) sends h ready a b c d e =
    let z = d e in let z0 = z.0 in let z1 = z.1 in (z0, omega arith)
turned-with m pick way i ts n times live live' s s' (Stray l x) sends h ready a b c d e = let z =
    d e in let z0 = z.0 in let z1 = z.1 in (z0, omega arith)
turned-with m pick way i ts n times live live' s s' (Took k place) sends h ready a b c d e =
    let z = d e in let z0 = z.0 in let z1 = z.1 in (z0, omega arith)
turned-with m pick way i ts n times live live' s s'
    (Turned k place content) sends h ready a b c d e =
    let long = length-push ts (record { sender = i; place = place; content = content }) in
    let next : k ≡ s.front + 1 = h.next in
    turned-at n (length ts) times live live' (turns_number n (Turned k place content))
    (λ same. bit-same n k (omega arith)) a b c d (omega arith) (cases_lt n (length ts + 1))
turned-with m pick way i ts n times live live' s s' (Passed k) sends h ready a b c d e = absurd h

-- The sender of a new turn is an agent.
with-senders : {L : Type 0} (many : ℕ) (ts : List (Turn L)) (i : ℕ) (d : Deed L) →
    Each (λ t. t.sender < many) ts → i < many → Each (λ t. t.sender < many) (with_turn ts i d)
with-senders many ts i Asked h low = h
with-senders many ts i (Arrived l x drew) h low = h
with-senders many ts i (Stray l x) h low = h
with-senders many ts i (Took n place) h low = h
with-senders many ts i (Turned n place content) h low =
    each-append (λ t. t.sender < many) ts
    (record { sender = i; place = place; content = content } ∷ []) h (low, tt)
with-senders many ts i (Passed n) h low = h

module _ {B L N : Type 0} (m : Meaning B L) (r : Rules L N) (bodies : List B) where
  -- A step of an agent keeps what is known.
  pub keeps-agent : (w w' : Net B L N) (i : ℕ) (e : Entry L) (ts : List (Turn L)) →
      AgentStep m r w i e w' → Kept m r bodies ts w → Kept m r bodies (with_turn ts i e.deed) w'
  keeps-agent w w' i e ts s k =
      let old : AgentKept m bodies ts i s.old.state (places_of s.old.log) =
      k.agents i s.old (swap-old i s.old s.new w.agents w'.agents s.at) in
      let lives : ((n : ℕ) → turns_number n e.deed + live n w' ≤ live n w) =
      (λ n. live-agent m r w w' i e n s) in
      let ready = ready-of m r.pick (r.way i) i ts
      (λ n. live n w) s.old.state s.new.state e.deed s.sends s.row old.within (λ n. let g =
      lives n in omega arith) (λ n a b. (k.turned n a b).1) in
      let parts = taken-each (IfMessage (Says ts))
      (EndsAtAgent r.plan i) e.deed w.links s.left s.first k.links in
      let new : AgentKept m bodies (with_turn ts i e.deed) i s.new.state
      (with_place (places_of s.old.log) e.deed) =
      agent-kept m bodies r.pick (r.way i) i ts
      (places_of s.old.log) s.old.state s.new.state e.deed s.sends s.row parts.0 ready old in
      let log : places_of s.new.log ≡ with_place (places_of s.old.log) e.deed =
      ap places_of s.logs.2 ∙ places-push s.old.log e in
      let drawn : w'.drawn ≡ w.drawn =
      subst (λ v. Draws r.limit w.drawn v w'.drawn)
      (draws-none m r.pick (r.way i) i s.old.state s.new.state e.deed s.sends s.row) s.draws in
      let same : ((n : ℕ) → times n w'.drawn ≡ times n w.drawn) = (λ n. ap (times n) drawn) in
      record {
        agents = λ j a at. elim (swap-get i s.old s.new w.agents w'.agents s.at j a at) [
          | inl p ↦ subst (λ v. AgentKept m bodies (with_turn ts i e.deed) v a.state
              (places_of a.log)) (sym p.0) (subst
              (λ v. AgentKept m bodies (with_turn ts i e.deed) i v.state (places_of v.log))
              (sym p.1) (subst (λ v. AgentKept m bodies (with_turn ts i e.deed) i s.new.state v)
              (sym log) new))
          | inr q ↦ other-with m bodies ts i j e.deed a.state (places_of a.log) q.0
              (k.agents j a q.1)
        ];
        many = swap-length i s.old s.new w.agents w'.agents s.at ∙ k.many;
        links = subst (Each (Each (Honest (with_turn ts i e.deed)))) (sym s.links)
            (each-sent (IfMessage (Says (with_turn ts i e.deed))) e.clock s.sends s.left
            (agent-honest m bodies r.pick (r.way i) i ts
            (places_of s.old.log) s.old.state s.new.state e.deed s.sends s.row ready)
            (each-map (Each (Honest ts)) (Each (Honest (with_turn ts i e.deed)))
            (λ q h. each-map (Honest ts) (Honest (with_turn ts i e.deed))
            (λ x g. says-with ts i e.deed x.packet g) q h) s.left parts.1));
        nodes = subst (Each (λ a. HoldsHonest r.node (Says (with_turn ts i e.deed)) a.state))
            (sym s.rest)
            (each-map (λ a. HoldsHonest r.node (Says ts) a.state)
            (λ a. HoldsHonest r.node (Says (with_turn ts i e.deed)) a.state)
            (λ a h n sender content has. says-with ts i e.deed (Message n sender content)
            (h n sender content has)) w.nodes k.nodes);
        senders = with-senders (length bodies) ts i e.deed k.senders (let g =
            get-within w.agents i s.old (swap-old i s.old s.new w.agents w'.agents s.at) in
            let c = k.many in omega arith);
        live_drawn = λ n. let a = lives n in let b = k.live_drawn n in let c = same n in
            omega arith;
        once = λ n. let b = k.once n in let c = same n in omega arith;
        turned = λ n low high.
            let t = turned-with m r.pick (r.way i) i ts n (times n w.drawn) (live n w)
            (live n w') s.old.state s.new.state e.deed s.sends s.row ready (lives n)
            (k.live_drawn n) (k.once n) (λ le. k.turned n low le) high in
            (same n ∙ t.0, t.1);
      }

  -- What a node draws was not turned.
  node-turned : (times times' drew live live' : ℕ) → times' ≡ times + drew → live' ≤ live + drew →
      (drew ≡ 0) ⊎ ((drew ≡ 1) × (times ≡ 0)) → (times ≡ 1) × (live ≡ 0) →
      (times' ≡ 1) × (live' ≡ 0)
  node-turned times times' drew live live' a b (inl c) d = let d0 = d.0 in let d1 = d.1 in
      (omega arith, omega arith)
  node-turned times times' drew live live' a b (inr c) d = let d0 = d.0 in let c1 = c.1 in
      absurd (omega arith)

  -- Each number is drawn at most once.
  node-once : (times times' drew : ℕ) → times' ≡ times + drew → times ≤ 1 →
      (drew ≡ 0) ⊎ ((drew ≡ 1) × (times ≡ 0)) → times' ≤ 1
  node-once times times' drew a b (inl c) = omega arith
  node-once times times' drew a b (inr c) = let c0 = c.0 in let c1 = c.1 in omega arith

  -- A step of a node keeps what is known.
  pub keeps-node : Relays r.node → (w w' : Net B L N) (k : ℕ) (e : Entry L) (ts : List (Turn L)) →
      NodeStep m r w k e w' → Kept m r bodies ts w → Kept m r bodies ts w'
  keeps-node relays w w' k e ts s h =
      let parts = taken-each (IfMessage (Says ts))
      (EndsAtNode r.plan k) e.deed w.links s.left s.first h.links in
      let held = swap-had (λ a. HoldsHonest r.node
      (Says ts) a.state) k s.old s.new w.nodes w'.nodes s.at h.nodes in
      let out =
      relays.messages (Says ts) k s.old.state e.deed s.sends s.new.state s.row parts.0 held in
      let same : ((n : ℕ) → times n w'.drawn
      ≡ times n w.drawn + draws_number n (drawn_in e.deed)) =
      (λ n. draws-times n r.limit w.drawn w'.drawn (drawn_in e.deed) s.draws) in
      record {
        agents = λ j a at. h.agents j a (subst (λ v. slice_get v j ≡ Some a) s.rest at);
        many = ap length s.rest ∙ h.many;
        links = subst (Each (Each (Honest ts))) (sym s.links)
            (each-sent (IfMessage (Says ts)) e.clock s.sends s.left out.0 parts.1);
        nodes = swap-each (λ a. HoldsHonest r.node
            (Says ts) a.state) k s.old s.new w.nodes w'.nodes s.at h.nodes out.1;
        senders = h.senders;
        live_drawn = λ n. let a = live-node m r relays w w' k e n s in let b = h.live_drawn n in
            let c = same n in omega arith;
        once = λ n. node-once (times n w.drawn) (times n w'.drawn)
            (draws_number n (drawn_in e.deed)) (same n) (h.once n)
            (draws-fresh n r.limit w.drawn w'.drawn (drawn_in e.deed) s.draws);
        turned = λ n low high. node-turned (times n w.drawn) (times n w'.drawn)
            (draws_number n (drawn_in e.deed)) (live n w) (live n w') (same n)
            (live-node m r relays w w' k e n s)
            (draws-fresh n r.limit w.drawn w'.drawn (drawn_in e.deed) s.draws)
            (h.turned n low high);
      }

-- The turns after a deed, and then those of the rest of a run.
pub with-turns-in : {L : Type 0} (ts : List (Turn L)) (i : ℕ) (e : Entry L) (d : Deed L)
    (rest : List (Turn L)) → d ≡ e.deed → with_turn ts i d ++ rest ≡ ts ++ (turn_of i d ++ rest)
with-turns-in ts i e Asked rest same = refl
with-turns-in ts i e (Arrived l x drew) rest same = refl
with-turns-in ts i e (Stray l x) rest same = refl
with-turns-in ts i e (Took n place) rest same = refl
with-turns-in ts i e (Turned n place content) rest same =
    append-append ts (record { sender = i; place = place; content = content } ∷ []) rest
with-turns-in ts i e (Passed n) rest same = refl

module _ {B L N : Type 0} (m : Meaning B L) (r : Rules L N) (bodies : List B)
    (relays : Relays r.node) where
  -- The induction over a run; it names no shape.
  pub keeps-run : (es : List (Event L)) (w w' : Net B L N) (ts : List (Turn L)) →
      Netrun m r w es w' → Kept m r bodies ts w → Kept m r bodies (ts ++ turns_of es) w'
  keeps-run [] w w' ts run k = subst (λ v. Kept m r bodies v w') (sym (append-nil ts))
      (subst (λ v. Kept m r bodies ts v) (sym run) k)
  keeps-run (AgentDid i e ∷ es) w w' ts run k =
      subst (λ v. Kept m r bodies v w') (with-turns-in ts i e e.deed (turns_of es) refl)
      (keeps-run es run.0 w' (with_turn ts i e.deed) run.2
      (keeps-agent m r bodies w run.0 i e ts run.1 k))
  keeps-run (NodeDid i e ∷ es) w w' ts run k =
      keeps-run es run.0 w' ts run.2 (keeps-node m r bodies relays w run.0 i e ts run.1 k)
