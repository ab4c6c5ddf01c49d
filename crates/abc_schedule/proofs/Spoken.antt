-- What the log of an agent says of the turns: what it turned was turned by it, and what it took by
-- another.
use Rattle.std.proofs.Common.{◌≡◌, ◌≢◌, ℕ, zero, suc, ◌+◌, ◌≤◌, List, [], ◌∷◌, ◌++◌, length, map}
use Rattle.std.proofs.Common.{refl, sym, ap, subst, arith, inl, inr}
use Rattle.std.specs.Prelude.{Some, slice_get}
use Rattle.abc_packet.specs.declared.packets.Packet.{Packet}
use Rattle.abc_packet.specs.declared.log.Deed.{Deed}
use Rattle.abc_packet.specs.declared.log.Deed.TheVariants.{Asked, Arrived, Took, Turned, Passed}
use Rattle.abc_packet.specs.declared.log.Deed.TheVariants.{Stray}
use Rattle.abc_packet.specs.declared.log.Entry.{Entry}
use Rattle.abc_body.specs.Meanings.{Meaning}
use Rattle.abc_network.specs.Agents.{AgentState, AgentDoes}
use Rattle.abc_network.specs.Networks.{Actor, Net, Rules, Event, AgentDid, NodeDid, AgentStep, Netrun, start_of}
use Rattle.abc_network.specs.Networks.{starting}
use Rattle.abc_network.specs.Numbering.{Turn, turns_of, places_of}
use Rattle.abc_network_laws.specs.Counts.{IfTurned, turns_number, with_turn}
use Rattle.abc_network_laws.specs.Kept.{AgentKept, Each, IsBlank, Kept, Relays, live}
use Rattle.abc_network_laws.proofs.Lists.{each-append, each-map, get-more, get-end, swap-old, swap-get}
use Rattle.abc_network_laws.proofs.Steps.{append-nil, live-agent}
use Rattle.abc_network_laws.proofs.Keeps.{keeps-agent, keeps-node, ready-of, with-turns-in}
use Rattle.abc_network_laws.proofs.Simulates.{kept-start}

-- Of one deed of agent i, where these turns were made.
abbrev pub Says : {L : Type 0} → List (Turn L) → ℕ → Deed L → Type 0
Says ts i (Turned n place content) =
    (k : ℕ) × (n ≡ k + 1) × (slice_get ts k ≡ Some (record { sender = i; place = place; content = content }))
Says {L} ts i (Took n place) =
    (k : ℕ) × (t : Turn L) × (n ≡ k + 1) × (slice_get ts k ≡ Some t) × (t.sender ≢ i)
Says ts i Asked = Unit {0}
Says ts i (Arrived l x drew) = Unit {0}
Says ts i (Passed n) = Unit {0}
Says ts i (Stray l x) = Unit {0}

-- It stands when more is turned.
says-more : {L : Type 0} (ts us : List (Turn L)) (i : ℕ) (d : Deed L) → Says ts i d → Says (ts ++ us) i d
says-more ts us i (Turned n place content) h =
    (h.0, h.1, get-more ts us h.0 (record { sender = i; place = place; content = content }) h.2)
says-more ts us i (Took n place) h = (h.0, h.1, h.2, get-more ts us h.0 h.1 h.3, h.4)
says-more ts us i Asked h = tt
says-more ts us i (Arrived l x drew) h = tt
says-more ts us i (Passed n) h = tt
says-more ts us i (Stray l x) h = tt

-- The same with the turn of a deed.
says-with : {L : Type 0} (ts : List (Turn L)) (j : ℕ) (by : Deed L) (i : ℕ) (d : Deed L) → Says ts i d →
    Says (with_turn ts j by) i d
says-with ts j (Turned n place content) i d h =
    says-more ts (record { sender = j; place = place; content = content } ∷ []) i d h
says-with ts j Asked i d h = h
says-with ts j (Arrived l x drew) i d h = h
says-with ts j (Took n place) i d h = h
says-with ts j (Passed n) i d h = h
says-with ts j (Stray l x) i d h = h

-- It stands of what an agent does.
says-now : {B L : Type 0} (m : Meaning B L) (pick : ℕ) (way : ℕ → ℕ) (bodies : List B) (ts : List (Turn L))
    (i : ℕ) (s s' : AgentState B L) (d : Deed L) (out : List (ℕ × Packet L)) (log : List (Entry L)) →
    AgentKept m bodies ts i s (places_of log) → IfTurned d (s.front ≡ length ts) →
    AgentDoes m pick way i s d out s' → Says (with_turn ts i d) i d
says-now m pick way bodies ts i s s' (Turned n place content) out log kept ready h =
    let next : n ≡ s.front + 1 = h.next in
    let is : s.front ≡ length ts = ready in (
      length ts,
      (let e : n ≡ length ts + 1 = omega arith in e),
      get-end ts (record { sender = i; place = place; content = content }) (length ts) refl,
    )
says-now m pick way bodies ts i s s' (Took n place) out log kept ready h =
    let next : n ≡ s.front + 1 = h.next in
    let has = kept.stored n h.content h.waits in
    let says = has.2 in
    let at = says.2 in
    (says.0, says.1, at, says.3, (λ e. let low = kept.own says.0 says.1 says.3 e in absurd (omega arith)))
says-now m pick way bodies ts i s s' Asked out log kept ready h = tt
says-now m pick way bodies ts i s s' (Arrived l x drew) out log kept ready h = tt
says-now m pick way bodies ts i s s' (Passed n) out log kept ready h = tt
says-now m pick way bodies ts i s s' (Stray l x) out log kept ready h = tt

-- Of all logs of a network.
abbrev pub AllSay : {B L N : Type 0} → List (Turn L) → Net B L N → Type 0
AllSay {B} {L} ts w =
    (i : ℕ) (a : Actor (AgentState B L) L) → slice_get w.agents i ≡ Some a → Each (λ e. Says ts i e.deed) a.log

module _ {B L N : Type 0} (m : Meaning B L) (r : Rules L N) (bodies : List B) (relays : Relays r.node) where
  -- After an event of an agent.
  agent-says : (w w' : Net B L N) (i : ℕ) (e : Entry L) (ts : List (Turn L)) → AgentStep m r w i e w' →
      Kept m r bodies ts w → AllSay ts w → AllSay (with_turn ts i e.deed) w'
  agent-says w w' i e ts s k all j a at =
      elim (swap-get i s.old s.new w.agents w'.agents s.at j a at) [
        | inl p ↦
            let was = swap-old i s.old s.new w.agents w'.agents s.at in
            let kept = k.agents i s.old was in
            let lives : ((n : ℕ) → turns_number n e.deed + live n w' ≤ live n w) = (λ n. live-agent m r w w' i e n s) in
            let ready = ready-of m r.pick (r.way i) i ts (λ n. live n w) s.old.state s.new.state e.deed s.sends s.row
            kept.within (λ n. let g = lives n in omega arith) (λ n x y. (k.turned n x y).1) in
            let before = each-map (λ (f : Entry L). Says ts i f.deed)
            (λ (f : Entry L). Says (with_turn ts i e.deed) i f.deed)
            (λ f h. says-with ts i e.deed i f.deed h) s.old.log (all i s.old was) in
            let now = says-now m r.pick (r.way i) bodies ts i s.old.state s.new.state e.deed s.sends s.old.log kept
            ready s.row in
            let both = each-append (λ (f : Entry L). Says (with_turn ts i e.deed) i f.deed) s.old.log (e ∷ []) before (now, tt) in
            let mine = subst (Each (λ (f : Entry L). Says (with_turn ts i e.deed) i f.deed)) (sym s.logs.2) both in
            subst (λ v. Each (λ (f : Entry L). Says (with_turn ts i e.deed) v f.deed) a.log) (sym p.0)
            (subst (λ (v : Actor (AgentState B L) L). Each (λ (f : Entry L). Says (with_turn ts i e.deed) i f.deed) v.log)
            (sym p.1) mine)
        | inr q ↦
            each-map (λ (f : Entry L). Says ts j f.deed) (λ (f : Entry L). Says (with_turn ts i e.deed) j f.deed)
            (λ f h. says-with ts i e.deed j f.deed h) a.log (all j a q.1)
      ]

  -- After a run.
  says-run : (es : List (Event L)) (w w' : Net B L N) (ts : List (Turn L)) → Netrun m r w es w' →
      Kept m r bodies ts w → AllSay ts w → AllSay (ts ++ turns_of es) w'
  says-run [] w w' ts run k all =
      subst (λ v. AllSay v w') (sym (append-nil ts)) (subst (λ (v : Net B L N). AllSay ts v) (sym run) all)
  says-run (AgentDid i e ∷ es) w w' ts run k all =
      subst (λ v. AllSay v w') (with-turns-in ts i e e.deed (turns_of es) refl)
      (says-run es run.0 w' (with_turn ts i e.deed) run.2 (keeps-agent m r bodies w run.0 i e ts run.1 k)
      (agent-says w run.0 i e ts run.1 k all))
  says-run (NodeDid j e ∷ es) w w' ts run k all =
      let s = run.1 in
      says-run es run.0 w' ts run.2 (keeps-node m r bodies relays w run.0 j e ts run.1 k)
      (λ i a at. all i a (subst (λ v. slice_get v i ≡ Some a) s.rest at))

  -- At the start logs are empty.
  log-empty : (bs : List B) (i : ℕ) (a : Actor (AgentState B L) L) → slice_get (map starting bs) i ≡ Some a →
      a.log ≡ []
  log-empty [] i a at = absurd (cc)
  log-empty (b ∷ bs) zero a at =
      let is : starting {L = L} b ≡ a = cc in ap (λ v. v.log) (sym is)
  log-empty (b ∷ bs) (suc i) a at = log-empty bs i a at

  -- So the logs of a run say of its turns what is so.
  pub all-say : IsBlank r → (es : List (Event L)) (w : Net B L N) → Netrun m r (start_of r bodies) es w →
      AllSay (turns_of es) w
  all-say blank es w run =
      says-run es (start_of r bodies) w [] run (kept-start m r bodies blank)
      (λ i a at. subst (Each (λ e. Says [] i e.deed)) (sym (log-empty bodies i a at)) tt)
