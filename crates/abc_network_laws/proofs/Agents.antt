-- Every row of the agent's table keeps what is known of the agent.
use Rattle.std.proofs.Common.{◌≡◌, ℕ, ◌+◌, ◌<◌, List, [], ◌∷◌, ◌++◌, length, refl, sym, ap, ◌∙◌}
use Rattle.std.proofs.Common.{subst, arith, inl, inr}
use Rattle.std.specs.Prelude.{Option, Some, slice_get}
use Rattle.std.proofs.lemmas.Bool.{eq-eqb, ne_eqb}
use Rattle.abc_network.specs.Agents.{AgentDoes, AgentState, AgentTakes, Hearing, Idle, IsGranted}
use Rattle.abc_network.specs.Agents.{Speaking}
use Rattle.abc_network_laws.specs.Kept.{AgentKept, Each, Says, Stores}
use Rattle.abc_packet.specs.declared.log.Deed.TheVariants.{Arrived, Asked, Passed, Stray, Took}
use Rattle.abc_packet.specs.declared.log.Deed.TheVariants.{Turned}
use Rattle.abc_value.specs.declared.grant.Grant.TheVariants.{Closed, Number}
use Rattle.abc_packet.specs.declared.packets.Content.{Content}
use Rattle.abc_packet.specs.declared.log.Deed.{Deed}
use Rattle.abc_value.specs.declared.grant.Grant.{Grant}
use Rattle.abc_network_laws.specs.Counts.{IfMessage, IfTurned, taken_packets, with_place, with_turn}
use Rattle.abc_network_laws.specs.Moves.{Lives, Moves, MovesAs}
use Rattle.abc_body.specs.Meanings.{Meaning}
use Rattle.abc_packet.specs.declared.packets.Packet.TheVariants.{Message, Reply, Request}
use Rattle.abc_packet.specs.declared.packets.Packet.{Packet}
use Rattle.abc_network.specs.Numbering.{Turn}
use Rattle.abc_wait.specs.Waits.{item_beside}
use Rattle.abc_network_laws.proofs.Lists.{get-end, get-last, get-within, length-push}
use Rattle.abc_network_laws.proofs.Columns.{lives-more, lives-next}
use Rattle.abc_network.specs.Stored.{Loses}
use Rattle.abc_network_laws.proofs.Maps.{gained-each, lost-each}

module _ {B L : Type 0} (m : Meaning B L) (bodies : List B) (pick : ℕ) (way : ℕ →
    ℕ) (i : ℕ) (ts : List (Turn L)) (ps : List (Option ℕ)) where
  -- Only body, front and stored map are spoken of.
  same-kept : (s s' : AgentState B L) → s'.body ≡ s.body → s'.front ≡ s.front →
      s'.stored ≡ s.stored → AgentKept m bodies ts i s ps → AgentKept m bodies ts i s' ps
  same-kept s s' e f g h = record {
    within = let w = h.within in omega arith;
    counted = h.counted ∙ sym f;
    lives = λ b at. subst (λ v. Lives m i b ts ps v) (sym e) (h.lives b at);
    own = λ k t at mine. subst (λ v. k < v) (sym f) (h.own k t at mine);
    stored = λ n c at. subst (λ v. Stores ts v n c) (sym f)
        (h.stored n c (subst (λ v. item_beside v n ≡ Some c) g at));
  }

  -- A reply changes nothing of it.
  grants-kept : (s s' : AgentState B L) (g : Grant) → IsGranted s g s' →
      AgentKept m bodies ts i s ps → AgentKept m bodies ts i s' ps
  grants-kept s s' (Number n) h k = same-kept s s' (ap (λ v. v.body) h.2) (ap (λ v. v.front) h.2)
      (ap (λ v. v.stored) h.2) k
  grants-kept s s' Closed h k = same-kept s s' (ap (λ v. v.body) h) (ap (λ v. v.front) h)
      (ap (λ v. v.stored) h) k

  -- Nor does what is stored, where it is what was turned.
  takes-kept : (s s' : AgentState B L) (p : Packet L) → AgentTakes i s p s' →
      IfMessage (Says ts) p → AgentKept m bodies ts i s ps → AgentKept m bodies ts i s' ps
  takes-kept s s' (Request agent) h says k = absurd h
  takes-kept s s' (Reply agent g) h says k = grants-kept s s' g h.2 k
  takes-kept s s' (Message n sender content) h says k =
      subst (λ v. AgentKept m bodies ts i v ps) (sym h.after) (record {
        within = k.within;
        counted = k.counted;
        lives = k.lives;
        own = k.own;
        stored = gained-each (Stores ts s.front) n content s.stored s'.stored h.gains
            (sender, h.above, says) k.stored;
      })

  -- To hear is the move of another component.
  other-move : (t : Turn L) (place : Option ℕ) (b b' : B) → (t.sender ≡ i → ⊥) →
      Hearing m b place t.content b' → Moves m i t place b b'
  other-move t place b b' other h = subst (λ v. MovesAs m v t place b b')
      (sym (ne_eqb i t.sender (λ e. other (sym e)))) h

  -- To speak is the move of the sender.
  own-move : (place : Option ℕ) (content : Content L) (b b' : B) → Speaking m b place content b' →
      Moves m i (record { sender = i; place = place; content = content }) place b b'
  own-move place content b b' h = subst
      (λ v. MovesAs m v (record { sender = i; place = place; content = content }) place b b')
      (sym (eq-eqb i i refl)) (refl, h)

  -- A message that is taken is the one that was turned at the next number.
  took-kept : (s : AgentState B L) (n : ℕ) (place : Option ℕ) (content : Content L) (b : B)
      (st : List (ℕ × Content L)) → n ≡ s.front + 1 → item_beside s.stored n ≡ Some content →
      Hearing m s.body place content b → Loses s.stored n st → AgentKept m bodies ts i s ps →
      AgentKept m bodies ts i (record s { body = b; front = n; stored = st }) (ps ++ place ∷ [])
  took-kept s n place content b st next at hears loses h =
      let found = h.stored n content at in
      let says = found.2 in
      let k : ℕ = says.0 in
      let t : Turn L = says.1 in
      let here : k ≡ s.front = (let e = says.2 in omega arith) in
      let turned : slice_get ts (length ps) ≡ Some t =
      subst (λ v. slice_get ts v ≡ Some t) (here ∙ sym h.counted) says.3 in
      let other : (t.sender ≡ i → ⊥) = (λ mine. let g = h.own k t says.3 mine in omega arith) in
      let heard : Hearing m s.body place t.content b =
      subst (λ v. Hearing m s.body place v b) (sym says.5) hears in
      record {
        within = let g = get-within ts k t says.3 in omega arith;
        counted = let g = length-push ps place in let c = h.counted in omega arith;
        lives = λ c start. lives-next m i c s.body b ts ps t place (h.lives c start) turned
            (other-move t place s.body b other heard);
        own = λ j u got mine. let g = h.own j u got mine in omega arith;
        stored = lost-each (Stores ts s.front) (Stores ts n) n s.stored st loses
            (λ k c ne was. (was.0, (let g = was.1 in omega arith), was.2)) h.stored;
      }

  -- A turn is the newest, and the agent has all before it behind it.
  turned-kept : (s : AgentState B L) (n : ℕ) (place : Option ℕ) (content : Content L) (b : B)
      (q : ℕ) → n ≡ s.front + 1 → Speaking m s.body place content b → s.front ≡ length ts →
      AgentKept m bodies ts i s ps → AgentKept m bodies
      (ts ++ record { sender = i; place = place; content = content } ∷ []) i
      (record s { body = b; front = n; asking = Idle; packets = q }) (ps ++ place ∷ [])
  turned-kept s n place content b q next says ready h =
      let t : Turn L = record { sender = i; place = place; content = content } in
      let us : List (Turn L) = ts ++ t ∷ [] in
      let turned : slice_get us (length ps) ≡ Some t =
      get-end ts t (length ps) (h.counted ∙ ready) in
      let long : length us ≡ length ts + 1 = length-push ts t in
      record {
        within = omega arith;
        counted = let g = length-push ps place in let c = h.counted in omega arith;
        lives = λ c start. lives-next m i c s.body b us ps t place
            (lives-more m i c s.body ts (t ∷ []) ps (h.lives c start)) turned
            (own-move place content s.body b says);
        own = λ j u got mine. elim (get-last ts t j u got) [
          | inl p ↦
              (let g = h.own j u p mine in omega arith)
          | inr p ↦ (let g = p.0 in omega arith)
        ];
        stored = λ k c at. (let was = h.stored k c at in
            absurd (let low = was.1 in let g = get-within ts was.2.0 was.2.1 was.2.3 in
            let e' = was.2.2 in omega arith));
      }

  -- Each row of the table keeps what is known of the agent.
  pub agent-kept : (s s' : AgentState B L) (d : Deed L) (sends : List (ℕ × Packet L)) →
      AgentDoes m pick way i s d sends s' → Each (IfMessage (Says ts)) (taken_packets d) →
      IfTurned d (s.front ≡ length ts) → AgentKept m bodies ts i s ps →
      AgentKept m bodies (with_turn ts i d) i s' (with_place ps d)
  agent-kept s s' Asked sends h says ready k =
      same-kept s s' (ap (λ v. v.body) h.after) (ap (λ v. v.front) h.after)
      (ap (λ v. v.stored) h.after) k
  agent-kept s s' (Arrived link stamped drew) sends h says ready k =
      takes-kept s s' stamped.packet h.2 says.0 k
  agent-kept s s' (Stray link stamped) sends h says ready k =
      same-kept s s' (ap (λ v. v.body) h.2) (ap (λ v. v.front) h.2) (ap (λ v. v.stored) h.2) k
  agent-kept s s' (Took n place) sends h says ready k =
      subst (λ v. AgentKept m bodies ts i v (ps ++ place ∷ [])) (sym h.after)
      (took-kept s n place h.content s'.body s'.stored h.next h.waits h.hears h.loses k)
  agent-kept s s' (Turned n place content) sends h says ready k =
      subst (λ v. AgentKept m bodies (ts ++ record {
        sender = i;
        place = place;
        content = content;
      } ∷ []) i v (ps ++ place ∷ [])) (sym h.after)
      (turned-kept s n place content s'.body (s.packets + 1) h.next h.speaks ready k)
  agent-kept s s' (Passed n) sends h says ready k = absurd h

  -- What it sends is what it turned.
  pub agent-honest : (s s' : AgentState B L) (d : Deed L) (sends : List (ℕ × Packet L)) →
      AgentDoes m pick way i s d sends s' → IfTurned d (s.front ≡ length ts) →
      Each (λ x. IfMessage (Says (with_turn ts i d)) x.1) sends
  agent-honest s s' Asked sends h ready =
      subst (λ v. Each (λ x. IfMessage (Says ts) x.1) v) (sym h.sends) (tt, tt)
  agent-honest s s' (Arrived link stamped drew) sends h ready =
      subst (λ v. Each (λ x. IfMessage (Says ts) x.1) v) (sym h.1) tt
  agent-honest s s' (Stray link stamped) sends h ready =
      subst (λ v. Each (λ x. IfMessage (Says ts) x.1) v) (sym h.1) tt
  agent-honest s s' (Took n place) sends h ready =
      subst (λ v. Each (λ x. IfMessage (Says ts) x.1) v) (sym h.sends) tt
  agent-honest s s' (Turned n place content) sends h ready =
      let t : Turn L = record { sender = i; place = place; content = content } in
      let us : List (Turn L) = ts ++ t ∷ [] in
      let says : Says us n i content =
      (s.front, t, h.next, get-end ts t s.front ready, refl, refl) in
      subst (λ v. Each (λ x. IfMessage (Says us) x.1) v) (sym h.sends) (says, tt)
  agent-honest s s' (Passed n) sends h ready = absurd h
