-- Every step of a network keeps what is known of it.
use Rattle.std.proofs.Common.{◌≡◌, ℕ, ◌+◌, ◌≤◌, List, [], ◌∷◌, ◌++◌, refl, sym, ap, ◌∙◌, subst}
use Rattle.std.proofs.Common.{arith, inl, inr}
use Rattle.std.specs.Prelude.{Option, Some, None, ◌⊎◌, ◌==◌, Bool, true, false, if◌then◌else◌}
use Rattle.std.proofs.lemmas.Bool.{eqb-true, eq-eqb}
use Rattle.abc_network.specs.Networks.{AgentStep, Draws, EndsAtAgent, EndsAtNode, FirstTaken, Net}
use Rattle.abc_network.specs.Networks.{NodeStep, Rules, Swaps, drawn_in, sent, times}
use Rattle.abc_network.specs.Agents.{AgentDoes, AgentState}
use Rattle.abc_network_laws.specs.Kept.{AgentKept, Each, Relays, Says, holds_number, live, on_link}
use Rattle.abc_network_laws.specs.Kept.{total}
use Rattle.abc_packet.specs.declared.log.Deed.TheVariants.{Arrived, Asked, Passed, Stray, Took}
use Rattle.abc_packet.specs.declared.log.Deed.TheVariants.{Turned}
use Rattle.abc_value.specs.declared.grant.Grant.TheVariants.{Closed, Number}
use Rattle.abc_packet.specs.declared.log.Deed.{Deed}
use Rattle.abc_packet.specs.declared.log.Entry.{Entry}
use Rattle.abc_value.specs.declared.grant.Grant.{Grant}
use Rattle.abc_network_laws.specs.Counts.{IfMessage, draws_number, grants_number, replies_number}
use Rattle.abc_network_laws.specs.Counts.{taken_packets, turns_number, with_place, with_turn}
use Rattle.abc_body.specs.Meanings.{Meaning}
use Rattle.abc_packet.specs.declared.packets.Packet.{Packet}
use Rattle.abc_packet.specs.declared.stamped.Stamped.{Stamped}
use Rattle.abc_network.specs.Numbering.{Turn, place_of, places_of}
use Rattle.abc_network_laws.proofs.Lists.{total-sent, swap-each, swap-had, swap-total}
use Rattle.abc_network_laws.proofs.Rows.{agent-live, if-says-more, other-kept}

-- What an arrival takes leaves its link.
pub taken-total : {L : Type 0} (f : Packet L → ℕ) (here : ℕ →
    Type 0) (d : Deed L) (links left : List (List (Stamped L))) → FirstTaken here d links left →
    total (total (λ x. f x.packet)) left + total f (taken_packets d)
    ≡ total (total (λ x. f x.packet)) links
taken-total f here Asked links left h = let e = ap (total (total (λ x. f x.packet))) h in
    omega arith
taken-total f here (Arrived l x drew) links left h = let s =
    swap-total (total (λ y. f y.packet)) l (x ∷ h.0) h.0 links left h.2 in omega arith
taken-total f here (Stray l x) links left h = let s =
    swap-total (total (λ y. f y.packet)) l (x ∷ h.0) h.0 links left h.2 in omega arith
taken-total f here (Took n place) links left h = let e = ap (total (total (λ x. f x.packet))) h in
    omega arith
taken-total f here (Turned n place content) links left h = let e =
    ap (total (total (λ x. f x.packet))) h in omega arith
taken-total f here (Passed n) links left h = let e = ap (total (total (λ x. f x.packet))) h in
    omega arith

-- A packet that is taken is like all on the links, and so are those that stay.
swap-taken : {L : Type 0} (P : Packet L →
    Type 0) (l : ℕ) (x : Stamped L) (q : List (Stamped L)) (links left : List (List (Stamped L))) →
    Swaps l (x ∷ q) q links left → Each (Each (λ y. P y.packet)) links →
    (P x.packet × Unit {0}) × Each (Each (λ y. P y.packet)) left
swap-taken P l x q links left s h =
    let had = swap-had (Each (λ y. P y.packet)) l (x ∷ q) q links left s h in
    ((had.0, tt), swap-each (Each (λ y. P y.packet)) l (x ∷ q) q links left s h had.1)

-- The same for each deed.
pub taken-each : {L : Type 0} (P : Packet L → Type 0) (here : ℕ →
    Type 0) (d : Deed L) (links left : List (List (Stamped L))) → FirstTaken here d links left →
    Each (Each (λ x. P x.packet)) links →
    Each P (taken_packets d) × Each (Each (λ x. P x.packet)) left
taken-each P here Asked links left h k = (tt, subst (Each (Each (λ x. P x.packet))) (sym h) k)
taken-each P here (Arrived l x drew) links left h k = swap-taken P l x h.0 links left h.2 k
taken-each P here (Stray l x) links left h k = swap-taken P l x h.0 links left h.2 k
taken-each P here (Took n place) links left h k =
    (tt, subst (Each (Each (λ x. P x.packet))) (sym h) k)
taken-each P here (Turned n place content) links left h k =
    (tt, subst (Each (Each (λ x. P x.packet))) (sym h) k)
taken-each P here (Passed n) links left h k = (tt, subst (Each (Each (λ x. P x.packet))) (sym h) k)

-- How often a number was drawn after a draw.
pub draws-times : (n limit : ℕ) (drawn drawn' : List ℕ) (g : Option Grant) →
    Draws limit drawn g drawn' → times n drawn' ≡ times n drawn + draws_number n g
draws-times n limit drawn drawn' None h = let e = ap (times n) h in omega arith
draws-times n limit drawn drawn' (Some Closed) h = let e = ap (times n) h in omega arith
draws-times n limit drawn drawn' (Some (Number k)) h = let e = ap (times n) h.3 in omega arith

-- A number that is drawn was not drawn before.
draws-if : (n k : ℕ) (drawn : List ℕ) (b : Bool) (v : ℕ) → v ≡ (if b then 1 else 0) →
    (k == n) ≡ b → times k drawn ≡ 0 → (v ≡ 0) ⊎ ((v ≡ 1) × (times n drawn ≡ 0))
draws-if n k drawn true v w e h = inr (w, subst (λ u. times u drawn ≡ 0) (eqb-true k n e) h)
draws-if n k drawn false v w e h = inl w

-- A draw gives no number, or one that was not drawn.
pub draws-fresh : (n limit : ℕ) (drawn drawn' : List ℕ) (g : Option Grant) →
    Draws limit drawn g drawn' → (draws_number n g ≡ 0)
    ⊎ ((draws_number n g ≡ 1) × (times n drawn ≡ 0))
draws-fresh n limit drawn drawn' None h = inl refl
draws-fresh n limit drawn drawn' (Some Closed) h = inl refl
draws-fresh n limit drawn drawn' (Some (Number k)) h =
    draws-if n k drawn (k == n) (grants_number n (Number k)) refl refl h.2

-- To append nothing changes nothing.
pub append-nil : {X : Type 0} (xs : List X) → xs ++ [] ≡ xs
append-nil [] = refl
append-nil (x ∷ xs) = ap (λ v. x ∷ v) (append-nil xs)

-- To append is associative.
pub append-append : {X : Type 0} (xs ys zs : List X) → (xs ++ ys) ++ zs ≡ xs ++ (ys ++ zs)
append-append [] ys zs = refl
append-append (x ∷ xs) ys zs = ap (λ v. x ∷ v) (append-append xs ys zs)

-- The places of two logs.
places-append : {L : Type 0} (es fs : List (Entry L)) →
    places_of (es ++ fs) ≡ places_of es ++ places_of fs
places-append [] fs = refl
places-append (e ∷ es) fs = ap (λ v. place_of e.deed ++ v) (places-append es fs)
    ∙ sym (append-append (place_of e.deed) (places_of es) (places_of fs))

-- The place of one deed.
with-place : {L : Type 0} (ps : List (Option ℕ)) (d : Deed L) →
    ps ++ (place_of d ++ []) ≡ with_place ps d
with-place ps Asked = append-nil ps
with-place ps (Arrived l x drew) = append-nil ps
with-place ps (Stray l x) = append-nil ps
with-place ps (Took n place) = refl
with-place ps (Turned n place content) = refl
with-place ps (Passed n) = append-nil ps

-- The places of a log with one entry more.
pub places-push : {L : Type 0} (es : List (Entry L)) (e : Entry L) →
    places_of (es ++ e ∷ []) ≡ with_place (places_of es) e.deed
places-push es e = places-append es (e ∷ []) ∙ with-place (places_of es) e.deed

-- What the agent's rows say besides.
pub draws-none : {B L : Type 0} (m : Meaning B L) (pick : ℕ) (way : ℕ →
    ℕ) (i : ℕ) (s s' : AgentState B L) (d : Deed L) (sends : List (ℕ × Packet L)) →
    AgentDoes m pick way i s d sends s' → drawn_in d ≡ None
draws-none m pick way i s s' Asked sends h = refl
draws-none m pick way i s s' (Arrived l x drew) sends h = h.0
draws-none m pick way i s s' (Stray l x) sends h = refl
draws-none m pick way i s s' (Took n place) sends h = refl
draws-none m pick way i s s' (Turned n place content) sends h = refl
draws-none m pick way i s s' (Passed n) sends h = refl

-- A number counts for itself: 1 where two numbers are the same.
pub bit-same : (n k : ℕ) → n ≡ k → (let b = k == n in let v : ℕ = if b then 1 else 0 in v) ≡ 1
bit-same n k e = rw (eq-eqb k n (sym e)) refl

-- A message that says what was turned says it after a deed.
pub says-with : {L : Type 0} (ts : List (Turn L)) (i : ℕ) (d : Deed L) (p : Packet L) →
    IfMessage (Says ts) p → IfMessage (Says (with_turn ts i d)) p
says-with ts i Asked p h = h
says-with ts i (Arrived l x drew) p h = h
says-with ts i (Stray l x) p h = h
says-with ts i (Took n place) p h = h
says-with ts i (Turned n place content) p h =
    if-says-more ts (record { sender = i; place = place; content = content } ∷ []) p h
says-with ts i (Passed n) p h = h

-- Another agent keeps what is known of it, whatever is done.
pub other-with : {B L : Type 0} (m : Meaning B L) (bodies : List B) (ts : List (Turn L)) (i j : ℕ)
    (d : Deed L) (s : AgentState B L) (ps : List (Option ℕ)) → (j ≡ i → ⊥) →
    AgentKept m bodies ts j s ps → AgentKept m bodies (with_turn ts i d) j s ps
other-with m bodies ts i j Asked s ps other h = h
other-with m bodies ts i j (Arrived l x drew) s ps other h = h
other-with m bodies ts i j (Stray l x) s ps other h = h
other-with m bodies ts i j (Took n place) s ps other h = h
other-with m bodies ts i j (Turned n place content) s ps other h =
    other-kept m bodies ts (record { sender = i; place = place; content = content }) j s ps
    (λ e. other (sym e)) h
other-with m bodies ts i j (Passed n) s ps other h = h

module _ {B L N : Type 0} (m : Meaning B L) (r : Rules L N) where
  -- Replies and grants of a number under a step of an agent.
  pub live-agent : (w w' : Net B L N) (i : ℕ) (e : Entry L) (n : ℕ) → AgentStep m r w i e w' →
      turns_number n e.deed + live n w' ≤ live n w
  live-agent w w' i e n s =
      let a = agent-live m r.pick (r.way i) i n s.old.state s.new.state e.deed s.sends s.row in
      let b = swap-total (holds_number n) i s.old s.new w.agents w'.agents s.at in
      let c = taken-total (replies_number n) (EndsAtAgent r.plan i) e.deed w.links s.left s.first in
      let d = total-sent (replies_number n) e.clock s.sends s.left in
      let f : total (total (on_link n)) w'.links
      ≡ total (total (on_link n)) (sent e.clock s.sends s.left) =
      ap (total (total (on_link n))) s.links in
      omega arith

  -- A node brings no number but the one that it draws.
  pub live-node : Relays r.node → (w w' : Net B L N) (k : ℕ) (e : Entry L) (n : ℕ) →
      NodeStep m r w k e w' → live n w' ≤ live n w + draws_number n (drawn_in e.deed)
  live-node relays w w' k e n s =
      let a = relays.replies n k s.old.state e.deed s.sends s.new.state s.row in
      let b : total (holds_number n) w'.agents ≡ total (holds_number n) w.agents =
      ap (total (holds_number n)) s.rest in
      let c = taken-total (replies_number n) (EndsAtNode r.plan k) e.deed w.links s.left s.first in
      let d = total-sent (replies_number n) e.clock s.sends s.left in
      let f : total (total (on_link n)) w'.links
      ≡ total (total (on_link n)) (sent e.clock s.sends s.left) =
      ap (total (total (on_link n))) s.links in
      omega arith
