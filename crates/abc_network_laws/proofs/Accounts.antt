-- What a step does to a charge, and the bound on events.
use Rattle.std.proofs.Common.{◌≡◌, ℕ, zero, suc, ◌+◌, ◌<◌, ◌≤◌, List, [], ◌∷◌, length, refl, sym}
use Rattle.std.proofs.Common.{ap, subst, arith, inl, inr}
use Rattle.std.specs.Prelude.{Option, Some, None, ◌⊎◌, ◌==◌, true, false}
use Rattle.std.proofs.lemmas.Bool.{eq-eqb, ne_eqb, cases_eq}
use Rattle.abc_network.specs.Networks.{AgentStep, Draws, EndsAtAgent, EndsAtNode, FirstTaken, Net}
use Rattle.abc_network.specs.Networks.{NodeStep, Rules, Swaps, put_on, sent, times}
use Rattle.abc_packet.specs.declared.log.Deed.TheVariants.{Arrived, Asked, Passed, Stray, Took}
use Rattle.abc_packet.specs.declared.log.Deed.TheVariants.{Turned}
use Rattle.abc_network_laws.specs.Charges.{Charge, charge, missing, numbers_drawn, of_packets}
use Rattle.abc_network_laws.specs.Charges.{on_links, over, taken_at, undrawn}
use Rattle.abc_value.specs.declared.grant.Grant.TheVariants.{Closed, Number}
use Rattle.abc_packet.specs.declared.log.Deed.{Deed}
use Rattle.abc_network_laws.specs.Kept.{Each, total}
use Rattle.abc_packet.specs.declared.log.Entry.{Entry}
use Rattle.abc_value.specs.declared.grant.Grant.{Grant}
use Rattle.abc_body.specs.Meanings.{Meaning}
use Rattle.abc_packet.specs.declared.packets.Packet.{Packet}
use Rattle.abc_packet.specs.declared.stamped.Stamped.{Stamped}
use Rattle.abc_network_laws.proofs.Lists.{total-append}

-- A sum over a list in which one element changes.
pub over-swap : {X : Type 0} (f : ℕ → X → ℕ) (i : ℕ) (x y : X) (xs ys : List X) →
    Swaps i x y xs ys → over f ys + f i x ≡ over f xs + f i y
over-swap f i x y [] ys s = absurd s
over-swap f i x y (a ∷ rest) [] s = absurd s
over-swap f zero x y (a ∷ rest) (b ∷ bs) s = let p : f zero a ≡ f zero x = ap (f zero) s.0 in
    let q : f zero b ≡ f zero y = ap (f zero) s.1 in
    let t : over (λ i. f (suc i)) bs ≡ over (λ i. f (suc i)) rest =
    ap (over (λ i. f (suc i))) s.2 in omega arith
over-swap f (suc i) x y (a ∷ rest) (b ∷ bs) s = let p : f zero b ≡ f zero a = ap (f zero) s.0 in
    let t = over-swap (λ i. f (suc i)) i x y rest bs s.1 in omega arith

-- A packet more on a link adds at most its charge.
pub over-put : {L : Type 0} (f : ℕ → Packet L →
    ℕ) (l : ℕ) (x : Stamped L) (qs : List (List (Stamped L))) →
    on_links f (put_on l x qs) ≤ on_links f qs + f l x.packet
over-put f l x [] = omega arith
over-put f zero x (q ∷ qs) = let t = total-append (λ y. f zero y.packet) q (x ∷ []) in omega arith
over-put f (suc l) x (q ∷ qs) = let t = over-put (λ k. f (suc k)) l x qs in omega arith

-- It adds just its charge, where the link is there.
pub over-put-exact : {L : Type 0} (f : ℕ → Packet L →
    ℕ) (l : ℕ) (x : Stamped L) (qs : List (List (Stamped L))) → l < length qs →
    on_links f (put_on l x qs) ≡ on_links f qs + f l x.packet
over-put-exact f l x [] h = absurd (let g : l < 0 = h in omega arith)
over-put-exact f zero x (q ∷ qs) h = let t = total-append (λ y. f zero y.packet) q (x ∷ []) in
    omega arith
over-put-exact f (suc l) x (q ∷ qs) h = let g : suc l < suc (length qs) = h in
    let t = over-put-exact (λ k. f (suc k)) l x qs (omega arith) in omega arith

-- There are as many links as before.
pub length-put : {X : Type 0} (l : ℕ) (x : X) (qs : List (List X)) →
    length (put_on l x qs) ≡ length qs
length-put l x [] = refl
length-put zero x (q ∷ qs) = refl
length-put (suc l) x (q ∷ qs) = ap suc (length-put l x qs)

-- Packets that are sent add at most their charges.
pub over-sent : {L : Type 0} (f : ℕ → Packet L →
    ℕ) (clock : ℕ) (sends : List (ℕ × Packet L)) (links : List (List (Stamped L))) →
    on_links f (sent clock sends links) ≤ on_links f links + of_packets f sends
over-sent f clock [] links = omega arith
over-sent f clock (s ∷ ss) links =
    let x : Stamped _ = record { clock = clock; packet = s.1 } in
    let t = over-sent f clock ss (put_on s.0 x links) in
    let u = over-put f s.0 x links in omega arith

-- They add just their charges, where their links are there.
pub over-sent-exact : {L : Type 0} (f : ℕ → Packet L →
    ℕ) (clock : ℕ) (sends : List (ℕ × Packet L)) (links : List (List (Stamped L))) →
    Each (λ s. s.0 < length links) sends →
    on_links f (sent clock sends links) ≡ on_links f links + of_packets f sends
over-sent-exact f clock [] links h = omega arith
over-sent-exact f clock (s ∷ ss) links h =
    let x : Stamped _ = record { clock = clock; packet = s.1 } in
    let e = length-put s.0 x links in
    let t = over-sent-exact f clock ss (put_on s.0 x links)
    (subst (λ v. Each (λ s. s.0 < v) ss) (sym e) h.1) in
    let u = over-put-exact f s.0 x links h.0 in omega arith

-- The packet that is taken leaves the charge of the links.
pub over-taken : {L : Type 0} (f : ℕ → Packet L → ℕ) (here : ℕ →
    Type 0) (d : Deed L) (links left : List (List (Stamped L))) → FirstTaken here d links left →
    on_links f left + of_packets f (taken_at d) ≡ on_links f links
over-taken f here Asked links left h = let e = ap (on_links f) h in omega arith
over-taken f here (Arrived l x drew) links left h = let s =
    over-swap (λ l q. total (λ y. f l y.packet) q) l (x ∷ h.0) h.0 links left h.2 in omega arith
over-taken f here (Stray l x) links left h = let s =
    over-swap (λ l q. total (λ y. f l y.packet) q) l (x ∷ h.0) h.0 links left h.2 in omega arith
over-taken f here (Took n place) links left h = let e = ap (on_links f) h in omega arith
over-taken f here (Turned n place content) links left h = let e = ap (on_links f) h in omega arith
over-taken f here (Passed n) links left h = let e = ap (on_links f) h in omega arith

module _ {B L N : Type 0} (m : Meaning B L) (r : Rules L N) (c : Charge B L N) where
  -- A step changes the charge of the network at most by what it changes at its agent and on links.
  pub account-agent : (w w' : Net B L N) (i : ℕ) (e : Entry L) (s : AgentStep m r w i e w') →
      charge c w' + (c.on_agent i s.old.state
      + of_packets c.on_link (taken_at e.deed)) ≤ charge c w
      + (c.on_agent i s.new.state + of_packets c.on_link s.sends)
  account-agent w w' i e s =
      let a = over-swap (λ i a. c.on_agent i a.state) i s.old s.new w.agents w'.agents s.at in
      let b = over-taken c.on_link (EndsAtAgent r.plan i) e.deed w.links s.left s.first in
      let d = over-sent c.on_link e.clock s.sends s.left in
      let f = ap (on_links c.on_link) s.links in
      let g = ap (over (λ k a. c.on_node k a.state)) s.rest in omega arith

  -- The same for a step of a node.
  pub account-node : (w w' : Net B L N) (k : ℕ) (e : Entry L) (s : NodeStep m r w k e w') →
      charge c w' + (c.on_node k s.old.state + of_packets c.on_link (taken_at e.deed)) ≤ charge c w
      + (c.on_node k s.new.state + of_packets c.on_link s.sends)
  account-node w w' k e s =
      let a = over-swap (λ k a. c.on_node k a.state) k s.old s.new w.nodes w'.nodes s.at in
      let b = over-taken c.on_link (EndsAtNode r.plan k) e.deed w.links s.left s.first in
      let d = over-sent c.on_link e.clock s.sends s.left in
      let f = ap (on_links c.on_link) s.links in
      let g = ap (over (λ i a. c.on_agent i a.state)) s.rest in omega arith

  -- The change is just that, where each packet is sent on a link that is there.
  pub exact-agent : (w w' : Net B L N) (i : ℕ) (e : Entry L) (s : AgentStep m r w i e w') →
      Each (λ x. x.0 < length s.left) s.sends →
      charge c w' + (c.on_agent i s.old.state + of_packets c.on_link (taken_at e.deed))
      ≡ charge c w + (c.on_agent i s.new.state + of_packets c.on_link s.sends)
  exact-agent w w' i e s in_range =
      let a = over-swap (λ i a. c.on_agent i a.state) i s.old s.new w.agents w'.agents s.at in
      let b = over-taken c.on_link (EndsAtAgent r.plan i) e.deed w.links s.left s.first in
      let d = over-sent-exact c.on_link e.clock s.sends s.left in_range in
      let f = ap (on_links c.on_link) s.links in
      let g = ap (over (λ k a. c.on_node k a.state)) s.rest in omega arith

  -- The same for a step of a node.
  pub exact-node : (w w' : Net B L N) (k : ℕ) (e : Entry L) (s : NodeStep m r w k e w') →
      Each (λ x. x.0 < length s.left) s.sends →
      charge c w' + (c.on_node k s.old.state + of_packets c.on_link (taken_at e.deed))
      ≡ charge c w + (c.on_node k s.new.state + of_packets c.on_link s.sends)
  exact-node w w' k e s in_range =
      let a = over-swap (λ k a. c.on_node k a.state) k s.old s.new w.nodes w'.nodes s.at in
      let b = over-taken c.on_link (EndsAtNode r.plan k) e.deed w.links s.left s.first in
      let d = over-sent-exact c.on_link e.clock s.sends s.left in_range in
      let f = ap (on_links c.on_link) s.links in
      let g = ap (over (λ i a. c.on_agent i a.state)) s.rest in omega arith

-- A fresh draw leaves one undrawn number fewer.
times-other : (n k : ℕ) (drawn : List ℕ) → (n ≡ k → ⊥) → times k (n ∷ drawn) ≡ times k drawn
times-other n k drawn h = let e : (n == k) ≡ false = ne_eqb n k h in rw e (omega arith)

-- A number that is drawn once more counts once more.
times-same : (n k : ℕ) (drawn : List ℕ) → n ≡ k → times k (n ∷ drawn) ≡ times k drawn + 1
times-same n k drawn h = let e : (n == k) ≡ true = eq-eqb n k h in rw e (omega arith)

-- A number that was not drawn is missing.
missing-none : (t : ℕ) → t ≡ 0 → missing t ≡ 1
missing-none t h = rw h refl

-- One that was drawn is not.
missing-some : (t u : ℕ) → t ≡ u + 1 → missing t ≡ 0
missing-some t u h = let e : (t == 0) ≡ false = ne_eqb t 0 (λ z. absurd (omega arith)) in rw e refl

-- A draw above k leaves the count up to k.
undrawn-past : (k n : ℕ) (drawn : List ℕ) → k < n → undrawn k (n ∷ drawn) ≡ undrawn k drawn
undrawn-past zero n drawn h = refl
undrawn-past (suc k) n drawn h =
    let t = undrawn-past k n drawn (omega arith) in
    let e = ap missing (times-other n (suc k) drawn (λ s. absurd (omega arith))) in
    omega arith

-- A draw of k itself lowers it by one.
undrawn-at : (k n : ℕ) (drawn : List ℕ) → times n drawn ≡ 0 → (n ≡ suc k) →
    undrawn (suc k) (n ∷ drawn) + 1 ≡ undrawn (suc k) drawn
undrawn-at k n drawn h same =
    let t = undrawn-past k n drawn (omega arith) in
    let z : times (suc k) drawn ≡ 0 = subst (λ v. times v drawn ≡ 0) same h in
    let e = missing-some (times (suc k) (n ∷ drawn)) (times (suc k) drawn)
    (times-same n (suc k) drawn same) in
    let f = missing-none (times (suc k) drawn) z in omega arith

-- So does a draw below k, by what holds below.
undrawn-below : (k n : ℕ) (drawn : List ℕ) → times n drawn ≡ 0 →
    (n ≤ k → undrawn k (n ∷ drawn) + 1 ≡ undrawn k drawn) → n ≤ suc k →
    (n ≡ suc k) ⊎ (n ≡ suc k → ⊥) → undrawn (suc k) (n ∷ drawn) + 1 ≡ undrawn (suc k) drawn
undrawn-below k n drawn h t b (inl same) = undrawn-at k n drawn h same
undrawn-below k n drawn h t b (inr other) =
    let u = t (omega arith) in
    let e = ap missing (times-other n (suc k) drawn other) in omega arith

-- A fresh draw lowers the count of undrawn numbers by one.
undrawn-draw : (k n : ℕ) (drawn : List ℕ) → 0 < n → n ≤ k → times n drawn ≡ 0 →
    undrawn k (n ∷ drawn) + 1 ≡ undrawn k drawn
undrawn-draw zero n drawn a b h = absurd (omega arith)
undrawn-draw (suc k) n drawn a b h =
    undrawn-below k n drawn h (λ c. undrawn-draw k n drawn a c h) b (cases_eq n (suc k))

-- What a step draws is no longer undrawn.
pub undrawn-draws : (limit : ℕ) (drawn drawn' : List ℕ) (g : Option Grant) →
    Draws limit drawn g drawn' → undrawn limit drawn' + numbers_drawn g ≡ undrawn limit drawn
undrawn-draws limit drawn drawn' None h = let e = ap (undrawn limit) h in omega arith
undrawn-draws limit drawn drawn' (Some Closed) h = let e = ap (undrawn limit) h in omega arith
undrawn-draws limit drawn drawn' (Some (Number n)) h = let t =
    undrawn-draw limit n drawn h.0 h.1 h.2 in let e = ap (undrawn limit) h.3 in omega arith
