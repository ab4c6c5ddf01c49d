-- Nothing is astray, and what stands at the end, from what a shape owes.
use Rattle.std.proofs.Common.{◌≡◌, ℕ, zero, suc, ◌+◌, ◌-◌, ◌<◌, ◌≤◌, List, [], ◌∷◌, length, map}
use Rattle.std.proofs.Common.{replicate, refl, sym, ap, ◌∙◌, subst, arith, inl, inr}
use Rattle.std.specs.Prelude.{Some, slice_get, ◌==◌, nat_lt, if◌then◌else◌}
use Rattle.std.proofs.lemmas.Bool.{cases_eq, cases_lt, lt-ltb}
use Rattle.abc_network.specs.Networks.{Actor, Event, Net, Netrun, Rules, starting, times}
use Rattle.abc_network_laws.specs.Kept.{Each, Kept, Relays, holds}
use Rattle.abc_network.specs.Agents.{AgentState, Idle}
use Rattle.abc_network_laws.specs.Flows.{Carries, EachOn, Ends, Flow, Goal, Placed, Still, ToAgent}
use Rattle.abc_network_laws.specs.Flows.{ToNode, Ways, agent_has, asks_on, copies, grants}
use Rattle.abc_network_laws.specs.Flows.{has_number, message_on, not_waiting}
use Rattle.abc_network_laws.specs.Charges.{charge, on_links, over}
use Rattle.abc_body.specs.Meanings.{Meaning}
use Rattle.abc_packet.specs.declared.packets.Packet.{Packet}
use Rattle.abc_network_laws.specs.Settling.{NoGap, Settled}
use Rattle.abc_network.specs.Numbering.{Turn, turns_of}
use Rattle.abc_shape.specs.Plans.{link_count}
use Rattle.abc_network.specs.Quiets.{IsStill}
use Rattle.abc_network.specs.Networks.{start_of}
use Rattle.abc_network_laws.specs.Kept.{HoldsHonest, Says}
use Rattle.abc_network_laws.proofs.Maps.{empty-map}
use Rattle.abc_network_laws.proofs.Lists.{get-within}
use Rattle.abc_network_laws.proofs.Simulates.{kept-start, length-map}
use Rattle.abc_network_laws.proofs.Keeps.{keeps-run}
use Rattle.abc_network_laws.proofs.Places.{bit-yes, bit-no}
use Rattle.abc_network_laws.proofs.Holds.{placed-run, live-is}
use Rattle.abc_network_laws.proofs.Quiet.{all-fronts, next-undrawn, node-past}

-- Nothing on empty links has to fit.
empty-on : {L : Type 0} (F : ℕ → Packet L → Type 0) (n : ℕ) → EachOn F (replicate n [])
empty-on F zero = tt
empty-on F (suc n) = (tt, empty-on (λ l. F (suc l)) n)

-- Nothing is laid on empty links.
pub none-on : {L : Type 0} (f : ℕ → Packet L → ℕ) (n : ℕ) → on_links f (replicate n []) ≡ 0
none-on f zero = refl
none-on f (suc n) = let e = none-on (λ l. f (suc l)) n in omega arith

-- A sum of nothing is nothing.
pub over-zero : {X : Type 0} (f : ℕ → X → ℕ) (xs : List X) →
    ((i : ℕ) (x : X) → slice_get xs i ≡ Some x → f i x ≡ 0) → over f xs ≡ 0
over-zero f [] h = refl
over-zero f (x ∷ xs) h = let a = h zero x refl in
    let b = over-zero (λ i. f (suc i)) xs (λ i y at. h (suc i) y at) in omega arith

-- What counts for one agent alone counts once in the sum over all that start.
one-idle : (B L : Type 0) (g : ℕ → ℕ) (a : ℕ) (bodies : List B) → g a ≡ 1 →
    ((i : ℕ) → (i ≡ a → ⊥) → g i ≡ 0) → a < length bodies →
    over {X = Actor (AgentState B L) L} (λ i x. g i) (map starting bodies) ≡ 1
one-idle B L g a [] h k low = absurd (let l : a < 0 = low in omega arith)
one-idle B L g zero (b ∷ bs) h k low =
    let rest = over-zero {X = Actor (AgentState B L) L} (λ i x. g (suc i)) (map starting bs)
    (λ i x at. k (suc i) (λ e. let e' : suc i ≡ zero = e in absurd (omega arith))) in
    omega arith
one-idle B L g (suc a) (b ∷ bs) h k low =
    let first = k zero (λ e. let e' : zero ≡ suc a = e in absurd (omega arith)) in
    let l : suc a < suc (length bs) = low in
    let rest = one-idle B L (λ i. g (suc i)) a bs h
    (λ i ne. k (suc i) (λ e. let e' : suc i ≡ suc a = e in ne (omega arith))) (omega arith) in
    omega arith

-- At the start each agent has its body alone.
pub get-start : {B L : Type 0} (bodies : List B) (i : ℕ) (a : Actor (AgentState B L) L) →
    slice_get (map starting bodies) i ≡ Some a → (b : B) × (a ≡ starting b)
get-start [] i a h = absurd (cc)
get-start (b ∷ bs) zero a h = (b, cc)
get-start (b ∷ bs) (suc i) a h = get-start bs i a h

-- Nothing, whether it counts or not.
no-bit : (i j : ℕ) → (let u : ℕ = if i == j then 0 else 0 in u) ≡ 0
no-bit i j = elim (cases_eq i j) [ inl e ↦ bit-yes i j 0 e | inr e ↦ bit-no i j 0 e ]

-- No number is behind front 0.
none-behind : (n : ℕ) → 0 < n → (let b = nat_lt 0 n in let u : ℕ = if b then 0 else 1 in u) ≡ 0
none-behind n low = rw (lt-ltb 0 n low) refl

-- At the start no agent has a number.
starting-has : {B : Type 0} (L : Type 0) (n : ℕ) (goal : Goal) (i : ℕ) (b : B) → 0 < n →
    agent_has {L = L} n goal i (record {
      body = b;
      front = 0;
      asking = Idle;
      stored = [];
      packets = 0;
    }) ≡ 0
starting-has L n (ToNode k) i b low = refl
starting-has {B} L n (ToAgent j) i b low =
    let has : has_number {B = B} {L =
    L} n (record { body = b; front = 0; asking = Idle; stored = []; packets = 0 }) ≡ 0 =
    (let e = none-behind n low in omega arith) in
    let go = ap (λ (v : ℕ). let u : ℕ = if i == j then v else 0 in u) has in
    go ∙ no-bit i j

-- At the start all agents are idle.
idle-asks : {B L : Type 0} (a : ℕ) (agents : List (Actor (AgentState B L) L)) (g : ℕ → ℕ) →
    ((i : ℕ) (x : Actor (AgentState B L) L) → slice_get agents i ≡ Some x →
    x.state.asking ≡ Idle) →
    over (λ i x. if g i == a then not_waiting x.state.asking else 0) agents
    ≡ over (λ i x. if g i == a then 1 else 0) agents
idle-asks a [] g h = refl
idle-asks a (x ∷ xs) g h =
    let e : (let u : ℕ = if g zero == a then not_waiting x.state.asking else 0 in u)
    ≡ (if g zero == a then 1 else 0) =
    ap (λ v. let u : ℕ = if g zero == a then not_waiting v else 0 in u) (h zero x refl) in
    let rest = idle-asks a xs (λ i. g (suc i)) (λ i y at. h (suc i) y at) in omega arith

-- A list of so many has this length.
length-same : {X : Type 0} (x : X) (n : ℕ) → length (replicate n x) ≡ n
length-same x zero = refl
length-same x (suc n) = let e = length-same x n in omega arith

-- Each of a list of the same is that one.
pub get-same : {X : Type 0} (x y : X) (n k : ℕ) → slice_get (replicate n x) k ≡ Some y →
    (k < n) × (y ≡ x)
get-same x y zero k at = absurd (cc)
get-same x y (suc n) zero at = (omega arith, cc)
get-same x y (suc n) (suc k) at = let e = get-same x y n k at in (let e0 = e.0 in omega arith, e.1)

-- At the start nothing is under way, and nothing is astray.
pub placed-start : {B L N : Type 0} (r : Rules L N) (f : Flow L N) (bodies : List B) → Ways f r →
    Ends f r → length bodies ≡ r.plan.agents → Placed f [] (start_of r bodies)
placed-start {B} {L} {N} r f bodies ways ends many =
    let w : Net B L N = start_of r bodies in
    let count : ℕ = link_count r.plan in
    let node : ((k : ℕ) (x : Actor N L) → slice_get w.nodes k ≡ Some x →
    (k < r.plan.nodes) × (x ≡ record { state = r.blank; clock = 0; log = [] })) = (λ k x at.
    get-same (record { state = r.blank; clock = 0; log = [] }) x r.plan.nodes k at) in
    let nothing : ((n : ℕ) (goal : Goal) → 0 < n → charge (copies f n goal) w ≡ 0) = (λ n goal low.
    let b = none-on {L = L} (message_on f.leads n goal) count in
    let c = over-zero (λ i x. agent_has n goal i x.state) w.agents (λ i x at.
    let g = get-start bodies i x at in
    ap (λ v. agent_has n goal i v.state) g.1 ∙ starting-has L n goal i g.0 low) in
    let d = over-zero (λ k x. f.carries k x.state n goal) w.nodes (λ k x at.
    ap (λ v. f.carries k v.state n goal) (node k x at).1 ∙ ends.blank_bare k n goal low) in
    omega arith) in
    record {
      agents = length-map starting bodies ∙ (many ∙ sym ways.agents_are);
      links = length-same [] count ∙ sym ways.links_are;
      positive = refl;
      sound = λ k x at. let g = node k x at in
          subst (λ v. f.sound k v.state) (sym g.1) (ends.blank_sound k g.0);
      fits = empty-on f.fits count;
      asked = λ a low.
          let y = none-on {L = L} (asks_on a) count in
          let z = idle-asks a w.agents (λ i. i) (λ i v at. let g = get-start bodies i v at in
          ap (λ u. u.state.asking) g.1) in
          let t = one-idle B L (λ i. if i == a then 1 else 0) a bodies (bit-yes a a 1 refl)
          (λ i ne. bit-no i a 1 ne)
          (let e = ways.agents_are in omega arith) in
          let n = over-zero (λ k v. 0) w.nodes (λ k v at. refl) in omega arith;
      granted = λ n late.
          let u = live-is n w in
          let y = none-on {L = L} (λ l p. (grants {B = B} {L = L} {N = N} n).on_link l p) count in
          let z = over-zero (λ i v. holds n v.state.asking) w.agents (λ i v at. let g =
          get-start bodies i v at in ap (λ e. holds n e.state.asking) g.1) in
          let t = over-zero (λ k v. 0) w.nodes (λ k v at. refl) in omega arith;
      under_way = λ n goal low high. absurd (let h : n ≤ 0 = high in omega arith);
      unsent = λ n goal late. nothing n goal (let h : 0 < n = late in h);
    }

-- Where the draws have no gap, what is below a drawn number is drawn.
gap-down : (drawn : List ℕ) (long more : ℕ) → NoGap drawn → times (long + 1 + more) drawn ≡ 1 →
    times (long + 1) drawn ≡ 1
gap-down drawn long zero gap h = subst (λ v. times v drawn ≡ 1)
    (let e : long + 1 + zero ≡ long + 1 = omega arith in e) h
gap-down drawn long (suc more) gap h =
    gap-down drawn long more gap (gap (long + 1 + more) (omega arith)
    (subst (λ v. times v drawn ≡ 1) (let e : long + 1 + suc more ≡ long + 1 + more + 1 =
    omega arith in e) h))

-- What each element has, one has.
each-get : {X : Type 0} (P : X → Type 0) (xs : List X) (k : ℕ) (x : X) → Each P xs →
    slice_get xs k ≡ Some x → P x
each-get P [] k x h at = absurd (cc)
each-get P (y ∷ xs) zero x h at = let e : y ≡ x = cc in subst P e h.0
each-get P (y ∷ xs) (suc k) x h at = each-get P xs k x h.1 at

-- What each place has, all elements have.
get-each : {X : Type 0} (P : X → Type 0) (xs : List X) →
    ((k : ℕ) (x : X) → slice_get xs k ≡ Some x → P x) → Each P xs
get-each P [] h = tt
get-each P (x ∷ xs) h = (h zero x refl, get-each P xs (λ k y at. h (suc k) y at))

module _ {B L N : Type 0} (m : Meaning B L) (r : Rules L N) (f : Flow L N) (ways : Ways f r)
    (carries : Carries f r) (ends : Ends f r) (relays : Relays r.node) (bodies : List B) where
  -- Nothing is on a link, and nobody can go on.
  still-of : (w : Net B L N) → IsStill m r w → Still m f w
  still-of w s = record {
    links = get-each (λ q. q ≡ []) w.links s.links;
    takes = λ i a at. (s.agents i a at).no_take;
    turns = λ i a at. (s.agents i a at).no_turn;
    passes = λ k a at goal. ends.stuck k a.state goal (s.nodes k a at);
  }

  -- Every run from the start is settled.
  pub settled : length bodies ≡ r.plan.agents → (es : List (Event L)) (w' : Net B L N) →
      Netrun m r (start_of r bodies) es w' → Settled m r es w'
  settled many es w' run =
      let ts : List (Turn L) = turns_of es in
      let first = kept-start m r bodies ends.blank_holds in
      let k : Kept m r bodies (turns_of es) w' =
      keeps-run m r bodies relays es (start_of r bodies) w' [] run first in
      let both = placed-run m r f ways carries relays bodies es (start_of r bodies) w' [] run first
      (placed-start r f bodies ways ends many) in
      let p : Placed f (turns_of es) w' = both.0 in
      let front : (IsStill m r w' → (i : ℕ) (a : Actor (AgentState B L) L) →
      slice_get w'.agents i ≡ Some a → a.state.front ≡ length (turns_of es)) = (λ s i a at.
      all-fronts m r f bodies (turns_of es) w' k p (still-of w' s) ends i a at) in
      record {
        astray = both.1;
        fronts = front;
        quiet = λ s. record {
          still = s;
          agents = λ i a at. empty-map a.state.stored (λ n c got.
              let has = (k.agents i a at).stored n c got in
              let low = has.1 in let next = has.2.2 in let e = front s i a at in
              let g = get-within (turns_of es) has.2.0 has.2.1 has.2.3 in absurd (omega arith));
          nodes = λ j a at n sender content has.
              let says = each-get (λ b. HoldsHonest r.node
              (Says (turns_of es)) b.state) w'.nodes j a k.nodes at n sender content has in
              let next = says.2 in let g = get-within (turns_of es) says.0 says.1 says.3 in
              let st = ends.stored j a.state n sender content (p.sound j a at) has in
              let low = st.0 in
              node-past m r f bodies (turns_of es) w' k p (still-of w' s) ends (f.next a.state)
              (f.next a.state) j a (omega arith) at st.1 refl (omega arith);
        };
        turned = λ s gap n one. elim (cases_lt (length (turns_of es)) n) [
          | inl late ↦ absurd (next-undrawn m r f bodies (turns_of es) w' k p (still-of w' s) ends
              (gap-down w'.drawn (length (turns_of es)) (n - (length (turns_of es) + 1)) gap
              (subst (λ v. times v w'.drawn ≡ 1)
              (let e : n ≡ length (turns_of es) + 1 + (n - (length (turns_of es) + 1)) =
              omega arith in e) one)))
          | inr early ↦ early
        ];
      }
