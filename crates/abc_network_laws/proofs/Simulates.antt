-- The simulation, from the law on nodes alone.
use Rattle.std.proofs.Common.{◌≡◌, ℕ, zero, suc, ◌+◌, ◌<◌, ◌≤◌, List, [], ◌∷◌, ◌++◌, length, map}
use Rattle.std.proofs.Common.{take, replicate, refl, sym, ap, subst, arith}
use Rattle.std.specs.Prelude.{Some, slice_get}
use Rattle.abc_network.specs.Networks.{Actor, AgentDid, Event, Net, Netrun, NodeDid, Rules}
use Rattle.abc_network.specs.Networks.{start_of, starting}
use Rattle.abc_network.specs.Agents.{AgentDoes, AgentState, Idle}
use Rattle.abc_network_laws.specs.Kept.{AgentKept, Each, HoldsHonest, IsBlank, Honest, Kept, Relays}
use Rattle.abc_network_laws.specs.Kept.{Says, holds_number, live, on_link, total}
use Rattle.abc_packet.specs.declared.log.Deed.TheVariants.{Arrived, Asked, Passed, Stray, Took}
use Rattle.abc_packet.specs.declared.log.Deed.TheVariants.{Turned}
use Rattle.abc_network_laws.specs.Moves.{EachLives, Lives}
use Rattle.abc_network_laws.specs.Simulation.{Counts, Simulated, body_at, front_at, places_at}
use Rattle.abc_packet.specs.declared.log.Deed.{Deed}
use Rattle.abc_network_laws.specs.Counts.{IfTurned, turns_number, with_turn}
use Rattle.abc_body.specs.Meanings.{Meaning}
use Rattle.abc_packet.specs.declared.packets.Packet.{Packet}
use Rattle.abc_network.specs.Numbering.{Turn, number_in, numbers_of, places_of, rows_of, turns_of}
use Rattle.abc_network_laws.proofs.Lists.{swap-old, length-push}
use Rattle.abc_shape.specs.Plans.{link_count}
use Rattle.abc_network_laws.proofs.Columns.{run-of-rows}
use Rattle.abc_network_laws.proofs.Choices.{rows-run, each-take}
use Rattle.abc_network_laws.proofs.Steps.{live-agent}
use Rattle.abc_network_laws.proofs.Orders.{in-order}
use Rattle.abc_network_laws.proofs.Keeps.{keeps-agent, keeps-node, keeps-run, ready-of}

-- An agent at the start is one that starts with its body.
get-starting : {B L : Type 0} (bodies : List B) (i : ℕ) (a : Actor (AgentState B L) L) →
    slice_get (map starting bodies) i ≡ Some a →
    (b : B) × (slice_get bodies i ≡ Some b) × (a ≡ starting b)
get-starting [] i a h = absurd (cc)
get-starting (b ∷ bs) zero a h = (b, refl, cc)
get-starting (b ∷ bs) (suc i) a h = get-starting bs i a h

-- What is known of an agent at the start.
start-kept : {B L : Type 0} (m : Meaning B L) (bodies : List B) (i : ℕ) (b : B) →
    slice_get bodies i ≡ Some b → AgentKept {L =
    L} m bodies [] i (record { body = b; front = 0; asking = Idle; stored = []; packets = 0 }) []
start-kept m bodies i b at = record {
  within = omega arith;
  counted = refl;
  lives = λ c from. (let e : b ≡ c = cc in e);
  own = λ k t got mine. absurd (cc);
  stored = λ n c at. absurd (cc);
}

-- Empty links are honest.
empty-links : {L : Type 0} (ts : List (Turn L)) (n : ℕ) → Each (Each (Honest ts)) (replicate n [])
empty-links ts zero = tt
empty-links ts (suc n) = (tt, empty-links ts n)

-- No number is on empty links.
none-on-links : (L : Type 0) (k n : ℕ) → total (total (on_link {L = L} k)) (replicate n []) ≡ 0
none-on-links L k zero = refl
none-on-links L k (suc n) = let g = none-on-links L k n in omega arith

-- No agent has a number at the start.
none-held : {B : Type 0} (L : Type 0) (k : ℕ) (bodies : List B) →
    total (holds_number {L = L} k) (map starting bodies) ≡ 0
none-held L k [] = refl
none-held L k (b ∷ bs) = let g = none-held L k bs in omega arith

-- A list with each changed is as long.
pub length-map : {X Y : Type 0} (f : X → Y) (xs : List X) → length (map f xs) ≡ length xs
length-map f [] = refl
length-map f (x ∷ xs) = ap suc (length-map f xs)

-- Nodes hold nothing at the start.
empty-nodes : {L N : Type 0} (r : Rules L N) (n : ℕ) → IsBlank r →
    Each (λ (a : Actor N L). HoldsHonest r.node (Says []) a.state)
    (replicate n (record { state = r.blank; clock = 0; log = [] }))
empty-nodes r zero none = tt
empty-nodes r (suc n) none = (
  (λ k sender content has. absurd (none k sender content has)),
  empty-nodes r n none,
)

-- What is known stands at the start.
pub kept-start : {B L N : Type 0} (m : Meaning B L) (r : Rules L N) (bodies : List B) → IsBlank r →
    Kept m r bodies [] (start_of r bodies)
kept-start {B} {L} {N} m r bodies none = record {
  agents = λ i a at.
      let g = get-starting bodies i a at in
      subst (λ v. AgentKept m bodies [] i v.state (places_of v.log)) (sym g.2)
      (start-kept m bodies i g.0 g.1);
  many = length-map starting bodies;
  senders = tt;
  links = empty-links [] (link_count r.plan);
  nodes = empty-nodes r r.plan.nodes none;
  live_drawn = λ n. let c = none-on-links L n (link_count r.plan) in
      let d = none-held L n bodies in omega arith;
  once = λ n. omega arith;
  turned = λ n low high. absurd (let h : n ≤ 0 = high in omega arith);
}

-- What each component lived, found by its place, is what all of them lived.
each-lives : {B L : Type 0} (m : Meaning B L) (ts : List (Turn L)) (k : ℕ) (bs : List B)
    (agents : List (Actor (AgentState B L) L)) → length agents ≡ length bs →
    ((j : ℕ) (b : B) (a : Actor (AgentState B L) L) → slice_get bs j ≡ Some b →
    slice_get agents j ≡ Some a → Lives m (k + j) b ts (places_of a.log) a.state.body) →
    EachLives m k ts bs (map places_at agents) (map body_at agents)
each-lives m ts k [] [] same h = tt
each-lives m ts k [] (a ∷ rest) same h = absurd (cc)
each-lives m ts k (b ∷ bs) [] same h = absurd (cc)
each-lives m ts k (b ∷ bs) (a ∷ rest) same h = (
  subst (λ v. Lives m v b ts (places_of a.log) a.state.body) (let e : k + zero ≡ k = omega arith in
      e) (h zero b a refl refl),
  each-lives m ts (k + 1) bs rest (let s : suc (length rest) ≡ suc (length bs) = same in
      omega arith) (λ j c d at got. subst (λ v. Lives m v c ts (places_of d.log) d.state.body)
      (let e : k + suc j ≡ (k + 1) + j = omega arith in e) (h (suc j) c d at got)),
)

-- Each log has one place for each number up to the front.
each-front : {B L : Type 0} (agents : List (Actor (AgentState B L) L)) →
    ((j : ℕ) (a : Actor (AgentState B L) L) → slice_get agents j ≡ Some a →
    length (places_of a.log) ≡ a.state.front) →
    map (λ ps. length ps) (map places_at agents) ≡ map front_at agents
each-front [] h = refl
each-front (a ∷ rest) h = let e : length (places_of a.log) ≡ a.state.front = h zero a refl in
    let es = each-front rest (λ j b at. h (suc j) b at) in cc

-- The numbers turned count on after one more deed.
counts-with : {B L : Type 0} (m : Meaning B L) (pick : ℕ) (way : ℕ →
    ℕ) (i : ℕ) (ts : List (Turn L)) (s s' : AgentState B L) (d : Deed L)
    (sends : List (ℕ × Packet L)) (ns : List ℕ) → AgentDoes m pick way i s d sends s' →
    IfTurned d (s.front ≡ length ts) → Counts (length (with_turn ts i d)) ns →
    Counts (length ts) (number_in d ++ ns)
counts-with m pick way i ts s s' Asked sends ns h ready c = c
counts-with m pick way i ts s s' (Arrived l x drew) sends ns h ready c = c
counts-with m pick way i ts s s' (Stray l x) sends ns h ready c = c
counts-with m pick way i ts s s' (Took n place) sends ns h ready c = c
counts-with m pick way i ts s s' (Turned n place content) sends ns h ready c =
    let next : n ≡ s.front + 1 = h.next in (
      let e : n ≡ length ts + 1 = omega arith in
          e,
      subst (λ v. Counts v ns) (length-push ts
          (record { sender = i; place = place; content = content })) c,
    )
counts-with m pick way i ts s s' (Passed n) sends ns h ready c = absurd h

module _ {B L N : Type 0} (m : Meaning B L) (r : Rules L N) (bodies : List B)
    (relays : Relays r.node) where
  -- The numbers turned in a run count on.
  counts-run : (es : List (Event L)) (w w' : Net B L N) (ts : List (Turn L)) → Netrun m r w es w' →
      Kept m r bodies ts w → Counts (length ts) (numbers_of es)
  counts-run [] w w' ts run k = tt
  counts-run (AgentDid i e ∷ es) w w' ts run k =
      let s = run.1 in
      let old : AgentKept m bodies ts i s.old.state (places_of s.old.log) =
      k.agents i s.old (swap-old i s.old s.new w.agents run.0.agents s.at) in
      let lives : ((n : ℕ) → turns_number n e.deed + live n run.0 ≤ live n w) =
      (λ n. live-agent m r w run.0 i e n s) in
      let ready = ready-of m r.pick (r.way i) i ts
      (λ n. live n w) s.old.state s.new.state e.deed s.sends s.row old.within (λ n. let g =
      lives n in omega arith) (λ n a b. (k.turned n a b).1) in
      counts-with m r.pick (r.way i) i ts s.old.state s.new.state e.deed s.sends
      (numbers_of es) s.row ready
      (counts-run es run.0 w' (with_turn ts i e.deed) run.2
      (keeps-agent m r bodies w run.0 i e ts s k))
  counts-run (NodeDid j e ∷ es) w w' ts run k =
      counts-run es run.0 w' ts run.2 (keeps-node m r bodies relays w run.0 j e ts run.1 k)

  -- The simulation, for every run from the start.
  pub simulated : IsBlank r → (es : List (Event L)) (w' : Net B L N) →
      Netrun m r (start_of r bodies) es w' → Simulated m bodies es w'
  simulated none es w' run =
      let first = kept-start m r bodies none in
      let k : Kept m r bodies (turns_of es) w' =
      keeps-run m r bodies relays es (start_of r bodies) w' [] run first in
      let own : EachLives m 0 (turns_of es) bodies (map places_at w'.agents)
      (map body_at w'.agents) =
      each-lives m (turns_of es) 0 bodies w'.agents k.many
      (λ j b a at got. subst (λ v. Lives m v b (turns_of es) (places_of a.log) a.state.body)
      (let e : j ≡ 0 + j = omega arith in e) ((k.agents j a got).lives b at)) in
      record {
        in_order = λ i a at. (in-order m r bodies es w' run i a at).0;
        numbered = counts-run es (start_of r bodies) w' [] run first;
        fronts = each-front w'.agents (λ j a at. (k.agents j a at).counted);
        own = own;
        run = λ n least within.
            let g = run-of-rows m n (turns_of es) bodies (map places_at w'.agents)
            (map body_at w'.agents) own least within in (
              g.0,
              rows-run m (take n (turns_of es))
                  (rows_of n (map places_at w'.agents)) bodies g.0
                  (each-take (λ t. t.sender < length bodies) n (turns_of es) k.senders) g.1,
            );
      }
