-- A micro-step of an actor is an event of its network.
use Rattle.std.proofs.Common.{◌≡◌, ℕ, zero, suc, ◌<◌, ◌≤◌, List, [], ◌∷◌, ◌++◌, length, get_or, refl, sym, ap, ◌∙◌, subst, arith}
use Rattle.std.specs.Prelude.{None}
use Rattle.abc_packet.specs.declared.packets.Packet.{Packet}
use Rattle.abc_packet.specs.declared.stamped.Stamped.{Stamped}
use Rattle.abc_packet.specs.declared.log.Deed.{Deed}
use Rattle.abc_packet.specs.declared.log.Deed.TheVariants.{Asked, Arrived, Took, Turned, Passed}
use Rattle.abc_packet.specs.declared.log.Deed.TheVariants.{Stray}
use Rattle.abc_packet.specs.Outlets.{Lists, sent_on}
use Rattle.abc_body.specs.Meanings.{Meaning}
use Rattle.abc_network.specs.Agents.{AgentState, AgentDoes}
use Rattle.abc_network.specs.Networks.{Net, Actor, Rules, AgentStep, NodeStep, Swaps, FirstTaken, EndsAtAgent, EndsAtNode, Draws, sent, drawn_in}
use Rattle.abc_network_laws.specs.Kept.{Each}
use Rattle.abc_logs.specs.MicroSteps.{Makes, taken_by, stamped_with}
use Rattle.abc_world.specs.Tables.{OnTables}
use Rattle.abc_schedule.proofs.OnLinks.{links-go, sent-length, taken-length}
use Rattle.abc_schedule.proofs.Places.{get-past}

-- Tables of queues with the same at each place are one.
pub queues-same : {X : Type 0} (xs ys : List (List X)) → length xs ≡ length ys → ((l : ℕ) → get_or xs l [] ≡ get_or ys l []) → xs ≡ ys
queues-same [] [] h f = refl
queues-same [] (y ∷ ys) h f = absurd (let l : 0 ≡ suc (length ys) = h in omega arith)
queues-same (x ∷ xs) [] h f = absurd (let l : suc (length xs) ≡ 0 = h in omega arith)
queues-same (x ∷ xs) (y ∷ ys) h f =
    let first : x ≡ y = f zero in
    let rest : xs ≡ ys = queues-same xs ys (let l : suc (length xs) ≡ suc (length ys) = h in omega arith) (λ l. f (suc l)) in
    ap (λ v. v ∷ xs) first ∙ ap (λ v. y ∷ v) rest

-- The second of two lists without items has none.
last-none : {X : Type 0} (xs ys : List X) → xs ++ ys ≡ [] → ys ≡ []
last-none [] ys h = h
last-none (x ∷ xs) ys h = absurd (let e : suc (length (xs ++ ys)) ≡ 0 = ap length h in omega arith)

-- Past the last link nothing is sent.
none-past : {L : Type 0} (taken sends : List (ℕ × Stamped L)) (links after : List (List (Stamped L))) →
    OnTables taken sends links after → (l : ℕ) → length links ≤ l → sent_on l sends ≡ []
none-past taken sends links after t l past =
    let n = t.many in
    let q = t.queues l in
    let none : [] ≡ q.0 ++ sent_on l sends =
    sym (get-past [] after l (let h : length after ≤ l = omega arith in h)) ∙ q.2 in
    last-none q.0 (sent_on l sends) (sym none)

-- It is an event on the links.
gone : {L : Type 0} (here : ℕ → Type 0) (d : Deed L) (c : ℕ) (sends : List (ℕ × Packet L)) (links after : List (List (Stamped L))) →
    OnTables (taken_by d) (stamped_with c sends) links after → Each (λ x. here x.0) (taken_by d) →
    ((l : ℕ) → here l → l < length links) →
    (left : List (List (Stamped L))) × FirstTaken here d links left × (after ≡ sent c sends left)
gone here d c sends links after t h low =
    let past = none-past (taken_by d) (stamped_with c sends) links after t in
    let g = links-go here d c sends links (λ l. get_or after l []) h low past t.queues in
    let long = taken-length here d links g.left g.first in
    let sending = sent-length c sends g.left in
    let many = t.many in
    let same = queues-same after (sent c sends g.left) (omega arith) g.same in
    (g.left, g.first, same)

-- An agent draws nothing.
pub draws-none : {B L : Type 0} (m : Meaning B L) (pick : ℕ) (way : ℕ → ℕ) (i : ℕ) (s : AgentState B L) (d : Deed L)
    (sends : List (ℕ × Packet L)) (t : AgentState B L) → AgentDoes m pick way i s d sends t → drawn_in d ≡ None
draws-none m pick way i s Asked sends t row = refl
draws-none m pick way i s (Arrived link stamped drew) sends t row = row.0
draws-none m pick way i s (Took n place) sends t row = refl
draws-none m pick way i s (Turned n place content) sends t row = refl
draws-none m pick way i s (Passed n) sends t row = refl
draws-none m pick way i s (Stray link stamped) sends t row = refl

-- A micro-step of an agent is an event, in which its number becomes what it is after it.
pub agent-event : {B L N : Type 0} (m : Meaning B L) (r : Rules L N) (w : Net B L N) (i : ℕ)
    (old new : Actor (AgentState B L) L) (taken : List (ℕ × Stamped L)) (before now : Lists L)
    (agents : List (Actor (AgentState B L) L)) (links : List (List (Stamped L)))
    (made : Makes (AgentDoes m r.pick (r.way i) i) taken old new before now) → Swaps i old new w.agents agents →
    OnTables taken (stamped_with made.entry.clock made.sends) w.links links →
    Each (λ x. EndsAtAgent r.plan i x.0) taken → ((l : ℕ) → EndsAtAgent r.plan i l → l < length w.links) →
    AgentStep m r w i made.entry (record { agents = agents; nodes = w.nodes; links = links; drawn = w.drawn })
agent-event {B} {L} {N} m r w i old new taken before now agents links made at tables here low =
    let d = made.entry.deed in
    let c = made.entry.clock in
    let on : OnTables (taken_by d) (stamped_with c made.sends) w.links links =
    subst (λ v. OnTables v (stamped_with c made.sends) w.links links) (sym made.took) tables in
    let mine : Each (λ x. EndsAtAgent r.plan i x.0) (taken_by d) =
    subst (λ v. Each (λ x. EndsAtAgent r.plan i x.0) v) (sym made.took) here in
    let g = gone (EndsAtAgent r.plan i) d c made.sends w.links links on mine low in
    record {
      old = old;
      new = new;
      sends = made.sends;
      left = g.0;
      row = made.row;
      logs = made.logs;
      at = at;
      first = g.1;
      links = g.2;
      draws = subst (λ v. Draws r.limit w.drawn v w.drawn)
          (sym (draws-none m r.pick (r.way i) i old.state d made.sends new.state made.row)) refl;
      rest = refl;
    }

-- So is one of a node, which may draw.
pub node-event : {B L N : Type 0} (m : Meaning B L) (r : Rules L N) (w : Net B L N) (k : ℕ)
    (old new : Actor N L) (taken : List (ℕ × Stamped L)) (before now : Lists L)
    (nodes : List (Actor N L)) (links : List (List (Stamped L))) (drawn : List ℕ)
    (made : Makes (r.node.does k) taken old new before now) → Swaps k old new w.nodes nodes →
    OnTables taken (stamped_with made.entry.clock made.sends) w.links links →
    Each (λ x. EndsAtNode r.plan k x.0) taken → ((l : ℕ) → EndsAtNode r.plan k l → l < length w.links) →
    Draws r.limit w.drawn (drawn_in made.entry.deed) drawn →
    NodeStep m r w k made.entry (record { agents = w.agents; nodes = nodes; links = links; drawn = drawn })
node-event {B} {L} {N} m r w k old new taken before now nodes links drawn made at tables here low draws =
    let d = made.entry.deed in
    let c = made.entry.clock in
    let on : OnTables (taken_by d) (stamped_with c made.sends) w.links links =
    subst (λ v. OnTables v (stamped_with c made.sends) w.links links) (sym made.took) tables in
    let mine : Each (λ x. EndsAtNode r.plan k x.0) (taken_by d) =
    subst (λ v. Each (λ x. EndsAtNode r.plan k x.0) v) (sym made.took) here in
    let g = gone (EndsAtNode r.plan k) d c made.sends w.links links on mine low in
    record {
      old = old;
      new = new;
      sends = made.sends;
      left = g.0;
      row = made.row;
      logs = made.logs;
      at = at;
      first = g.1;
      links = g.2;
      draws = draws;
      rest = refl;
    }
