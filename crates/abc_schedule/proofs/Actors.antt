-- The actors of a network as machines of one kind, numbered from the agents on, and what their
-- steps keep to.
use Rattle.std.proofs.Common.{◌≡◌, ◌≢◌, ℕ, ◌+◌, ◌<◌, max, List, [], ◌∷◌, refl, sym, ap}
use Rattle.std.proofs.Common.{◌∙◌, subst, arith, ◌==◌, Bool, true, false, if◌then◌else◌}
use Rattle.std.proofs.Common.{ne_eqb}
use Rattle.std.proofs.Math.Nat.{le-max_left, le-max_right}
use Rattle.abc_packet.specs.declared.packets.Packet.{Packet}
use Rattle.abc_packet.specs.declared.stamped.Stamped.{Stamped}
use Rattle.abc_packet.specs.declared.log.Deed.{Deed}
use Rattle.abc_packet.specs.declared.log.Deed.TheVariants.{Asked, Arrived, Took, Turned, Passed}
use Rattle.abc_packet.specs.declared.log.Deed.TheVariants.{Stray}
use Rattle.abc_packet.specs.declared.log.Entry.{Entry}
use Rattle.abc_packet.specs.Outlets.{sent_on}
use Rattle.abc_shape.specs.declared.layout.Layout.{Layout}
use Rattle.abc_shape.specs.Plans.{IsLink, actor_of}
use Rattle.abc_shape.proofs.Rows.{row, row-is}
use Rattle.abc_body.specs.Meanings.{Meaning}
use Rattle.abc_network.specs.Agents.{AgentState, AgentDoes}
use Rattle.abc_network.specs.Networks.{Actor, Rules, Logs, taken_clock}
use Rattle.abc_network_laws.specs.Kept.{Each}
use Rattle.abc_network_laws.proofs.Lists.{each-map}
use Rattle.abc_logs.specs.MicroSteps.{taken_by, stamped_with}
use Rattle.abc_schedule.specs.Schedules.{EndsAt, IsFor}
use Rattle.abc_schedule.specs.Shapes.{StartsAt, OwnLinks}
use Rattle.abc_schedule.specs.Machines.{Machine, IsClocked}
use Rattle.abc_schedule.proofs.Law.{sent_each}

-- The state of an actor: an agent's or a node's; other numbers are nobody's.
pub data Part (B L N : Type 0) : Type 0 where
  AnAgent : AgentState B L → Part B L N
  ANode : N → Part B L N
  Nobody : Part B L N

-- The sender and the receiver of a link.
abbrev pub sender : Layout → ℕ → ℕ
sender p l = (row p l).from

-- Its receiver.
abbrev pub receiver : Layout → ℕ → ℕ
receiver p l = (row p l).to

-- They are those of the plan.
pub sender-is : (p : Layout) (l from to : ℕ) → IsLink p l from to → sender p l ≡ from
sender-is p l from to h = ap (λ e. e.from) (row-is p l from to h)

-- So is the receiver.
pub receiver-is : (p : Layout) (l from to : ℕ) → IsLink p l from to → receiver p l ≡ to
receiver-is p l from to h = ap (λ e. e.to) (row-is p l from to h)

module _ {B L N : Type 0} (m : Meaning B L) (r : Rules L N) where
  -- The table of actor a.
  abbrev pub PartDoes : ℕ → Part B L N → Deed L → List (ℕ × Packet L) → Part B L N → Type 0
  PartDoes a (AnAgent s) d out (AnAgent s') =
      (a < r.plan.agents) × AgentDoes m r.pick (r.way a) a s d out s'
  PartDoes a (ANode s) d out (ANode s') =
      (k : ℕ) × (a ≡ actor_of r.plan k) × (k < r.plan.nodes) × r.node.does k s d out s'
  PartDoes a (AnAgent s) d out (ANode s') = ⊥
  PartDoes a (AnAgent s) d out Nobody = ⊥
  PartDoes a (ANode s) d out (AnAgent s') = ⊥
  PartDoes a (ANode s) d out Nobody = ⊥
  PartDoes a Nobody d out p = ⊥

  -- One step of actor a.
  pub record ActorStep (a : ℕ) (s : Actor (Part B L N) L) (e : Entry L)
      (o : List (ℕ × Stamped L)) (s' : Actor (Part B L N) L) : Type 0 where
    pub packets : List (ℕ × Packet L)
    pub out : o ≡ stamped_with e.clock packets
    pub does : PartDoes a s.state e.deed packets s'.state
    pub logs : Logs s e s'
    pub fit : IsFor r a e

  -- All actors as one machine.
  abbrev pub machine : Machine (Actor (Part B L N) L) L
  machine = record {
    now = λ s. s.clock;
    from = sender r.plan;
    into = receiver r.plan;
    Step = ActorStep;
  }

-- The clock of an entry is above that of the packet that it took.
taken-before : {L : Type 0} (d : Deed L) (k c : ℕ) → c ≡ max k (taken_clock d) + 1 →
    Each (λ x. x.1.clock < c) (taken_by d)
taken-before Asked k c h = tt
taken-before (Arrived l x drew) k c h = let u = le-max_right k x.clock in (omega arith, tt)
taken-before (Stray l x) k c h = let u = le-max_right k x.clock in (omega arith, tt)
taken-before (Took n place) k c h = tt
taken-before (Turned n place content) k c h = tt
taken-before (Passed n) k c h = tt

-- Packets that are sent carry the clock.
stamped-clock : {L : Type 0} (c : ℕ) (sends : List (ℕ × Packet L)) →
    Each (λ (x : ℕ × Stamped L). x.1.clock ≡ c) (stamped_with c sends)
stamped-clock c [] = tt
stamped-clock c (s ∷ sends) = (refl, stamped-clock c sends)

-- They go on the same links.
pub stamped-links : {L : Type 0} (Q : ℕ → Type 0) (c : ℕ) (sends : List (ℕ × Packet L)) →
    Each (λ x. Q x.0) sends → Each (λ (x : ℕ × Stamped L). Q x.0) (stamped_with c sends)
stamped-links Q c [] h = tt
stamped-links Q c (s ∷ sends) h = (h.0, stamped-links Q c sends h.1)

-- Nothing is on a link that none of them is on.
chosen-none : {X : Type 0} (t : Bool) (x : X) (xs : List X) → t ≡ false →
    (if t then x ∷ xs else xs) ≡ xs
chosen-none true x xs h = absurd (cc)
chosen-none false x xs h = refl

-- Of sendings on other links none is on this one.
pub none-sent : {L : Type 0} (l : ℕ) (xs : List (ℕ × Stamped L)) → Each (λ x. x.0 ≢ l) xs →
    sent_on l xs ≡ []
none-sent l [] h = refl
none-sent l (x ∷ xs) h =
    chosen-none (x.0 == l) x.1 (sent_on l xs) (ne_eqb x.0 l h.0) ∙ none-sent l xs h.1

module _ {B L N : Type 0} (m : Meaning B L) (r : Rules L N) (own : OwnLinks r) where
  -- An agent sends on its own links,
  agent-sends : (i : ℕ) (s : AgentState B L) (d : Deed L) (out : List (ℕ × Packet L))
      (s' : AgentState B L) → i < r.plan.agents → AgentDoes m r.pick (r.way i) i s d out s' →
      Each (λ x. StartsAt r.plan i x.0) out
  agent-sends i s Asked out s' low h =
      subst (Each (λ (x : ℕ × Packet L). StartsAt r.plan i x.0)) (sym h.sends) (own.agents i s.packets low, tt)
  agent-sends i s (Arrived l x drew) out s' low h =
      subst (Each (λ (x : ℕ × Packet L). StartsAt r.plan i x.0)) (sym h.1) tt
  agent-sends i s (Stray l x) out s' low h =
      subst (Each (λ (x : ℕ × Packet L). StartsAt r.plan i x.0)) (sym h.1) tt
  agent-sends i s (Took n place) out s' low h =
      subst (Each (λ (x : ℕ × Packet L). StartsAt r.plan i x.0)) (sym h.sends) tt
  agent-sends i s (Turned n place content) out s' low h =
      subst (Each (λ (x : ℕ × Packet L). StartsAt r.plan i x.0)) (sym h.sends) (own.agents i s.packets low, tt)
  agent-sends i s (Passed n) out s' low h = absurd h

  -- and so does every actor.
  pub part-sends : (a : ℕ) (p : Part B L N) (d : Deed L) (out : List (ℕ × Packet L)) (p' : Part B L N) →
      PartDoes m r a p d out p' → Each (λ x. StartsAt r.plan a x.0) out
  part-sends a (AnAgent s) d out (AnAgent s') h = agent-sends a s d out s' h.0 h.1
  part-sends a (ANode s) d out (ANode s') h =
      subst (λ v. Each (λ (x : ℕ × Packet L). StartsAt r.plan v x.0) out) (sym h.1)
      (own.nodes h.0 s d out s' h.2 h.3)
  part-sends a (AnAgent s) d out (ANode s') h = absurd h
  part-sends a (AnAgent s) d out Nobody h = absurd h
  part-sends a (ANode s) d out (AnAgent s') h = absurd h
  part-sends a (ANode s) d out Nobody h = absurd h
  part-sends a Nobody d out p h = absurd h

  -- Steps of actors keep to what the law asks.
  pub is-clocked : IsClocked (machine m r)
  is-clocked = record {
    rises = λ a s e o s' h. let up = h.logs.0 in let u = le-max_left s.clock (taken_clock e.deed) in omega arith;
    after = λ a s e o s' h. h.logs.1;
    later = λ a s e o s' h l.
        sent_each (λ p. p.clock < e.clock) l (taken_by e.deed) (taken-before e.deed s.clock e.clock h.logs.0);
    stamped = λ a s e o s' h.
        subst (Each (λ (x : ℕ × Stamped L). x.1.clock ≡ e.clock)) (sym h.out) (stamped-clock e.clock h.packets);
    starts = λ a s e o s' h l other.
        let sends = part-sends a s.state e.deed h.packets s'.state h.does in
        ap (sent_on l) h.out ∙ none-sent l (stamped_with e.clock h.packets)
        (stamped-links (λ k. k ≢ l) e.clock h.packets
        (each-map (λ x. StartsAt r.plan a x.0) (λ x. x.0 ≢ l)
        (λ x at same. other (ap (sender r.plan) (sym same) ∙ sender-is r.plan x.0 a at.0 at.1)) h.packets sends));
    ends = λ a s e o s' h l other.
        none-sent l (taken_by e.deed)
        (each-map (λ x. EndsAt r.plan a x.0) (λ x. x.0 ≢ l)
        (λ x at same. other (ap (receiver r.plan) (sym same) ∙ receiver-is r.plan x.0 at.0 a at.1))
        (taken_by e.deed) h.fit.0);
  }
