-- Paths of agents and nodes as walks of actors, and back.
use Rattle.std.proofs.Common.{◌≡◌, ℕ, ◌≤◌, List, [], ◌∷◌, ◌++◌, refl, sym, ap, ◌∙◌, subst}
use Rattle.std.proofs.Common.{arith, append-nil, append_assoc}
use Rattle.abc_packet.specs.declared.packets.Packet.{Packet}
use Rattle.abc_packet.specs.declared.stamped.Stamped.{Stamped}
use Rattle.abc_packet.specs.declared.log.Deed.{Deed}
use Rattle.abc_packet.specs.declared.log.Entry.{Entry}
use Rattle.abc_packet.specs.declared.log.Deed.TheVariants.{Asked, Arrived, Took, Turned, Passed}
use Rattle.abc_packet.specs.declared.log.Deed.TheVariants.{Stray}
use Rattle.abc_packet.specs.Logs.{Rise, IsAfterPacket}
use Rattle.std.proofs.Common.{max, ◌+◌}
use Rattle.std.proofs.Math.Nat.{le-max_left, le-max_right}
use Rattle.abc_body.specs.Meanings.{Meaning}
use Rattle.abc_network.specs.Networks.{Actor, Rules, taken_clock}
use Rattle.abc_network_laws.specs.Kept.{Each}
use Rattle.abc_network_laws.proofs.Lists.{each-append}
use Rattle.abc_logs.specs.MicroSteps.{Table, stamped_with}
use Rattle.abc_logs.specs.Paths.{Path, clock_after}
use Rattle.abc_schedule.specs.Schedules.{IsFor}
use Rattle.abc_schedule.specs.Shapes.{StartsAt, OwnLinks}
use Rattle.abc_schedule.specs.Machines.{Machine, IsClocked, Walk}
use Rattle.abc_schedule.proofs.Actors.{Part, PartDoes, ActorStep, machine, part-sends, stamped-links}
use Rattle.abc_schedule.proofs.Goings.{part-is}
use Rattle.abc_schedule.proofs.Order.{Rises}

-- The clocks of a walk rise.
pub walk-rises : {S L : Type 0} (m : Machine S L) → IsClocked m → (a : ℕ) (s : S) (es : List (Entry L))
    (o : List (ℕ × Stamped L)) (s' : S) → Walk m a s es o s' → Rises (m.now s) es
walk-rises m c a s [] o s' p = tt
walk-rises m c a s (e ∷ es) o s' p = (
  c.rises a s e p.1 p.0 p.4,
  subst (λ t. Rises t es) (c.after a s e p.1 p.0 p.4) (walk-rises m c a p.0 es p.2 s' p.5),
)

-- So they do from a lower clock.
pub rises-low : {L : Type 0} (j k : ℕ) (es : List (Entry L)) → j ≤ k → Rises k es → Rises j es
rises-low j k [] le r = tt
rises-low j k (e ∷ es) le r = let up = r.0 in (omega arith, r.1)

-- The clock of an entry is above its packet's.
after-packet : {L : Type 0} (k c : ℕ) (d : Deed L) → c ≡ max k (taken_clock d) + 1 → IsAfterPacket c d
after-packet k c Asked h = tt
after-packet k c (Arrived l x drew) h = let u = le-max_right k x.clock in omega arith
after-packet k c (Took n place) h = tt
after-packet k c (Turned n place content) h = tt
after-packet k c (Passed n) h = tt
after-packet k c (Stray l x) h = let u = le-max_right k x.clock in omega arith

-- From a lower clock they rise too.
pub rise-low : {L : Type 0} (j k : ℕ) (es : List (Entry L)) → j ≤ k → Rise k es → Rise j es
rise-low j k [] le h = tt
rise-low j k (e ∷ es) le h = let up = h.0 in (omega arith, h.1, h.2)

module _ {B L N : Type 0} (m : Meaning B L) (r : Rules L N) where
  -- The clocks of a walk rise, each above its packet's.
  pub walk-clocks : (a : ℕ) (s : Actor (Part B L N) L) (es : List (Entry L)) (o : List (ℕ × Stamped L))
      (s' : Actor (Part B L N) L) → Walk (machine m r) a s es o s' → Rise s.clock es
  walk-clocks a s [] o s' p = tt
  walk-clocks a s (e ∷ es) o s' p =
      let step = p.4 in
      let is = step.logs.0 in
      let up = le-max_left s.clock (taken_clock e.deed) in (
        omega arith,
        after-packet s.clock e.clock e.deed step.logs.0,
        subst (λ c. Rise c es) step.logs.1 (walk-clocks a p.0 es p.2 s' p.5),
      )

  -- What a walk takes and draws is for its actor,
  pub walk-takes : (a : ℕ) (s : Actor (Part B L N) L) (es : List (Entry L)) (o : List (ℕ × Stamped L))
      (s' : Actor (Part B L N) L) → Walk (machine m r) a s es o s' → Each (IsFor r a) es
  walk-takes a s [] o s' p = tt
  walk-takes a s (e ∷ es) o s' p = let step = p.4 in (step.fit, walk-takes a p.0 es p.2 s' p.5)

  -- and what it sends is on links that start there.
  pub walk-sends : OwnLinks r → (a : ℕ) (s : Actor (Part B L N) L) (es : List (Entry L))
      (o : List (ℕ × Stamped L)) (s' : Actor (Part B L N) L) → Walk (machine m r) a s es o s' →
      Each (λ x. StartsAt r.plan a x.0) o
  walk-sends own a s [] o s' p =
      subst (Each (λ (x : ℕ × Stamped L). StartsAt r.plan a x.0)) (sym p.0) tt
  walk-sends own a s (e ∷ es) o s' p =
      let step = p.4 in
      let now = part-sends m r own a s.state e.deed step.packets p.0.state step.does in
      subst (Each (λ (x : ℕ × Stamped L). StartsAt r.plan a x.0)) (sym (p.3 ∙ ap (λ v. v ++ p.2) step.out))
      (each-append (λ (x : ℕ × Stamped L). StartsAt r.plan a x.0) (stamped_with e.clock step.packets) p.2
      (stamped-links (λ l. StartsAt r.plan a l) e.clock step.packets now)
      (walk-sends own a p.0 es p.2 s' p.5))

-- An actor with states S among all: its table is that of its number.
module _ {B L N S : Type 0} (m : Meaning B L) (r : Rules L N) (does : Table S L) (part : S → Part B L N) (i : ℕ)
    (into : (s : S) (d : Deed L) (out : List (ℕ × Packet L)) (s' : S) → does s d out s' →
    PartDoes m r i (part s) d out (part s'))
    (outof : (s : S) (d : Deed L) (out : List (ℕ × Packet L)) (p : Part B L N) →
    PartDoes m r i (part s) d out p → (s' : S) × (p ≡ part s') × does s d out s') where
  -- Such an actor.
  abbrev one : S → ℕ → List (Entry L) → Actor (Part B L N) L
  one s c log = record { state = part s; clock = c; log = log }

  -- A path is a walk,
  pub walk-of : (es : List (Entry L)) (s : S) (c : ℕ) (log : List (Entry L)) (o : List (ℕ × Stamped L)) (s' : S) →
      Path does s c es o s' → Each (IsFor r i) es →
      Walk (machine m r) i (one s c log) es o (one s' (clock_after c es) (log ++ es))
  walk-of [] s c log o s' p f =
      (p.0, ap (λ v. one v c (log ++ [])) p.1 ∙ ap (λ v. one s c v) (append-nil log))
  walk-of (e ∷ es) s c log o s' p f =
      let step : ActorStep m r i (one s c log) e (stamped_with e.clock p.1) (one p.0 e.clock (log ++ e ∷ [])) = record {
        packets = p.1;
        out = refl;
        does = into s e.deed p.1 p.0 p.3;
        logs = (p.4, refl, refl);
        fit = f.0;
      } in
      let rest = walk-of es p.0 e.clock (log ++ e ∷ []) p.2 s' p.6 f.1 in (
        one p.0 e.clock (log ++ e ∷ []),
        stamped_with e.clock p.1,
        p.2,
        p.5,
        step,
        subst (λ v. Walk (machine m r) i (one p.0 e.clock (log ++ e ∷ [])) es p.2 (one s' (clock_after e.clock es) v))
            (append_assoc log (e ∷ []) es) rest,
      )

  -- and a walk is a path.
  pub record Walked (es : List (Entry L)) (s : S) (c : ℕ) (log : List (Entry L)) (o : List (ℕ × Stamped L))
      (t : Actor (Part B L N) L) : Type 0 where
    pub last : S
    pub state : t.state ≡ part last
    pub path : Path does s c es o last
    pub clock : t.clock ≡ clock_after c es
    pub log_is : t.log ≡ log ++ es
    pub fit : Each (IsFor r i) es

  -- Each walk is one.
  pub path-of : (es : List (Entry L)) (s : S) (c : ℕ) (log : List (Entry L)) (o : List (ℕ × Stamped L))
      (t : Actor (Part B L N) L) → Walk (machine m r) i (one s c log) es o t → Walked es s c log o t
  path-of [] s c log o t p = record {
    last = s;
    state = ap (λ v. v.state) p.1;
    path = (p.0, refl);
    clock = ap (λ v. v.clock) p.1;
    log_is = ap (λ v. v.log) p.1 ∙ sym (append-nil log);
    fit = tt;
  }
  path-of (e ∷ es) s c log o t p =
      let mid = p.0 in
      let step = p.4 in
      let did = outof s e.deed step.packets mid.state step.does in
      let is : mid ≡ one did.0 e.clock (log ++ e ∷ []) =
      part-is mid (part did.0) did.1
      ∙ (ap (λ v. one did.0 v mid.log) step.logs.1 ∙ ap (λ v. one did.0 e.clock v) step.logs.2) in
      let more = path-of es did.0 e.clock (log ++ e ∷ []) p.2 t
      (subst (λ v. Walk (machine m r) i v es p.2 t) is p.5) in
      record {
        last = more.last;
        state = more.state;
        path = (did.0, step.packets, p.2, did.2, step.logs.0, p.3 ∙ ap (λ v. v ++ p.2) step.out, more.path);
        clock = more.clock;
        log_is = more.log_is ∙ append_assoc log (e ∷ []) es;
        fit = (step.fit, more.fit);
      }
