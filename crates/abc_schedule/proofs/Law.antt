-- Logs that fit together merge into a run of their network. The entry with the least clock comes
-- next: what it takes stands first on its link, since all that is still to be sent is sent later.
use Rattle.std.proofs.Common.{◌≡◌, ◌≢◌, inl, inr, ℕ, ◌≤◌, ◌<◌, Bool, true, false, cond}
use Rattle.std.proofs.Common.{◌==◌, List, [], ◌∷◌, ◌++◌, length, get_or, drop, drop_at, refl, sym}
use Rattle.std.proofs.Common.{ap, ◌∙◌, subst, append_assoc, append-nil, arith, eq-eqb, ne_eqb}
use Rattle.std.proofs.Common.{if◌then◌else◌}
use Rattle.std.proofs.lemmas.Bool.{cases_eq}
use Rattle.abc_packet.specs.declared.stamped.Stamped.{Stamped}
use Rattle.abc_packet.specs.declared.log.Entry.{Entry}
use Rattle.abc_packet.specs.Outlets.{sent_on}
use Rattle.abc_packet.proofs.Sendings.{sent_after_append}
use Rattle.abc_network_laws.specs.Kept.{Each}
use Rattle.abc_network_laws.proofs.Lists.{each-append, each-map}
use Rattle.abc_schedule.specs.Schedules.{arrivals_on}
use Rattle.abc_schedule.specs.Machines.{put, Machine, IsClocked, Walk, Web, WebRun, Merged, takes}

-- What is put at a place stands there,
pub put_eq : {X : Type 0} (f : ℕ → X) (a : ℕ) (x : X) (b : ℕ) → b ≡ a → put f a x b ≡ x
put_eq f a x b e = ap (λ t. cond t x (f b)) (eq-eqb b a e)

-- and nowhere else.
pub put_other : {X : Type 0} (f : ℕ → X) (a : ℕ) (x : X) (b : ℕ) → b ≢ a → put f a x b ≡ f b
put_other f a x b ne = ap (λ t. cond t x (f b)) (ne_eqb b a ne)

-- What each packet has, each on one link has.
each-chosen : {P : Type 0} (Q : P → Type 0) (t : Bool) (p : P) (u : List P) → Q p → Each Q u →
    Each Q (if t then p ∷ u else u)
each-chosen Q true p u f g = (f, g)
each-chosen Q false p u f g = g

-- The same of what was sent on a link.
pub sent_each : {L : Type 0} (Q : Stamped L → Type 0) (l : ℕ) (xs : List (ℕ × Stamped L)) →
    Each (λ x. Q x.1) xs → Each Q (sent_on l xs)
sent_each Q l [] h = tt
sent_each Q l (x ∷ xs) h = each-chosen Q (x.0 == l) x.1 (sent_on l xs) h.0 (sent_each Q l xs h.1)

-- What was taken before c stood on the link, where all that is still to be sent is sent at c or
-- later.
pub first_out : {L : Type 0} (c : ℕ) (t r q o : List (Stamped L)) → t ++ r ≡ q ++ o →
    Each (λ p. p.clock < c) t → Each (λ p. c ≤ p.clock) o →
    (q' : List (Stamped L)) × (q ≡ t ++ q') × (r ≡ q' ++ o)
first_out c [] r q o h f g = (q, refl, h)
first_out c (p ∷ t) r [] o h f g =
    let e : Each (λ p. c ≤ p.clock) (p ∷ (t ++ r)) = subst (λ l. Each (λ p. c ≤ p.clock) l) (sym h) g in
    let low : c ≤ p.clock = e.0 in
    let up : p.clock < c = f.0 in
    absurd (omega arith)
first_out c (p ∷ t) r (x ∷ q) o h f g =
    let rest = first_out c t r q o (ap (λ l. drop 1 l) h) f.1 g in
    let same : p ≡ x = ap (λ l. get_or l 0 p) h in
    (rest.0, subst (λ y. y ∷ q ≡ p ∷ (t ++ rest.0)) same (ap (λ l. p ∷ l) rest.1), rest.2)

-- What is behind the front of a list.
pub drop_front : {X : Type 0} (xs ys zs : List X) → zs ≡ xs ++ ys → drop (length xs) zs ≡ ys
drop_front xs ys zs is = ap (λ l. drop (length xs) l) is ∙ drop_at xs ys (length xs) refl

-- What is sent on a link, the first entry's apart.
pub sent_split : {L : Type 0} (l : ℕ) (outs : ℕ → List (ℕ × Stamped L)) (a : ℕ)
    (now later : List (ℕ × Stamped L)) (b : ℕ) → outs a ≡ now ++ later →
    (b ≢ a → sent_on l now ≡ []) →
    sent_on l (outs b) ≡ sent_on l now ++ sent_on l (put outs a later b)
sent_split l outs a now later b is none =
    elim (cases_eq b a) [
      | inl h ↦ ap (sent_on l) (ap outs h ∙ is)
          ∙ (sent_after_append l now later ∙ ap (λ k. sent_on l now ++ sent_on l k) (sym (put_eq outs a later b h)))
      | inr h ↦ rw (none h) (ap (sent_on l) (sym (put_other outs a later b h)))
    ]

-- The arrivals on a link, the first entry's apart.
pub arrivals_split : {L : Type 0} (l : ℕ) (logs : ℕ → List (Entry L)) (a : ℕ) (e : Entry L)
    (es : List (Entry L)) (b : ℕ) → logs a ≡ e ∷ es → (b ≢ a → takes l e ≡ []) →
    arrivals_on l (logs b) ≡ takes l e ++ arrivals_on l (put logs a es b)
arrivals_split l logs a e es b is none =
    elim (cases_eq b a) [
      | inl h ↦ ap (arrivals_on l) (ap logs h ∙ is)
          ∙ ap (λ k. takes l e ++ arrivals_on l k) (sym (put_eq logs a es b h))
      | inr h ↦ rw (none h) (ap (arrivals_on l) (sym (put_other logs a es b h)))
    ]

module _ {S L : Type 0} (m : Machine S L) (c : IsClocked m) where
  -- What a walk sends has no clock below the actor's,
  pub floor : (a : ℕ) (s : S) (es : List (Entry L)) (o : List (ℕ × Stamped L)) (s' : S) (k : ℕ) →
      k ≤ m.now s → Walk m a s es o s' → Each (λ x. k ≤ x.1.clock) o
  floor a s [] o s' k le p =
      subst (λ o. Each (λ (x : ℕ × Stamped L). k ≤ x.1.clock) o) (sym p.0) tt
  floor a s (e ∷ es) o s' k le p =
      let up : m.now s < e.clock = c.rises a s e p.1 p.0 p.4 in
      let at : m.now p.0 ≡ e.clock = c.after a s e p.1 p.0 p.4 in
      subst (λ o. Each (λ (x : ℕ × Stamped L). k ≤ x.1.clock) o) (sym p.3)
      (each-append (λ (x : ℕ × Stamped L). k ≤ x.1.clock) p.1 p.2
      (each-map (λ (x : ℕ × Stamped L). x.1.clock ≡ e.clock) (λ (x : ℕ × Stamped L). k ≤ x.1.clock)
      (λ x h. omega (arith, h)) p.1 (c.stamped a s e p.1 p.0 p.4))
      (floor a p.0 es p.2 s' k (omega arith) p.5))

  -- nor below that of its first entry.
  pub floor_first : (a : ℕ) (s : S) (es : List (Entry L)) (o : List (ℕ × Stamped L)) (s' : S) (k : ℕ) →
      ((f : Entry L) (fs : List (Entry L)) → es ≡ f ∷ fs → k ≤ f.clock) → Walk m a s es o s' →
      Each (λ x. k ≤ x.1.clock) o
  floor_first a s [] o s' k le p =
      subst (λ o. Each (λ (x : ℕ × Stamped L). k ≤ x.1.clock) o) (sym p.0) tt
  floor_first a s (e ∷ es) o s' k le p =
      let low : k ≤ e.clock = le e es refl in
      let at : m.now p.0 ≡ e.clock = c.after a s e p.1 p.0 p.4 in
      subst (λ o. Each (λ (x : ℕ × Stamped L). k ≤ x.1.clock) o) (sym p.3)
      (each-append (λ (x : ℕ × Stamped L). k ≤ x.1.clock) p.1 p.2
      (each-map (λ (x : ℕ × Stamped L). x.1.clock ≡ e.clock) (λ (x : ℕ × Stamped L). k ≤ x.1.clock)
      (λ x h. omega (arith, h)) p.1 (c.stamped a s e p.1 p.0 p.4))
      (floor a p.0 es p.2 s' k (omega arith) p.5))

-- What stands of the logs that are left, from a network on: each is a walk, which sends `outs` and
-- ends in `ends`, and each link is joined up to a rest.
pub record Fit {S L : Type 0} (m : Machine S L) (n : Web S L) (logs : ℕ → List (Entry L))
    (outs : ℕ → List (ℕ × Stamped L)) (ends : ℕ → S) (rest : ℕ → List (Stamped L)) : Type 0 where
  pub walks : (a : ℕ) → Walk m a (n.states a) (logs a) (outs a) (ends a)
  pub links : (l : ℕ) → arrivals_on l (logs (m.into l)) ++ rest l ≡ n.links l ++ sent_on l (outs (m.from l))

-- A run to these states, with these rests on the links.
pub record Ends {S L : Type 0} (m : Machine S L) (n : Web S L) (xs : List (ℕ × Entry L)) (ends : ℕ → S)
    (rest : ℕ → List (Stamped L)) : Type 0 where
  pub last : Web S L
  pub run : WebRun m n xs last
  pub states : (a : ℕ) → last.states a ≡ ends a
  pub links : (l : ℕ) → last.links l ≡ rest l

module _ {S L : Type 0} (m : Machine S L) (c : IsClocked m) (ends : ℕ → S) (rest : ℕ → List (Stamped L)) where
  -- Nothing is left to do.
  walk-done : (a : ℕ) (s : S) (es : List (Entry L)) (o : List (ℕ × Stamped L)) (s' : S) → es ≡ [] →
      Walk m a s es o s' → (o ≡ []) × (s' ≡ s)
  walk-done a s [] o s' e p = p
  walk-done a s (x ∷ es) o s' e p = absurd (cc)

  -- The network after the entry e of actor a.
  abbrev next_web : Web S L → ℕ → Entry L → List (ℕ × Stamped L) → S → Web S L
  next_web n a e now s' = record {
    states = put n.states a s';
    links = λ l. drop (length (takes l e)) (n.links l) ++ sent_on l now;
  }

  -- Where no clock of what is left is below that of e, what e takes stands first on its link, and
  -- the rest is joined.
  step-link : (n : Web S L) (logs : ℕ → List (Entry L)) (outs : ℕ → List (ℕ × Stamped L)) (a : ℕ)
      (e : Entry L) (es : List (Entry L)) (s' : S) (now later : List (ℕ × Stamped L)) →
      Fit m n logs outs ends rest → logs a ≡ e ∷ es → outs a ≡ now ++ later →
      m.Step a (n.states a) e now s' →
      ((b : ℕ) (f : Entry L) (fs : List (Entry L)) → logs b ≡ f ∷ fs → e.clock ≤ f.clock) →
      (l : ℕ) → (q : List (Stamped L)) × (n.links l ≡ takes l e ++ q)
      × (arrivals_on l (put logs a es (m.into l)) ++ rest l
      ≡ q ++ (sent_on l now ++ sent_on l (put outs a later (m.from l))))
  step-link n logs outs a e es s' now later j is out st least l =
      let arr = arrivals_split l logs a e es (m.into l) is (c.ends a (n.states a) e now s' st l) in
      let snd = sent_split l outs a now later (m.from l) out (c.starts a (n.states a) e now s' st l) in
      let f = m.from l in
      let low = sent_each (λ p. e.clock ≤ p.clock) l (outs f)
      (floor_first m c f (n.states f) (logs f) (outs f) (ends f) e.clock (λ g gs h. least f g gs h) (j.walks f)) in
      let left = arrivals_on l (put logs a es (m.into l)) in
      let whole : takes l e ++ (left ++ rest l) ≡ n.links l ++ sent_on l (outs f) =
      sym (append_assoc (takes l e) left (rest l)) ∙ (ap (λ x. x ++ rest l) (sym arr) ∙ j.links l) in
      let got = first_out e.clock (takes l e) (left ++ rest l) (n.links l) (sent_on l (outs f)) whole
      (c.later a (n.states a) e now s' st l) low in
      (got.0, got.1, got.2 ∙ ap (λ x. got.0 ++ x) snd)

  -- The other actors' walks stay.
  walk-put : (states : ℕ → S) (logs : ℕ → List (Entry L)) (outs : ℕ → List (ℕ × Stamped L)) (a : ℕ)
      (es : List (Entry L)) (s' : S) (later : List (ℕ × Stamped L)) →
      ((b : ℕ) → Walk m b (states b) (logs b) (outs b) (ends b)) → Walk m a s' es later (ends a) →
      (b : ℕ) → Walk m b (put states a s' b) (put logs a es b) (put outs a later b) (ends b)
  walk-put states logs outs a es s' later old p b =
      elim (cases_eq b a) [
        | inl h ↦ rw (put_eq states a s' b h, put_eq logs a es b h, put_eq outs a later b h)
            (subst (λ k. Walk m k s' es later (ends k)) (sym h) p)
        | inr h ↦ rw (put_other states a s' b h, put_other logs a es b h, put_other outs a later b h) (old b)
      ]

  -- The law, without names for what the actors do.
  pub law : (xs : List (ℕ × Entry L)) (n : Web S L) (logs : ℕ → List (Entry L))
      (outs : ℕ → List (ℕ × Stamped L)) → Fit m n logs outs ends rest → Merged logs xs →
      Ends m n xs ends rest
  law [] n logs outs j mg = record {
    last = n;
    run = refl;
    states = λ a. sym (walk-done a (n.states a) (logs a) (outs a) (ends a) (mg a) (j.walks a)).1;
    links = λ l.
        let f = m.from l in
        let o = (walk-done f (n.states f) (logs f) (outs f) (ends f) (mg f) (j.walks f)).0 in
        sym (ap (λ x. arrivals_on l x ++ rest l) (sym (mg (m.into l)))
        ∙ (j.links l ∙ (ap (λ x. n.links l ++ sent_on l x) o ∙ append-nil (n.links l))));
  }
  law (x ∷ xs) n logs outs j mg =
      let es : List (Entry L) = mg.0 in
      let is : logs x.0 ≡ x.1 ∷ es = mg.1 in
      let p : Walk m x.0 (n.states x.0) (x.1 ∷ es) (outs x.0) (ends x.0) =
      subst (λ l. Walk m x.0 (n.states x.0) l (outs x.0) (ends x.0)) is (j.walks x.0) in
      let s' : S = p.0 in
      let now : List (ℕ × Stamped L) = p.1 in
      let later : List (ℕ × Stamped L) = p.2 in
      let each = step-link n logs outs x.0 x.1 es s' now later j is p.3 p.4 mg.2 in
      let n' : Web S L = next_web n x.0 x.1 now s' in
      let go = law xs n' (put logs x.0 es) (put outs x.0 later)
      (record {
        walks = walk-put n.states logs outs x.0 es s' later j.walks p.5;
        links = λ l.
            (each l).2 ∙ (sym (append_assoc (each l).0 (sent_on l now) (sent_on l (put outs x.0 later (m.from l))))
            ∙ ap (λ q. (q ++ sent_on l now) ++ sent_on l (put outs x.0 later (m.from l)))
            (sym (drop_front (takes l x.1) (each l).0 (n.links l) (each l).1)));
      })
      mg.3 in
      record {
        last = go.last;
        run = (
          n',
          record {
            sends = now;
            step = rw (put_eq n.states x.0 s' x.0 refl) p.4;
            others = λ b ne. put_other n.states x.0 s' b ne;
            links = λ l. (
              (each l).0,
              (each l).1,
              ap (λ q. q ++ sent_on l now) (drop_front (takes l x.1) (each l).0 (n.links l) (each l).1),
            );
          },
          go.run,
        );
        states = go.states;
        links = go.links;
      }
