-- What an event does to the links: an arrival takes the first packet of its link, and what is sent
-- is appended.
use Rattle.std.proofs.Common.{◌≡◌, ◌≢◌, ℕ, zero, suc, ◌<◌, ◌≤◌, List, [], ◌∷◌, ◌++◌, length}
use Rattle.std.proofs.Common.{get_or, refl, sym, ap, ◌∙◌, subst, arith, inl, inr, append_assoc, append-nil}
use Rattle.std.proofs.Common.{◌==◌, Bool, true, false, if◌then◌else◌, eq-eqb}
use Rattle.std.specs.Prelude.{Some}
use Rattle.std.proofs.lemmas.Bool.{cases_eq, cases_lt}
use Rattle.std.proofs.lemmas.Option.{slice_get-get_or}
use Rattle.abc_packet.specs.declared.packets.Packet.{Packet}
use Rattle.abc_packet.specs.declared.stamped.Stamped.{Stamped}
use Rattle.abc_packet.specs.declared.log.Deed.{Deed}
use Rattle.abc_packet.specs.declared.log.Deed.TheVariants.{Asked, Arrived, Took, Turned, Passed}
use Rattle.abc_packet.specs.declared.log.Deed.TheVariants.{Stray}
use Rattle.abc_packet.specs.Outlets.{sent_on}
use Rattle.abc_packet.proofs.Sendings.{sent_after_append}
use Rattle.abc_network.specs.Networks.{FirstTaken, Swaps, put_on, sent}
use Rattle.abc_network_laws.specs.Kept.{Each}
use Rattle.abc_network_laws.proofs.Lists.{swap-length}
use Rattle.abc_logs.specs.MicroSteps.{taken_by, stamped_with}
use Rattle.abc_schedule.proofs.Law.{drop_front}
use Rattle.abc_schedule.proofs.Actors.{none-sent}
use Rattle.abc_schedule.proofs.Places.{get-past, put_in, put-swaps, swap-at, swap-others}

-- One packet is on its own link.
chosen-one : {X : Type 0} (t : Bool) (x : X) → t ≡ true → (if t then x ∷ [] else []) ≡ x ∷ []
chosen-one true x h = refl
chosen-one false x h = absurd (cc)

-- The same of what is sent.
pub one-sent : {L : Type 0} (l k : ℕ) (x : Stamped L) → k ≡ l → sent_on l ((k, x) ∷ []) ≡ x ∷ []
one-sent l k x e = chosen-one (k == l) x (eq-eqb k l e)

-- A packet that is taken stood first on its link.
swapped-link : {L : Type 0} (k : ℕ) (x : Stamped L) (q : List (Stamped L)) (links left : List (List (Stamped L))) →
    Swaps k (x ∷ q) q links left → (l : ℕ) →
    get_or links l [] ≡ sent_on l ((k, x) ∷ []) ++ get_or left l []
swapped-link {L} k x q links left s l =
    elim (cases_eq l k) [
      | inl e ↦
          let at = swap-at [] k (x ∷ q) q links left s in
          subst (λ v. get_or links v [] ≡ sent_on v ((k, x) ∷ []) ++ get_or left v []) (sym e)
          (at.0 ∙ (ap (λ v. x ∷ v) (sym at.1) ∙ ap (λ v. v ++ get_or left k []) (sym (one-sent k k x refl))))
      | inr ne ↦
          sym (swap-others [] k (x ∷ q) q links left s l ne)
          ∙ ap (λ (v : List (Stamped L)). v ++ get_or left l []) (sym (none-sent l ((k, x) ∷ []) ((λ e. ne (sym e)), tt)))
    ]

-- By deed.
pub taken-links : {L : Type 0} (here : ℕ → Type 0) (d : Deed L) (links left : List (List (Stamped L))) →
    FirstTaken here d links left → (l : ℕ) →
    get_or links l [] ≡ sent_on l (taken_by d) ++ get_or left l []
taken-links here Asked links left h l = ap (λ v. get_or v l []) (sym h)
taken-links here (Arrived k x drew) links left h l = swapped-link k x h.0 links left h.2 l
taken-links here (Stray k x) links left h l = swapped-link k x h.0 links left h.2 l
taken-links here (Took n place) links left h l = ap (λ v. get_or v l []) (sym h)
taken-links here (Turned n place content) links left h l = ap (λ v. get_or v l []) (sym h)
taken-links here (Passed n) links left h l = ap (λ v. get_or v l []) (sym h)

-- It leaves as many links.
pub taken-length : {L : Type 0} (here : ℕ → Type 0) (d : Deed L) (links left : List (List (Stamped L))) →
    FirstTaken here d links left → length left ≡ length links
taken-length here Asked links left h = ap (λ v. length v) h
taken-length here (Arrived k x drew) links left h = swap-length k (x ∷ h.0) h.0 links left h.2
taken-length here (Stray k x) links left h = swap-length k (x ∷ h.0) h.0 links left h.2
taken-length here (Took n place) links left h = ap (λ v. length v) h
taken-length here (Turned n place content) links left h = ap (λ v. length v) h
taken-length here (Passed n) links left h = ap (λ v. length v) h

-- What it took, it took from a link that ends here.
pub taken-here : {L : Type 0} (here : ℕ → Type 0) (d : Deed L) (links left : List (List (Stamped L))) →
    FirstTaken here d links left → Each (λ x. here x.0) (taken_by d)
taken-here here Asked links left h = tt
taken-here here (Arrived k x drew) links left h = (h.1, tt)
taken-here here (Stray k x) links left h = (h.1, tt)
taken-here here (Took n place) links left h = tt
taken-here here (Turned n place content) links left h = tt
taken-here here (Passed n) links left h = tt

-- Where what a deed takes stands first on its link, it can be taken.
abbrev StandsFirst : {L : Type 0} → Deed L → List (List (Stamped L)) → Type 0
StandsFirst {L} d links =
    (l : ℕ) → (q : List (Stamped L)) × (get_or links l [] ≡ sent_on l (taken_by d) ++ q)

-- A packet that stands first can be taken.
first-swaps : {L : Type 0} (here : ℕ → Type 0) (k : ℕ) (x : Stamped L) (links : List (List (Stamped L))) →
    here k → k < length links →
    (q : List (Stamped L)) × (get_or links k [] ≡ sent_on k ((k, x) ∷ []) ++ q) →
    (left : List (List (Stamped L))) × ((q : List (Stamped L)) × here k × Swaps k (x ∷ q) q links left)
first-swaps here k x links h low f =
    let first : get_or links k [] ≡ x ∷ f.0 = f.1 ∙ ap (λ v. v ++ f.0) (one-sent k k x refl) in (
      put_in k f.0 links,
      (f.0, h, put-swaps k (x ∷ f.0) f.0 links (slice_get-get_or links k [] low ∙ ap Some first)),
    )

-- By deed.
pub can-take : {L : Type 0} (here : ℕ → Type 0) (d : Deed L) (links : List (List (Stamped L))) →
    Each (λ x. here x.0) (taken_by d) → ((l : ℕ) → here l → l < length links) → StandsFirst d links →
    (left : List (List (Stamped L))) × FirstTaken here d links left
can-take here Asked links h low f = (links, refl)
can-take here (Arrived k x drew) links h low f = first-swaps here k x links h.0 (low k h.0) (f k)
can-take here (Stray k x) links h low f = first-swaps here k x links h.0 (low k h.0) (f k)
can-take here (Took n place) links h low f = (links, refl)
can-take here (Turned n place content) links h low f = (links, refl)
can-take here (Passed n) links h low f = (links, refl)

-- A packet is put on its own link,
put-same : {X : Type 0} (l : ℕ) (x : X) (qs : List (List X)) → l < length qs →
    get_or (put_on l x qs) l [] ≡ get_or qs l [] ++ x ∷ []
put-same l x [] h = absurd (let low : l < 0 = h in omega arith)
put-same zero x (q ∷ qs) h = refl
put-same (suc l) x (q ∷ qs) h = put-same l x qs (let low : suc l < suc (length qs) = h in omega arith)

-- and on no other.
put-none : {X : Type 0} (k l : ℕ) (x : X) (qs : List (List X)) → k ≢ l →
    get_or (put_on k x qs) l [] ≡ get_or qs l []
put-none k l x [] ne = refl
put-none zero zero x (q ∷ qs) ne = absurd (ne refl)
put-none zero (suc l) x (q ∷ qs) ne = refl
put-none (suc k) zero x (q ∷ qs) ne = refl
put-none (suc k) (suc l) x (q ∷ qs) ne = put-none k l x qs (λ e. ne (ap suc e))

-- There are as many links.
put-length : {X : Type 0} (l : ℕ) (x : X) (qs : List (List X)) → length (put_on l x qs) ≡ length qs
put-length l x [] = refl
put-length zero x (q ∷ qs) = refl
put-length (suc l) x (q ∷ qs) = ap suc (put-length l x qs)

-- What a packet adds to a link.
put-link : {L : Type 0} (k l : ℕ) (x : Stamped L) (qs : List (List (Stamped L))) → l < length qs →
    get_or (put_on k x qs) l [] ≡ get_or qs l [] ++ sent_on l ((k, x) ∷ [])
put-link k l x qs low =
    elim (cases_eq k l) [
      | inl e ↦
          subst (λ v. get_or (put_on v x qs) l [] ≡ get_or qs l [] ++ x ∷ []) (sym e) (put-same l x qs low)
          ∙ ap (λ v. get_or qs l [] ++ v) (sym (one-sent l k x e))
      | inr ne ↦
          put-none k l x qs ne ∙ (sym (append-nil (get_or qs l []))
          ∙ ap (λ v. get_or qs l [] ++ v) (sym (none-sent l ((k, x) ∷ []) (ne, tt))))
    ]

-- What is sent stands at the end of its link.
pub sent-length : {L : Type 0} (c : ℕ) (sends : List (ℕ × Packet L)) (qs : List (List (Stamped L))) →
    length (sent c sends qs) ≡ length qs
sent-length c [] qs = refl
sent-length c (s ∷ sends) qs =
    sent-length c sends (put_on s.0 (record { clock = c; packet = s.1 }) qs)
    ∙ put-length s.0 (record { clock = c; packet = s.1 }) qs

-- On a link that is there.
pub sent-links : {L : Type 0} (c : ℕ) (sends : List (ℕ × Packet L)) (qs : List (List (Stamped L))) (l : ℕ) →
    l < length qs → get_or (sent c sends qs) l [] ≡ get_or qs l [] ++ sent_on l (stamped_with c sends)
sent-links c [] qs l low = sym (append-nil (get_or qs l []))
sent-links {L} c (s ∷ sends) qs l low =
    let x : Stamped L = record { clock = c; packet = s.1 } in
    let more = put_on s.0 x qs in
    let long = put-length s.0 x qs in
    let rest = sent_on l (stamped_with c sends) in
    let one = sent_on l ((s.0, x) ∷ []) in
    sent-links c sends more l (omega arith)
    ∙ (ap (λ v. v ++ rest) (put-link s.0 l x qs low)
    ∙ (append_assoc (get_or qs l []) one rest
    ∙ ap (λ v. get_or qs l [] ++ v) (sym (sent_after_append l ((s.0, x) ∷ []) (stamped_with c sends)))))

-- On every link, where what is sent goes on links that are there.
pub all-links : {L : Type 0} (c : ℕ) (sends : List (ℕ × Packet L)) (qs : List (List (Stamped L))) →
    ((l : ℕ) → length qs ≤ l → sent_on l (stamped_with c sends) ≡ []) → (l : ℕ) →
    get_or (sent c sends qs) l [] ≡ get_or qs l [] ++ sent_on l (stamped_with c sends)
all-links {L} c sends qs past l =
    elim (cases_lt l (length qs)) [
      | inl inside ↦ sent-links c sends qs l inside
      | inr outside ↦
          let long = sent-length c sends qs in
          get-past [] (sent c sends qs) l (omega arith)
          ∙ (sym (get-past [] qs l outside) ∙ (sym (append-nil (get_or qs l []))
          ∙ ap (λ (v : List (Stamped L)). get_or qs l [] ++ v) (sym (past l outside))))
    ]

-- An event on the links, as the law has it: the links as it left them.
pub record Gone {L : Type 0} (here : ℕ → Type 0) (d : Deed L) (c : ℕ) (sends : List (ℕ × Packet L))
    (links : List (List (Stamped L))) (after : ℕ → List (Stamped L)) : Type 0 where
  pub left : List (List (Stamped L))
  pub first : FirstTaken here d links left
  pub same : (l : ℕ) → after l ≡ get_or (sent c sends left) l []

-- Each event by the law is one on the links.
pub links-go : {L : Type 0} (here : ℕ → Type 0) (d : Deed L) (c : ℕ) (sends : List (ℕ × Packet L))
    (links : List (List (Stamped L))) (after : ℕ → List (Stamped L)) →
    Each (λ x. here x.0) (taken_by d) → ((l : ℕ) → here l → l < length links) →
    ((l : ℕ) → length links ≤ l → sent_on l (stamped_with c sends) ≡ []) →
    ((l : ℕ) → (q : List (Stamped L)) × (get_or links l [] ≡ sent_on l (taken_by d) ++ q)
    × (after l ≡ q ++ sent_on l (stamped_with c sends))) →
    Gone here d c sends links after
links-go {L} here d c sends links after h low past f =
    let go = can-take here d links h low (λ l. ((f l).0, (f l).1)) in
    let long = taken-length here d links go.0 go.1 in
    let rest : (l : ℕ) → (f l).0 ≡ get_or go.0 l [] = (λ l.
    let took = sent_on l (taken_by d) in
    sym (drop_front took (f l).0 (get_or links l []) (f l).1)
    ∙ drop_front took (get_or go.0 l []) (get_or links l []) (taken-links here d links go.0 go.1 l)) in
    record {
      left = go.0;
      first = go.1;
      same = λ l. (f l).2 ∙ (ap (λ v. v ++ sent_on l (stamped_with c sends)) (rest l)
          ∙ sym (all-links c sends go.0 (λ k outside. past k (omega arith)) l));
    }
