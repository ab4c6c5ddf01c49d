-- Lists in which one element changes, and sums over them.
use Rattle.std.proofs.Common.{◌≡◌, ℕ, zero, suc, ◌+◌, ◌<◌, ◌≤◌, List, [], ◌∷◌, ◌++◌, length, refl}
use Rattle.std.proofs.Common.{sym, ap, subst, arith, inl, inr}
use Rattle.std.specs.Prelude.{Some, slice_get, ◌⊎◌}
use Rattle.abc_network_laws.specs.Kept.{Each, total}
use Rattle.abc_packet.specs.declared.packets.Packet.{Packet}
use Rattle.abc_packet.specs.declared.stamped.Stamped.{Stamped}
use Rattle.abc_network.specs.Networks.{Swaps, put_on, sent}

-- What all of two lists have, all of both have.
pub each-append : {X : Type 0} (P : X → Type 0) (xs ys : List X) → Each P xs → Each P ys →
    Each P (xs ++ ys)
each-append P [] ys h k = k
each-append P (x ∷ xs) ys h k = (h.0, each-append P xs ys h.1 k)

-- What follows for each follows for all.
pub each-map : {X : Type 0} (P Q : X → Type 0) → ((x : X) → P x → Q x) → (xs : List X) →
    Each P xs → Each Q xs
each-map P Q f [] h = tt
each-map P Q f (x ∷ xs) h = (f x h.0, each-map P Q f xs h.1)

-- What all have, all have after a change to one that has it.
pub swap-each : {X : Type 0} (P : X → Type 0) (i : ℕ) (x y : X) (xs ys : List X) →
    Swaps i x y xs ys → Each P xs → P y → Each P ys
swap-each P i x y [] ys s h p = absurd s
swap-each P i x y (a ∷ rest) [] s h p = absurd s
swap-each P zero x y (a ∷ rest) (b ∷ bs) s h p = (subst P (sym s.1) p, subst (Each P) (sym s.2) h.1)
swap-each P (suc i) x y (a ∷ rest) (b ∷ bs) s h p =
    (subst P (sym s.0) h.0, swap-each P i x y rest bs s.1 h.1 p)

-- What all have, the one that changes had.
pub swap-had : {X : Type 0} (P : X → Type 0) (i : ℕ) (x y : X) (xs ys : List X) →
    Swaps i x y xs ys → Each P xs → P x
swap-had P i x y [] ys s h = absurd s
swap-had P i x y (a ∷ rest) [] s h = absurd s
swap-had P zero x y (a ∷ rest) (b ∷ bs) s h = subst P s.0 h.0
swap-had P (suc i) x y (a ∷ rest) (b ∷ bs) s h = swap-had P i x y rest bs s.1 h.1

-- The one that changes stood at its place.
pub swap-old : {X : Type 0} (i : ℕ) (x y : X) (xs ys : List X) → Swaps i x y xs ys →
    slice_get xs i ≡ Some x
swap-old i x y [] ys s = absurd s
swap-old i x y (a ∷ rest) [] s = absurd s
swap-old zero x y (a ∷ rest) (b ∷ bs) s = ap Some s.0
swap-old (suc i) x y (a ∷ rest) (b ∷ bs) s = swap-old i x y rest bs s.1

-- What stands after the change is the new one, or another that stood there before.
pub swap-get : {X : Type 0} (i : ℕ) (x y : X) (xs ys : List X) → Swaps i x y xs ys →
    (j : ℕ) (z : X) → slice_get ys j ≡ Some z →
    ((j ≡ i) × (z ≡ y)) ⊎ ((j ≡ i → ⊥) × (slice_get xs j ≡ Some z))
swap-get i x y [] ys s j z h = absurd s
swap-get i x y (a ∷ rest) [] s j z h = absurd s
swap-get zero x y (a ∷ rest) (b ∷ bs) s zero z h = inl (refl, cc)
swap-get zero x y (a ∷ rest) (b ∷ bs) s (suc j) z h =
    inr (
      (λ e. let e' : suc j ≡ zero = e in absurd (omega arith)),
      subst (λ v. slice_get v j ≡ Some z) s.2 h,
    )
swap-get (suc i) x y (a ∷ rest) (b ∷ bs) s zero z h =
    inr (
      (λ e. let e' : zero ≡ suc i = e in absurd (omega arith)),
      subst (λ v. Some v ≡ Some z) s.0 h,
    )
swap-get (suc i) x y (a ∷ rest) (b ∷ bs) s (suc j) z h =
    elim (swap-get i x y rest bs s.1 j z h) [
      | inl p ↦ inl (ap suc p.0, p.1)
      | inr q ↦ inr ((λ e. let e' : suc j ≡ suc i = e in q.0 (omega arith)), q.1)
    ]

-- The sum changes by the one that changes.
pub swap-total : {X : Type 0} (f : X → ℕ) (i : ℕ) (x y : X) (xs ys : List X) → Swaps i x y xs ys →
    total f ys + f x ≡ total f xs + f y
swap-total f i x y [] ys s = absurd s
swap-total f i x y (a ∷ rest) [] s = absurd s
swap-total f zero x y (a ∷ rest) (b ∷ bs) s = let p : f a ≡ f x = ap f s.0 in
    let q : f b ≡ f y = ap f s.1 in let t : total f bs ≡ total f rest = ap (total f) s.2 in
    omega arith
swap-total f (suc i) x y (a ∷ rest) (b ∷ bs) s = let p : f b ≡ f a = ap f s.0 in
    let t = swap-total f i x y rest bs s.1 in omega arith

-- The sum over two lists is that over both.
pub total-append : {X : Type 0} (f : X → ℕ) (xs ys : List X) →
    total f (xs ++ ys) ≡ total f xs + total f ys
total-append f [] ys = omega arith
total-append f (x ∷ xs) ys = let t = total-append f xs ys in omega arith

-- What all packets have, all have with one more that has it.
pub each-put : {X : Type 0} (P : X → Type 0) (l : ℕ) (x : X) (qs : List (List X)) →
    Each (Each P) qs → P x → Each (Each P) (put_on l x qs)
each-put P l x [] h p = tt
each-put P zero x (q ∷ qs) h p = (each-append P q (x ∷ []) h.0 (p, tt), h.1)
each-put P (suc l) x (q ∷ qs) h p = (h.0, each-put P l x qs h.1 p)

-- One packet more adds at most its share.
pub total-put : {X : Type 0} (f : X → ℕ) (l : ℕ) (x : X) (qs : List (List X)) →
    total (total f) (put_on l x qs) ≤ total (total f) qs + f x
total-put f l x [] = omega arith
total-put f zero x (q ∷ qs) = let t = total-append f q (x ∷ []) in omega arith
total-put f (suc l) x (q ∷ qs) = let t = total-put f l x qs in omega arith

-- What all packets have, all have after sendings that have it.
pub each-sent : {L : Type 0} (P : Packet L →
    Type 0) (clock : ℕ) (sends : List (ℕ × Packet L)) (links : List (List (Stamped L))) →
    Each (λ s. P s.1) sends → Each (Each (λ x. P x.packet)) links →
    Each (Each (λ x. P x.packet)) (sent clock sends links)
each-sent P clock [] links h k = k
each-sent P clock (s ∷ ss) links h k =
    each-sent P clock ss (put_on s.0 (record { clock = clock; packet = s.1 }) links) h.1
    (each-put (λ x. P x.packet) s.0 (record { clock = clock; packet = s.1 }) links k h.0)

-- Sendings add at most their shares.
pub total-sent : {L : Type 0} (f : Packet L →
    ℕ) (clock : ℕ) (sends : List (ℕ × Packet L)) (links : List (List (Stamped L))) →
    total (total (λ x. f x.packet)) (sent clock sends links) ≤ total
    (total (λ x. f x.packet)) links + total (λ s. f s.1) sends
total-sent f clock [] links = omega arith
total-sent f clock (s ∷ ss) links =
    let t = total-sent f clock ss (put_on s.0 (record { clock = clock; packet = s.1 }) links) in
    let u = total-put (λ x. f x.packet) s.0 (record { clock = clock; packet = s.1 }) links in
    omega arith

-- What stands at a place stands there in a longer list.
pub get-more : {X : Type 0} (xs ys : List X) (k : ℕ) (x : X) → slice_get xs k ≡ Some x →
    slice_get (xs ++ ys) k ≡ Some x
get-more [] ys k x h = absurd (cc)
get-more (a ∷ xs) ys zero x h = h
get-more (a ∷ xs) ys (suc k) x h = get-more xs ys k x h

-- What is appended stands at the end.
pub get-end : {X : Type 0} (xs : List X) (y : X) (k : ℕ) → k ≡ length xs →
    slice_get (xs ++ y ∷ []) k ≡ Some y
get-end [] y zero h = refl
get-end [] y (suc k) h = absurd (cc)
get-end (a ∷ xs) y zero h = absurd (cc)
get-end (a ∷ xs) y (suc k) h = get-end xs y k (omega arith)

-- What stands in a list with one more stood there before, or is the new one.
pub get-last : {X : Type 0} (xs : List X) (y : X) (k : ℕ) (z : X) →
    slice_get (xs ++ y ∷ []) k ≡ Some z → (slice_get xs k ≡ Some z) ⊎ ((k ≡ length xs) × (z ≡ y))
get-last [] y zero z h = inr (refl, cc)
get-last [] y (suc k) z h = absurd (cc)
get-last (a ∷ xs) y zero z h = inl h
get-last (a ∷ xs) y (suc k) z h = elim (get-last xs y k z h) [
  | inl p ↦ inl p
  | inr q ↦ inr (ap suc q.0, q.1)
]

-- A place that is taken is within the length.
pub get-within : {X : Type 0} (xs : List X) (k : ℕ) (x : X) → slice_get xs k ≡ Some x →
    k < length xs
get-within [] k x h = absurd (cc)
get-within (a ∷ xs) zero x h = omega arith
get-within (a ∷ xs) (suc k) x h = let g = get-within xs k x h in omega arith

-- A list with one more is one longer.
pub length-push : {X : Type 0} (xs : List X) (y : X) → length (xs ++ y ∷ []) ≡ length xs + 1
length-push [] y = refl
length-push (a ∷ xs) y = let g = length-push xs y in omega arith

-- A change keeps the length.
pub swap-length : {X : Type 0} (i : ℕ) (x y : X) (xs ys : List X) → Swaps i x y xs ys →
    length ys ≡ length xs
swap-length i x y [] ys s = absurd s
swap-length i x y (a ∷ rest) [] s = absurd s
swap-length zero x y (a ∷ rest) (b ∷ bs) s = ap (λ v. suc (length v)) s.2
swap-length (suc i) x y (a ∷ rest) (b ∷ bs) s = ap suc (swap-length i x y rest bs s.1)
