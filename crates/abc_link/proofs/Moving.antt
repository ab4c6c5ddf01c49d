-- What moves from an outbox into its ring, item by item.
use Rattle.std.proofs.Common.{◌≡◌, ℕ, zero, suc, ◌+◌, ◌≤◌, List, [], ◌∷◌, ◌++◌, length, set, refl, sym, ap, ◌∙◌}
use Rattle.std.proofs.Common.{arith, rules}
use Rattle.std.proofs.lemmas.List.{append_assoc, length-append}
use Rattle.abc_pool.specs.Queues.{Queues, items_in, cells_of, Pops}
use Rattle.abc_link.specs.declared.ends.LinkOut.{LinkOut}
use Rattle.abc_link.specs.Links.{items_entered, queue_of, outbox, items_sent}
use Rattle.abc_link.specs.Links.{SameOut, Moves}

-- the second write at a place is what counts
set_twice : {A : Type 0} (xs : List A) (n : ℕ) (x y : A) → set (set xs n x) n y ≡ set xs n y
set_twice [] n x y = refl
set_twice (z ∷ xs) zero x y = refl
set_twice (z ∷ xs) (suc n) x y = ap (λ l. z ∷ l) (set_twice xs n x y)

-- so it is where the place is named in two ways
set_again : {A : Type 0} (p q r : List A) (m n : ℕ) (x y : A) → q ≡ set p n x → r ≡ set q m y → m ≡ n → r ≡ set p n y
set_again p q r m n x y first second same =
    second ∙ (ap (λ k. set q k y) same ∙ (ap (λ l. set l n y) first ∙ set_twice p n x y))

-- an end that is the same as one that is the same
pub SameOut-again : {T : Type 0} (a b c : LinkOut T) → SameOut a b → SameOut b c → SameOut a c
SameOut-again a b c first second = search rules

-- what leaves the outbox first is what the ring gains
sent_as_before : {T : Type 0} (mid new : LinkOut T) (q r : Queues T) (item : T) → items_entered new ≡ items_entered mid ++ item ∷ []
    → outbox mid q ≡ item ∷ outbox new r → items_sent new r ≡ items_sent mid q
sent_as_before mid new q r item into waits = ap (λ l. l ++ outbox new r) into
    ∙ (append_assoc (items_entered mid) (item ∷ []) (outbox new r) ∙ ap (λ l. items_entered mid ++ l) (sym waits))

-- after what moved before, one more item goes from the outbox into the ring
pub Moves-one : {T : Type 0} (old mid new : LinkOut T) (p q r : Queues T) (item : T) → Moves old p mid q → SameOut mid new
    → items_entered new ≡ items_entered mid ++ item ∷ [] → Pops q r (queue_of mid) item → length r.queues ≡ length q.queues
    → cells_of r ≡ cells_of q → Moves old p new r
Moves-one {T} old mid new p q r item before same into pops number cells =
    let waits : outbox mid q ≡ item ∷ outbox new r = pops.first ∙ ap (λ n. item ∷ items_in r n) (sym same.1) in
    let popped = pops.queues ∙ ap (λ n. set q.queues (queue_of mid) (items_in r n)) (sym same.1) in
    record {
      same = SameOut-again old mid new before.same same;
      sent = sent_as_before mid new q r item into waits ∙ before.sent;
      grown = (
        before.grown.0 ++ item ∷ [],
        sym (append_assoc (items_entered old) before.grown.0 (item ∷ []))
            ∙ (ap (λ l. l ++ item ∷ []) before.grown.1 ∙ sym into),
      );
      queues = set_again p.queues q.queues r.queues (queue_of mid) (queue_of old) (outbox mid q) (outbox new r)
          before.queues popped before.same.1;
      number = number ∙ before.number;
      spare = let s = before.spare in let one = ap (length {A = T}) waits in let t = pops.spare in omega arith;
      cells = cells ∙ before.cells;
    }

-- room and what has entered, together, are no less after a look and a push
pub reached : {T : Type 0} (start room room' room'' : ℕ) (in_ring in_ring' in_ring'' : List T) (item : T)
    → start ≤ room + length in_ring → in_ring' ≡ in_ring → room ≤ room' → in_ring'' ≡ in_ring' ++ item ∷ []
    → room' ≡ room'' + 1 → start ≤ room'' + length in_ring''
reached {T} start room room' room'' in_ring in_ring' in_ring'' item before same more into less =
    let a = ap (length {A = T}) same in
    let b = ap (length {A = T}) into ∙ length-append in_ring' (item ∷ []) in omega arith
